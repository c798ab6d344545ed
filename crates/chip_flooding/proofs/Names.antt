-- The words that the proofs of this crate take from elsewhere, in one place. Declares nothing.
pub use Rattle.std.proofs.Common.{◌≡◌, ◌≢◌, ℕ, ◌+◌, ◌-◌, ◌<◌, ◌≤◌, Bool, true, false, cond, eqb, List, [], ◌∷◌, ◌++◌}
pub use Rattle.std.proofs.Common.{length, get_or, set, replicate, Option, is_some, refl, sym, ap, ◌∙◌, arith, rules}
pub use Rattle.std.proofs.Common.{⊎_elim, length-set, length-append, get_or-set_same, get_or-set_other}
pub use Rattle.std.proofs.lemmas.Bool.{cases_eq}
pub use Rattle.std.proofs.lemmas.Bool.Decides.{nat_tests}
pub use Rattle.std.proofs.lemmas.List.{length-replicate, get_or-replicate, get_or_past, get_or_read, set-get_or}
pub use Rattle.std.proofs.lemmas.List.{length_push, get_or_push, get_or_append_left}
pub use Rattle.std.proofs.lemmas.List.Elements.{Contains-append_left, Contains-push, Contains-push_cases}
pub use Rattle.std.proofs.lemmas.List.Sums.{sum_by-set}
pub use Rattle.std.specs.Option.{IfSome}
pub use mathlib.Core.Logic.{dite}
pub use native.Mathlib.Decide.{ℕ_discrete, dec_lt}
pub use Rattle.chip_detect.proofs.ListLemmas.{cases_option}
pub use Rattle.chip_detect.specs.Steps.{MayBeMade}
pub use Rattle.chip_diffusing.proofs.DueLemmas.{quiet_closes}
pub use Rattle.chip_diffusing.proofs.EdgesLemmas.{counted}
pub use Rattle.chip_diffusing.proofs.KeptLemmas.{legal_kept, who_inside, may_call}
pub use Rattle.chip_diffusing.specs.Computation.{World, Event, Send, Get, Ack, Settle, Work, May, NotesEvent, Wakes, Happens}
pub use Rattle.chip_diffusing.specs.Computation.{process_of, call_of, IsQuiescent, HasClosedRoot}
pub use Rattle.chip_diffusing.specs.Network.{Network, AreAll}
pub use Rattle.chip_flooding.specs.Flooding.{IsPath, is_marked, MarksReached, Marking, IsFlooding, IsFlooded, due_on}
pub use Rattle.chip_flooding.specs.Flooding.{unfinished}
pub use Rattle.chip_flooding.specs.Running.{Topology, Process, State, nobody, shown, net, world, allowed, IsTopology}
pub use Rattle.chip_flooding.specs.Running.{OpensProcess, AreOpeningProcesses, IsLegalState, Runs}
