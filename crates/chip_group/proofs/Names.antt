-- The words that the proofs of this crate take from elsewhere, in one place. Declares nothing.
pub use Rattle.std.proofs.Common.{◌≡◌, ◌≢◌, ◌↔◌, ℕ, zero, suc, ◌+◌, ◌-◌, ◌*◌, ◌<◌, ◌≤◌, cond, eqb, List, [], ◌∷◌, ◌++◌}
pub use Rattle.std.proofs.Common.{replicate, refl, sym, ap, ◌∙◌, arith, rules, mul-le-mul_left, mul-le-mul_right, mul-add, add-mul, mul_assoc, mul_comm}
pub use Rattle.std.proofs.lemmas.Bool.Decides.{nat_tests}
pub use mathlib.Core.Logic.{dite}
pub use native.Mathlib.Decide.{ℕ_discrete, dec_lt, dec_le}
pub use Rattle.chip_graph.specs.Multigraph.{Multigraph, edge_at, degree, IsGraph}
pub use Rattle.chip_graph.specs.Sums.{sum_below}
pub use Rattle.chip_graph.proofs.SumLemmas.{tested_ext, tested_le, tested_scale, sum_below_term}
pub use Rattle.chip_sequence.specs.Counted.{inflow}
pub use Rattle.chip_sequence.specs.Firing.{IsLegal, IsStable, fired_once}
pub use Rattle.chip_sequence.specs.Sequence.{position_after, counts, IsFiringSequence, HasEnded}
pub use Rattle.chip_sequence.proofs.FiringLemmas.{IsLedTo, led_on, position_is, position-append, sequence-append}
pub use Rattle.chip_sequence.proofs.FiringLemmas.{counts_here, counts_more, counts-append, counts-replicate, counts_outside}
pub use Rattle.chip_sequence.proofs.FiringLemmas.{inflow_le, inflow_none, more_chips, batch, sink_never}
pub use Rattle.chip_sequence.proofs.BoundLemmas.{ends, same_ends, some_degree}
pub use Rattle.chip_sequence.proofs.CertificateLemmas.{inflow_add}
pub use Rattle.chip_group.specs.Recurrent.{EachNonSink, AgreeOffSink, FiresTo, StabilizesTo, IsRecurrent, most_stable}
pub use Rattle.chip_group.specs.Recurrent.{IsReachedFromMost, TakesAway, IsBurningScript, AreEquivalent, IsSuperstable}
pub use Rattle.chip_group.specs.Recurrent.{IsStableSum, IsIdentity, twice_most, IsSandpileGroup}
