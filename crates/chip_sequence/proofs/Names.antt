-- The words that the proofs of this crate take from elsewhere, in one place. Declares nothing.
pub use Rattle.std.proofs.Common.{◌≡◌, ◌<◌, ℕ, arith, ap, ◌≤◌, ◌+◌, eqb, refl, List, sym, ◌*◌, length, slice_index, []}
pub use Rattle.std.proofs.Common.{◌∷◌, ◌∙◌, Bool, get_or, ◌^◌, mul-le-mul_left, rules, cond, ◌-◌, zero, suc, take}
pub use Rattle.std.proofs.Common.{sum_by, ◌++◌, ◌&&◌, ◌≢◌, leb, not, mul-le-mul_right, ltb, inr, subst, eq-eqb, sum}
pub use Rattle.std.proofs.Common.{inl, All, replicate, mul-le-mul, true, false, Contains, ◌/◌}
pub use Rattle.std.proofs.lemmas.Bool.Decides.{nat_tests}
pub use Rattle.std.proofs.lemmas.List.Sums.{get_or-le-sum_by, sum_by_more_le}
pub use mathlib.Core.Logic.{dite}
pub use native.Mathlib.Decide.{ℕ_discrete, dec_lt, dec_le}
pub use Rattle.chip_graph.proofs.PickLemmas.{All-picked, picked_has, Contains-picked}
pub use Rattle.chip_graph.proofs.SumLemmas.{tested_scale, picked_sum, tested_ext, sum_below_ext, tested_add}
pub use Rattle.chip_graph.proofs.SumLemmas.{tested_term, tested_le, cond_yes, sum_below_term}
pub use Rattle.chip_graph.specs.ChipGame.{IsGame, ChipGame}
pub use Rattle.chip_graph.specs.Limits.{max_total}
pub use Rattle.chip_graph.specs.Multigraph.{degree, Multigraph, edge_at, IsGraph, edges_in, sum_in, IsWalk}
pub use Rattle.chip_graph.specs.Sums.{sum_below}
pub use Rattle.chip_sequence.specs.Bound.{greatest_below, firing_bound}
pub use Rattle.chip_sequence.specs.Certificate.{AreForced}
pub use Rattle.chip_sequence.specs.Counted.{inflow, IsBelowZero, position_by_counts, game_from, IsAfter}
pub use Rattle.chip_sequence.specs.Firing.{IsLegal, fired_once}
pub use Rattle.chip_sequence.specs.Sequence.{position_after, counts, IsFiringSequence, IsWholePlay, HasEnded, IsWithin}
pub use Rattle.chip_sequence.specs.Sequence.{HasEndedWithin}
