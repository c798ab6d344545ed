-- The words that the proofs of this crate take from elsewhere, in one place. Declares nothing.
pub use Rattle.std.proofs.Common.{◌≡◌, ◌≢◌, ◌↔◌, ℕ, zero, suc, ◌+◌, ◌-◌, ◌*◌, ◌<◌, ◌≤◌, ◌^◌, cond, eqb, min, List, [], ◌∷◌, ◌++◌}
pub use Rattle.std.proofs.Common.{length, slice_index, get_or, sum, set, refl, sym, ap, ◌∙◌, subst}
pub use Rattle.std.proofs.Common.{arith, rules, mul-add, Contains, eqb-true}
pub use Rattle.std.proofs.lemmas.Bool.Decides.{nat_tests}
pub use mathlib.Core.Logic.{dite}
pub use native.Mathlib.Decide.{ℕ_discrete, dec_lt, dec_le}
pub use Rattle.chip_graph.specs.Limits.{max_total, max_limit}
pub use Rattle.chip_graph.specs.Multigraph.{Multigraph, edge_at, degree, IsGraph}
pub use Rattle.chip_graph.specs.Sums.{sum_below}
pub use Rattle.chip_graph.specs.ChipGame.{ChipGame}
pub use Rattle.chip_graph.proofs.SumLemmas.{sum_by_place, sum_below_le, sum_below_ext, sum_below_term, sum_small}
pub use Rattle.chip_graph.proofs.SumLemmas.{tested_ext, tested_none, tested_zero}
pub use Rattle.chip_sequence.specs.Certificate.{in_degree}
pub use Rattle.chip_sequence.specs.Counted.{inflow, game_from}
pub use Rattle.chip_sequence.specs.Firing.{IsLegal, IsStable}
pub use Rattle.chip_sequence.specs.Play.{IsPlayed}
pub use Rattle.chip_sequence.specs.Sequence.{position_after, counts, IsFiringSequence, HasEnded, IsWithin, IsWholePlay}
pub use Rattle.chip_sequence.specs.declared.outcome.Outcome.{Outcome}
pub use Rattle.chip_sequence.proofs.FiringLemmas.{inflow_none}
pub use Rattle.chip_sequence.proofs.BoundLemmas.{some_degree}
pub use Rattle.chip_sequence.proofs.CertificateLemmas.{inflow_add}
pub use Rattle.chip_sequence.proofs.LegalLemmas.{legal_vertices_law}
pub use Rattle.chip_group.specs.Recurrent.{EachNonSink, AgreeOffSink, FiresTo, StabilizesTo, IsRecurrent, most_stable}
pub use Rattle.chip_group.specs.Recurrent.{TakesAway, IsBurningScript, AreEquivalent, IsSuperstable, IsStableSum}
pub use Rattle.chip_group.specs.Recurrent.{IsIdentity, twice_most}
pub use Rattle.chip_group.proofs.FiresToLemmas.{stable_below, agree, then_fires, then_counts, from, by_counts, one_end}
pub use Rattle.chip_group.proofs.FiresToLemmas.{inflow_same}
pub use Rattle.chip_group.proofs.RecurrentLemmas.{most_fired, neutral, burning_test, duality, large_script}
pub use Rattle.chip_group.proofs.RecurrentLemmas.{recurrent_sum, one_recurrent}
