-- Serves Outcomes.antt.
-- The result of a play, as an outcome that can be reported.
use Rattle.chip_sequence.proofs.Names.{◌≡◌, ℕ, ◌<◌, ◌≤◌, Bool, not, ◌&&◌, eqb, leb, All, Contains, length, get_or, sym}
use Rattle.chip_sequence.proofs.Names.{ap, ◌∙◌, subst, arith, get_or-le-sum_by, max_total, degree, ChipGame, IsGame}
use Rattle.chip_sequence.proofs.Names.{All-picked}
use Rattle.std.specs.List.Sorted.{IsStrictlyIncreasing}
use Rattle.std.proofs.lemmas.List.Elements.{All-from_get_or}
use Rattle.chip_graph.specs.Limits.{max_limit}
use Rattle.chip_graph.proofs.PickLemmas.{picked_ascends}
use Rattle.chip_sequence.specs.declared.outcome.Outcome.{Outcome}
use Rattle.chip_sequence.specs.Outcomes.{IsOutcome}
use Rattle.chip_sequence.specs.Play.{IsPlayed}

-- what was played can be reported
pub outcome_is : (g : ChipGame) → IsGame g → (o : Outcome) → IsPlayed g o → IsOutcome o
outcome_is g ok o is =
    let vertices : length o.fired.items ≡ g.graph.vertices = is.fired_each in
    let legal : ℕ → Bool = λ v. not (eqb v g.graph.sink) && leb (degree g.graph v) (get_or o.chips.items v 0) in
    let none : (v : ℕ) → Contains o.sealed.items v → ⊥ =
    (λ v has. (let a = has.1 in let b = ap length is.sealed in absurd (omega arith))) in
    record {
      same_length = is.chips_each ∙ sym vertices;
      some_vertex = (let a = ok.graph_fits.some_vertex in omega arith);
      few_vertices = (let a = ok.graph_fits.few_vertices in omega arith);
      few_firings = All-from_get_or (λ n. n ≤ max_limit) o.fired.items 0
          (λ i l. (let a = is.low_counts i in let b = ok.low_limit in omega arith));
      few_chips = All-from_get_or (λ n. n ≤ max_total) o.chips.items 0
          (λ i l. (let a = get_or-le-sum_by (λ (n : ℕ). n) o.chips.items i 0 l in let b = is.kept in
          let c = ok.few_chips in omega arith));
      over_ascends = subst IsStrictlyIncreasing (sym is.over) (picked_ascends legal g.graph.vertices);
      over_vertices =
          subst (All (λ v. v < length o.fired.items)) (sym is.over)
          (All-picked legal g.graph.vertices (length o.fired.items) (omega arith));
      sealed_ascends = λ k l. (let b = ap length is.sealed in absurd (omega arith));
      sealed_vertices = λ k d l. (let b = ap length is.sealed in absurd (omega arith));
      apart = λ v has has'. none v has';
    }
