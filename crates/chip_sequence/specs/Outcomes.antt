-- Outcomes that can be reported.
use Rattle.std.specs.Prelude.{◌≡◌, ℕ, ◌<◌, ◌≤◌, All, Contains, length}
use Rattle.std.specs.List.Sorted.{IsStrictlyIncreasing}
use Rattle.chip_graph.specs.Limits.{max_vertices, max_total, max_limit}
use Rattle.chip_sequence.specs.declared.outcome.Outcome.{Outcome}

-- numbers in range, one of each kind for each vertex of a graph, and two ascending lists of vertices with none in both
pub record IsOutcome (o : Outcome) : Type 0 where
  pub same_length : length o.chips.items ≡ length o.fired.items
  pub some_vertex : 0 < length o.fired.items
  pub few_vertices : length o.fired.items ≤ max_vertices
  pub few_firings : All (λ n. n ≤ max_limit) o.fired.items
  pub few_chips : All (λ n. n ≤ max_total) o.chips.items
  pub over_ascends : IsStrictlyIncreasing o.over.items
  pub over_vertices : All (λ v. v < length o.fired.items) o.over.items
  pub sealed_ascends : IsStrictlyIncreasing o.sealed.items
  pub sealed_vertices : All (λ v. v < length o.fired.items) o.sealed.items
  pub apart : (v : ℕ) → Contains o.over.items v → Contains o.sealed.items v → ⊥
