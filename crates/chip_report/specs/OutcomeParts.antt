-- The parts of what a game's outcome is (`IsOutcome`), list by list.
use Rattle.std.specs.Prelude.{◌≡◌, ℕ, ◌<◌, ◌≤◌, List, length, All, Contains}
use Rattle.std.specs.List.Sorted.{IsStrictlyIncreasing}
use Rattle.chip_graph.specs.Limits.{max_vertices}

-- one number for each of some vertices, no more vertices than a graph may have, and no number above `most`
abbrev pub AreReportCounts : List ℕ → ℕ → ℕ → Type 0
AreReportCounts numbers vertices most =
    (length numbers ≡ vertices) × (0 < vertices) × (vertices ≤ max_vertices) × All (λ n. n ≤ most) numbers

-- an ascending list of vertices
abbrev pub IsAscendingBelow : List ℕ → ℕ → Type 0
IsAscendingBelow list vertices = IsStrictlyIncreasing list × All (λ v. v < vertices) list

-- no vertex in both lists
abbrev pub AreDisjoint : List ℕ → List ℕ → Type 0
AreDisjoint over sealed = (v : ℕ) → Contains over v → Contains sealed v → ⊥

-- two such lists, with no vertex in both
abbrev pub AreHalted : List ℕ → List ℕ → ℕ → Type 0
AreHalted over sealed vertices =
    IsAscendingBelow over vertices × IsAscendingBelow sealed vertices × AreDisjoint over sealed
