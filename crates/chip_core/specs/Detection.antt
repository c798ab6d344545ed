-- The tree of Dijkstra and Scholten (Termination detection for diffusing computations, 1980), as a list of its members.
-- In terms of the core, this is `IsEngagementOrder` of `chip_diffusing`.
use Rattle.std.specs.Prelude.{◌≡◌, ◌⊎◌, ℕ, ◌<◌, List, [], ◌∷◌, Contains, Some}
use Rattle.chip_part.specs.Setting.{Setting}
use Rattle.chip_part.specs.Part.{owed_on}
use Rattle.chip_part.specs.Kept.{IsNeutral}
use Rattle.chip_core.specs.Core.{Log, part_in, into_in, tail_of, head_of, all_edges, root}

-- the edge e engaged v: it is the parent edge of v, it comes from the root or from one of these vertices, and v owes
-- something on it
pub record IsParentFrom (g : Setting) (log : Log) (us : List ℕ) (v e : ℕ) : Type 0 where
  pub parent : (part_in g log v).parent ≡ Some e
  pub is_edge : e < all_edges g
  pub head : head_of g e ≡ v
  pub from_earlier : (tail_of g e ≡ root g) ⊎ Contains us (tail_of g e)
  pub owes : 0 < owed_on (into_in g log e)

-- the engaged vertices, each once, the latest first; the root is before all of them and not in the list
abbrev pub IsTree : Setting → Log → List ℕ → Type 0
IsTree g log [] = Unit {0}
IsTree g log (v ∷ vs) = IsTree g log vs × (Contains vs v → ⊥) × ((e : ℕ) × IsParentFrom g log vs v e)

-- a detection order: a tree of engaged vertices; every vertex outside it is passive, owes nothing and waits for nothing
pub record IsDetectionOrder (g : Setting) (log : Log) (vs : List ℕ) : Type 0 where
  pub tree : IsTree g log vs
  pub others : (v : ℕ) → v < g.game.graph.vertices → (Contains vs v → ⊥) → IsNeutral g v (part_in g log v)
