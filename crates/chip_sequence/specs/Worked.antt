-- The triangle, played by hand from two starts.
use Rattle.std.specs.Prelude.{◌≡◌, ℕ, List, [], ◌∷◌, slice_index}
use Rattle.chip_graph.specs.Multigraph.{degree}
use Rattle.chip_graph.specs.Worked.{triangle}
use Rattle.chip_sequence.specs.Firing.{legal_vertices}
use Rattle.chip_sequence.specs.Sequence.{position_after, IsFiringSequence, counts}
use Rattle.chip_sequence.specs.Counted.{position_by_counts}

-- chips on the three vertices
abbrev pub chips_on : ℕ → ℕ → ℕ → ℕ → ℕ
chips_on a b c = slice_index (a ∷ b ∷ c ∷ [])

-- a function on the three vertices, as a list
abbrev pub on_each : (ℕ → ℕ) → List ℕ
on_each f = f 0 ∷ f 1 ∷ f 2 ∷ []

-- with 4 chips on vertex 0, the vertices 0, 0, 1 fire in turn, and then none is legal
pub record SmallTriangle : Type 0 where
  pub sequence : IsFiringSequence triangle (chips_on 4 0 0) (0 ∷ 0 ∷ 1 ∷ [])
  pub counted : on_each (counts (0 ∷ 0 ∷ 1 ∷ [])) ≡ 2 ∷ 1 ∷ 0 ∷ []
  pub position : on_each (position_after triangle (chips_on 4 0 0) (0 ∷ 0 ∷ 1 ∷ [])) ≡ 1 ∷ 0 ∷ 3 ∷ []
  pub by_counts : on_each (position_by_counts triangle (chips_on 4 0 0) (chips_on 2 1 0)) ≡ 1 ∷ 0 ∷ 3 ∷ []
  pub ended : legal_vertices triangle (position_after triangle (chips_on 4 0 0) (0 ∷ 0 ∷ 1 ∷ [])) ≡ []

-- with 3 chips there, vertex 0 fires once, and then both vertices have one chip less than their degree
pub record OneChipShort : Type 0 where
  pub sequence : IsFiringSequence triangle (chips_on 3 0 0) (0 ∷ [])
  pub position : on_each (position_after triangle (chips_on 3 0 0) (0 ∷ [])) ≡ 1 ∷ 1 ∷ 1 ∷ []
  pub degrees : on_each (degree triangle) ≡ 2 ∷ 2 ∷ 0 ∷ []
  pub ended : legal_vertices triangle (position_after triangle (chips_on 3 0 0) (0 ∷ [])) ≡ []
