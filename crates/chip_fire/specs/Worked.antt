-- Three drops on the triangle, by hand, and rounds of one of them.
use Rattle.std.specs.Prelude.{◌≡◌, ℕ, List, [], ◌∷◌, map}
use Rattle.chip_graph.specs.Worked.{triangle}
use Rattle.chip_sequence.specs.Firing.{legal_vertices}
use Rattle.chip_sequence.specs.Sequence.{position_after, IsFiringSequence, counts}
use Rattle.chip_sequence.specs.Worked.{chips_on, on_each}
use Rattle.chip_fire.specs.declared.avalanche.Avalanche.{Avalanche}
use Rattle.chip_fire.specs.Avalanches.{dropped, Tells}
use Rattle.chip_fire.specs.Measured.{after_rounds}

-- with these chips vertices fire in turn until these are left and none is legal, with these numbers
pub record SetsOff (x : ℕ → ℕ) (chips vs left : List ℕ) (a : Avalanche) : Type 0 where
  pub start : on_each x ≡ chips
  pub sequence : IsFiringSequence triangle x vs
  pub position : on_each (position_after triangle x vs) ≡ left
  pub ended : legal_vertices triangle (position_after triangle x vs) ≡ []
  pub tells : Tells triangle x a vs

-- one chip on 0 lets 0 fire and then 1; four more there let 0 fire twice, 1 once and 0 once more; one on the sink sets
-- off nothing, and is not lost
pub record ThreeDrops : Type 0 where
  pub first : SetsOff (dropped (chips_on 1 1 0) 0 1) (2 ∷ 1 ∷ 0 ∷ []) (0 ∷ 1 ∷ []) (1 ∷ 0 ∷ 2 ∷ [])
      (record { size = 2; extent = 2; lost = 2 })
  pub second : SetsOff (dropped (chips_on 1 0 2) 0 4) (5 ∷ 0 ∷ 2 ∷ []) (0 ∷ 0 ∷ 1 ∷ 0 ∷ []) (0 ∷ 1 ∷ 6 ∷ [])
      (record { size = 4; extent = 2; lost = 4 })
  pub third : SetsOff (dropped (chips_on 0 1 6) 2 1) (0 ∷ 1 ∷ 7 ∷ []) [] (0 ∷ 1 ∷ 7 ∷ [])
      (record { size = 0; extent = 0; lost = 0 })

-- with five chips on 0 and two on the sink four rounds leave these chips, and then none is legal; with two chips on 0 and
-- two on 1 both fire in one round; and a row of the second drop has vertex 0 three times and vertex 1 once
pub record MeasuredDrops : Type 0 where
  pub one : on_each (after_rounds triangle (chips_on 5 0 2) 1) ≡ 3 ∷ 1 ∷ 3 ∷ []
  pub two : on_each (after_rounds triangle (chips_on 5 0 2) 2) ≡ 1 ∷ 2 ∷ 4 ∷ []
  pub three : on_each (after_rounds triangle (chips_on 5 0 2) 3) ≡ 2 ∷ 0 ∷ 5 ∷ []
  pub four : on_each (after_rounds triangle (chips_on 5 0 2) 4) ≡ 0 ∷ 1 ∷ 6 ∷ []
  pub together : on_each (after_rounds triangle (chips_on 2 2 0) 1) ≡ 1 ∷ 1 ∷ 2 ∷ []
  pub times : map (counts (0 ∷ 0 ∷ 1 ∷ 0 ∷ [])) (0 ∷ 1 ∷ []) ≡ 3 ∷ 1 ∷ []
