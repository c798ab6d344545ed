-- A worked drive, as the definitions compute it.
use Rattle.std.specs.Prelude.{◌≡◌, ◌^◌, [], ◌∷◌}
use Rattle.chip_part.specs.Setting.{Setting, setting_of}
use Rattle.chip_part.specs.Worked.{small_triangle}
use Rattle.chip_part.specs.Steps.{saw}
use Rattle.chip_core.specs.Core.{Take, Ack, Settle}
use Rattle.chip_world.specs.declared.world.driving.Drive.TheVariants.{Closed, Unfinished}
use Rattle.chip_world.specs.Rounds.{root_settles, IsDrive}
use Rattle.chip_world.specs.Enough.{rounds_to_close}

-- the root edges of the triangle come after its four edges
abbrev pub TriangleRootEdges : Type 0
TriangleRootEdges = root_settles (small_triangle (4 ∷ 0 ∷ 0 ∷ [])) 3 ≡ Settle 4 ∷ Settle 5 ∷ Settle 6 ∷ []

-- 116 rounds close the triangle with four chips: no vertex is further than 1 from the sink, so that none fires more
-- than four times: (3 + 5 * 4) * 4 + 5 * 4 + 3 + 1
abbrev pub TriangleRounds : Type 0
TriangleRounds = rounds_to_close (small_triangle (4 ∷ 0 ∷ 0 ∷ [])).game 1 ≡ 116

-- the sink alone, with five chips
abbrev pub lone_sink : Setting
lone_sink =
    setting_of (record { graph = record { vertices = 1; sink = 0; edges = [] }; start = 5 ∷ []; limit = 2 ^ 40 }) 1

-- it takes its chips and acknowledges them, and the root settles them: one round of ten is enough
abbrev pub OneRoundCloses : Type 0
OneRoundCloses = IsDrive lone_sink 10 [] (saw (Settle 0) 1 ∷ saw (Ack 0) 0 ∷ saw (Take 0) 5 ∷ []) Closed

-- a drive of 0 rounds makes none
abbrev pub NoRoundLeavesOpen : Type 0
NoRoundLeavesOpen = IsDrive lone_sink 0 [] [] (Unfinished 0)
