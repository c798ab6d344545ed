-- A number of rounds that closes a game.
use Rattle.std.specs.Prelude.{◌≡◌, ℕ, ◌+◌, ◌*◌, ◌≤◌, length, sum, min}
use Rattle.chip_graph.specs.ChipGame.{ChipGame}
use Rattle.chip_sequence.specs.Bound.{fires_at_distance, IsGreatestDistance}
use Rattle.chip_part.specs.Setting.{Setting}
use Rattle.chip_part.specs.declared.reply.Reply.TheVariants.{Done}
use Rattle.chip_core.specs.Core.{Log, End, step}
use Rattle.chip_core.specs.Positions.{played_game}
use Rattle.chip_core.specs.Closing.{HasEnd, RootHasPut}
use Rattle.chip_world.specs.World.{WorldState, WhateverLog}
use Rattle.chip_world.specs.declared.world.driving.Drive.{Drive}
use Rattle.chip_world.specs.declared.world.driving.Drive.TheVariants.{Closed}

-- one more than the steps that can count, if no vertex is further than this from the sink: the limit and the distance
-- bound the firings of each vertex, each firing makes one message an edge, with five steps, and so does each chip that
-- the root sends; each vertex may halt
abbrev pub rounds_to_close : ChipGame → ℕ → ℕ
rounds_to_close game distance =
    (game.graph.vertices + 5 * length game.graph.edges)
    * min game.limit (fires_at_distance game.graph (sum game.start) distance)
    + 5 * sum game.start + game.graph.vertices + 1

-- once the end is noted and no message of the root is claimed and not put, `rounds_to_close` rounds of the game with
-- all that was given close the root
abbrev pub ClosesIn : WorldState → ℕ → Drive → Type 0
ClosesIn old rounds result = WhateverLog old (λ g before. HasEnd g before → RootHasPut g before → (distance : ℕ)
    → IsGreatestDistance g.game.graph distance → rounds_to_close (played_game g before) distance ≤ rounds
    → result ≡ Closed)

-- the end can be noted after any log: `End` is never refused, and after it the end is noted
abbrev pub EndIsNoted : Type 0
EndIsNoted = (g : Setting) (log : Log) → HasEnd g (step g log End).0 × (count : ℕ) × ((step g log End).1 ≡ Done count)
