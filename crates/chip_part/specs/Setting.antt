-- The setting of a game: the game, the number of cells in the ring of each edge, and whether chips are fed while it
-- runs.
use Rattle.std.specs.Prelude.{ℕ, ◌<◌, ◌≤◌, Bool, false}
use Rattle.chip_graph.specs.ChipGame.{ChipGame, IsGame}
use Rattle.chip_link.specs.Rings.{max_ring}

-- the game, the cells of a ring, and whether the root may feed more chips
pub record Setting : Type 0 where
  pub game : ChipGame
  pub ring : ℕ
  pub fed : Bool

-- this game with rings of `ring` cells, fed or not
abbrev pub setting_with : ChipGame → ℕ → Bool → Setting
setting_with game ring fed = record { game = game; ring = ring; fed = fed }

-- this game with rings of `ring` cells, which has all its chips from the start
abbrev pub setting_of : ChipGame → ℕ → Setting
setting_of game ring = setting_with game ring false

-- its game is within the limits, and a ring has 1 to `max_ring` cells
pub record IsSetting (g : Setting) : Type 0 where
  pub game : IsGame g.game
  pub some_ring : 0 < g.ring
  pub small_ring : g.ring ≤ max_ring
