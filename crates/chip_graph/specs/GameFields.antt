-- What a game stores besides its graph, start and limit.
use Rattle.std.specs.Prelude.{◌≡◌, sum}
use Rattle.chip_graph.specs.declared.game.Game.TheInside.{Inside}
use Rattle.chip_graph.specs.ChipGame.{ChipGame, IsGame}

-- the game without its total
abbrev pub game_inside : Inside → ChipGame
game_inside a = record { graph = a.graph; start = a.start.items; limit = a.limit }

-- the game is within the limits, and the total is that of its start
pub record IsCounted (a : Inside) : Type 0 where
  pub game : IsGame (game_inside a)
  pub counted : a.total ≡ sum a.start.items
