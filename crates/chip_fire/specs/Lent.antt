-- A pile whose graph is lent.
use Rattle.chip_graph.specs.Multigraph.{Multigraph}
use Rattle.chip_sequence.specs.Counted.{game_from}
use Rattle.chip_fire.specs.declared.pile.Pile.{Pile}
use Rattle.chip_fire.specs.declared.pile.Lent.{Lent}

-- the pile with its graph back in its place
abbrev pub pile_on : Multigraph → Lent → Pile
pile_on G l = record {
  game = game_from G l.start.items l.limit;
  chips = l.chips;
  fired = l.fired;
  room = l.room;
  course = l.course;
}
