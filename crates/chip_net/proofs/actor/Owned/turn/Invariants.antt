use Rattle.chip_net.proofs.actor.Owned.turn.Given as goal

abbrev pub ghosts-turn_over : goal.ghosts-turn_over
ghosts-turn_over a = record {
  setup = record {
    net = record { table = a.words.now.words.now.table_id; setting = a.words.now.setting.now };
    vertex = a.words.now.vertex;
    room = a.words.now.trace.now.room;
    seat = a.words.now.seat.ghost_name;
    trace = a.words.now.trace.ghost_name;
  };
}
