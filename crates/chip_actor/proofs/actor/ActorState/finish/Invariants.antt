use Rattle.chip_actor.proofs.Names.{◌+◌, ◌≤◌, length, most_left, Moves}
use Rattle.chip_actor.proofs.actor.ActorState.finish.Given as goal

abbrev pub invariant-loop-event : goal.invariant-loop-event
invariant-loop-event g l = record {
  few : l.work + most_left (length l.fn.self.ins.edges) (length l.fn.self.outs.edges) l.cursor
      ≤ most_left (length l.fn.self.ins.edges) (length l.fn.self.outs.edges) l.fn.from;
  moved : Moves (g.M.Medium.holds l.fn.medium) l.fn.self l.fn.from (g.M.Medium.holds l.medium) l.self l.cursor l.work;
}

abbrev pub decreases-loop-event : goal.decreases-loop-event
decreases-loop-event g l = most_left (length l.fn.self.ins.edges) (length l.fn.self.outs.edges) l.cursor
