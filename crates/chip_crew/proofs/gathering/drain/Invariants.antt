use Rattle.chip_crew.proofs.Names.{◌-◌, length, view, IsPassOf, IsGatheringFor}
use Rattle.chip_crew.proofs.gathering.drain.Given as goal

abbrev pub invariant-loop-actor : goal.invariant-loop-actor
invariant-loop-actor g l = record {
  pass : IsPassOf l.queue l.pass;
  gathers : IsGatheringFor g.B.Crew.asked g.B.Crew.asked.crew.workers (view l.pass) l.row;
}

abbrev pub decreases-loop-actor : goal.decreases-loop-actor
decreases-loop-actor g l = g.B.Crew.asked.crew.net.setting.game.graph.vertices - length l.row.items
