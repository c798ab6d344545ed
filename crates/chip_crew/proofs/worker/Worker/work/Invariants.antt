use Rattle.chip_crew.proofs.Names.{◌≡◌, ◌%◌, ◌<◌, ◌≤◌, ◌-◌, true, ServesTurns, HasMade, round_of, queue_of}
use Rattle.chip_crew.proofs.worker.Worker.work.Given as goal

abbrev pub invariant-loop-turns : goal.invariant-loop-turns
invariant-loop-turns g l = record {
  made : HasMade g.B.Crew.asked l.number l.turns l.share;
  few : l.turns ≤ g.B.Crew.asked.plan.turns;
  some : 0 < l.round;
  round : l.round ≡ round_of l.share;
  uses : queue_of l.share ≡ queue_of l.fn.self.share;
  begins : l.turns % l.round ≡ 0;
  can : g.D.Duties.can g.B.Crew.asked.crew.net l.duties;
  goes_on : g.D.Duties.goes_on l.duties;
  served : ServesTurns g.D.Duties.before g.D.Duties.after l.round l.turns l.fn.self.duties l.duties;
  passed : l.passed ≡ true;
}

abbrev pub decreases-loop-turns : goal.decreases-loop-turns
decreases-loop-turns g l = g.B.Crew.asked.plan.turns - l.turns
