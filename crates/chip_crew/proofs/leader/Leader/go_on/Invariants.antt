use Rattle.chip_crew.proofs.Names.{◌-◌, HasLed}
use Rattle.chip_crew.proofs.leader.Leader.go_on.Given as goal

abbrev pub invariant-loop-turns : goal.invariant-loop-turns
invariant-loop-turns g l = HasLed g.B.Crew.asked l.round l.turns l.self

abbrev pub decreases-loop-turns : goal.decreases-loop-turns
decreases-loop-turns g l = g.B.Crew.asked.plan.turns - l.turns
