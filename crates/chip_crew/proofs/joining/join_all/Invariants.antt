use Rattle.chip_crew.proofs.Names.{◌≡◌, ◌+◌, length, false, SomeShut, EachFrom, AreBack, queue_for, IsWorker}
use Rattle.chip_crew.proofs.joining.join_all.Given as goal

abbrev pub invariant-loop-started : goal.invariant-loop-started
invariant-loop-started g l = record {
  are_back : AreBack g.B.Crew.asked l.collected.workers l.collected.back;
  passed : l.collected.passed ≡ false
      → SomeShut g.B.Crew.asked.may_answer g.B.Crew.asked.crew.workers g.B.Crew.asked.plan.turns;
  workers : EachFrom (λ worker h. IsWorker g.B.Crew.asked (queue_for l.fn.back) worker h.promise)
      l.collected.workers l.started-iterator.rest.items;
  uses : queue_for l.collected.back ≡ queue_for l.fn.back;
  left : l.collected.workers + length l.started-iterator.rest.items ≡ g.B.Crew.asked.crew.workers;
}
