use Rattle.chip_log.proofs.Names.{AreCounts}
use Rattle.chip_log.proofs.judge.counts_of.Given as goal

abbrev pub invariant-loop-process : goal.invariant-loop-process
invariant-loop-process l = AreCounts l.process l.books l.past.items
