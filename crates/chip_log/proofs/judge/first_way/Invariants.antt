use Rattle.chip_log.proofs.Names.{NoWay}
use Rattle.chip_log.proofs.judge.first_way.Given as goal

abbrev pub invariant-loop-channel : goal.invariant-loop-channel
invariant-loop-channel l = NoWay l.is_control l.channel l.books
