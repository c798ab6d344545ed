use Rattle.chip_core_tests.proofs.ActorAskLemmas.{MayPlay}
use Rattle.chip_core_tests.proofs.actor.play.Given as goal

abbrev pub invariant-loop-i : goal.invariant-loop-i
invariant-loop-i g l = MayPlay l.questions l.turn l.actor l.i
