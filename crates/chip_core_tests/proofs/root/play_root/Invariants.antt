use Rattle.chip_core_tests.proofs.RootAskLemmas.{MayPlayRoot}
use Rattle.chip_core_tests.proofs.root.play_root.Given as goal

abbrev pub invariant-loop-i : goal.invariant-loop-i
invariant-loop-i g l = MayPlayRoot l.questions l.root l.i
