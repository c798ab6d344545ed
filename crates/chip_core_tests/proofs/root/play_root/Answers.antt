use Rattle.chip_core_tests.proofs.RootAskLemmas.{ask_root_now, ask_root_next}
use Rattle.std.proofs.Common.{arith}
use Rattle.chip_core_tests.proofs.root.play_root.Goals as goal

pub ask_root-answer-requires : goal.ask_root-answer-requires
ask_root-answer-requires g c = ask_root_now c.args.questions.now c.loop-i.root c.loop-i.i _ (omega arith)
    c.loop-i.invariant

pub loop-i-preserved : goal.loop-i-preserved
loop-i-preserved g c = ask_root_next c.args.questions.now c.loop-i.root c.ask_root-answer.new.root
    c.ask_root-answer.result c.loop-i.i _ (omega arith) c.loop-i.invariant c.ask_root-answer.ensures
