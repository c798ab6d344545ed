use Rattle.chip_core_tests.proofs.ActorAskLemmas.{ask_now, ask_next, ask_over}
use Rattle.std.proofs.Common.{arith}
use Rattle.chip_core_tests.proofs.actor.play.Goals as goal

pub ask-answer-requires : goal.ask-answer-requires
ask-answer-requires g c = ask_now c.args.questions.now c.args.turn.now c.loop-i.actor c.loop-i.i _
    (omega arith) c.loop-i.invariant

pub loop-i-preserved : goal.loop-i-preserved
loop-i-preserved g c = ask_next c.args.questions.now c.args.turn.now c.loop-i.actor c.ask-answer.new.actor
    c.ask-answer.result c.loop-i.i _ (omega arith) c.loop-i.invariant c.ask-answer.ensures

pub make_turn-requires : goal.make_turn-requires
make_turn-requires g c = ask_over c.args.questions.now c.args.turn.now c.loop-i.actor c.loop-i.i
    (omega arith) c.loop-i.invariant
