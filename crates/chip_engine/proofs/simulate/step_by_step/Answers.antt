use Rattle.std.proofs.Common.{List, get_or, take}
use Rattle.std.proofs.lemmas.List.{take_more}
use Rattle.chip_core.specs.Core.{Event, Take}
use Rattle.chip_engine.proofs.ScheduleLemmas.{one_answer_more}
use Rattle.chip_engine.proofs.simulate.step_by_step.Goals as goal

pub loop-event-preserved : goal.loop-event-preserved
loop-event-preserved c =
    let events : List Event = c.args.events.now in
    let i = c.loop-event.event-index in
    rw (take_more events i (Take 0) c.loop-event-test.true)
    (one_answer_more c.args.world.now.setting (take i events) (get_or events i (Take 0)) c.loop-event.world
    c.step-reply.new.self c.step-reply.result _ _ _ c.loop-event.invariant c.step-reply.ensures
    c.in_ok-push_reply.ensures c.in_ok-push_board.ensures)
