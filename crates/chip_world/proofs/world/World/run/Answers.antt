use Rattle.chip_world.proofs.Names.{◌≡◌, ℕ, ◌+◌, List, [], ◌∷◌, drop, get_or, add-one, drop-cons}
use Rattle.chip_world.proofs.Names.{drop_of_length-le, Event, Take, step, core_theorem}
use Rattle.chip_world.proofs.RunLemmas.{sent_on_edge, got_on_edge, rooms_rest, noted_more, all_noted, held_by_replies}
use Rattle.chip_world.proofs.world.World.run.Goals as goal

pub add-requires-clause-sent : goal.add-requires-clause-sent
add-requires-clause-sent c =
    let some = c.blank_notes.ensures.some in
    let now = c.loop-event.invariant.noted some.0 some.1 some.2 in
    rw now.2.sent.count_is (sent_on_edge some.0 now.0 _ c.step-reply.result
    (c.step-reply.ensures some.0 now.0 now.1).1)

pub add-requires-clause-delivered : goal.add-requires-clause-delivered
add-requires-clause-delivered c =
    let some = c.blank_notes.ensures.some in
    let now = c.loop-event.invariant.noted some.0 some.1 some.2 in
    rw now.2.delivered.count_is
    (got_on_edge some.0 now.0 _ c.step-reply.result (c.step-reply.ensures some.0 now.0 now.1).1)

pub loop-event-preserved : goal.loop-event-preserved
loop-event-preserved c =
    let events : List Event = c.args.events.now in
    let i : ℕ = c.loop-event.event-index in
    let x : Event = get_or events i (Take 0) in
    let rest : List Event = drop (i + 1) events in
    let cut : drop i events ≡ x ∷ rest = rw add-one (drop-cons events i (Take 0) c.loop-event-test.true) in
    record {
      rooms = rooms_rest x rest c.step-reply.result c.loop-event.notes c.add.new.self c.add.ensures.replies
          c.add.ensures.sent c.add.ensures.delivered c.add.ensures.room (rw cut at c.loop-event.invariant.rooms);
      noted = λ g log stands.
          let now = c.loop-event.invariant.noted g log stands in
          let made = c.step-reply.ensures g now.0 now.1 in (
            (step g now.0 x).0,
            made.0,
            noted_more x rest c.step-reply.result c.loop-event.notes c.add.new.self c.add.ensures.replies
                c.add.ensures.sent c.add.ensures.delivered g log events now.0 made.1 (rw cut at now.2),
          );
    }

pub returns : goal.returns
returns c = λ g log stands.
    let events : List Event = c.args.events.now in
    let now = c.loop-event.invariant.noted g log stands in
    let none : drop c.loop-event.event-index events ≡ [] = drop_of_length-le events c.loop-event-test.false in
    let done = rw none at now.2 in
    let recorded = all_noted g log events now.0 c.loop-event.notes c.finish.result.replies.items _ _ done
    c.finish.ensures.replies c.finish.ensures.sent c.finish.ensures.delivered in
    record {
      world = rw done.after now.1;
      recorded = recorded;
      headline = core_theorem g stands.is_setting.game stands.is_setting.some_ring log stands.legal events;
      held = held_by_replies g stands.is_setting.game stands.is_setting.some_ring log events
          c.finish.result.replies.items recorded.replies_are;
    }
