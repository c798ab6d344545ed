use Rattle.chip_actor.proofs.Names.{refl, ◌≡◌, event_of}
use Rattle.chip_actor.proofs.actor.ActorState.apply.Goals.{After-event_of-event}
use Rattle.chip_actor.proofs.actor.ActorState.apply.Goals as goal

-- the event is that of the operation
asked : (c : After-event_of-event) → c.event_of-event.result ≡ event_of c.args.self.now.vertex c.args.observed.act
asked c = rw (c.event_of-event.ensures, ← c.self.view_is) refl

pub find-found-requires : goal.find-found-requires
find-found-requires c = let r = c.requires in
    (r.0, r.1, r.2, rw (asked (goal.at.find-found-requires c).After-event_of-event) r.3.0.0)

pub note-requires-clause-can : goal.note-requires-clause-can
note-requires-clause-can c = let r = c.requires in
    rw (c.find-found.ensures.event, asked (goal.at.note-requires-clause-can c).After-event_of-event)
    (r.0, r.1, r.2, r.3.0)

pub returns : goal.returns
returns c =
    rw (c.find-found.ensures.event, asked (goal.at.returns c).After-event_of-event) at c.note.ensures
