use Rattle.chip_actor.proofs.Names.{◌≡◌, ◌≢◌, Some, refl, sym, is_passive_now}
use Rattle.chip_actor.proofs.MediumLemmas.{DueBy, may_serve, can_do, moves_one}
use Rattle.chip_actor.proofs.TurnOverLemmas.{parent_among, no_parent_left, parent_by, parent_none}
use Rattle.chip_actor.proofs.actor.ActorState.ack_parent.Goals.{In-Some, After-may_ack_at-more}
use Rattle.chip_actor.proofs.actor.ActorState.ack_parent.Given.{Over}
use Rattle.chip_detect.specs.Acknowledging as detector
use Rattle.chip_part.specs.declared.act.Act.TheVariants as Do
use Rattle.chip_part.specs.declared.cursor.Cursor.TheVariants as At
use Rattle.chip_actor.proofs.actor.ActorState.ack_parent.Goals as goal

pub returns-in_default-clause-moves : goal.returns-in_default-clause-moves
returns-in_default-clause-moves g c = no_parent_left
    (rw (← c.self.view_is) (sym c.in_default.ensures.parent))

-- the edge of the message that engaged the vertex
parent : (g : Over) (c : In-Some g) → c.args.self.now.detect.parent ≡ Some c.in-Some.edge
parent g c = rw (← c.self.view_is) (sym c.in-Some.ensures.parent)

pub returns-then-keeps_last-clause-moves : goal.returns-then-keeps_last-clause-moves
returns-then-keeps_last-clause-moves g c = parent_none
    (parent g (goal.at.returns-then-keeps_last-clause-moves g c).In-Some) refl
    (rw (← c.requires.passive, ← c.self.view_is)
    (c.keeps_last.ensures.none c.if-keeps_last.true c.in-Some.edge (sym c.in-Some.ensures.parent)))

pub slot_of-slot-requires : goal.slot_of-slot-requires
slot_of-slot-requires g c =
    let h = c.requires.meets in
    rw (← c.self.view_is) at (parent_among (parent g (goal.at.slot_of-slot-requires g c).In-Some) (h.0, h.2, h.4))

-- it is the slot's, and the count is what the books allow there
is : (g : Over) (c : After-may_ack_at-more g) → c.args.self.now.detect.parent ≡ Some c.slot_of-slot.result.edge
is g c = rw (← c.self.view_is, c.slot_of-slot.ensures.edge) (sym c.in-Some.ensures.parent)

allowed : (g : Over) (c : After-may_ack_at-more g)
    → c.may_ack_at-more.result
    ≡ detector.may_ack c.args.self.now.detect c.slot_of-slot.result.edge (is_passive_now c.args.self.now)
allowed g c = rw (c.may_ack_at-more.ensures, ← c.requires.passive, ← c.self.view_is) refl

due : (g : Over) (c : After-may_ack_at-more g) → c.may_ack_at-more.result ≢ 0
    → DueBy c.args.self.now At.Parent (Do.Ack c.slot_of-slot.result.edge c.may_ack_at-more.result) At.Over
due g c some = parent_by (is g c) (allowed g c) some

pub returns-then-more-eq0-clause-moves : goal.returns-then-more-eq0-clause-moves
returns-then-more-eq0-clause-moves g c =
    let d = (goal.at.returns-then-more-eq0-clause-moves g c).After-may_ack_at-more in
    parent_none (is g d) (allowed g d) c.if-more-eq0.true

pub ack-seen-requires : goal.ack-seen-requires
ack-seen-requires g c = may_serve c.requires.meets
    (due g (goal.at.ack-seen-requires g c).After-may_ack_at-more c.if-more-eq0.false)

pub acknowledge-requires-clause-can : goal.acknowledge-requires-clause-can
acknowledge-requires-clause-can g c = can_do c.requires.meets
    (due g (goal.at.acknowledge-requires-clause-can g c).After-may_ack_at-more c.if-more-eq0.false) c.ack-seen.ensures

pub returns-clause-moves : goal.returns-clause-moves
returns-clause-moves g c = moves_one
    (due g (goal.at.returns-clause-moves g c).After-may_ack_at-more c.if-more-eq0.false) c.ack-seen.ensures
    c.acknowledge.ensures.makes refl
