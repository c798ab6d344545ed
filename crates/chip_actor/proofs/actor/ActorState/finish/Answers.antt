use Rattle.chip_actor.proofs.Names.{Option, ap, ◌∙◌, sym, subst, arith, Event, Cursor, DueAt, Meets}
use Rattle.chip_actor.proofs.MediumLemmas.{DueBy, due_at, may_serve, can_apply, moves_one, one_if, moves_none, moves_on}
use Rattle.chip_actor.proofs.MediumLemmas.{meets_after, then_over, fewer_since, few_left, turn_ends, not_end}
use Rattle.chip_actor.proofs.actor.ActorState.finish.Goals.{At-loop-event, After-act-act}
use Rattle.chip_actor.proofs.actor.ActorState.finish.Given.{Over}
use Rattle.chip_actor.proofs.actor.ActorState.finish.Goals as goal

pub loop-event-init : goal.loop-event-init
loop-event-init g c = record { few = omega arith; moved = moves_none }

-- some record is held here
here : (g : Over) (c : At-loop-event g)
    → Meets (g.M.Medium.holds c.loop-event.medium) c.loop-event.self c.loop-event.cursor
here g c = meets_after c.requires c.loop-event.invariant.moved

-- and the operation is due
due : (g : Over) (c : After-act-act g)
    → DueBy c.loop-event.self c.loop-event.cursor c.act-act.result c.in-Some.next
due g c = due_at {e = c.in-Some.event} c.in-Some.ensures c.act-act.ensures

pub due-requires : goal.due-requires
due-requires g c =
    let h = here g (goal.at.due-requires g c).At-loop-event in
    (h.0, h.2, h.4, h.5)

pub act-act-requires : goal.act-act-requires
act-act-requires g c =
    let h = here g (goal.at.act-act-requires g c).At-loop-event in
    let d = c.in-Some.ensures h.0 h.2 h.4 h.5 in
    (h.0, h.2, h.4, (d.mine, d.met))

pub perform-seen-requires-clause-some : goal.perform-seen-requires-clause-some
perform-seen-requires-clause-some g c =
    let at = goal.at.perform-seen-requires-clause-some g c in
    let h = here g at.At-loop-event in
    not_end (h.0, h.2, h.4, h.5) (due g at.After-act-act)

pub perform-seen-requires-clause-may : goal.perform-seen-requires-clause-may
perform-seen-requires-clause-may g c =
    let at = goal.at.perform-seen-requires-clause-may g c in
    may_serve (here g at.At-loop-event) (due g at.After-act-act)

pub apply-reply-requires : goal.apply-reply-requires
apply-reply-requires g c =
    let at = goal.at.apply-reply-requires g c in
    can_apply (here g at.At-loop-event) (due g at.After-act-act) c.perform-seen.ensures

pub returns-in_default-clause-moves : goal.returns-in_default-clause-moves
returns-in_default-clause-moves g c = then_over c.loop-event.invariant.moved
    (turn_ends (subst (λ (o : Option (Event × Cursor)). DueAt c.loop-event.self c.loop-event.cursor o) c.in_default.is
    c.due.ensures))

pub returns-in_default-clause-few : goal.returns-in_default-clause-few
returns-in_default-clause-few g c =
    let h = c.requires in
    let few = few_left c.args.from (h.0, h.2, h.4) in
    let l = c.loop-event.invariant.few in omega arith

pub loop-event-smaller-then-counts : goal.loop-event-smaller-then-counts
loop-event-smaller-then-counts g c = fewer_since c.requires c.loop-event.invariant.moved c.in-Some.ensures

pub loop-event-smaller : goal.loop-event-smaller
loop-event-smaller g c = fewer_since c.requires c.loop-event.invariant.moved c.in-Some.ensures

pub loop-event-preserved-then-counts : goal.loop-event-preserved-then-counts
loop-event-preserved-then-counts g c = record {
  few = (let f = fewer_since c.requires c.loop-event.invariant.moved c.in-Some.ensures in
      let l = c.loop-event.invariant.few in omega arith);
  moved = moves_on c.loop-event.invariant.moved
      (moves_one (due g (goal.at.loop-event-preserved-then-counts g c).After-act-act) c.perform-seen.ensures
      c.apply-reply.ensures (ap one_if (sym c.if-counts.true ∙ c.counts.ensures)));
}

pub loop-event-preserved : goal.loop-event-preserved
loop-event-preserved g c = record {
  few = (let f = fewer_since c.requires c.loop-event.invariant.moved c.in-Some.ensures in
      let l = c.loop-event.invariant.few in omega arith);
  moved = then_over c.loop-event.invariant.moved
      (moves_one (due g (goal.at.loop-event-preserved g c).After-act-act) c.perform-seen.ensures
      c.apply-reply.ensures (ap one_if (sym c.if-counts.false ∙ c.counts.ensures)));
}
