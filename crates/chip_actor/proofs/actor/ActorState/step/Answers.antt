use Rattle.chip_actor.proofs.Names.{ℕ, refl, act_is_some}
use Rattle.chip_actor.proofs.FindingLemmas.{is_due}
use Rattle.chip_actor.proofs.actor.ActorState.step.Goals as goal

pub find-found-requires : goal.find-found-requires
find-found-requires g c = let r = c.requires in (r.0, r.2, r.4, r.5)

pub returns-in-Some : goal.returns-in-Some
returns-in-Some g c = λ h ds s held stands at.
    let event = c.find-found.ensures.event in
    let broken = c.broken_rule.ensures h s stands (rw event (at)) in
    rw (← event, ← broken, c.in-Some.is) (record { held = held; stands = stands; vertex = refl }, refl)

pub act_at-act-requires-clause-due : goal.act_at-act-requires-clause-due
act_at-act-requires-clause-due g c =
    let r = c.requires in
    let own = rw (← c.find-found.ensures.event) at r.5 in
    (r.0, r.2, r.4, (own, rw (c.broken_rule.ensures r.0 r.2 r.4 own) at c.in_default.is))

pub perform-seen-requires-clause-some : goal.perform-seen-requires-clause-some
perform-seen-requires-clause-some g c =
    let r = c.requires in
    let own = rw (← c.find-found.ensures.event) at r.5 in
    let met = rw (c.broken_rule.ensures r.0 r.2 r.4 own) at c.in_default.is in
    λ end. act_is_some r.0 c.args.self.now.vertex r.4.knows.vertex r.2 _ own
    (rw (c.act_at-act.ensures r.0 r.2 r.4 own met) at end)

pub perform-seen-requires-clause-may : goal.perform-seen-requires-clause-may
perform-seen-requires-clause-may g c =
    let r = c.requires in
    let own = rw (← c.find-found.ensures.event) at r.5 in
    let met = rw (c.broken_rule.ensures r.0 r.2 r.4 own) at c.in_default.is in (
      r.0,
      c.args.self.now.vertex,
      r.1,
      r.2,
      r.3,
      (is_due r.0 r.2 c.args.self.now r.4 c.act_at-act.result _ own met (c.act_at-act.ensures r.0 r.2 r.4 own met)).1,
    )

pub note-requires-clause-can : goal.note-requires-clause-can
note-requires-clause-can g c =
    let r = c.requires in
    let own = rw (← c.find-found.ensures.event) at r.5 in
    let met = rw (c.broken_rule.ensures r.0 r.2 r.4 own) at c.in_default.is in
    let by = is_due r.0 r.2 c.args.self.now r.4 c.act_at-act.result _ own met (c.act_at-act.ensures r.0 r.2 r.4 own met) in
    let longer = c.perform-seen.ensures r.0 c.args.self.now.vertex r.1 r.2 r.3 by.1 in
    (r.0, r.2, r.4, (own, met, rw by.0 at longer.fits))

pub returns : goal.returns
returns g c = λ h ds s held stands at.
    let v : ℕ = c.args.self.now.vertex in
    let seen : ℕ = c.perform-seen.result in
    let event = c.find-found.ensures.event in
    let own = rw (← event) at (at) in let met = rw (c.broken_rule.ensures h s stands own) at c.in_default.is in
    let by = is_due h s c.args.self.now stands c.act_at-act.result _ own met (c.act_at-act.ensures h s stands own met) in
    let longer = c.perform-seen.ensures h v ds s held by.1 in
    let made = c.note.ensures h s stands (own, met, rw by.0 at longer.fits) in
    rw (← event, met) (seen, record { held = rw by.0 at longer.held; stands = made.0; vertex = made.2 }, made.1)
