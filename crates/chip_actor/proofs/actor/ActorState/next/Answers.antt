use Rattle.chip_actor.proofs.Names.{◌∙◌, sym, refl, is_next, is_over, act_is_some}
use Rattle.chip_actor.proofs.actor.ActorState.next.Goals as goal

pub act-requires : goal.act-requires
act-requires c =
    let r = c.requires in
    let goes = c.in-Some.ensures r.0 r.1 r.2 r.3.2.fits in
    (r.0, r.1, r.2, (goes.mine, goes.met))

pub returns-in-Some-clause-goes : goal.returns-in-Some-clause-goes
returns-in-Some-clause-goes c = λ g s stands. record {
  ends = λ is first done way.
      (let goes = c.in-Some.ensures g s stands way.fits in
      absurd (act_is_some g c.args.self.now.vertex stands.knows.vertex s c.in-Some.event goes.mine
      (sym (c.act.ensures g s stands goes.mine goes.met) ∙ is)));
  steps = λ some first done way.
      (let goes = c.in-Some.ensures g s stands way.fits in
      is_next g c.args.self.now.vertex stands.knows.vertex s c.args.cursor c.in-Some.next c.in-Some.event goes first
      done way c.act.result (c.act.ensures g s stands goes.mine goes.met));
}

pub returns-in-None-clause-goes : goal.returns-in-None-clause-goes
returns-in-None-clause-goes c = λ g s stands. record {
  ends = λ is first done way. is_over g c.args.self.now.vertex s c.args.cursor
      (c.in-None.ensures g s stands way.fits) first done way;
  steps = λ some. absurd (some refl);
}

pub returns-in-Some-clause-over : goal.returns-in-Some-clause-over
returns-in-Some-clause-over c = λ is.
    let r = c.requires in
    let goes = c.in-Some.ensures r.0 r.1 r.2 r.3.2.fits in
    absurd (act_is_some r.0 c.args.self.now.vertex r.2.knows.vertex r.1 c.in-Some.event goes.mine
    (sym (c.act.ensures r.0 r.1 r.2 goes.mine goes.met) ∙ is))
