use Rattle.chip_log.proofs.Names.{refl}
use Rattle.chip_log.proofs.RightLemmas.{none_right, one_right, open_is_end}
use Rattle.chip_log.proofs.judge.judge_ordered.Goals as goal

pub returns-then-is_one_right : goal.returns-then-is_one_right
returns-then-is_one_right g c = record {
  ordered = (c.args.rows.now, record { whole = λ p. refl; met = c.requires.order.log.met });
  claims = c.in_ok-claims.ensures;
  end = one_right c.args.rows.now c.requires.order.log.ends c.args.with_past c.in_ok-claims.claims.items c.in_ok-claims.ensures
      (let a = c.deref.ensures.value in let b = c.is_one_right.ensures in let d = c.if-is_one_right.true in cc);
}

pub returns : goal.returns
returns g c = record {
  ordered = (c.args.rows.now, record { whole = λ p. refl; met = c.requires.order.log.met });
  claims = c.in_ok-claims.ensures;
  end = open_is_end c.args.rows.now c.in_ok-end.end
      (none_right c.args.rows.now c.requires.order.log.ends c.args.with_past c.in_ok-claims.claims.items c.in_ok-claims.ensures
      (let a = c.deref.ensures.value in let b = c.is_one_right.ensures in let d = c.if-is_one_right.false in cc))
      c.in_ok-end.ensures;
}
