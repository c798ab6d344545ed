use Rattle.chip_log.proofs.Names.{sym, IsInterleaving}
use Rattle.chip_log.proofs.JudgeLemmas.{beginners_as}
use Rattle.chip_log.proofs.SameLemmas.{ends_as, judged_log_as, is_log}
use Rattle.chip_log.proofs.judge.judge_log.Goals as goal

pub judge_ordered-requires : goal.judge_ordered-requires
judge_ordered-requires g c =
    let is : IsInterleaving c.args.rows.now c.deref.result.now = rw c.deref.ensures.value c.in_ok-order.ensures.order in
    record {
      order = record {
        log = is_log c.args.rows.now c.deref.result.now is c.requires.well_formed.ends;
        fits = rw c.deref.ensures.value c.in_ok-order.ensures.fits;
        few = rw c.deref.ensures.value c.in_ok-order.ensures.few;
      };
      beginners = beginners_as c.args.sizes c.args.rows.now c.deref.result.now is.whole c.args.beginners.now
          c.requires.beginners;
    }

pub returns : goal.returns
returns g c =
    let is : IsInterleaving c.args.rows.now c.deref.result.now = rw c.deref.ensures.value c.in_ok-order.ensures.order in
    judged_log_as c.deref.result.now c.args.rows.now is.whole
    (ends_as c.args.rows.now c.deref.result.now (λ p. sym (is.whole p)) c.requires.well_formed.ends)
    c.args.with_past c.in_ok-judge_ordered.field-0 c.in_ok-judge_ordered.ensures
