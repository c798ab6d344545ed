use Rattle.chip_log.proofs.Names.{IsInterleaving}
use Rattle.chip_log.proofs.JudgeLemmas.{beginners_as}
use Rattle.chip_log.proofs.SameLemmas.{first_as, is_log}
use Rattle.chip_log.proofs.first.first_early.Goals as goal

pub first_in_order-requires : goal.first_in_order-requires
first_in_order-requires g c =
    let is : IsInterleaving c.args.rows.now c.deref.result.now = rw c.deref.ensures.value c.in_ok-order.ensures.order in
    record {
      order = record {
        log = is_log c.args.rows.now c.deref.result.now is c.requires.well_formed.ends;
        fits = rw c.deref.ensures.value c.in_ok-order.ensures.fits;
        few = rw c.deref.ensures.value c.in_ok-order.ensures.few;
      };
      beginners = beginners_as c.args.sizes c.args.rows.now c.deref.result.now is.whole c.args.beginners.now
          c.requires.beginners;
    }

pub returns : goal.returns
returns g c =
    let is : IsInterleaving c.args.rows.now c.deref.result.now = rw c.deref.ensures.value c.in_ok-order.ensures.order in
    first_as c.args.with_past c.deref.result.now c.args.rows.now is.whole c.in_ok-first_in_order.field-0
    c.in_ok-first_in_order.ensures
