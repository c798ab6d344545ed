use Rattle.chip_log.proofs.Names.{◌≡◌, ◌<◌, length, get_or, sym, ◌∙◌, arith}
use Rattle.chip_log.proofs.Names.{All-push, Some, Judges, IsJudged}
use Rattle.chip_log.proofs.PlacesLemmas.{known}
use Rattle.chip_log.proofs.RightLemmas.{one_judged, right_now, right_more, all_judged}
use Rattle.chip_log.proofs.judge.judge_all.Goals.{then-not-is_early, else-not-is_early}
use Rattle.chip_log.proofs.judge.judge_all.Goals as goal

pub judge_next-requires : goal.judge_next-requires
judge_next-requires g c =
    let rows = c.args.rows.now in
    let places = c.in_ok-places.places.items in
    let n = c.loop-next.next in
    let d = c.index-place.result.now in
    let many = c.in_ok-places.places.ok.0 in
    let inside : c.loop-next.next < length c.in_ok-places.places.items =
    (let a = c.loop-next-test.true in let b = c.len.ensures in omega arith) in
    record {
      order = c.requires.order;
      beginners = c.requires.beginners;
      place = rw c.index-place.ensures (c.in_ok-places.ensures.each n d inside);
      right = λ x is. rw c.index-place.ensures (known rows places n d x inside (c.loop-next.invariant.right x is));
    }

pub loop-next-preserved : goal.loop-next-preserved
loop-next-preserved g c =
    let rows = c.args.rows.now in
    let places = c.in_ok-places.places.items in
    let n = c.loop-next.next in
    let d = c.index-place.result.now in
    let inv = c.loop-next.invariant in
    let claims = c.loop-next.claims.items in
    let claim = c.in_ok-claim.claim in
    let many = c.in_ok-places.places.ok.0 in
    let inside : c.loop-next.next < length c.in_ok-places.places.items =
    (let a = c.loop-next-test.true in let b = c.len.ensures in omega arith) in
    let judges : Judges c.args.with_past c.args.rows.now (get_or c.in_ok-places.places.items c.loop-next.next
    c.index-place.result.now) c.in_ok-claim.claim =
    rw c.index-place.ensures at c.in_ok-claim.ensures in
    record {
      place = omega arith;
      same = rw c.in_ok-push.ensures.items
          (one_judged c.args.with_past rows places n d inside claims claim judges inv.same);
      each = rw c.in_ok-push.ensures.items
          (All-push (IsJudged c.args.with_past rows) claims claim inv.each judges.judged);
      right = elim c.if-not-is_early.branch [
        | then-not-is_early w ↦ λ x is. right_now c.args.with_past rows places n d inside claims claim judges c.in_ok-places.ensures
            (rw c.is_early.ensures at w.if-not-is_early.true) x
            (sym c.index-place.ensures ∙ (let e : Some d ≡ Some x = sym w.right-is ∙ is in cc))
        | else-not-is_early w ↦ λ x is. right_more rows places n x (inv.right x (rw w.right-is at is))
      ];
    }

pub returns : goal.returns
returns g c =
    let many = c.in_ok-places.places.ok.0 in
    all_judged c.args.with_past c.args.rows.now c.in_ok-places.places.items c.loop-next.next c.loop-next.claims.items
    c.in_ok-places.ensures (let a = c.loop-next-test.false in let b = c.len.ensures in omega arith)
    c.loop-next.invariant.same c.loop-next.invariant.each
