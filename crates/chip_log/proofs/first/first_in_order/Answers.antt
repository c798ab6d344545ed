use Rattle.chip_log.proofs.Names.{◌≡◌, ◌<◌, [], length, get_or, refl, sym, ◌∙◌, arith, Some, Judges}
use Rattle.chip_log.proofs.PlacesLemmas.{known}
use Rattle.chip_log.proofs.RightLemmas.{right_now}
use Rattle.chip_log.proofs.FirstLemmas.{is_first, right_next, all_right}
use Rattle.chip_log.proofs.first.first_in_order.Goals as goal

pub judge_next-requires-clause-right : goal.judge_next-requires-clause-right
judge_next-requires-clause-right g c =
    let many = c.in_ok-places.places.ok.0 in
    let inside : c.loop-next.next < length c.in_ok-places.places.items =
    (let a = c.loop-next-test.true in let b = c.len.ensures in omega arith) in
    λ x is. rw c.index-place.ensures (known c.args.rows.now c.in_ok-places.places.items c.loop-next.next
    c.index-place.result.now x inside (c.loop-next.invariant.right x is))

pub returns-then-is_early : goal.returns-then-is_early
returns-then-is_early g c =
    let many = c.in_ok-places.places.ok.0 in
    let inside : c.loop-next.next < length c.in_ok-places.places.items =
    (let a = c.loop-next-test.true in let b = c.len.ensures in omega arith) in
    is_first c.args.rows.now c.in_ok-places.places.items c.in_ok-places.ensures c.args.with_past c.loop-next.next
    c.index-place.result.now c.in_ok-claim.claim c.requires.order.log inside
    (rw c.index-place.ensures at c.in_ok-claim.ensures)
    (let a = c.is_early.ensures in let b = c.if-is_early.true in cc) c.loop-next.invariant.all

pub loop-next-preserved : goal.loop-next-preserved
loop-next-preserved g c =
    let rows = c.args.rows.now in
    let places = c.in_ok-places.places.items in
    let n = c.loop-next.next in
    let d = c.index-place.result.now in
    let many = c.in_ok-places.places.ok.0 in
    let inside : c.loop-next.next < length c.in_ok-places.places.items =
    (let a = c.loop-next-test.true in let b = c.len.ensures in omega arith) in
    let judges : Judges c.args.with_past c.args.rows.now (get_or c.in_ok-places.places.items c.loop-next.next
    c.index-place.result.now) c.in_ok-claim.claim = rw c.index-place.ensures at c.in_ok-claim.ensures in
    let now = right_now c.args.with_past rows places n d inside [] c.in_ok-claim.claim judges c.in_ok-places.ensures
    (let a = c.is_early.ensures in let b = c.if-is_early.false in cc) in
    record {
      place = omega arith;
      right = λ x is. now x (sym c.index-place.ensures ∙ (let e : Some d ≡ Some x = is in cc));
      all = right_next rows places n d (get_or places n d) inside refl (now (get_or places n d) refl).right
          c.loop-next.invariant.all;
    }

pub returns : goal.returns
returns g c =
    let many = c.in_ok-places.places.ok.0 in
    all_right c.args.rows.now c.in_ok-places.places.items c.in_ok-places.ensures c.loop-next.next
    (let a = c.loop-next-test.false in let b = c.len.ensures in omega arith) c.loop-next.invariant.all
