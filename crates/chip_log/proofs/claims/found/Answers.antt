use Rattle.chip_log.proofs.Names.{◌≡◌, ◌<◌, length, get_or, ◌∙◌, arith}
use Rattle.chip_log.proofs.Names.{length-set, ◌^◌, replicate, length-replicate, get_or_default}
use Rattle.chip_log.proofs.Names.{All-get_or, slice_get-get_or, FitsRow}
use Rattle.chip_log.proofs.LoopLemmas.{no_row}
use Rattle.chip_log.proofs.PlacesLemmas.{found_nothing, found_all, few_rows, no_over, found_none, found_one}
use Rattle.chip_log.proofs.QueuesLemmas.{all_same}
use Rattle.chip_log.proofs.claims.found.Goals.{in-Over+in_ok-push, in_default}
use Rattle.chip_log.proofs.claims.found.Goals as goal

pub loop-at-init : goal.loop-at-init
loop-at-init c =
    let zeros : c.in_ok-counts.counts.items ≡ replicate c.args.sizes.processes 0 =
    c.in_ok-counts.ensures.items_if_clones_equal (λ y e. e) in
    record {
      place = omega arith;
      sized = rw zeros (length-replicate c.args.sizes.processes 0);
      found = found_nothing c.args.rows.now c.new-claims.result.items c.in_ok-counts.counts.items c.new-claims.ensures.items
          (λ q. rw zeros (all_same c.args.sizes.processes q 0));
    }

pub overflow_add-count : goal.overflow_add-count
overflow_add-count c =
    let x = get_or c.args.rows.now c.loop-at.at no_row in
    let fits = All-get_or (FitsRow c.args.sizes) c.args.rows.now c.loop-at.at no_row c.loop-at-test.true c.requires.fits in
    let count = c.index-count.ensures ∙ get_or_default c.loop-at.counts.items x.process _ 0
    (let a = c.loop-at.invariant.sized in let b = fits.process in omega arith) in
    let a = few_rows c.args.rows.now c.loop-at.at c.loop-at.claims.items c.loop-at.counts.items c.loop-at.invariant.found
    c.loop-at-test.true c.requires.few x.process in
    omega arith

pub loop-at-preserved : goal.loop-at-preserved
loop-at-preserved c =
    let rows = c.args.rows.now in
    let at = c.loop-at.at in
    let x = get_or c.args.rows.now c.loop-at.at no_row in
    let counts = c.loop-at.counts.items in
    let inv = c.loop-at.invariant in
    let l = c.loop-at-test.true in
    let fits = All-get_or (FitsRow c.args.sizes) rows at no_row l c.requires.fits in
    let within : x.process < length counts = (let a = inv.sized in let b = fits.process in omega arith) in
    let count : c.index-count.result.now ≡ get_or counts x.process 0 =
    (c.index-count.ensures ∙ get_or_default counts x.process _ 0 within) in
    let few : get_or counts x.process 0 < 2 ^ 32 =
    (let a = few_rows rows at c.loop-at.claims.items counts inv.found l c.requires.few x.process in omega arith) in
    record {
      place = omega arith;
      sized = rw length-set inv.sized;
      found = rw count (elim c.match-row.branch [
        | in-Over+in_ok-push w ↦ rw (w.claims-is, w.in_ok-push.ensures.items, count)
            (found_one rows at no_row l c.loop-at.claims.items counts inv.found within w.in-Over.is few
            (slice_get-get_or rows at no_row l))
        | in_default w ↦ rw w.claims-is
            (found_none rows at no_row l c.loop-at.claims.items counts inv.found within
            (no_over x.step w.in_default.not-Over))
      ]);
    }

pub returns : goal.returns
returns c = found_all c.args.rows.now c.loop-at.at c.loop-at.claims.items c.loop-at.counts.items c.loop-at-test.false
    c.loop-at.invariant.found
