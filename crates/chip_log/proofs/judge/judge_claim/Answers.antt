use Rattle.chip_log.proofs.Names.{◌≡◌, ◌&&◌, is_early}
use Rattle.chip_log.proofs.JudgeLemmas.{verdict_left, past_left}
use Rattle.chip_log.proofs.RightLemmas.{judges}
use Rattle.chip_log.proofs.judge.judge_claim.Goals.{then-with_past, else-with_past}
use Rattle.chip_log.proofs.judge.judge_claim.Goals as goal

pub returns : goal.returns
returns c =
    let v = c.left_of-verdict.result in
    let past = c.in_ok-counts_of.field-0.items in
    let asked : c.if-with_past.counts_of ≡ (c.args.with_past && is_early v) = elim c.if-with_past.branch [
      | then-with_past w ↦ rw (w.counts_of-is, c.is_early-is_early.ensures, w.if-with_past.true)
      | else-with_past w ↦ rw (w.counts_of-is, w.if-with_past.false)
    ] in
    judges c.args.with_past c.args.rows.now c.args.place (record {
      process = c.args.place.process;
      row = c.from.result;
      verdict = c.left_of-verdict.result;
      past = c.in_ok-counts_of.field-0;
    }) (λ k. record { process = c.args.place.process; row = c.from.ensures k }) (
      verdict_left c.args.rows.now c.requires.order.log c.args.sizes c.requires.order.fits c.args.place c.in_ok-books.books
          c.in_ok-books.ensures c.args.beginners.now c.requires.beginners v c.left_of-verdict.ensures,
      rw asked at
          (past_left c.args.rows.now c.requires.order.log c.args.sizes c.requires.order.fits c.args.place c.in_ok-books.books
          c.in_ok-books.ensures c.args.beginners.now c.requires.beginners c.if-with_past.counts_of past
          c.in_ok-counts_of.ensures),
    )
