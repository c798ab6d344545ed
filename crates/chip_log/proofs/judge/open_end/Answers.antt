use Rattle.chip_log.proofs.JudgeLemmas.{end_left, missed_end, unclaimed_end}
use Rattle.chip_log.specs.declared.verdict.Verdict.TheVariants as verdict
use Rattle.chip_log.proofs.judge.open_end.Goals as goal

pub returns-in-OnItsWay : goal.returns-in-OnItsWay
returns-in-OnItsWay c = end_left c.args.rows.now c.requires.order.log c.args.sizes c.requires.order.fits c.in_ok-books.books
    c.in_ok-books.ensures.sized c.in_ok-books.ensures.keeps c.args.beginners.now c.requires.beginners
    (verdict.OnItsWay c.in-OnItsWay.channel c.in-OnItsWay.message) c.in-OnItsWay.ensures

pub returns-in-Active : goal.returns-in-Active
returns-in-Active c = end_left c.args.rows.now c.requires.order.log c.args.sizes c.requires.order.fits c.in_ok-books.books
    c.in_ok-books.ensures.sized c.in_ok-books.ensures.keeps c.args.beginners.now c.requires.beginners
    (verdict.Active c.in-Active.process) c.in-Active.ensures

pub returns-in-Some : goal.returns-in-Some
returns-in-Some c = unclaimed_end c.args.rows.now c.requires.order.log c.args.sizes c.requires.order.fits c.in_ok-books.books
    c.in_ok-books.ensures.sized c.in_ok-books.ensures.keeps c.args.beginners.now c.requires.beginners
    c.in-Some.field-0 c.in-Right.ensures c.in-Some.ensures

pub returns : goal.returns
returns c = missed_end c.args.rows.now c.requires.order.log c.args.sizes c.requires.order.fits c.in_ok-books.books
    c.in_ok-books.ensures.sized c.in_ok-books.ensures.keeps c.args.beginners.now c.requires.beginners
    c.in-Right.ensures c.in-None.ensures
