use Rattle.std.proofs.Common.{◌<◌, length, get_or, arith, take, None}
use Rattle.std.proofs.lemmas.List.{take_more, get_or_default}
use Rattle.std.proofs.lemmas.List.Elements.{All-get_or}
use Rattle.chip_log.specs.Past.{FitsRow}
use Rattle.chip_log.proofs.LoopLemmas.{no_row}
use Rattle.chip_text_tests.proofs.CheckLemmas.{more_beginners}
use Rattle.chip_text_tests.proofs.claims.play.beginners.Goals as goal

pub loop-row-preserved : goal.loop-row-preserved
loop-row-preserved c =
    let rows = c.args.rows.now in
    let i = c.loop-row.row-index in
    let inv = c.loop-row.invariant in
    let x = get_or c.args.rows.now c.loop-row.row-index no_row in
    let l : c.loop-row.row-index < length c.args.rows.now = c.loop-row-test.true in
    let fits = All-get_or (FitsRow c.args.sizes) rows i no_row l c.requires in
    let begins = get_or_default c.loop-row.beginners.items x.process c.index-begins.result.now None
    (let a = inv.each in let b = fits.process in omega arith) in
    rw (c.first_of.ensures, c.index-begins.ensures, begins, take_more rows i no_row l)
    (more_beginners c.args.sizes (take i rows) x c.loop-row.beginners.items inv fits.process)
