use Rattle.chip_log.proofs.Names.{All-get_or, FitsRow, arith}
use Rattle.chip_log.proofs.LoopLemmas.{no_row}
use Rattle.chip_log.proofs.waits.senders_of.Goals as goal

pub note-requires-clause-is_process : goal.note-requires-clause-is_process
note-requires-clause-is_process c =
    let fits = All-get_or (FitsRow c.args.sizes) c.args.rows.now c.loop-row.row-index no_row c.loop-row-test.true c.requires in
    let a = fits.process in let b = c.loop-row.invariant.0 in omega arith

pub note-requires-clause-is_stream : goal.note-requires-clause-is_stream
note-requires-clause-is_stream c =
    let fits = All-get_or (FitsRow c.args.sizes) c.args.rows.now c.loop-row.row-index no_row c.loop-row-test.true c.requires in
    let a = rw c.in-Out.is at fits.channel in let b = c.loop-row.invariant.1 in omega arith
