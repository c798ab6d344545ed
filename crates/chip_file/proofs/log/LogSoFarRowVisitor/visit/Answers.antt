use Rattle.chip_file.proofs.Names.{fields_of}
use Rattle.chip_file.proofs.LogLemmas.{is_placed, visited}
use Rattle.chip_file.proofs.log.LogSoFarRowVisitor.visit.Goals as goal

pub returns : goal.returns
returns c = λ before is counted.
    let placed = c.in_ok-check.ensures _ is in
    visited c.args.limits.now c.args.index before (fields_of c.args.row.now) c.in_ok-row.row _ counted
    c.in_ok-row.ensures.ok.0 c.in_ok-row.ensures.ok.1 placed (c.in_ok-add.ensures _ is (is_placed c.args.index _ _ placed))
