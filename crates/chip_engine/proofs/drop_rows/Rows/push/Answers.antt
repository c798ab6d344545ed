use Rattle.std.proofs.Common.{arith}
use Rattle.chip_command.proofs.CommandLemmas.{handed_on}
use Rattle.chip_engine.specs.DropRows.{row_text}
use Rattle.chip_engine.proofs.DropRowLemmas.{out_put}
use Rattle.chip_engine.proofs.drop_rows.Rows.push.Goals as goal

pub returns-in_err-push_row-clause-bytes : goal.returns-in_err-push_row-clause-bytes
returns-in_err-push_row-clause-bytes g c old all is =
    let few = c.requires.few in
    let short = c.push_row.ensures.short in
    let put = out_put old _ _ _ all is (row_text ((c.args.vertex, c.args.count), c.args.avalanche)) (omega arith) in
    let counted = put.counted in
    let held = put.held in
    rw (handed_on _ c.from_residual.ensures.1) (c.args.self.now.written, put.went, (omega arith))

pub returns-clause-bytes : goal.returns-clause-bytes
returns-clause-bytes g c old all is =
    let few = c.requires.few in
    let short = c.push_row.ensures.short in
    let put = out_put old _ _ _ all is (row_text ((c.args.vertex, c.args.count), c.args.avalanche)) (omega arith) in
    c.write_if.ensures.bytes old _ (rw c.in_ok-push_row.ensures.row put)
