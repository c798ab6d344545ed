use Rattle.std.proofs.Common.{ap, length, arith}
use Rattle.chip_engine.proofs.DropRowLemmas.{out_all, out_part}
use Rattle.chip_engine.proofs.drop_rows.Rows.write.Goals as goal

pub returns-in_default-clause-bytes : goal.returns-in_default-clause-bytes
returns-in_default-clause-bytes g c old all is = (c.args.self.now.written, is.went, omega arith)

pub returns-in-Err-clause-bytes : goal.returns-in-Err-clause-bytes
returns-in-Err-clause-bytes g c old all is =
    let went = rw c.as_bytes.ensures.value at c.in-Err.ensures in out_part old _ _ _ all is _ _ went.0 went.1

pub returns-in-Ok-clause-bytes : goal.returns-in-Ok-clause-bytes
returns-in-Ok-clause-bytes g c old all is =
    let counted = c.in-Some.ensures.1 in
    let long = ap length c.as_bytes.ensures.value in
    rw c.clear.ensures.bytes
    (out_all old _ _ _ all is _ _ (rw c.as_bytes.ensures.value at c.in-Ok.ensures) (omega arith))
