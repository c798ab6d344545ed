use Rattle.std.proofs.Common.{rules, append_assoc, arith}
use Rattle.chip_engine.proofs.DropRowLemmas.{row_short}
use Rattle.chip_engine.proofs.drop_rows.push_row.Goals as goal

pub returns-clause-row : goal.returns-clause-row
returns-clause-row c = search (rules, append_assoc)

pub returns-clause-short : goal.returns-clause-short
returns-clause-short c = row_short _ _ (omega arith) (omega arith) (omega arith) (omega arith) (omega arith)
