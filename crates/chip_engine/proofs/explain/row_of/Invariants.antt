use Rattle.std.proofs.Common.{◌≡◌, drop}
use Rattle.chip_engine.specs.ExplainCommand.{row_with, table_rows}
use Rattle.chip_engine.proofs.explain.row_of.Given as goal

abbrev pub invariant-loop-row : goal.invariant-loop-row
invariant-loop-row l = row_with (table_rows l.table) l.number ≡ row_with (table_rows (drop l.row-index l.table)) l.number
