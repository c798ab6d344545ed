use Rattle.std.proofs.Common.{◌≡◌, take, flat_map, string_bytes}
use Rattle.chip_engine.specs.ExplainCommand.{line_text, table_rows}
use Rattle.chip_engine.proofs.explain.list_all.Given as goal

abbrev pub invariant-loop-row : goal.invariant-loop-row
invariant-loop-row l = string_bytes l.text ≡ flat_map (line_text l.what) (table_rows (take l.row-index l.table))
