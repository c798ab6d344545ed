use Rattle.chip_trace.proofs.Names.{◌≡◌, ◌++◌, take, string_bytes, trace_rows_text}
use Rattle.chip_trace.proofs.writing.push_rows.Given as goal

abbrev pub invariant-loop-row : goal.invariant-loop-row
invariant-loop-row l = string_bytes l.text ≡ string_bytes l.initial.text ++ trace_rows_text l.vertex (take l.row-index l.rows)
