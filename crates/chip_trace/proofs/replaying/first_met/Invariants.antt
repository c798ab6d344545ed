use Rattle.chip_trace.proofs.Names.{◌≡◌, ℕ, ◌<◌, map, false, Some, TraceRow, is_row_enabled, row_after, rows_used}
use Rattle.chip_trace.proofs.replaying.first_met.Given as goal

abbrev pub invariant-loop-vertex : goal.invariant-loop-vertex
invariant-loop-vertex l = (v : ℕ) → v < l.vertex → (row : TraceRow)
    → row_after (map (λ t. t.items) l.traces) l.progress v ≡ Some row
    → is_row_enabled l.game (rows_used (map (λ t. t.items) l.traces) l.progress) v row ≡ false
