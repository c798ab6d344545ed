-- Serves TraceText.antt.
-- Text that grows line by line.
use Rattle.chip_trace.proofs.Names.{◌≡◌, ℕ, suc, ◌+◌, ◌<◌, List, [], ◌∷◌, ◌++◌, length, take, get_or, sym, ap, ◌∙◌}
use Rattle.chip_trace.proofs.Names.{arith, append_assoc, append-nil, take_more, length-take-le, TraceRow, trace_row_text}
use Rattle.chip_trace.proofs.Names.{trace_rows_text, lines_from}

rows_text-push : (v : ℕ) (rows : List TraceRow) (row : TraceRow)
    → trace_rows_text v (rows ++ row ∷ []) ≡ trace_rows_text v rows ++ trace_row_text v row
rows_text-push v [] row = append-nil (trace_row_text v row)
rows_text-push v (first ∷ rows) row = ap (λ (t : List ℕ). trace_row_text v first ++ t) (rows_text-push v rows row)
    ∙ sym (append_assoc (trace_row_text v first) (trace_rows_text v rows) (trace_row_text v row))

-- one more line
pub rows_text-more : (v : ℕ) (rows : List TraceRow) (i : ℕ) (row : TraceRow) → i < length rows
    → trace_rows_text v (take (i + 1) rows) ≡ trace_rows_text v (take i rows) ++ trace_row_text v (get_or rows i row)
rows_text-more v rows i row l = ap (trace_rows_text v) (take_more rows i row l)
    ∙ rows_text-push v (take i rows) (get_or rows i row)

-- the lines of one more vertex
lines_from-push : (v : ℕ) (traces : List (List TraceRow)) (trace : List TraceRow)
    → lines_from v (traces ++ trace ∷ []) ≡ lines_from v traces ++ trace_rows_text (v + length traces) trace
lines_from-push v [] trace = append-nil (trace_rows_text v trace)
    ∙ ap (λ (w : ℕ). trace_rows_text w trace) (let e : v ≡ v + 0 = omega arith in e)
lines_from-push v (first ∷ traces) trace =
    ap (λ (t : List ℕ). trace_rows_text v first ++ t) (lines_from-push (suc v) traces trace
    ∙ ap (λ (w : ℕ). lines_from (suc v) traces ++ trace_rows_text w trace) (let e : suc v + length traces
    ≡ v + suc (length traces) = omega arith in e))
    ∙ sym (append_assoc (trace_rows_text v first) (lines_from (suc v) traces) (trace_rows_text (v + suc (length traces)) trace))

pub lines_from-more : (traces : List (List TraceRow)) (i : ℕ) (trace : List TraceRow) → i < length traces
    → lines_from 0 (take (i + 1) traces) ≡ lines_from 0 (take i traces) ++ trace_rows_text i (get_or traces i trace)
lines_from-more traces i trace l =
    ap (lines_from 0) (take_more traces i trace l) ∙ lines_from-push 0 (take i traces) (get_or traces i trace)
    ∙ ap (λ (w : ℕ). lines_from 0 (take i traces) ++ trace_rows_text w (get_or traces i trace))
    (let e = length-take-le i traces (omega arith) in let z : 0 + length (take i traces) ≡ i = omega arith in z)
