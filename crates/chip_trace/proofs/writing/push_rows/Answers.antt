use Rattle.chip_trace.proofs.Names.{◌++◌, List, ℕ, take, get_or, sym, ap, ◌∙◌, append_assoc, string_bytes, TraceRow}
use Rattle.chip_trace.proofs.Names.{Take, trace_row_text, trace_rows_text}
use Rattle.chip_trace.proofs.TextLemmas.{rows_text-more}
use Rattle.chip_trace.proofs.writing.push_rows.Goals as goal

pub loop-row-preserved : goal.loop-row-preserved
loop-row-preserved c =
    let rows : List TraceRow = c.args.rows.now in
    let i : ℕ = c.loop-row.row-index in
    let next : List ℕ = trace_row_text c.args.vertex (get_or rows i (Take 0 0)) in
    c.in_ok-push_row.ensures
    ∙ ap (λ (t : List ℕ). t ++ next) c.loop-row.invariant
    ∙ append_assoc (string_bytes c.args.text.now) (trace_rows_text c.args.vertex (take i rows)) next
    ∙ ap (λ (t : List ℕ). string_bytes c.args.text.now ++ t)
    (sym (rows_text-more c.args.vertex rows i (Take 0 0) c.loop-row-test.true))
