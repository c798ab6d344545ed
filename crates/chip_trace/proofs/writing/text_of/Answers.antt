use Rattle.chip_trace.proofs.Names.{◌++◌, ◌<◌, List, [], ℕ, length, map, take, get_or, sym, ap, ◌∙◌, append_assoc}
use Rattle.chip_trace.proofs.Names.{string_bytes, arith, get_or-map, length-map, TraceRow, header, trace_rows_text}
use Rattle.chip_trace.proofs.Names.{lines_from}
use Rattle.chip_trace.proofs.TextLemmas.{lines_from-more}
use Rattle.chip_trace.proofs.writing.text_of.Goals as goal

pub loop-vertex-preserved : goal.loop-vertex-preserved
loop-vertex-preserved c =
    let traces : List (List TraceRow) = map (λ t. t.now) c.args.traces.now in
    let i : ℕ = c.loop-vertex.vertex in
    let within : i < length traces = (let e = length-map c.args.traces.now (λ t. t.now) in
    let l = c.loop-vertex-test.true in omega arith) in
    let next : List ℕ = trace_rows_text i (get_or traces i []) in
    c.in_ok-push_rows.ensures
    ∙ ap (λ (rows : List TraceRow). string_bytes c.loop-vertex.text ++ trace_rows_text i rows)
    (sym (get_or-map (λ t. t.now) c.args.traces.now i _ [] c.loop-vertex-test.true))
    ∙ ap (λ (t : List ℕ). t ++ next) c.loop-vertex.invariant
    ∙ append_assoc header (lines_from 0 (take i traces)) next
    ∙ ap (λ (t : List ℕ). header ++ t) (sym (lines_from-more traces i [] within))
