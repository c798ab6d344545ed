-- Serves TraceText.antt, Rows.antt.
-- How one row after another gives the recorded run of each vertex.
use Rattle.chip_file.proofs.Names.{◌≡◌, ℕ, ◌<◌, Bool, true, false, List, [], ◌∷◌, ◌++◌, length, map, get_or, set, None}
use Rattle.chip_file.proofs.Names.{refl, ap, arith, sym, ◌∙◌, ◌==◌, if◌then◌else◌, Vec, filter, map-append, length-map}
use Rattle.chip_file.proofs.Names.{filter-append, eqb-true, nat_tests, common_steps, Multigraph, TraceRow, number_in}
use Rattle.chip_file.proofs.Names.{Row, trace_row_in, trace_row_fault, trace_in, IsByVertex}
use Rattle.std.proofs.lemmas.List.{append-nil}
use Rattle.chip_file.proofs.VertexRowLemmas.{by_vertex-set}

-- a row with no fault names a vertex
pub names_vertex : (G : Multigraph) (index : ℕ) (row : Row) → trace_row_fault G index row ≡ None
    → number_in 0 row < G.vertices
names_vertex G index row e = grind (arith, nat_tests, common_steps)

-- ---- one more row

-- what the row says goes after what those before it say of its vertex
trace_in-push : (before : List Row) (row : Row) (v : ℕ)
    → trace_in (before ++ row ∷ []) v ≡ trace_in before v
    ++ map trace_row_in (filter (λ row. number_in 0 row == v) (row ∷ []))
trace_in-push before row v =
    ap (map trace_row_in) (filter-append (λ row. number_in 0 row == v) before (row ∷ []))
    ∙ map-append trace_row_in (filter (λ row. number_in 0 row == v) before)
    (filter (λ row. number_in 0 row == v) (row ∷ []))

push_by : (b : Bool) (row : Row) (was before : List TraceRow) → (b ≡ true → was ≡ before)
    → (if b then was ++ trace_row_in row ∷ [] else before) ≡ before ++ map trace_row_in (if b then row ∷ [] else [])
push_by true row was before same = rw (same refl) refl
push_by false row was before same = sym (append-nil before)

pub recorded_more : (n : ℕ) (before : List Row) (traces : List (List TraceRow)) (row : Row)
    → IsByVertex n (trace_in before) [] traces → number_in 0 row < n
    → IsByVertex n (trace_in (before ++ row ∷ [])) []
    (set traces (number_in 0 row) (get_or traces (number_in 0 row) [] ++ trace_row_in row ∷ []))
recorded_more n before traces row are below =
    by_vertex-set n (number_in 0 row) _ _ [] _ traces are below
    (λ v. rw (trace_in-push before row v) (push_by (number_in 0 row == v) row _ (trace_in before v)
    (λ e. are.each (number_in 0 row) below ∙ ap (trace_in before) (eqb-true (number_in 0 row) v e))))

-- there are as many runs as lists of their rows
pub runs_each : (n : ℕ) (of : ℕ → List TraceRow) (traces : List (Vec TraceRow))
    → IsByVertex n of [] (map (λ trace. trace.items) traces) → length traces ≡ n
runs_each n of traces are = sym (length-map traces (λ trace. trace.items)) ∙ are.as_many
