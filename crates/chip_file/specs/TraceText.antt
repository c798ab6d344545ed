-- The recorded runs that a text of rows means, and what is wrong with a text that means none.
use Rattle.std.specs.Prelude.{◌≡◌, ℕ, ◌+◌, Bool, true, ◌==◌, nat_lt, ◌&&◌, if◌then◌else◌, List, [], ◌∷◌, codes}
use Rattle.std.specs.Prelude.{length, map, Option, None, Some, is_some, is_none, unwrap_or, Result, IfOk, IfSome}
use Rattle.std.specs.Global.{Vec}
use Rattle.std.specs.List.{filter, range_with_len}
use Rattle.chip_graph.specs.Multigraph.{Multigraph}
use Rattle.chip_graph.specs.Edges.{edges_and_roots}
use Rattle.chip_graph.specs.Limits.{SizeLimits}
use Rattle.chip_graph.specs.Faults.{first_of_faults, fault_unless}
use Rattle.chip_link.specs.declared.trace.TraceRow.{TraceRow}
use Rattle.chip_link.specs.declared.trace.TraceRow.TheVariants.{Take, Fire}
use Rattle.chip_file.specs.declared.trace.TraceKind.{TraceKind}
use Rattle.chip_file.specs.declared.trace.TraceKind.TheVariants as kind
use Rattle.chip_file.specs.declared.fault.FileFault.{FileFault}
use Rattle.chip_file.specs.declared.fault.FileFault.TheVariants as fault
use Rattle.chip_file.specs.Answer.{AnswersInput, FailsInTime, TakesAtMost, max_chunk}
use Rattle.chip_file.specs.Kinds.{kind_at}
use Rattle.chip_file.specs.Numbers.{number_at, number_in}
use Rattle.chip_file.specs.Rows.{Row, records_of, rows_under_header, by_index, records_fault}

-- the header of a file of recorded runs
abbrev pub trace_header : Row
trace_header = codes "vertex" ∷ codes "kind" ∷ codes "edge" ∷ codes "count" ∷ []

-- the kinds of its rows, by their names
abbrev pub trace_kinds : List (List ℕ × TraceKind)
trace_kinds = (codes "take", kind.Take) ∷ (codes "fire", kind.Fire) ∷ []

-- the kind of a row
abbrev pub kind_in : Row → TraceKind
kind_in row = unwrap_or (kind_at trace_kinds 1 row) kind.Take

-- the row of a recorded run that has this kind; a firing is over no edge
abbrev pub row_of_kind : TraceKind → ℕ → ℕ → TraceRow
row_of_kind kind.Take edge count = Take edge count
row_of_kind kind.Fire edge count = Fire count

-- what a row says
abbrev pub trace_row_in : Row → TraceRow
trace_row_in row = row_of_kind (kind_in row) (number_in 2 row) (number_in 3 row)

-- whether a recorded row names an edge of the graph or a root edge; a firing names none
abbrev pub names_edge : Multigraph → TraceRow → Bool
names_edge G (Take edge count) = nat_lt edge (edges_and_roots G)
names_edge G (Fire k) = true

-- the first thing wrong with the row at an index
abbrev pub trace_row_fault : Multigraph → ℕ → Row → Option FileFault
trace_row_fault G index row =
    first_of_faults (fault_unless (length row == 4) (fault.Row index))
    (first_of_faults (fault_unless (is_some (kind_at trace_kinds 1 row)) (fault.Kind index))
    (first_of_faults (fault_unless (is_some (number_at 0 row) && is_some (number_at 2 row) && is_some (number_at 3 row))
    (fault.Number index))
    (fault_unless (nat_lt (number_in 0 row) G.vertices && names_edge G (trace_row_in row)) (fault.Vertex index))))

-- what the rows of v say, in the order of the file
abbrev pub trace_in : List Row → ℕ → List TraceRow
trace_in rows v = map trace_row_in (filter (λ row. number_in 0 row == v) rows)

-- the first thing wrong with a text of recorded runs of a graph
abbrev pub trace_text_fault : Multigraph → List ℕ → Option FileFault
trace_text_fault G text = records_fault trace_header (by_index (trace_row_fault G)) (records_of text)

-- the recorded run of each vertex that a text means: none if something is wrong with it
abbrev pub traces_of_text : Multigraph → List ℕ → Option (List (List TraceRow))
traces_of_text G text =
    if is_none (trace_text_fault G text)
    then Some (map (trace_in (rows_under_header (records_of text))) (range_with_len 0 G.vertices))
    else None

-- the results of reading recorded runs of a graph, and how much of the input is read; any reader gives one run per
-- vertex
pub record ReadsTraces (limits : SizeLimits) (G : Multigraph) (old new : Option (List ℕ))
    (result : Result (Vec (Vec TraceRow)) FileFault) : Type 0 where
  pub means : IfSome old (λ text. AnswersInput limits text
      (λ traces. traces_of_text G text ≡ Some (map (λ trace. trace.items) traces.items))
      (λ f. trace_text_fault G text ≡ Some f) result)
  pub each : IfOk result (λ traces. length traces.items ≡ G.vertices)
  pub read : FailsInTime limits old new result
  pub taken : TakesAtMost (limits.bytes + max_chunk) old new
