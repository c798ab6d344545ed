-- Recorded runs as text: a header, and a line for each row.
use Rattle.std.specs.Prelude.{◌≡◌, ℕ, suc, ◌<◌, List, [], ◌∷◌, ◌++◌, length, take, codes, Option, Result, Ok, Err}
use Rattle.std.specs.Fmt.{decimal}
use Rattle.std.specs.Io.KnownBytes.{Appends}
use Rattle.chip_link.specs.declared.trace.TraceRow.{TraceRow}
use Rattle.chip_link.specs.declared.trace.TraceRow.TheVariants.{Take, Fire}
use Rattle.chip_trace.specs.declared.fault.TraceFault.{TraceFault}
use Rattle.chip_trace.specs.declared.fault.TraceFault.TheVariants as fault

-- the first line
abbrev pub header : List ℕ
header = codes "vertex,kind,edge,count\n"

-- the line of a row of v; a firing has no edge, and 0 in its place
abbrev pub trace_row_text : ℕ → TraceRow → List ℕ
trace_row_text v (Take edge count) = decimal v ++ codes ",take," ++ decimal edge ++ codes "," ++ decimal count ++ codes "\n"
trace_row_text v (Fire k) = decimal v ++ codes ",fire,0," ++ decimal k ++ codes "\n"

-- the lines of the rows of v
abbrev pub trace_rows_text : ℕ → List TraceRow → List ℕ
trace_rows_text v [] = []
trace_rows_text v (row ∷ rows) = trace_row_text v row ++ trace_rows_text v rows

-- the lines of the traces of the vertices from v on
abbrev pub lines_from : ℕ → List (List TraceRow) → List ℕ
lines_from v [] = []
lines_from v (trace ∷ traces) = trace_rows_text v trace ++ lines_from (suc v) traces

-- the text of the traces, the vertices ascending
abbrev pub trace_text : List (List TraceRow) → List ℕ
trace_text traces = header ++ lines_from 0 traces

-- the whole text was written and nothing else; if a write failed, only its first bytes were; if memory ran out, nothing
-- was
abbrev pub WritesText : Option (List ℕ) → Option (List ℕ) → List ℕ → Result (Unit {0}) TraceFault → Type 0
WritesText old new text (Ok done) = Appends old new text
WritesText old new text (Err fault.Write) = (n : ℕ) × (n < length text) × Appends old new (take n text)
WritesText old new text (Err fault.NoMemory) = new ≡ old
