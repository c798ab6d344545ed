-- The laws of traces in files, as the functions of `src/laws.rt` state them.
use Rattle.std.specs.Prelude.{◌≡◌, ℕ, ◌^◌, ◌<◌, List, [], length, Some, Result, Ok, All}
use Rattle.chip_graph.specs.Limits.{standard}
use Rattle.chip_graph.specs.Multigraph.{Multigraph, IsGraph}
use Rattle.chip_graph.specs.Edges.{edges_and_roots}
use Rattle.chip_link.specs.declared.trace.TraceRow.{TraceRow}
use Rattle.chip_link.specs.declared.trace.TraceRow.TheVariants.{Take, Fire}
use Rattle.chip_file.specs.Answer.{AnswersInput}
use Rattle.chip_file.specs.TraceText.{traces_of_text, trace_text_fault}
use Rattle.chip_file.specs.declared.fault.FileFault.{FileFault}
use Rattle.chip_trace.specs.TraceText.{trace_text, WritesText}

-- a row of a trace in a graph: a take is of an edge that is there, a root edge among them, and counts have 64 bits
abbrev pub IsRowIn : Multigraph → TraceRow → Type 0
IsRowIn G (Take edge count) = (edge < edges_and_roots G) × (count < 2 ^ 64)
IsRowIn G (Fire k) = k < 2 ^ 64

-- traces in a graph: one for each vertex, of such rows
pub record AreTracesIn (G : Multigraph) (traces : List (List TraceRow)) : Type 0 where
  pub each : length traces ≡ G.vertices
  pub rows : All (λ trace. All (IsRowIn G) trace) traces

-- the text of traces in a graph, as `write_trace` writes it, means these traces to `read_trace`
abbrev pub WrittenIsRead : Type 0
WrittenIsRead = (G : Multigraph) (traces : List (List TraceRow)) → IsGraph G → AreTracesIn G traces
    → traces_of_text G (trace_text traces) ≡ Some traces

-- no text means other traces than those in the graph
abbrev pub ReadIsInGraph : Type 0
ReadIsInGraph = (G : Multigraph) (text : List ℕ) (traces : List (List TraceRow)) → traces_of_text G text ≡ Some traces
    → AreTracesIn G traces

-- whatever `read_trace` may return for a file that `write_trace` wrote of traces in a graph: these traces, or that the
-- machine failed, or that the file has more bytes than are read
abbrev pub FileIsReadBack : Type 0
FileIsReadBack = (G : Multigraph) (traces : List (List TraceRow)) → IsGraph G → AreTracesIn G traces
    → (file : List ℕ) → WritesText (Some []) (Some file) (trace_text traces) (Ok tt)
    → (answer : Result (List (List TraceRow)) FileFault)
    → AnswersInput standard file (λ read. traces_of_text G file ≡ Some read) (λ f. trace_text_fault G file ≡ Some f) answer
    → AnswersInput standard file (λ read. read ≡ traces) (λ f. ⊥) answer
