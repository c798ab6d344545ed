-- Worked traces, as the definitions write and read them, and exit statuses by their numbers.
use Rattle.std.specs.Prelude.{◌≡◌, ℕ, List, [], ◌∷◌, codes, Some}
use Rattle.chip_graph.specs.Multigraph.{Multigraph}
use Rattle.chip_graph.specs.Worked.{single_edge}
use Rattle.chip_link.specs.declared.trace.TraceRow.{TraceRow}
use Rattle.chip_link.specs.declared.trace.TraceRow.TheVariants.{Take, Fire}
use Rattle.chip_file.specs.TraceText.{traces_of_text}
use Rattle.chip_trace.specs.TraceText.{trace_text}
use Rattle.chip_command.specs.FaultNumbers.{status_of_fault}
use Rattle.chip_command.specs.Statuses.{number_of_status}
use Rattle.chip_command.specs.declared.fault.Fault.TheVariants as fault
use Rattle.chip_command.specs.declared.status.Status.TheVariants.{Done, Failed, Halted, Unfinished}

-- one edge, from vertex 0 to the sink; the root edges are 1 and 2
abbrev pub one_edge : Multigraph
one_edge = record { vertices = 2; sink = 1; edges = single_edge 0 1 ∷ [] }

-- vertex 0 takes its twelve chips and fires them, and the sink takes what comes
abbrev pub two_traces : List (List TraceRow)
two_traces = (Take 1 12 ∷ Fire 12 ∷ []) ∷ (Take 0 12 ∷ []) ∷ []

abbrev pub two_traces_text : List ℕ
two_traces_text = codes "vertex,kind,edge,count\n0,take,1,12\n0,fire,0,12\n1,take,0,12\n"

-- they are written so, and read back
abbrev pub TwoTracesComeBack : Type 0
TwoTracesComeBack =
    (trace_text two_traces ≡ two_traces_text) × (traces_of_text one_edge two_traces_text ≡ Some two_traces)

-- the exit statuses by their numbers, and those of two faults: a crew without turns, and arguments that are no command
abbrev pub StatusesAreNumbered : Type 0
StatusesAreNumbered =
    (number_of_status Done ≡ 0) × (number_of_status Failed ≡ 1) × (number_of_status Halted ≡ 2)
    × (number_of_status Unfinished ≡ 3)
    × (number_of_status (status_of_fault (fault.Unfinished 1)) ≡ 3)
    × (number_of_status (status_of_fault fault.Usage) ≡ 1)
