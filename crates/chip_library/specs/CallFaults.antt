-- The numbers of faults of calls, their places, and which is first.
use Rattle.std.specs.Prelude.{◌≡◌, ℕ, length, unwrap_or, Some, None, Err}
use Rattle.chip_graph.specs.FaultNumbers.{graph_fault_number, graph_fault_place, game_fault_number}
use Rattle.chip_graph.specs.Limits.{large}
use Rattle.chip_graph.specs.Multigraph.{Multigraph}
use Rattle.chip_graph.specs.Faults.{MakesGraph, fault_of_sizes, fault_of_game}
use Rattle.chip_graph.specs.ChipGame.{ChipGame}
use Rattle.chip_library.specs.declared.fault.CallFault.{CallFault}
use Rattle.chip_library.specs.declared.fault.CallFault.TheVariants.{Lengths, Graph, Game, Vertex, Total, Stopped, Differs, NoPile, NoMemory}

-- the number of a fault in the table of faults
abbrev pub call_fault_number : CallFault → ℕ
call_fault_number Lengths = 12
call_fault_number (Graph fault) = graph_fault_number fault
call_fault_number (Game fault game) = game_fault_number fault
call_fault_number (Vertex drop) = 26
call_fault_number (Total drop) = 10
call_fault_number (Stopped drop) = 13
call_fault_number (Differs vertex) = 53
call_fault_number NoPile = 14
call_fault_number NoMemory = 90

-- the edge, vertex, game, drop or row of the fault, or 0
abbrev pub place_of : CallFault → ℕ
place_of Lengths = 0
place_of (Graph fault) = unwrap_or (graph_fault_place fault) 0
place_of (Game fault game) = game
place_of (Vertex drop) = drop
place_of (Total drop) = drop
place_of (Stopped drop) = drop
place_of (Differs vertex) = vertex
place_of NoPile = 0
place_of NoMemory = 0

-- the first fault of a graph; or lack of memory, if there are not too many vertices and edges and the sink is a vertex
abbrev pub IsFaultOfGraph : Multigraph → CallFault → Type 0
IsFaultOfGraph G (Graph fault) = MakesGraph large G (Err fault)
IsFaultOfGraph G NoMemory = fault_of_sizes large G.vertices G.sink (length G.edges) ≡ None
IsFaultOfGraph G _ = ⊥

-- the first fault of a game, under its number, or lack of memory
abbrev pub IsFaultOfGame : ChipGame → ℕ → CallFault → Type 0
IsFaultOfGame g number (Game fault game) = (game ≡ number) × (fault_of_game g ≡ Some fault)
IsFaultOfGame g number NoMemory = Unit {0}
IsFaultOfGame g number _ = ⊥
