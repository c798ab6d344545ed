-- The numbers of faults in the table of faults, and what each names.
use Rattle.std.specs.Prelude.{ℕ, Option, Some, None}
use Rattle.chip_graph.specs.declared.fault.GraphFault.{GraphFault}
use Rattle.chip_graph.specs.declared.fault.GraphFault.TheVariants as graph
use Rattle.chip_graph.specs.declared.fault.GameFault.{GameFault}
use Rattle.chip_graph.specs.declared.fault.GameFault.TheVariants as game

-- the number of a fault of a graph
abbrev pub graph_fault_number : GraphFault → ℕ
graph_fault_number graph.Vertices = 1
graph_fault_number graph.Sink = 2
graph_fault_number graph.EdgeCount = 3
graph_fault_number (graph.Endpoint edge) = 4
graph_fault_number (graph.Mult edge) = 5
graph_fault_number (graph.Loop edge) = 6
graph_fault_number (graph.FromSink edge) = 7
graph_fault_number (graph.Unreached vertex) = 8
graph_fault_number graph.NoMemory = 90

-- the edge or the vertex that a fault of a graph names
abbrev pub graph_fault_place : GraphFault → Option ℕ
graph_fault_place (graph.Endpoint edge) = Some edge
graph_fault_place (graph.Mult edge) = Some edge
graph_fault_place (graph.Loop edge) = Some edge
graph_fault_place (graph.FromSink edge) = Some edge
graph_fault_place (graph.Unreached vertex) = Some vertex
graph_fault_place _ = None

-- the number of a fault of a game
abbrev pub game_fault_number : GameFault → ℕ
game_fault_number game.StartLength = 9
game_fault_number game.Total = 10
game_fault_number game.Limit = 11
