-- The numbers of faults in the table of faults, and what each names.
use Rattle.std.specs.Prelude.{ℕ, Option, Some, None}
use Rattle.chip_graph.specs.declared.fault.GameFault.TheVariants as game
use Rattle.chip_graph.specs.FaultNumbers.{graph_fault_number, graph_fault_place, game_fault_number}
use Rattle.chip_file.specs.declared.fault.FileFault.{FileFault}
use Rattle.chip_file.specs.declared.fault.FileFault.TheVariants as file

-- the number of a fault of a file; a fault of a graph or a total keeps its own number
abbrev pub file_fault_number : FileFault → ℕ
file_fault_number (file.Graph f) = graph_fault_number f
file_fault_number file.Total = game_fault_number game.Total
file_fault_number file.NotJson = 20
file_fault_number file.Shape = 21
file_fault_number file.Version = 22
file_fault_number file.Header = 23
file_fault_number (file.Row row) = 24
file_fault_number (file.Number row) = 25
file_fault_number (file.Vertex row) = 26
file_fault_number (file.Repeated row) = 27
file_fault_number (file.Kind row) = 28
file_fault_number file.Read = 29
file_fault_number file.TooLong = 30
file_fault_number (file.End row) = 31
file_fault_number (file.Passive row) = 32
file_fault_number (file.Woken row) = 33
file_fault_number file.NoMemory = 90

-- the row that a fault of a file names, or what its fault of a graph names
abbrev pub file_fault_place : FileFault → Option ℕ
file_fault_place (file.Graph f) = graph_fault_place f
file_fault_place (file.Row row) = Some row
file_fault_place (file.Number row) = Some row
file_fault_place (file.Vertex row) = Some row
file_fault_place (file.Repeated row) = Some row
file_fault_place (file.Kind row) = Some row
file_fault_place (file.End row) = Some row
file_fault_place (file.Passive row) = Some row
file_fault_place (file.Woken row) = Some row
file_fault_place _ = None
