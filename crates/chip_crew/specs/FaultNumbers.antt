-- The numbers of faults in the table of faults.
use Rattle.std.specs.Prelude.{ℕ}
use Rattle.chip_graph.specs.FaultNumbers.{game_fault_number}
use Rattle.chip_graph.specs.declared.fault.GameFault.TheVariants as game
use Rattle.chip_crew.specs.declared.fault.CrewFault.{CrewFault}
use Rattle.chip_crew.specs.declared.fault.CrewFault.TheVariants as fault

-- the number of a fault of a crew
abbrev pub crew_fault_number : CrewFault → ℕ
crew_fault_number fault.Plan = 60
crew_fault_number fault.Total = game_fault_number game.Total
crew_fault_number fault.NoMemory = 90
crew_fault_number fault.Spawn = 65
crew_fault_number fault.GateShut = 62
crew_fault_number (fault.Doubled vertex) = 64
crew_fault_number (fault.Lost vertex) = 63
crew_fault_number (fault.Unfinished deficit root) = 61
