-- The numbers under which faults are printed, and the place of each.
use Rattle.std.specs.Prelude.{ℕ, Option, Some, None, List, [], ◌++◌, codes}
use Rattle.std.specs.Fmt.{decimal}
use Rattle.chip_graph.specs.FaultNumbers.{game_fault_number}
use Rattle.chip_file.specs.FaultNumbers.{file_fault_number, file_fault_place}
use Rattle.chip_sequence.specs.Faults.{resume_fault_number, resume_fault_place}
use Rattle.chip_report.specs.declared.fault.ReportFault.TheVariants as report
use Rattle.chip_report.specs.FaultNumbers.{report_fault_number, write_fault_number}
use Rattle.chip_trace.specs.declared.fault.ReplayFault.TheVariants as replay
use Rattle.chip_trace.specs.declared.fault.TraceFault.TheVariants as trace
use Rattle.chip_trace.specs.FaultNumbers.{replay_fault_number, trace_fault_number}
use Rattle.chip_command.specs.declared.fault.Fault.{Fault}
use Rattle.chip_command.specs.declared.fault.Fault.TheVariants as fault
use Rattle.chip_command.specs.declared.fault.Location.{Location}
use Rattle.chip_command.specs.declared.fault.Location.TheVariants.{Nowhere, At, AtRow}
use Rattle.chip_command.specs.declared.status.Status.{Status}
use Rattle.chip_command.specs.declared.status.Status.TheVariants.{Failed, Unfinished}

-- the location of a library's fault that names this place
abbrev pub location_at : Option ℕ → Location
location_at None = Nowhere
location_at (Some number) = At number

-- a fault of a command as it is printed: its number, which is that of the library whose fault it is, and its place; an
-- output failed after a number of bytes
abbrev pub print_fault : Fault → ℕ × Location
print_fault (fault.File f) = (file_fault_number f, location_at (file_fault_place f))
print_fault (fault.Game f) = (game_fault_number f, Nowhere)
print_fault fault.NotReport = (report_fault_number report.NotReport, Nowhere)
print_fault (fault.Resume f) = (resume_fault_number f, location_at (resume_fault_place f))
print_fault (fault.Stopped row) = (13, At row)
print_fault (fault.Absent process) = (34, At process)
print_fault (fault.Differs vertex) = (53, At vertex)
print_fault fault.Plan = (60, Nowhere)
print_fault (fault.Unfinished deficit) = (61, At deficit)
print_fault fault.GateShut = (62, Nowhere)
print_fault (fault.Lost vertex) = (63, At vertex)
print_fault (fault.Doubled vertex) = (64, At vertex)
print_fault fault.Spawn = (65, Nowhere)
print_fault (fault.Stuck vertex row) = (replay_fault_number (replay.Stuck vertex row), AtRow vertex row)
print_fault fault.NoMemory = (90, Nowhere)
print_fault fault.Usage = (91, Nowhere)
print_fault (fault.Open argument) = (92, At argument)
print_fault (fault.Write f) = (write_fault_number, At f.written)
print_fault fault.WriteFile = (trace_fault_number trace.Write, Nowhere)

-- the number of a fault of a command
abbrev pub command_fault_number : Fault → ℕ
command_fault_number f = (print_fault f).0

-- the place of a fault of a command
abbrev pub location_of : Fault → Location
location_of f = (print_fault f).1

-- a location as it is printed after a fault's name: a blank and each of its numbers
abbrev pub location_text : Location → List ℕ
location_text Nowhere = []
location_text (At number) = codes " " ++ decimal number
location_text (AtRow vertex row) = codes " " ++ decimal vertex ++ codes " " ++ decimal row

-- the exit status of a command that failed: unfinished if a crew has no turns left
abbrev pub status_of_fault : Fault → Status
status_of_fault (fault.Unfinished deficit) = Unfinished
status_of_fault _ = Failed
