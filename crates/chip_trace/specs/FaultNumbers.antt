-- The numbers of faults in the table of faults.
use Rattle.std.specs.Prelude.{ℕ}
use Rattle.chip_report.specs.FaultNumbers.{write_fault_number}
use Rattle.chip_trace.specs.declared.fault.ReplayFault.{ReplayFault}
use Rattle.chip_trace.specs.declared.fault.ReplayFault.TheVariants as replay
use Rattle.chip_trace.specs.declared.fault.TraceFault.{TraceFault}
use Rattle.chip_trace.specs.declared.fault.TraceFault.TheVariants as trace

-- the number of a fault of recorded runs
abbrev pub replay_fault_number : ReplayFault → ℕ
replay_fault_number (replay.Stuck vertex row) = 70
replay_fault_number replay.NoMemory = 90

-- the number of a fault of writing them
abbrev pub trace_fault_number : TraceFault → ℕ
trace_fault_number trace.Write = write_fault_number
trace_fault_number trace.NoMemory = 90
