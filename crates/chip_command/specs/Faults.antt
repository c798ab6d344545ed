-- The faults of libraries among those of commands.
use Rattle.chip_file.specs.declared.fault.FileFault.{FileFault}
use Rattle.chip_file.specs.declared.fault.FileFault.TheVariants as file
use Rattle.chip_log.specs.declared.fault.OrderFault.{OrderFault}
use Rattle.chip_log.specs.declared.fault.OrderFault.TheVariants as order
use Rattle.chip_sequence.specs.declared.resumed.ResumeFault.{ResumeFault}
use Rattle.chip_sequence.specs.declared.resumed.ResumeFault.TheVariants as resume
use Rattle.chip_report.specs.declared.fault.ReportFault.{ReportFault}
use Rattle.chip_report.specs.declared.fault.ReportFault.TheVariants as report
use Rattle.chip_trace.specs.declared.fault.ReplayFault.{ReplayFault}
use Rattle.chip_trace.specs.declared.fault.ReplayFault.TheVariants as replay
use Rattle.chip_trace.specs.declared.fault.TraceFault.{TraceFault}
use Rattle.chip_trace.specs.declared.fault.TraceFault.TheVariants as trace
use Rattle.chip_command.specs.declared.fault.Fault.{Fault}
use Rattle.chip_command.specs.declared.fault.Fault.TheVariants.{File, Stuck, WriteFile, NotReport, Resume, NoMemory}

-- want of memory is one fault, whichever library has it
abbrev pub fault_of_file : FileFault → Fault
fault_of_file file.NoMemory = NoMemory
fault_of_file fault = File fault

-- the fault of recorded runs without an interleaving
abbrev pub fault_of_replay : ReplayFault → Fault
fault_of_replay (replay.Stuck vertex row) = Stuck vertex row
fault_of_replay replay.NoMemory = NoMemory

-- the fault of the rows of a log without an interleaving
abbrev pub fault_of_order : OrderFault → Fault
fault_of_order (order.Stuck process row) = Stuck process row
fault_of_order order.NoMemory = NoMemory

-- the fault of recorded runs that were not written
abbrev pub fault_of_trace : TraceFault → Fault
fault_of_trace trace.Write = WriteFile
fault_of_trace trace.NoMemory = NoMemory

-- the fault of bytes that are no report
abbrev pub fault_of_report : ReportFault → Fault
fault_of_report report.NotReport = NotReport
fault_of_report report.NoMemory = NoMemory

-- why a play does not go on
abbrev pub fault_of_resume : ResumeFault → Fault
fault_of_resume resume.NoMemory = NoMemory
fault_of_resume fault = Resume fault
