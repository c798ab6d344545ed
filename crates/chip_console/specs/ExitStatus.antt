-- The exit status of the program.
use Rattle.std.specs.Prelude.{ℕ, Result, Ok, Err}
use Rattle.chip_command.specs.FaultNumbers.{status_of_fault}
use Rattle.chip_command.specs.Statuses.{number_of_status}
use Rattle.chip_command.specs.declared.ended.Ended.{Ended}
use Rattle.chip_command.specs.declared.fault.Fault.{Fault}

-- the exit status after a command: its own, or that of its fault
abbrev pub exit_status_of : Result Ended Fault → ℕ
exit_status_of (Ok ended) = ended.status
exit_status_of (Err fault) = number_of_status (status_of_fault fault)
