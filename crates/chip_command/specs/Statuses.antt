-- The numbers of exit statuses.
use Rattle.std.specs.Prelude.{ℕ}
use Rattle.chip_command.specs.declared.status.Status.{Status}
use Rattle.chip_command.specs.declared.status.Status.TheVariants.{Done, Failed, Halted, Unfinished}

-- the number of an exit status
abbrev pub number_of_status : Status → ℕ
number_of_status Done = 0
number_of_status Failed = 1
number_of_status Halted = 2
number_of_status Unfinished = 3
