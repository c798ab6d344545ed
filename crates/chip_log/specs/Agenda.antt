-- The processes to visit.
use Rattle.std.specs.Prelude.{◌≡◌, ℕ, ◌<◌, length, All, Option, Some, None}
use Rattle.chip_log.specs.declared.agenda.Agenda.TheInside.{Inside}

-- what an `Agenda` shows: the numbers of its processes, its channels, and the processes to visit
pub record AgendaState : Type 0 where
  pub processes : ℕ
  pub channels : ℕ
  pub due : ℕ

-- the fields, counted
abbrev pub state_of : Inside → AgendaState
state_of a = record { processes = a.processes; channels = length a.basic.items; due = length a.due.items }

-- the process that waits, if any, is below n
abbrev pub IsWaiterBelow : ℕ → Option ℕ → Type 0
IsWaiterBelow n None = Unit {0}
IsWaiterBelow n (Some p) = p < n

-- all that it names are processes
pub record NamesProcesses (a : Inside) : Type 0 where
  pub each : length a.control.items ≡ length a.basic.items
  pub due : All (λ p. p < a.processes) a.due.items
  pub basic : All (IsWaiterBelow a.processes) a.basic.items
  pub control : All (IsWaiterBelow a.processes) a.control.items

-- its numbers of processes and channels are as before
pub record IsSame (old new : AgendaState) : Type 0 where
  pub processes : new.processes ≡ old.processes
  pub channels : new.channels ≡ old.channels
