-- How far one vertex has come in a replay.
use Rattle.std.specs.Prelude.{◌≡◌, ℕ, List, [], length, sum}
use Rattle.chip_link.specs.declared.trace.TraceRow.{TraceRow}
use Rattle.chip_trace.specs.declared.runner.Runner.TheInside.{Inside}
use Rattle.chip_trace.specs.Interleaving.{fires, chips_taken}

-- what a `Runner` shows: the number of rows it has used, its firings in order, and the chips that it took
pub record RunnerState : Type 0 where
  pub used : ℕ
  pub fires : List ℕ
  pub chips : ℕ

-- a vertex that has used no row
abbrev pub at_start : RunnerState
at_start = record { used = 0; fires = []; chips = 0 }

-- a vertex that has used these rows
abbrev pub runner_of : List TraceRow → RunnerState
runner_of rows = record { used = length rows; fires = fires rows; chips = chips_taken rows }

-- the fields without what follows from them
abbrev pub runner_state : Inside → RunnerState
runner_state a = record { used = a.used; fires = a.fires.items; chips = a.chips }

-- the number of firings is their sum
abbrev pub AreFiringsCounted : Inside → Type 0
AreFiringsCounted a = a.fired ≡ sum a.fires.items
