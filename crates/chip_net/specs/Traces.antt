-- The rows that an actor records of its own run.
use Rattle.std.specs.Prelude.{◌≡◌, ℕ, ◌==◌, nat_lt, Bool, if◌then◌else◌, List, [], ◌∷◌, ◌++◌, length, take}
use Rattle.chip_link.specs.declared.trace.TraceRow.{TraceRow}
use Rattle.chip_link.specs.declared.trace.TraceRow.TheVariants as Row
use Rattle.chip_core.specs.Core.{Step, Event, Take, Fire}

-- the row of an event that saw this, if it has one: takes of messages and firings do
abbrev pub row_of : Event → ℕ → List TraceRow
row_of (Take e) seen = if seen == 0 then [] else Row.Take e seen ∷ []
row_of (Fire v k) seen = Row.Fire k ∷ []
row_of _ seen = []

-- the rows of some steps
abbrev pub trace_rows_of : List Step → List TraceRow
trace_rows_of [] = []
trace_rows_of (x ∷ xs) = row_of x.event x.seen ++ trace_rows_of xs

-- a trace: its rows, its capacity, and whether a row was dropped
pub record TraceState : Type 0 where
  pub rows : List TraceRow
  pub room : ℕ
  pub cut : Bool

-- of all these rows the trace has those it has room for, and it is cut if a row was dropped
pub record Keeps (all : List TraceRow) (t : TraceState) : Type 0 where
  pub rows : t.rows ≡ take t.room all
  pub cut : t.cut ≡ nat_lt t.room (length all)
