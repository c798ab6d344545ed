-- The results of a replay.
use Rattle.std.specs.Prelude.{◌≡◌, ℕ, List}
use Rattle.chip_link.specs.declared.trace.TraceRow.{TraceRow}
use Rattle.chip_graph.specs.ChipGame.{ChipGame}
use Rattle.chip_trace.specs.declared.fault.ReplayFault.{ReplayFault}
use Rattle.chip_trace.specs.declared.fault.ReplayFault.TheVariants.{Stuck, NoMemory}
use Rattle.chip_trace.specs.declared.replaying.Replayed.{Replayed}
use Rattle.chip_trace.specs.Interleaving.{Placed, IsInterleaving, trace_of, row_firings}
use Rattle.chip_trace.specs.Progress.{IsStuck}
use Rattle.chip_trace.specs.Left.{left_after}

-- the firings of some interleaving, in its order
abbrev pub AreFirings : ChipGame → List (List TraceRow) → List (ℕ × ℕ) → Type 0
AreFirings g traces fired = (xs : List Placed) × IsInterleaving g traces xs × (fired ≡ row_firings xs)

-- a replay that used all rows: the firings of some interleaving, and what all rows leave, which is the same in each
pub record IsReplayed (g : ChipGame) (traces : List (List TraceRow)) (replayed : Replayed) : Type 0 where
  pub firings : AreFirings g traces replayed.firings.items
  pub left : replayed.left.items ≡ left_after g (trace_of traces)

-- the fault that traces have; memory may run out on any
abbrev pub IsReplayFault : ChipGame → List (List TraceRow) → ReplayFault → Type 0
IsReplayFault g traces (Stuck vertex row) = IsStuck g traces vertex row
IsReplayFault g traces NoMemory = Unit {0}
