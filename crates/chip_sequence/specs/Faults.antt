-- The refusals of a configuration by counts, and the numbers of faults in the table of faults.
use Rattle.std.specs.Prelude.{ℕ, List, slice_index, Option, Some, None}
use Rattle.chip_graph.specs.declared.fault.GameFault.TheVariants as game
use Rattle.chip_graph.specs.FaultNumbers.{game_fault_number}
use Rattle.chip_graph.specs.ChipGame.{ChipGame}
use Rattle.chip_sequence.specs.declared.counted.AfterFault.{AfterFault}
use Rattle.chip_sequence.specs.declared.counted.AfterFault.TheVariants.{Negative, NoMemory}
use Rattle.chip_sequence.specs.declared.resumed.ResumeFault.{ResumeFault}
use Rattle.chip_sequence.specs.declared.resumed.ResumeFault.TheVariants as resume
use Rattle.chip_sequence.specs.Counted.{IsLeastBelowZero}

-- some vertex is below 0 by these counts, and the fault names the least one
abbrev pub IsNegative : ChipGame → List ℕ → AfterFault → Type 0
IsNegative g fired (Negative v) = IsLeastBelowZero g.graph (slice_index g.start) (slice_index fired) v
IsNegative g fired NoMemory = ⊥

-- the same, or memory ran out
abbrev pub IsNegativeOrMemory : ChipGame → List ℕ → AfterFault → Type 0
IsNegativeOrMemory g fired (Negative v) = IsLeastBelowZero g.graph (slice_index g.start) (slice_index fired) v
IsNegativeOrMemory g fired NoMemory = Unit {0}

-- the number of a refusal of a configuration by counts
abbrev pub after_fault_number : AfterFault → ℕ
after_fault_number (Negative v) = 41
after_fault_number NoMemory = 90

-- the number of a fault of resuming; those of a total and of a limit that are too large are a game's
abbrev pub resume_fault_number : ResumeFault → ℕ
resume_fault_number resume.Mismatch = 52
resume_fault_number resume.Total = game_fault_number game.Total
resume_fault_number resume.Limit = game_fault_number game.Limit
resume_fault_number (resume.Prior vertex) = 51
resume_fault_number resume.NoMemory = 90

-- the vertex that a fault of resuming names
abbrev pub resume_fault_place : ResumeFault → Option ℕ
resume_fault_place (resume.Prior vertex) = Some vertex
resume_fault_place _ = None
