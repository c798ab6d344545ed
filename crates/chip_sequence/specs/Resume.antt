-- Continuing a play: what a limit or a seal stopped goes on from its chips.
use Rattle.std.specs.Prelude.{◌≡◌, ◌≢◌, ◌⊎◌, ℕ, ◌<◌, ◌≤◌, length, sum, slice_index, Result, Ok, Err}
use Rattle.chip_graph.specs.Limits.{max_total, max_limit}
use Rattle.chip_graph.specs.Multigraph.{Multigraph}
use Rattle.chip_graph.specs.ChipGame.{ChipGame, IsGame}
use Rattle.chip_graph.specs.declared.fault.GameFault.{GameFault}
use Rattle.chip_graph.specs.declared.fault.GameFault.TheVariants as game_fault
use Rattle.chip_sequence.specs.declared.resumed.Resumed.{Resumed}
use Rattle.chip_sequence.specs.Play.{IsPlayed}
use Rattle.chip_sequence.specs.Stages.{max_prior, IsResumed, fired_in_all}
use Rattle.chip_sequence.specs.declared.resumed.ResumeFault.{ResumeFault}
use Rattle.chip_sequence.specs.declared.resumed.ResumeFault.TheVariants.{Mismatch, Total, Limit, Prior, NoMemory}

-- the game that continues from the end of an earlier stage
abbrev pub game_from : Multigraph → Resumed → ℕ → ChipGame
game_from G earlier limit = record { graph = G; start = earlier.outcome.chips.items; limit = limit }

-- v is the least vertex that fired too often in all
pub record IsFirstAbove (earlier : Resumed) (v : ℕ) : Type 0 where
  pub above : max_prior < fired_in_all earlier v
  pub least : (u : ℕ) → u < v → fired_in_all earlier u ≤ max_prior

-- the first fault of continuing, in the order of the fault's variants; memory may run out once the numbers of vertices
-- agree
abbrev pub IsResumeFault : Multigraph → Resumed → ℕ → ResumeFault → Type 0
IsResumeFault G earlier limit Mismatch = length earlier.outcome.chips.items ≢ G.vertices
IsResumeFault G earlier limit Total =
    (length earlier.outcome.chips.items ≡ G.vertices) × (max_total < sum earlier.outcome.chips.items)
IsResumeFault G earlier limit Limit =
    (length earlier.outcome.chips.items ≡ G.vertices) × (sum earlier.outcome.chips.items ≤ max_total)
    × (max_limit < limit)
IsResumeFault G earlier limit (Prior v) = IsGame (game_from G earlier limit) × IsFirstAbove earlier v
IsResumeFault G earlier limit NoMemory = length earlier.outcome.chips.items ≡ G.vertices

-- a fault of the continued game, as one of resuming
abbrev pub resume_fault : GameFault → ResumeFault
resume_fault game_fault.StartLength = Mismatch
resume_fault game_fault.Total = Total
resume_fault game_fault.Limit = Limit

-- some vertex fired too often in all, and the least one is named; or memory ran out
abbrev pub IsPriorFault : Resumed → ResumeFault → Type 0
IsPriorFault earlier fault = (fault ≡ NoMemory) ⊎ ((v : ℕ) × (fault ≡ Prior v) × IsFirstAbove earlier v)

-- the stage that continues an earlier one: the game from its chips, played to its end, and the counts before it
pub record GoesOn (G : Multigraph) (earlier : Resumed) (limit : ℕ) (r : Resumed) : Type 0 where
  pub is_game : IsGame (game_from G earlier limit)
  pub played : IsPlayed (game_from G earlier limit) r.outcome
  pub prior : (v : ℕ) → slice_index r.prior.items v ≡ fired_in_all earlier v
  pub in_range : IsResumed r

-- the result of resuming
abbrev pub Resumes : Multigraph → Resumed → ℕ → Result Resumed ResumeFault → Type 0
Resumes G earlier limit (Ok r) = GoesOn G earlier limit r
Resumes G earlier limit (Err fault) = IsResumeFault G earlier limit fault
