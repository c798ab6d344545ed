-- Every fair schedule that seals nothing plays the game: it closes the root, and the outcome is the plain player's.
use Rattle.std.specs.Prelude.{◌≡◌, ℕ, ◌+◌, ◌<◌, false, List, ◌++◌, length}
use Rattle.chip_sequence.specs.declared.outcome.Outcome.{Outcome}
use Rattle.chip_sequence.specs.Play.{IsPlayed}
use Rattle.chip_part.specs.Setting.{Setting}
use Rattle.chip_core.specs.Core.{Log, Event, log_after, IsLegalLog, IsClosed, graph_edges}
use Rattle.chip_core.specs.Messages.{was_sealed}
use Rattle.chip_core.specs.Positions.{played_game}
use Rattle.chip_core.specs.Headline.{NoneHaltedBySeal}
use Rattle.chip_core.specs.Outcomes.{IsOutcomeOf}
use Rattle.chip_core.specs.Laws.{ForEveryLog}
use Rattle.chip_core.specs.Work.{steps_at_most, fed_so_far, AreFiringBounds}
use Rattle.chip_core.specs.Closing.{HasEnd, HasStretches, RootHasPut, HasRounds}

-- no edge was sealed
abbrev pub SealsNone : Log → Type 0
SealsNone log = (e : ℕ) → was_sealed log e ≡ false

-- the root is closed, and the outcome of the log is the plain player's of the game with all that was given
abbrev pub EndsAsPlayed : Setting → Log → Type 0
EndsAsPlayed g log = IsClosed g log × ((o : Outcome) → IsOutcomeOf g log o → IsPlayed (played_game g log) o)

-- if nothing was sealed no seal halted a vertex
abbrev pub UnsealedHaltsNone : Type 0
UnsealedHaltsNone = ForEveryLog (λ g log. SealsNone log → NoneHaltedBySeal g log)

-- a list of events that tries everything often enough, and seals nothing, plays the game
abbrev pub FairSchedulesPlay : Type 0
FairSchedulesPlay = ForEveryLog (λ g log. HasEnd g log → (fired : ℕ → ℕ) → AreFiringBounds g log fired → (n : ℕ)
    → steps_at_most g.game (length (fed_so_far g log)) fired + graph_edges g < n → (xs : List Event) → HasStretches g n log xs
    → SealsNone (log_after g log xs) → EndsAsPlayed g (log_after g log xs))

-- and so do rounds of whole turns
abbrev pub FairRoundsPlay : Type 0
FairRoundsPlay = ForEveryLog (λ g before. HasEnd g before → RootHasPut g before → (fired : ℕ → ℕ)
    → AreFiringBounds g before fired → (n : ℕ) → steps_at_most g.game (length (fed_so_far g before)) fired < n → (xs : Log)
    → IsLegalLog g (xs ++ before) → HasRounds g n before xs → SealsNone (xs ++ before) → EndsAsPlayed g (xs ++ before))
