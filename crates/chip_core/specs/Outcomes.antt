-- The outcome of a log whose root is closed.
use Rattle.std.specs.Prelude.{◌≡◌, ℕ, ◌<◌, Bool, true, false, List, length, slice_index, Option, Some, None}
use Rattle.chip_part.specs.Setting.{Setting}
use Rattle.chip_graph.specs.Sums.{filter_below}
use Rattle.chip_sequence.specs.declared.outcome.Outcome.{Outcome}
use Rattle.chip_sequence.specs.Counted.{IsAfter}
use Rattle.chip_sequence.specs.Outcomes.{IsOutcome}
use Rattle.chip_sequence.specs.Play.{IsPlayed}
use Rattle.chip_sequence.specs.Sequence.{position_after, IsFiringSequence, counts, IsWithin}
use Rattle.chip_part.specs.declared.cause.Cause.{Cause}
use Rattle.chip_part.specs.declared.cause.Cause.TheVariants.{SealedEdge, FiringLimit}
use Rattle.chip_core.specs.Core.{Log, part_in, fired_by, is_by_limit, IsClosed}
use Rattle.chip_core.specs.Positions.{chips_given, played_game, firings}
use Rattle.chip_core.specs.Headline.{NoneHaltedBySeal}
use Rattle.chip_core.specs.Laws.{ForEveryLog}

-- a seal is the cause
abbrev pub is_by_seal : Option Cause → Bool
is_by_seal None = false
is_by_seal (Some SealedEdge) = true
is_by_seal (Some FiringLimit) = false

-- this is the cause
abbrev pub is_by : Cause → Option Cause → Bool
is_by SealedEdge h = is_by_seal h
is_by FiringLimit h = is_by_limit h

-- the halted ones of the first vertices for this cause, ascending
abbrev pub halted_by : Setting → Log → Cause → ℕ → List ℕ
halted_by g log cause count = filter_below (λ v. is_by cause (part_in g log v).halt) count

-- how often each of the first vertices fired
pub record AreFired (g : Setting) (log : Log) (count : ℕ) (fired : List ℕ) : Type 0 where
  pub count_is : length fired ≡ count
  pub each : (v : ℕ) → v < count → slice_index fired v ≡ fired_by g log v

-- the outcome of a log: how often each vertex fired, the chips by these counts, and the vertices that halted, each by
-- its cause
pub record IsOutcomeOf (g : Setting) (log : Log) (o : Outcome) : Type 0 where
  pub fired : AreFired g log g.game.graph.vertices o.fired.items
  pub chips : IsAfter (played_game g log) o.fired.items o.chips.items
  pub over : o.over.items ≡ filter_below (λ v. is_by_limit (part_in g log v).halt) g.game.graph.vertices
  pub sealed : o.sealed.items ≡ filter_below (λ v. is_by_seal (part_in g log v).halt) g.game.graph.vertices

-- one thread that fires these vertices in turn from the configuration x, within the limit, reaches the counts and the
-- chips of an outcome
pub record ComesTo (g : Setting) (x : ℕ → ℕ) (vs : List ℕ) (o : Outcome) : Type 0 where
  pub sequence : IsFiringSequence g.game.graph x vs
  pub within : IsWithin g.game.limit vs
  pub counted : (v : ℕ) → slice_index o.fired.items v ≡ counts vs v
  pub position : (v : ℕ) → slice_index o.chips.items v ≡ position_after g.game.graph x vs v

-- the firings made lead from all that was given to the outcome of a log, a report accepts it, and if the root is closed
-- and no seal halted a vertex it is that of every player who starts with all that was given
pub record OutcomeTells (g : Setting) (log : Log) (o : Outcome) : Type 0 where
  pub comes : ComesTo g (chips_given g log) (firings log) o
  pub in_range : IsOutcome o
  pub played : IsClosed g log → NoneHaltedBySeal g log → IsPlayed (played_game g log) o

abbrev pub OutcomesTell : Type 0
OutcomesTell = ForEveryLog (λ g log. (o : Outcome) → IsOutcomeOf g log o → OutcomeTells g log o)
