-- What becomes of counts that are given to a play.
use Rattle.std.specs.Prelude.{◌≡◌, ℕ, ◌<◌, ◌≤◌, List, length, slice_index}
use Rattle.chip_graph.specs.ChipGame.{ChipGame}
use Rattle.chip_fire.specs.Rounds.{IsAtRest}
use Rattle.chip_fire.specs.declared.watch.GivenUse.{GivenUse}
use Rattle.chip_fire.specs.declared.watch.GivenUse.TheVariants.{Certified, PlayedOn, Lowered, Dropped}

-- each vertex has fired as often as was given
abbrev pub TakesAll : (given fired : List ℕ) → Type 0
TakesAll given fired = (v : ℕ) → v < length fired → slice_index given v ≡ slice_index fired v

-- no vertex has fired
abbrev pub TakesNone : List ℕ → Type 0
TakesNone fired = (v : ℕ) → v < length fired → slice_index fired v ≡ 0

-- no vertex has fired more often than was given
abbrev pub IsBelow : (given fired : List ℕ) → Type 0
IsBelow given fired = (v : ℕ) → slice_index fired v ≤ slice_index given v

-- what became of given counts, by the chips and counts with which the play begins
abbrev pub IsUse : ChipGame → (given chips fired : List ℕ) → GivenUse → Type 0
IsUse g given chips fired Certified = TakesAll given fired × IsAtRest g chips fired
IsUse g given chips fired PlayedOn = TakesAll given fired × (IsAtRest g chips fired → ⊥)
IsUse g given chips fired Lowered = (TakesAll given fired → ⊥) × (TakesNone fired → ⊥)
IsUse g given chips fired Dropped = (TakesAll given fired → ⊥) × TakesNone fired
