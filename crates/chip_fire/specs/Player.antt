-- What the plain player returns.
use Rattle.std.specs.Prelude.{◌≡◌, []}
use Rattle.chip_graph.specs.ChipGame.{ChipGame}
use Rattle.chip_sequence.specs.declared.outcome.Outcome.{Outcome}
use Rattle.chip_sequence.specs.Outcomes.{IsOutcome}
use Rattle.chip_sequence.specs.Play.{IsPlayed, IsEnough}

-- the outcome of a whole play of the game: it can be reported, and no vertex is left over if the limit is enough
pub record PlaysOut (g : ChipGame) (o : Outcome) : Type 0 where
  pub played : IsPlayed g o
  pub in_range : IsOutcome o
  pub not_stopped : IsEnough g → o.over.items ≡ []
