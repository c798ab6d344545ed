use Rattle.std.proofs.Common.{◌≡◌, ◌+◌, ◌*◌, ◌≤◌, true}
use Rattle.chip_fire.specs.Rounds.{GoesRound, firings_left}
use Rattle.chip_fire.specs.Search.{places}
use Rattle.chip_fire.proofs.play.Play.last_rounds.Given as goal

abbrev pub invariant-stretches : goal.invariant-stretches
invariant-stretches g l = record {
  same : l.self.game ≡ l.fn.self.game;
  round : GoesRound l.fn.self.game l.fn.self.fired l.self.chips l.self.fired true;
  at_most : l.made ≤ l.fn.visits + 161 * places l.fn.self.game;
}

abbrev pub decreases-stretches : goal.decreases-stretches
decreases-stretches g l = firings_left l.self.game.graph l.self.game.limit l.self.fired
