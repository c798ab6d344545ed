use Rattle.std.proofs.Common.{◌≡◌, ◌+◌, ◌*◌, ◌≤◌}
use Rattle.chip_fire.specs.Rounds.{OnlyRise}
use Rattle.chip_fire.specs.Search.{places}
use Rattle.chip_fire.specs.Course.{IsCourse}
use Rattle.chip_fire.proofs.play.Play.steps.Given as goal

abbrev pub invariant-steps : goal.invariant-steps
invariant-steps g l = record {
  same : l.self.game ≡ l.fn.self.game;
  rises : OnlyRise l.fn.self.fired l.self.fired;
  course : IsCourse l.fn.self.game l.self.chips l.self.fired l.course;
  at_most : l.made ≤ l.fn.visits + 160 * places l.fn.self.game;
}
