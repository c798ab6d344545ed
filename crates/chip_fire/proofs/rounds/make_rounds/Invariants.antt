use Rattle.chip_fire.specs.Rounds.{IsBegun, AreRounds}
use Rattle.chip_fire.proofs.rounds.make_rounds.Given as goal

abbrev pub invariant-loop-made : goal.invariant-loop-made
invariant-loop-made l = record {
  begun : IsBegun l.game l.chips l.fired;
  rounds : AreRounds l.game l.fn.fired l.fired l.made l.fn.turns l.turns;
}
