use Rattle.std.proofs.Common.{◌≤◌, drop}
use Rattle.chip_core_tests.proofs.ActorAskLemmas.{IsTurning}
use Rattle.chip_core_tests.proofs.actor.make_turn.Given as goal

abbrev pub invariant-loop-i : goal.invariant-loop-i
invariant-loop-i g l = record { few : l.counted ≤ l.i; turning : IsTurning l.actor l.cursor (drop l.i l.turn) }
