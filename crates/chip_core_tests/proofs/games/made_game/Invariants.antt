use Rattle.std.proofs.Common.{◌≡◌, take, map}
use Rattle.chip_core_tests.specs.Asking.{simple_edge}
use Rattle.chip_core_tests.proofs.games.made_game.Given as goal

abbrev pub invariant-loop-i : goal.invariant-loop-i
invariant-loop-i g l = l.rows.items ≡ map simple_edge (take l.i l.ends)
