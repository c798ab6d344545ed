use Rattle.std.proofs.Common.{length}
use Rattle.chip_guess.proofs.cycle.+v_cycle.Given as goal

abbrev pub decreases-v_cycle : goal.decreases-v_cycle
decreases-v_cycle l = length l.problems.now
