use Rattle.std.proofs.Common.{◌≤◌}
use Rattle.chip_guess.proofs.hierarchy.Hierarchy.coarsen.Given as goal

abbrev pub invariant-levels : goal.invariant-levels
invariant-levels l = record { more : l.fn.visits ≤ l.visits; at_most : l.visits ≤ l.most }
