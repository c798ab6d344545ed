use Rattle.std.proofs.Common.{◌≤◌}
use Rattle.chip_guess.proofs.search.Search.go_on.Given as goal

abbrev pub invariant-steps : goal.invariant-steps
invariant-steps l = record { more : l.fn.visits ≤ l.visits; at_most : l.visits ≤ l.most }
