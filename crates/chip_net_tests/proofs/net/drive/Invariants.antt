use Rattle.std.proofs.Common.{◌≡◌, All}
use Rattle.chip_net_tests.proofs.net.drive.Given as goal

abbrev pub invariant-loop : goal.invariant-loop
invariant-loop l = (l.root.net ≡ l.net) × All (λ a. a.net ≡ l.net) l.actors.items
