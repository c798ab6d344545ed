use Rattle.std.proofs.Common.{◌≡◌, All}
use Rattle.chip_net_tests.proofs.net.threads.turn_until.Given as goal

abbrev pub invariant-loop : goal.invariant-loop
invariant-loop l = All (λ a. a.net ≡ l.net) l.actors.items
