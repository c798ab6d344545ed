use Rattle.std.proofs.Common.{◌≡◌}
use Rattle.chip_net_tests.proofs.net.feeding.feed_until.Given as goal

abbrev pub invariant-loop : goal.invariant-loop
invariant-loop l = l.root.net ≡ l.net
