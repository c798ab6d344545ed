use Rattle.chip_net.proofs.Names.{◌≡◌, ◌++◌}
use Rattle.chip_net.proofs.open.box_all.Given as goal

abbrev pub invariant-loop-owned : goal.invariant-loop-owned
invariant-loop-owned l = l.actors.items ++ l.owned-iterator.rest.items ≡ l.initial.actors.items ++ l.fn.run.items
