use Rattle.std.proofs.Common.{◌≡◌, All, length}
use Rattle.chip_net_tests.proofs.net.all_turn.Given as goal

abbrev pub invariant-loop-index : goal.invariant-loop-index
invariant-loop-index l = All (λ a. a.net ≡ l.net) l.actors.items
    × (length l.actors.items ≡ length l.initial.actors.items)
