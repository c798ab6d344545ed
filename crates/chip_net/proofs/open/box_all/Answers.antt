use Rattle.chip_net.proofs.Names.{arith, append_assoc, append-nil, nil_from_length}
use Rattle.chip_net.proofs.open.box_all.Goals as goal

pub loop-owned-init : goal.loop-owned-init
loop-owned-init c = rw c.into_iter-owned-iterator.ensures.into_iter_gives.0

pub loop-owned-preserved : goal.loop-owned-preserved
loop-owned-preserved c =
    rw (c.in_ok-push.ensures.items, append_assoc, c.in_ok-new.ensures, ← c.in-Some.ensures.steps.0)
    c.loop-owned.invariant

pub returns : goal.returns
returns c =
    let none = c.in-None.ensures.steps.0 in
    let empty = nil_from_length c.loop-owned.owned-iterator.rest.items (omega (arith, none)) in
    rw (empty, append-nil) at c.loop-owned.invariant
