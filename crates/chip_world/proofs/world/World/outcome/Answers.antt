use Rattle.chip_world.proofs.Names.{comes, in_range, is_played}
use Rattle.chip_world.proofs.world.World.outcome.Goals as goal

pub chips_after-requires : goal.chips_after-requires
chips_after-requires c = λ g log stands. rw c.deref.ensures.value (c.in_ok-fired.ensures g log stands)

pub returns-clause-closed : goal.returns-clause-closed
returns-clause-closed c = λ g log stands. (c.closed.ensures g log stands).0 c.if-not-closed.false

pub returns-clause-outcome : goal.returns-clause-outcome
returns-clause-outcome c = λ g log stands. record {
  fired = c.in_ok-fired.ensures g log stands;
  chips = rw c.deref.ensures.value at (c.in_ok-chips.ensures.chips g log stands);
  over = c.in_ok-halted_by.ensures g log stands;
  sealed = c.in_ok-halted_by-2.ensures g log stands;
}

pub returns-clause-in_range : goal.returns-clause-in_range
returns-clause-in_range c =
    let some = c.chips_after.ensures.some in
    in_range some.0 some.2.is_setting.game some.2.is_setting.some_ring some.1 some.2.legal _
    (returns-clause-outcome c some.0 some.1 some.2)

pub returns-clause-comes : goal.returns-clause-comes
returns-clause-comes c = λ g log stands. comes g stands.is_setting.game stands.is_setting.some_ring log stands.legal _
    (returns-clause-outcome c g log stands)

pub returns-clause-played : goal.returns-clause-played
returns-clause-played c = λ g log stands no_seal. is_played g stands.is_setting.game stands.is_setting.some_ring log
    stands.legal _ (returns-clause-outcome c g log stands) (returns-clause-closed c g log stands) no_seal
