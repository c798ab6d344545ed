-- Serves no definition, but a requirement of the kit on values that go to other threads.
-- The tokens of a net may go to other threads, and threads may share the net. The kit derives this for a struct from
-- its fields; a `Snapshot` has it only by a lemma of std, so structs that hold one need it stated here.
use Rattle.chip_net.proofs.Names.{Lifetime, Lft, ShrRef, IsSend, sendable, shr_send, crosses}
use Rattle.std.proofs.sync.atomic.AtomicBool.TheSendSync as flag
use Rattle.std.specs.contracts.sync.atomic.AtomicBool as flag_at
use Rattle.atomic_table.proofs.shared.Seat.TheSendSync as seat
use Rattle.chip_actor.proofs.actor.ActorState.TheSendSync as state
use Rattle.chip_net.proofs.trace.Trace.TheSendSync as trace
use Rattle.chip_net.proofs.net.Net.TheSendSync as shared
use Rattle.chip_actor.proofs.root.RootBooks.TheSendSync as root_state
use Rattle.chip_net.proofs.readings.Readings.TheSendSync as readings
use Rattle.chip_net.specs.contracts.root_actor.RootActor as root_actor
use Rattle.chip_net.specs.contracts.root.Root as root
use Rattle.chip_net.specs.contracts.actor.Owned as owned
use Rattle.chip_net.specs.contracts.actor.Actor as actor
use Rattle.chip_net.specs.contracts.stopper.Stopper as stopper
use Rattle.chip_net.specs.contracts.net.Net as net

pub owned_send : IsSend owned.the_row
owned_send = search (crosses, sendable, seat.the_send, trace.the_send, state.the_send) depth 60

pub actor_send : IsSend actor.the_row
actor_send = search (crosses, sendable, owned_send) depth 60

pub root_actor_send : IsSend root_actor.the_row
root_actor_send = search (crosses, sendable, seat.the_send, root_state.the_send) depth 60

pub root_send : IsSend root.the_row
root_send = search (crosses, sendable, root_actor_send, readings.the_send) depth 60

pub stopper_send : IsSend stopper.the_row
stopper_send = search (crosses, sendable, seat.the_send) depth 60

-- a `&` to the net, and one to a flag
pub net_ref_send : (ℓ : Lifetime) (κ : Lft) → IsSend (ShrRef ℓ κ net.the_row)
net_ref_send ℓ κ = shr_send ℓ κ net.the_row shared.the_sync

pub flag_ref_send : (ℓ : Lifetime) (κ : Lft) → IsSend (ShrRef ℓ κ flag_at.the_row)
flag_ref_send ℓ κ = shr_send ℓ κ flag_at.the_row flag.the_sync

-- for `search`, if the value sent holds tokens
pub ruleset net_crosses = (actor_send, stopper_send, root_send, net_ref_send, flag_ref_send)
