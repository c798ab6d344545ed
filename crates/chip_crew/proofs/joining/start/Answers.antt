use Rattle.chip_crew.proofs.Names.{crosses, frees, send, sync, Lft, param, IsSend, IsSync, sendable, shr_send}
use Rattle.chip_crew.proofs.Names.{declared_send, RattleType, NamedLft, Lifetime, actor_send, net_crosses, Ghosts}
use Rattle.atomic_table.proofs.shared.Seat.TheSendSync as seat
use Rattle.crossbeam_queue.proofs.array_queue.Slotted.TheSendSync as queue
use Rattle.chip_crew.proofs.shared.Shared.TheSendSync as sharing
use Rattle.chip_crew.specs.declared.plan.Gate as gate
use Rattle.chip_crew.specs.contracts.shared.Shared as shared
use Rattle.chip_crew.specs.contracts.worker.Share as share
use Rattle.chip_crew.specs.contracts.worker.Worker as worker
use Rattle.chip_crew.specs.contracts.worker.WorkerResult as result
use Rattle.chip_crew.proofs.joining.start.Goals as goal

-- a share may go to a thread
share_send : (ν : NamedLft) (B : RattleType) (r : Ghosts B.Denot) → IsSend (share.the_row ν B r)
share_send ν B r = search (crosses, sendable, net_crosses, seat.the_send, queue.the_sync, actor_send, frees, send, sync) depth 60

-- a worker may take its whole task, if its duties may move too
worker_send : (ν : NamedLft) (B G D : RattleType) (r : Ghosts B.Denot) (s : gate.Ghosts G.Denot) → IsSync B → IsSync G
    → IsSend D → IsSend (worker.the_row ν B G D r s)
worker_send ν B G D r s names asks duties =
    let lent = λ (ℓ : Lifetime) (κ : Lft) (μ : NamedLft).
    shr_send ℓ κ (shared.the_row μ B G r s) (search (sharing.the_sync)) in
    declared_send (worker.the_type ν B G D r s) (search (crosses, sendable, lent, share_send, duties))

-- and give all of it back
result_send : (ν : NamedLft) (B D : RattleType) (r : Ghosts B.Denot) → IsSend D → IsSend (result.the_row ν B D r)
result_send ν B D r duties = declared_send (result.the_type ν B D r) (search (crosses, sendable, share_send, duties))

pub spawn_with-requires-send-F : goal.spawn_with-requires-send-F
spawn_with-requires-send-F g c κs within =
    let worker = λ (ν : NamedLft). worker_send ν (param 1 g.row.B) (param 2 g.row.G) (param 3 g.row.D) g.B.Crew g.G.Gate
    c.type_bounds.sync-B c.type_bounds.sync-G c.type_bounds.send-D in search (crosses, sendable, worker) depth 60

pub spawn_with-requires-send-T : goal.spawn_with-requires-send-T
spawn_with-requires-send-T g c κs within =
    let result = λ (ν : NamedLft). result_send ν (param 1 g.row.B) (param 3 g.row.D) g.B.Crew c.type_bounds.send-D in
    search (crosses, sendable, result) depth 60
