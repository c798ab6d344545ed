use Rattle.chip_log.proofs.Names.{[], ◌∷◌, ◌++◌, queue_of}
use Rattle.chip_log.proofs.QueuesLemmas.{own, changed}
use Rattle.chip_log.proofs.queues.Queues.push.Goals as goal

pub returns : goal.returns
returns c =
    let here = own (λ q. q.items) c.self.inside.steps.items c.args.self.now c.self.view_is c.args.process c.requires
    c.index_mut-queue.result.now c.index_mut-queue.ensures.value in
    changed (λ q. q.items) c.self.inside.steps.items c.args.self.now c.self.view_is c.args.process c.requires
    c.index_mut-queue.result.now c.index_mut-queue.ensures.value c.push_back.new.self
    (queue_of c.args.self.now c.args.process ++ c.args.step ∷ [])
    (rw here at c.in_ok-push_back.ensures.items)
