use Rattle.chip_log.proofs.Names.{drop, queue_of}
use Rattle.chip_log.proofs.QueuesLemmas.{own, changed}
use Rattle.chip_log.proofs.queues.Queues.pop.Goals as goal

pub returns : goal.returns
returns c =
    let here = own (λ q. q.items) c.self.inside.steps.items c.args.self.now c.self.view_is c.args.process c.requires
    c.index_mut-queue.result.now c.index_mut-queue.ensures.value in
    changed (λ q. q.items) c.self.inside.steps.items c.args.self.now c.self.view_is c.args.process c.requires
    c.index_mut-queue.result.now c.index_mut-queue.ensures.value c.pop_front.new.self
    (drop 1 (queue_of c.args.self.now c.args.process))
    (rw here at c.pop_front.ensures.rest)
