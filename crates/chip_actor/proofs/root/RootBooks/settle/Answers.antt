use Rattle.chip_actor.proofs.RootLemmas.{can_settle_at, settle_made_at}
use Rattle.chip_actor.proofs.root.RootBooks.settle.Goals as goal

pub count-requires-clause-vertex : goal.count-requires-clause-vertex
count-requires-clause-vertex c = (can_settle_at c.args.self.now c.args.vertex c.args.seen c.requires).0

pub count-requires-clause-more : goal.count-requires-clause-more
count-requires-clause-more c = (can_settle_at c.args.self.now c.args.vertex c.args.seen c.requires).1

pub count-requires-clause-few : goal.count-requires-clause-few
count-requires-clause-few c = (can_settle_at c.args.self.now c.args.vertex c.args.seen c.requires).2

pub returns : goal.returns
returns c = settle_made_at c.args.self.now c.args.vertex c.args.seen c.count.new.self c.count.result
    c.count.ensures.more c.count.ensures.edges c.count.ensures.settled c.count.ensures.outstanding
    c.count.ensures.feeder
