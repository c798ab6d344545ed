use Rattle.chip_actor.specs.contracts.root.RootBooks.{the_view}
use Rattle.chip_actor.proofs.FeedLemmas.{put_made}
use Rattle.chip_actor.proofs.root.RootBooks.put.Goals as goal

pub returns : goal.returns
returns c = rw (← c.self.view_is)
    (put_made (the_view c.self.inside) c.put.new.self c.args.edge c.args.seen c.put.result c.put.ensures.reply
    c.put.ensures.after)
