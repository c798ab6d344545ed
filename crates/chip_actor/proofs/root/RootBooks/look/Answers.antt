use Rattle.chip_actor.specs.contracts.root.RootBooks.{the_view}
use Rattle.chip_actor.proofs.FeedLemmas.{look_made}
use Rattle.chip_actor.proofs.root.RootBooks.look.Goals as goal

pub returns : goal.returns
returns c = rw (← c.self.view_is)
    (look_made (the_view c.self.inside) c.look.new.self c.args.edge c.args.seen c.look.result c.look.ensures.reply
    c.look.ensures.after)
