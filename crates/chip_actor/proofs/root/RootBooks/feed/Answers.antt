use Rattle.std.proofs.Common.{subst, sym}
use Rattle.chip_part.specs.Rules.{Feed}
use Rattle.chip_actor.specs.Root.{Root, SomeRoot, RootCanDo}
use Rattle.chip_actor.specs.contracts.root.RootBooks.{the_view}
use Rattle.chip_actor.proofs.FeedLemmas.{may_feed, feed_made}
use Rattle.chip_actor.proofs.root.RootBooks.feed.Goals as goal

pub feed-requires-clause-seen : goal.feed-requires-clause-seen
feed-requires-clause-seen c =
    let may = may_feed (the_view c.self.inside) c.args.edge c.args.count c.args.seen
    (subst (λ (r : Root). SomeRoot r (λ g s. RootCanDo g s (Feed c.args.edge c.args.count) c.args.seen))
    (sym c.self.view_is) c.requires) in
    (may.0, may.1)

pub feed-requires-clause-given : goal.feed-requires-clause-given
feed-requires-clause-given c =
    (may_feed (the_view c.self.inside) c.args.edge c.args.count c.args.seen
    (subst (λ (r : Root). SomeRoot r (λ g s. RootCanDo g s (Feed c.args.edge c.args.count) c.args.seen))
    (sym c.self.view_is) c.requires)).2

pub returns : goal.returns
returns c = rw (← c.self.view_is)
    (feed_made (the_view c.self.inside) c.feed.new.self c.args.edge c.args.count c.args.seen c.feed.result
    c.feed.ensures.reply c.feed.ensures.after)
