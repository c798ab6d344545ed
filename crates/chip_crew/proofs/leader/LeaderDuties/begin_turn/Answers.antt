use Rattle.chip_crew.proofs.Names.{option_copied}
use Rattle.chip_crew.proofs.FeedLemmas.{once_goes_on, over_fed}
use Rattle.chip_crew.proofs.LeadingLemmas.{seal_stays}
use Rattle.chip_crew.proofs.leader.LeaderDuties.begin_turn.Goals as goal

pub returns-clause-can : goal.returns-clause-can
returns-clause-can c = record {
  net_is = c.feed_once.ensures.net;
  may = (once_goes_on (option_copied c.args.self.now.feeds) (option_copied c.feed_once.new.left) c.args.self.now.root
      c.feed_once.new.root c.feed_once.ensures.fed).may c.requires.can.may;
  seal = seal_stays c.args.net.now c.args.turn c.args.self.now.seal c.seal_before.new.seal c.seal_before.ensures
      c.requires.can.seal;
  closed = λ is. over_fed (option_copied c.args.self.now.feeds) (option_copied c.feed_once.new.left) c.args.self.now.root
      c.feed_once.new.root c.requires.can.may c.feed_once.ensures.fed (c.requires.can.closed is);
}
