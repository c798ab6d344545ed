use Rattle.chip_crew.proofs.LeadingLemmas.{can_still}
use Rattle.chip_crew.proofs.FeedLemmas.{over_polled}
use Rattle.chip_crew.proofs.leader.LeaderDuties.end_round.Goals as goal

pub returns-in-Running-eq0-clause-can : goal.returns-in-Running-eq0-clause-can
returns-in-Running-eq0-clause-can g c = can_still c.args.net.now c.args.self.now _ _ c.poll.ensures.polls.polling
    c.poll.ensures.same (λ is. over_polled _ _ c.args.self.now.root.net.setting.game.graph.vertices c.poll.ensures.polls.polling (c.requires.can.closed is)) c.requires.can

pub returns-in-Running-clause-can : goal.returns-in-Running-clause-can
returns-in-Running-clause-can g c = can_still c.args.net.now c.args.self.now _ _ c.poll.ensures.polls.polling
    c.poll.ensures.same (λ is. over_polled _ _ c.args.self.now.root.net.setting.game.graph.vertices c.poll.ensures.polls.polling (c.requires.can.closed is)) c.requires.can

pub returns-in-Closed-clause-can : goal.returns-in-Closed-clause-can
returns-in-Closed-clause-can g c = can_still c.args.net.now c.args.self.now _ _ c.poll.ensures.polls.polling
    c.poll.ensures.same (λ is. c.in-Closed.ensures.polls.answers) c.requires.can

-- nothing is outstanding, but the end of feeding is not noted
pub returns-in-Running-eq0-clause-stops : goal.returns-in-Running-eq0-clause-stops
returns-in-Running-eq0-clause-stops g c = λ over.
    let off = c.in-Running-eq0.ensures.polls.answers.1 c.in-Running-eq0.field-0-test in cc

-- something is outstanding
pub returns-in-Running-clause-stops : goal.returns-in-Running-clause-stops
returns-in-Running-clause-stops g c = λ over.
    c.in-Running.deficit-test.1 (rw c.in-Running.ensures.polls.answers.0 over.0)
