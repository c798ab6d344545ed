use Rattle.chip_flooding.proofs.Names.{get_or_read, Send}
use Rattle.chip_flooding.proofs.RunLemmas.{Acting, callable, runs, goes_on}
use Rattle.chip_flooding.proofs.run.Run.send.Goals as goal
use Rattle.chip_flooding.proofs.run.Run.send.Goals.{After-index_mut}

acting : (c : After-index_mut) → Acting c.self.inside (Send c.args.edge) c.index-tail.result.now c.index_mut.result.now
acting c = let may = rw (← c.self.view_is) at c.requires in let at = get_or_read _ _ _ may.0 c.index-tail.ensures 0 in search

pub sent-requires-clause-out : goal.sent-requires-clause-out
sent-requires-clause-out c = (callable (acting (goal.at.sent-requires-clause-out c).After-index_mut)).0

pub invariant_of-self : goal.invariant_of-self
invariant_of-self c = goes_on (acting (goal.at.invariant_of-self c).After-index_mut) _ c.sent.ensures.sends (λ z. z)

pub returns-clause-runs : goal.returns-clause-runs
returns-clause-runs c =
    rw (← c.self.view_is) (runs (acting (goal.at.returns-clause-runs c).After-index_mut) _ c.sent.ensures.sends (λ z. z))
