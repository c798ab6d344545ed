use Rattle.chip_flooding.proofs.Names.{get_or_read, Settle}
use Rattle.chip_flooding.proofs.RunLemmas.{Acting, callable, runs, goes_on}
use Rattle.chip_flooding.proofs.run.Run.settle.Goals as goal
use Rattle.chip_flooding.proofs.run.Run.settle.Goals.{After-index_mut}

acting : (c : After-index_mut)
    → Acting c.self.inside (Settle c.args.edge c.args.word) c.index-tail.result.now c.index_mut.result.now
acting c = let may = rw (← c.self.view_is) at c.requires in let at = get_or_read _ _ _ may.0 c.index-tail.ensures 0 in search

pub settled-requires : goal.settled-requires
settled-requires c = let may = callable (acting (goal.at.settled-requires c).After-index_mut) in search

pub invariant_of-self : goal.invariant_of-self
invariant_of-self c = goes_on (acting (goal.at.invariant_of-self c).After-index_mut) _
    (rw c.settled.ensures.more at c.settled.ensures.settles) (λ z. z)

pub returns : goal.returns
returns c = rw (← c.self.view_is) (runs (acting (goal.at.returns c).After-index_mut) _
    (rw c.settled.ensures.more at c.settled.ensures.settles) (λ z. z))
