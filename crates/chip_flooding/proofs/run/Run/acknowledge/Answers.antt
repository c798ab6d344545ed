use Rattle.chip_flooding.proofs.Names.{arith, get_or_read, Ack, allowed}
use Rattle.chip_flooding.proofs.RunLemmas.{Acting, callable, here, runs, goes_on, state_of}
use Rattle.chip_flooding.proofs.run.Run.acknowledge.Goals as goal
use Rattle.chip_flooding.proofs.run.Run.acknowledge.Goals.{After-index_mut-process}

acting : (c : After-index_mut-process) → Acting c.self.inside (Ack c.args.edge (allowed (state_of c.self.inside) c.args.edge))
    c.index-head.result.now c.index_mut-process.result.now
acting c = let edge = rw (← c.self.view_is) at c.requires in
    let at = get_or_read c.self.inside.topology.heads.items c.args.edge _ (omega arith) c.index-head.ensures 0 in search arith

pub acknowledge-requires : goal.acknowledge-requires
acknowledge-requires c = (callable (acting (goal.at.acknowledge-requires c).After-index_mut-process)).0

pub invariant_of-self : goal.invariant_of-self
invariant_of-self c = let a = acting (goal.at.invariant_of-self c).After-index_mut-process in
    let is = rw (here a, a.at) at c.acknowledge.ensures.allowed in goes_on a _ (rw is at c.acknowledge.ensures.notes) (λ z. z)

pub returns-clause-count : goal.returns-clause-count
returns-clause-count c = let a = acting (goal.at.returns-clause-count c).After-index_mut-process in
    rw (← c.self.view_is) (rw (here a, a.at) at c.acknowledge.ensures.allowed)

pub returns-clause-runs : goal.returns-clause-runs
returns-clause-runs c = let a = acting (goal.at.returns-clause-runs c).After-index_mut-process in
    let is = rw (here a, a.at) at c.acknowledge.ensures.allowed in
    rw (← c.self.view_is, is) (runs a _ (rw is at c.acknowledge.ensures.notes) (λ z. z))
