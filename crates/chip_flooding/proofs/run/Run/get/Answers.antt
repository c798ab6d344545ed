use Rattle.chip_flooding.proofs.Names.{arith, get_or_read, Get}
use Rattle.chip_flooding.proofs.RunLemmas.{Acting, callable, runs, goes_on}
use Rattle.chip_flooding.proofs.run.Run.get.Goals as goal
use Rattle.chip_flooding.proofs.run.Run.get.Goals.{After-index_mut-process}

acting : (c : After-index_mut-process)
    → Acting c.self.inside (Get c.args.edge) c.index-head.result.now c.index_mut-process.result.now
acting c = let may = rw (← c.self.view_is) at c.requires in let edge = may.0 in
    let at = get_or_read c.self.inside.topology.heads.items c.args.edge _ (omega arith) c.index-head.ensures 0 in search

pub got-requires : goal.got-requires
got-requires c = let may = callable (acting (goal.at.got-requires c).After-index_mut-process) in search

pub invariant_of-self : goal.invariant_of-self
invariant_of-self c = goes_on (acting (goal.at.invariant_of-self c).After-index_mut-process) _ c.got.ensures.gets tt

pub returns-clause-runs : goal.returns-clause-runs
returns-clause-runs c =
    rw (← c.self.view_is) (runs (acting (goal.at.returns-clause-runs c).After-index_mut-process) _ c.got.ensures.gets tt)
