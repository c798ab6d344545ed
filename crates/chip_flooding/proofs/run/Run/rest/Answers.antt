use Rattle.chip_flooding.proofs.Names.{refl, Work}
use Rattle.chip_flooding.proofs.RunLemmas.{Acting, goes_on}
use Rattle.chip_flooding.proofs.run.Run.rest.Goals as goal

pub invariant_of-self : goal.invariant_of-self
invariant_of-self c = let may = rw (← c.self.view_is) at c.requires in
    let a : Acting c.self.inside (Work c.args.part) c.args.part c.index_mut.result.now = search in goes_on a _ refl (λ _. refl)
