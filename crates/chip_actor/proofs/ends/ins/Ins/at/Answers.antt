use Rattle.chip_actor.proofs.Names.{ap, arith, get_or-map, HeadState}
use Rattle.chip_actor.proofs.EndLemmas.{in_there}
use Rattle.chip_actor.proofs.ends.ins.Ins.at.Goals as goal

pub returns-clause-end : goal.returns-clause-end
returns-clause-end c = in_there c.self.view_is c.self.invariant c.args.index c.requires c.index.ensures

pub returns-clause-edge : goal.returns-clause-edge
returns-clause-edge c =
    let within = rw (← c.self.view_is) at c.requires in let one = c.self.invariant.one_each in
    let read = get_or-map (λ (h : HeadState). h.edge) c.self.inside.ends.items c.args.index c.index.result.now 0
    (omega arith) in
    rw (← c.self.view_is, read) (ap (λ (h : HeadState). h.edge) c.index.ensures)
