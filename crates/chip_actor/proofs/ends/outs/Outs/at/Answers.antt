use Rattle.chip_actor.proofs.Names.{ap, arith, get_or-map, OutEnd}
use Rattle.chip_actor.proofs.EndLemmas.{out_there}
use Rattle.chip_actor.proofs.ends.outs.Outs.at.Goals as goal

pub returns-clause-end : goal.returns-clause-end
returns-clause-end c = out_there c.self.view_is c.self.invariant c.args.index c.requires c.index.ensures

pub returns-clause-edge : goal.returns-clause-edge
returns-clause-edge c =
    let within = rw (← c.self.view_is) at c.requires in let one = c.self.invariant.one_each in
    let read = get_or-map (λ (o : OutEnd). o.link.edge) c.self.inside.ends.items c.args.index c.index.result.now 0
    (omega arith) in
    rw (← c.self.view_is, read) (ap (λ (o : OutEnd). o.link.edge) c.index.ensures)
