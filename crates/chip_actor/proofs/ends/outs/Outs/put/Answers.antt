use Rattle.chip_actor.proofs.Names.{ap, TailState, out_after_put}
use Rattle.chip_actor.proofs.EndLemmas.{written_out, apart_out, found_out}
use Rattle.chip_actor.proofs.ends.outs.Outs.put.Goals as goal

pub returns-clause-stored : goal.returns-clause-stored
returns-clause-stored c =
    rw (← found_out c.self.view_is c.self.invariant c.requires c.index_mut-out.ensures.value) c.put_value.ensures.value

pub returns-clause-after : goal.returns-clause-after
returns-clause-after c = written_out c.self.view_is c.self.invariant c.requires c.index_mut-out.ensures.value _
    (ap (λ (t : TailState). t.edge) c.put_value.ensures.after) out_after_put
    (ap (λ (t : TailState). record c.index_mut-out.result.now { link = t }) c.put_value.ensures.after)

pub invariant_of-self : goal.invariant_of-self
invariant_of-self c = apart_out c.self.view_is c.self.invariant c.requires c.index_mut-out.ensures.value _
    (ap (λ (t : TailState). t.edge) c.put_value.ensures.after)
