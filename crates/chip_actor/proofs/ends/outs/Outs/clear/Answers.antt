use Rattle.chip_actor.proofs.Names.{refl, ◌≡◌, ap, TailState, out_after_clear}
use Rattle.chip_actor.proofs.EndLemmas.{written_out, apart_out, found_out, clear_keeps}
use Rattle.chip_actor.proofs.ends.outs.Outs.clear.Goals.{After-cleared-is_clear}
use Rattle.chip_actor.proofs.ends.outs.Outs.clear.Goals as goal

pub returns-clause-words : goal.returns-clause-words
returns-clause-words c =
    let found = found_out c.self.view_is c.self.invariant c.requires c.index_mut-out.ensures.value in
    rw (c.claim_next.ensures.words, c.cleared-is_clear.ensures.after, ← found) refl

-- the cell does not change which edge it is
keeps : (c : After-cleared-is_clear) → c.cleared-is_clear.new.self.edge ≡ c.index_mut-out.result.now.link.edge
keeps c = rw c.cleared-is_clear.ensures.after (clear_keeps c.args.cell c.index_mut-out.result.now.link)

pub returns-clause-after : goal.returns-clause-after
returns-clause-after c = written_out c.self.view_is c.self.invariant c.requires c.index_mut-out.ensures.value _
    (keeps (goal.at.returns-clause-after c).After-cleared-is_clear) (out_after_clear c.args.cell)
    (ap (λ (t : TailState). record c.index_mut-out.result.now { link = t }) c.cleared-is_clear.ensures.after)

pub invariant_of-self : goal.invariant_of-self
invariant_of-self c = apart_out c.self.view_is c.self.invariant c.requires c.index_mut-out.ensures.value _
    (keeps (goal.at.invariant_of-self c).After-cleared-is_clear)
