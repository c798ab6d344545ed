use Rattle.chip_actor.proofs.Names.{refl, ◌≡◌, ◌∙◌, ℕ, ◌<◌, false, not, eqb, ap, arith, length, get_or, ne_eqb}
use Rattle.chip_actor.proofs.Names.{eq-eqb, out_on}
use Rattle.chip_actor.proofs.EndLemmas.{out_there, from_more}
use Rattle.chip_actor.proofs.ends.outs.Outs.next_pending.Goals.{After-index}
use Rattle.chip_actor.proofs.ends.outs.Outs.next_pending.Goals as goal

-- the place is one of the list, and the result of the test there
within : (c : After-index) → c.loop-next.next < length c.args.self.now.edges
within c = rw (← c.self.view_is) (omega arith)

told : (c : After-index) → not (eqb (out_on c.args.self.now (get_or c.args.self.now.edges c.loop-next.next 0)).pending 0)
    ≡ not (eqb c.index.result.now.pending 0)
told c = rw (← out_there c.self.view_is c.self.invariant c.loop-next.next (within c) c.index.ensures) refl

pub returns-then-index-ne0 : goal.returns-then-index-ne0
returns-then-index-ne0 c =
    let d = (goal.at.returns-then-index-ne0 c).After-index in
    (c.loop-next.auto.next, within d, told d ∙ ap not (ne_eqb _ 0 c.if-index-ne0.true), c.loop-next.invariant)

pub loop-next-preserved : goal.loop-next-preserved
loop-next-preserved c = from_more
    (λ (k : ℕ). not (eqb (out_on c.args.self.now (get_or c.args.self.now.edges k 0)).pending 0) ≡ false) c.args.place
    c.loop-next.next c.loop-next.invariant
    (told (goal.at.loop-next-preserved c).After-index ∙ ap not (eq-eqb _ 0 c.if-index-ne0.false))
