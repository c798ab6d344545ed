use Rattle.chip_actor.proofs.Names.{refl, ◌≡◌, ◌∙◌, ℕ, ◌<◌, false, is_some, arith, length, get_or, put_of, out_on}
use Rattle.chip_actor.proofs.EndLemmas.{out_there, from_more}
use Rattle.chip_actor.proofs.ends.outs.Outs.next_held.Goals.{After-is_some}
use Rattle.chip_actor.proofs.ends.outs.Outs.next_held.Goals as goal

-- the place is one of the list, and the result of the test there
within : (c : After-is_some) → c.loop-next.next < length c.args.self.now.edges
within c = rw (← c.self.view_is) (omega arith)

told : (c : After-is_some) → is_some (put_of (out_on c.args.self.now (get_or c.args.self.now.edges c.loop-next.next 0)).link)
    ≡ c.is_some.result
told c = rw (← out_there c.self.view_is c.self.invariant c.loop-next.next (within c) c.index.ensures)
    (rw (← c.held.ensures.value, c.is_some.ensures) refl)

pub returns-then-is_some : goal.returns-then-is_some
returns-then-is_some c =
    let d = (goal.at.returns-then-is_some c).After-is_some in
    (c.loop-next.auto.next, within d, told d ∙ c.if-is_some.true, c.loop-next.invariant)

pub loop-next-preserved : goal.loop-next-preserved
loop-next-preserved c = from_more
    (λ (k : ℕ). is_some (put_of (out_on c.args.self.now (get_or c.args.self.now.edges k 0)).link) ≡ false) c.args.place
    c.loop-next.next c.loop-next.invariant (told (goal.at.loop-next-preserved c).After-is_some ∙ c.if-is_some.false)
