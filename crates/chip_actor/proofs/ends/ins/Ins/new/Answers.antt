use Rattle.chip_actor.proofs.Names.{◌≡◌, map, refl, take_all, HeadState, new_head}
use Rattle.chip_actor.proofs.EndLemmas.{made_numbers, named_apart}
use Rattle.chip_actor.proofs.ends.ins.Ins.new.Goals.{After-loop-edge}
use Rattle.chip_actor.proofs.ends.ins.Ins.new.Goals as goal

-- each number has its end
made : (c : After-loop-edge) → c.loop-edge.ends.items ≡ map (λ e. new_head e c.args.ring) c.args.numbers.now
made c = rw (← take_all c.loop-edge.edge-index c.args.numbers.now c.loop-edge-test.false) c.loop-edge.invariant

-- and is its number
numbers : (c : After-loop-edge) → map (λ (h : HeadState). h.edge) c.loop-edge.ends.items ≡ c.args.numbers.now
numbers c = rw (made c)
    (made_numbers (λ (h : HeadState). h.edge) (λ e. new_head e c.args.ring) (λ e. refl) c.args.numbers.now)

pub invariant_of-result : goal.invariant_of-result
invariant_of-result c = named_apart (λ (h : HeadState). h.edge) c.loop-edge.ends.items c.args.numbers.now
    (numbers (goal.at.invariant_of-result c).After-loop-edge) c.requires

pub returns-clause-edges : goal.returns-clause-edges
returns-clause-edges c = numbers (goal.at.returns-clause-edges c).After-loop-edge

pub returns-clause-ends : goal.returns-clause-ends
returns-clause-ends c = made (goal.at.returns-clause-ends c).After-loop-edge
