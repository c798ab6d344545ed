use Rattle.chip_actor.proofs.Names.{◌≡◌, head_after_take, in_on}
use Rattle.chip_actor.proofs.EndLemmas.{found_in, written_in, apart_in, take_keeps}
use Rattle.chip_actor.proofs.ends.ins.Ins.take.Goals.{After-index_mut-end, After-taken}
use Rattle.chip_actor.proofs.ends.ins.Ins.take.Goals as goal

-- the end that was found is the edge's
is : (c : After-index_mut-end) → c.index_mut-end.result.now ≡ in_on c.args.self.now c.args.slot.edge
is c = found_in c.self.view_is c.self.invariant c.requires.slot c.index_mut-end.ensures.value

pub taken-requires : goal.taken-requires
taken-requires c = rw (is c) c.requires.few

pub returns-clause-message : goal.returns-clause-message
returns-clause-message c = rw (← is (goal.at.returns-clause-message c).After-index_mut-end) c.taken.ensures.message

-- a take does not change which edge it is
keeps : (c : After-taken) → c.taken.new.self.edge ≡ c.index_mut-end.result.now.edge
keeps c = rw c.taken.ensures.after (take_keeps c.args.cell c.index_mut-end.result.now)

pub returns-clause-after : goal.returns-clause-after
returns-clause-after c = written_in c.self.view_is c.self.invariant c.requires.slot c.index_mut-end.ensures.value _
    (keeps (goal.at.returns-clause-after c).After-taken) (head_after_take c.args.cell) c.taken.ensures.after

pub invariant_of-self : goal.invariant_of-self
invariant_of-self c = apart_in c.self.view_is c.self.invariant c.requires.slot c.index_mut-end.ensures.value _
    (keeps (goal.at.invariant_of-self c).After-taken)
