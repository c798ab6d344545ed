use Rattle.chip_net.proofs.Names.{◌≡◌, ◌-◌, refl, subst, NetId}
use Rattle.chip_net.proofs.Names.{DoesMore, settles_from}
use Rattle.chip_net.proofs.RootingLemmas.{does_one, does_all, holds_by, stays_over, over_by_end}
use Rattle.chip_net.proofs.root.Root.end.Goals as goal

pub invariant_of-self : goal.invariant_of-self
invariant_of-self c =
    let made = c.make.ensures.made in (
      c.settle_from.ensures.holds (holds_by made (λ e o. refl)
          (rw c.deref_mut-actor.ensures.value c.self.invariant.0)),
      rw (c.settle_from.ensures.settles.record_is, made.record_is, c.deref_mut-actor.ensures.value) c.self.invariant.1,
    )

pub returns-clause-ends : goal.returns-clause-ends
returns-clause-ends c =
    let made = c.make.ensures.made in
    let net : c.make.new.self.net ≡ c.deref_mut-actor.result.now.net = rw made.record_is in
    let rest = subst (λ (n : NetId). DoesMore c.make.new.self c.settle_from.new.self
    (settles_from n.setting 1 (n.setting.game.graph.vertices - 1))) net c.settle_from.ensures.settles in
    rw (← c.self.view_is, ← c.deref_mut-actor.ensures.value) (record {
      ending = does_all (does_one made) rest;
      ended = stays_over c.settle_from.ensures.settles (over_by_end made);
      answers = c.poll_state.ensures;
    })
