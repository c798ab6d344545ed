use Rattle.chip_fire.proofs.PlayLemmas.{begun_certified, begun_burnt}
use Rattle.chip_fire.proofs.play.Play.are_certified.Goals as goal

pub returns-then-are_earned-clause-begun : goal.returns-then-are_earned-clause-begun
returns-then-are_earned-clause-begun c is =
    let play = c.self.invariant in
    rw (← c.self.view_is) (begun_certified _ c.are_earned.ensures.game _ c.self.inside.fired.items _
    (rw (← c.self.view_is) at c.requires.counts_each) play.in_range.low_counts play.on_the_way.forced
    (rw (← c.self.view_is) at c.requires.after) (rw c.deref.ensures.value at c.are_earned.ensures.earned.0 c.if-are_earned.true))

pub returns-else-are_earned-clause-begun : goal.returns-else-are_earned-clause-begun
returns-else-are_earned-clause-begun c is =
    let play = c.self.invariant in
    rw (← c.self.view_is) (begun_burnt _ c.are_burnt.ensures.game _ c.self.inside.fired.items _
    (rw (← c.self.view_is) at c.requires.counts_each) play.in_range.low_counts play.on_the_way.forced
    (rw (← c.self.view_is) at c.requires.after) _
    (rw c.deref-else-are_earned.ensures.value at c.are_burnt.ensures.burnt.0 is))
