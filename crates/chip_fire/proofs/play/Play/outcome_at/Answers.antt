use Rattle.std.proofs.Common.{refl}
use Rattle.chip_fire.proofs.PlayLemmas.{game_played, plays_out}
use Rattle.chip_fire.proofs.play.Play.outcome_at.Goals as goal

pub returns : goal.returns
returns c =
    let play = c.self.inside in
    let begun = c.self.invariant in
    let over = rw (c.graph.ensures.value, c.deref.ensures.value) at c.in_ok-over.ensures in
    rw (← c.self.view_is) (plays_out play.game.now c.graph.ensures.game _
    (game_played _ _ play.game.now.start _ _ begun.in_range begun.on_the_way (rw (← c.self.view_is) at c.requires.rests) _
    c.graph.ensures.game.start_fits refl refl over c.new.ensures.items))

pub over_at-requires-clause-stable : goal.over_at-requires-clause-stable
over_at-requires-clause-stable c = λ is.
    rw (c.graph.ensures.value, c.deref.ensures.value) (rw (is, ← c.self.view_is) at c.requires.course)
