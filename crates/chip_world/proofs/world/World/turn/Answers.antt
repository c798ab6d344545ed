use Rattle.chip_world.proofs.Names.{◌<◌, set, sym, ◌∙◌, subst, Setting, Log, StandsForLog}
use Rattle.chip_world.proofs.Names.{IsTurnAfter, the_view}
use Rattle.chip_world.proofs.ActorLemmas.{shows_word, meets_turn, turn_leads}
use Rattle.chip_world.proofs.world.World.turn.Goals.{After-turn}
use Rattle.chip_world.proofs.world.World.turn.Goals as goal

pub fired_word-fired-requires : goal.fired_word-fired-requires
fired_word-fired-requires c =
    let s = rw (← c.self.view_is) at c.requires in
    shows_word s.0 s.1 (the_view c.self.inside) s.2 c.args.vertex s.3 c.index_mut-actor.result.now
    c.index_mut-actor.ensures.value

pub turn-requires : goal.turn-requires
turn-requires c =
    let s = rw (← c.self.view_is) at c.requires in
    meets_turn s.0 s.1 (the_view c.self.inside) s.2 c.args.vertex s.3 c.index_mut-actor.result.now
    c.index_mut-actor.ensures.value c.fired_word-fired.result c.fired_word-fired.ensures

-- the turn was made after every log that the world represents
made : (c : After-turn) → (g : Setting) (log : Log) → StandsForLog g log (the_view c.self.inside)
    → c.args.vertex < g.game.graph.vertices
    → (after : Log) × StandsForLog g after
    (record (the_view c.self.inside) {
      actors = set c.self.inside.actors.items c.args.vertex c.turn.new.self;
      words = c.turn.new.medium.words;
    }) × IsTurnAfter g c.args.vertex log after
made c g log stands inside =
    turn_leads g log (the_view c.self.inside) stands c.args.vertex inside c.index_mut-actor.result.now
    c.index_mut-actor.ensures.value c.fired_word-fired.result c.fired_word-fired.ensures c.turn.new.medium
    c.turn.new.self c.turn.result c.turn.ensures

pub invariant_of-self : goal.invariant_of-self
invariant_of-self c =
    let s = rw (← c.self.view_is) at c.requires in
    let m = made (goal.at.invariant_of-self c).After-turn s.0 s.1 s.2 s.3 in
    (s.0, m.0, m.1)

pub returns : goal.returns
returns c = λ g log stands.
    let some = rw (← c.self.view_is) at c.requires in
    let here = rw (← c.self.view_is) at stands in
    made (goal.at.returns c).After-turn g log here
    (subst (λ (h : Setting). c.args.vertex < h.game.graph.vertices) (sym some.2.setting ∙ here.setting) some.3)
