use Rattle.chip_world.proofs.Names.{set, Setting, NoSuch, Log, part_of, part_in, step}
use Rattle.chip_world.proofs.Names.{StandsForLog, MakesStep, the_view}
use Rattle.chip_world.proofs.VertexLemmas.{missing}
use Rattle.chip_world.proofs.StepLemmas.{refuses}
use Rattle.chip_world.proofs.ActorLemmas.{maker, shows_word, meets_event, event_leads}
use Rattle.chip_world.proofs.world.World.act.Goals.{After-step}
use Rattle.chip_world.proofs.world.World.act.Goals as goal

pub returns-in_default : goal.returns-in_default
returns-in_default c = λ g log stands.
    refuses g log c.args.self.now stands c.args.event NoSuch
    (missing g c.args.event (part_in g log (part_of g c.args.event))
    (rw stands.setting at c.requires) (rw (c.vertex_of.ensures, stands.setting) at c.in_default.is))

pub fired_word-fired-requires : goal.fired_word-fired-requires
fired_word-fired-requires c =
    let s = c.self.invariant in
    let is = maker s.0 s.1 (the_view c.self.inside) s.2 c.args.event c.in-Some.vertex c.index_mut-actor.result.now
    (rw (c.vertex_of.ensures, ← c.self.view_is) at c.in-Some.is)
    c.index_mut-actor.ensures.value in
    shows_word s.0 s.1 (the_view c.self.inside) s.2 c.in-Some.vertex is.1 c.index_mut-actor.result.now
    c.index_mut-actor.ensures.value

pub step-requires : goal.step-requires
step-requires c =
    let s = c.self.invariant in
    let is = maker s.0 s.1 (the_view c.self.inside) s.2 c.args.event c.in-Some.vertex c.index_mut-actor.result.now
    (rw (c.vertex_of.ensures, ← c.self.view_is) at c.in-Some.is)
    c.index_mut-actor.ensures.value in
    meets_event s.0 s.1 (the_view c.self.inside) s.2 c.in-Some.vertex is.1 c.index_mut-actor.result.now
    c.index_mut-actor.ensures.value c.fired_word-fired.result c.fired_word-fired.ensures c.args.event is.0

-- the event was made after every log that the world represents
made : (c : After-step) → (g : Setting) (log : Log) → StandsForLog g log (the_view c.self.inside)
    → MakesStep g log c.args.event
    (record (the_view c.self.inside) {
      actors = set c.self.inside.actors.items c.in-Some.vertex c.step.new.self;
      words = c.step.new.medium.words;
    }) c.step.result
made c g log stands =
    let is = maker g log (the_view c.self.inside) stands c.args.event c.in-Some.vertex c.index_mut-actor.result.now
    (rw (c.vertex_of.ensures, ← c.self.view_is) at c.in-Some.is)
    c.index_mut-actor.ensures.value in
    event_leads g log (the_view c.self.inside) stands c.in-Some.vertex is.1 c.index_mut-actor.result.now
    c.index_mut-actor.ensures.value c.fired_word-fired.result c.fired_word-fired.ensures c.step.new.medium
    c.step.new.self c.args.event c.step.result is.0 c.step.ensures

pub invariant_of-self : goal.invariant_of-self
invariant_of-self c = let s = c.self.invariant in
    (s.0, (step s.0 s.1 c.args.event).0, (made (goal.at.invariant_of-self c).After-step s.0 s.1 s.2).0)

pub returns : goal.returns
returns c = λ g log stands. made (goal.at.returns c).After-step g log
    (rw (← c.self.view_is) at stands)
