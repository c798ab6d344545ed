use Rattle.chip_world.proofs.Names.{refl, Setting, Log, Read, step, part_in, WorldState, StandsForLog}
use Rattle.chip_world.proofs.Names.{MakesStep, the_view}
use Rattle.chip_world.proofs.StepLemmas.{root_refuses, read_makes, read_stands}
use Rattle.chip_world.proofs.world.World.read.Goals as goal

pub returns-in-Err : goal.returns-in-Err
returns-in-Err c = λ g log old.
    let stands = rw (← c.self.view_is) at old in
    rw (← c.self.view_is)
    (root_refuses g log (the_view c.self.inside) stands (Read c.args.vertex) refl c.in-Err.rule c.in-Err.ensures)

made : (c : goal.After-apply) → (g : Setting) (log : Log) → StandsForLog g log (the_view c.self.inside)
    → MakesStep g log (Read c.args.vertex) (record (the_view c.self.inside) { root = c.apply.new.self }) c.apply.result
made c g log stands =
    let w : WorldState = the_view c.self.inside in
    let a = read_stands g log w stands c.args.vertex c.in_default.field-0 c.in_default.ensures c.index.result.now
    c.index.ensures in
    read_makes g log w stands c.args.vertex c.in_default.field-0 c.in_default.ensures c.fired_word-fired.result
    (c.fired_word-fired.ensures g (part_in g log c.args.vertex) a) c.apply.new.self c.apply.result c.apply.ensures

pub invariant_of-self : goal.invariant_of-self
invariant_of-self c = let some = c.self.invariant in
    (some.0, (step some.0 some.1 (Read c.args.vertex)).0, (made c some.0 some.1 some.2).0)

pub returns : goal.returns
returns c = λ g log stands. made c g log (rw (← c.self.view_is) at stands)
