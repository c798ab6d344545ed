use Rattle.chip_world.proofs.Names.{◌≡◌, true, Setting, is_of_root, Log, Event, step}
use Rattle.chip_world.proofs.Names.{WorldState, StandsForLog, MakesStep, the_view}
use Rattle.chip_world.proofs.StepLemmas.{root_refuses, root_can_perform, root_can_apply, root_makes}
use Rattle.chip_world.proofs.world.World.of_root.Goals as goal

-- the event is the root's in every setting that the world represents
own : (x : Event) (g : Setting) (log : Log) (old inside : WorldState) → inside ≡ old → StandsForLog g log inside
    → is_of_root old.setting x ≡ true → is_of_root g x ≡ true
own x g log old inside view stands is = rw (← view, stands.setting) at is

pub perform-seen-requires : goal.perform-seen-requires
perform-seen-requires c =
    let some = c.self.invariant in
    let mine = own c.args.event some.0 some.1 c.args.self.now (the_view c.self.inside) c.self.view_is some.2
    c.requires.root in
    root_can_perform some.0 some.1 (the_view c.self.inside) some.2 c.args.event mine c.requires.act c.in-Ok.act
    c.in-Ok.ensures

pub apply-requires : goal.apply-requires
apply-requires c =
    let some = c.self.invariant in
    let mine = own c.args.event some.0 some.1 c.args.self.now (the_view c.self.inside) c.self.view_is some.2
    c.requires.root in
    root_can_apply some.0 some.1 (the_view c.self.inside) some.2 c.args.event mine c.requires.act c.in-Ok.act
    c.in-Ok.ensures c.perform-seen.result c.perform-seen.ensures.seen

-- it made one step of every log that the world represents
made : (c : goal.After-apply) → (g : Setting) (log : Log) → StandsForLog g log (the_view c.self.inside)
    → MakesStep g log c.args.event
    (record (the_view c.self.inside) { words = c.perform-seen.new.self; root = c.apply.new.self }) c.apply.result
made c g log stands =
    let w : WorldState = the_view c.self.inside in
    let mine = own c.args.event g log c.args.self.now w c.self.view_is stands c.requires.root in
    rw c.perform-seen.ensures.after
    (root_makes g log w stands c.args.event mine c.requires.act c.in-Ok.act c.in-Ok.ensures c.perform-seen.result
    c.perform-seen.ensures.seen c.apply.new.self c.apply.result c.apply.ensures)

pub invariant_of-self : goal.invariant_of-self
invariant_of-self c = let some = c.self.invariant in
    (some.0, (step some.0 some.1 c.args.event).0, (made c some.0 some.1 some.2).0)

pub returns-in-Ok : goal.returns-in-Ok
returns-in-Ok c = λ g log stands. made c g log (rw (← c.self.view_is) at stands)

pub returns-in-Err : goal.returns-in-Err
returns-in-Err c = λ g log old.
    let w : WorldState = the_view c.self.inside in
    let stands = rw (← c.self.view_is) at old in
    let mine = own c.args.event g log c.args.self.now w c.self.view_is stands c.requires.root in
    rw (← c.self.view_is) (root_refuses g log w stands c.args.event mine c.in-Err.rule c.in-Err.ensures)
