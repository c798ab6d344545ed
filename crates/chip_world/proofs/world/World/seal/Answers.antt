use Rattle.chip_world.proofs.Names.{◌≡◌, Setting, Seal, Done}
use Rattle.chip_world.proofs.Names.{Log, step, WorldState, StandsForLog, the_view}
use Rattle.chip_world.proofs.StepLemmas.{seal_makes}
use Rattle.chip_world.proofs.world.World.seal.Goals as goal

-- it made one step of every log that the world represents
made : (c : goal.After-from_word) → (g : Setting) (log : Log) → StandsForLog g log (the_view c.self.inside)
    → StandsForLog g (step g log (Seal c.args.edge)).0 (record (the_view c.self.inside) { words = c.seal.new.self })
    × (Done c.from_word.result.claims ≡ (step g log (Seal c.args.edge)).1)
made c g log stands =
    let w : WorldState = the_view c.self.inside in
    rw c.seal.ensures.after (seal_makes g log w stands c.args.edge
    (rw (c.graph_edges.ensures.value, stands.setting) at c.if-edge-graph_edges.false)
    c.from_word.result.claims (rw (c.from_word.ensures.claims, c.seal.ensures.seen)))

pub invariant_of-self : goal.invariant_of-self
invariant_of-self c = let some = c.self.invariant in
    (some.0, (step some.0 some.1 (Seal c.args.edge)).0, (made c some.0 some.1 some.2).0)

pub returns : goal.returns
returns c = λ g log stands. made c g log (rw (← c.self.view_is) at stands)
