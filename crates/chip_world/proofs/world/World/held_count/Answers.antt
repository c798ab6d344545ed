use Rattle.chip_world.proofs.Names.{◌≡◌, ◌∙◌, ℕ, sym, out_in}
use Rattle.chip_world.proofs.Names.{WorldState, the_view}
use Rattle.chip_world.proofs.HandLemmas.{held_by_vertex, held_by_root, or_none}
use Rattle.chip_world.proofs.world.World.held_count.Goals.{in-Some, in-None}
use Rattle.chip_world.proofs.world.World.held_count.Goals as goal

pub returns : goal.returns
returns c = λ g log old.
    let e : ℕ = c.args.edge in
    let w : WorldState = the_view c.self.inside in
    let stands = rw (← c.self.view_is) at old in
    let inside = rw (← c.self.view_is) at c.requires in
    let here = sym c.tail.ensures in
    let held : c.match-tail.held ≡ (out_in g log e).link.held = elim c.match-tail.branch [
      | in-Some b ↦ b.held-is ∙ held_by_vertex g log w stands e b.held-held.result b.in-Some.tail b.index.result.now
          (here ∙ b.in-Some.is) b.index.ensures b.held-held.ensures
      | in-None b ↦ b.held-is ∙ held_by_root g log w stands e b.held-held-in-None.result (here ∙ b.in-None.is) inside
          b.held-held-in-None.ensures
    ] in
    rw (c.unwrap_or.ensures, or_none c.match-tail.held, held)
