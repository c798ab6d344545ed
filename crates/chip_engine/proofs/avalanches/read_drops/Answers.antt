use Rattle.chip_command.proofs.InputLemmas.{at_some}
use Rattle.chip_engine.proofs.DropLemmas.{drops_vertices}
use Rattle.chip_engine.proofs.avalanches.read_drops.Goals as goal

pub returns : goal.returns
returns g c =
    let named =
    rw (c.vertices.ensures.value, c.graph.ensures.value, c.deref.ensures.value) at c.in_ok-drops.ensures in (
      (λ text text_is. let read = at_some _ _ text text_is c.in_ok-text.ensures.known in (read.0, rw read.1 at named)),
      drops_vertices c.args.game.now.graph.vertices c.in_ok-text.text.items c.in_ok-drops.drops.items named,
      rw c.deref-2.ensures.value at (c.has_room.ensures.0 c.if-not-has_room.false),
    )
