use Rattle.chip_world.proofs.Names.{the_view}
use Rattle.chip_world.proofs.CountedLemmas.{has_books}
use Rattle.chip_world.proofs.world.World.owed.Goals as goal

pub owed-requires : goal.owed-requires
owed-requires c =
    let some = c.self.invariant in
    rw c.detect.ensures
    (has_books some.0 some.1 (the_view c.self.inside) some.2 c.args.edge c.unwrap-head.result c.index.result.now
    (rw c.head.ensures at c.unwrap-head.ensures) c.index.ensures)
