use Rattle.chip_world.proofs.Names.{deficit_is, part_in, IsActor}
use Rattle.chip_world.proofs.world.World.deficit.Goals as goal

pub returns : goal.returns
returns c = λ g log old.
    let v = c.args.vertex in
    let stands = rw (← c.self.view_is) at old in
    let actor : IsActor g log v c.index.result.now =
    rw c.index.ensures (stands.actors v (rw old.setting at c.requires) c.index.result.now) in
    rw (
      c.deficit.ensures,
      c.detect.ensures,
      deficit_is g (part_in g log v) c.index.result.now actor.stands,
      actor.vertex_is,
    )
