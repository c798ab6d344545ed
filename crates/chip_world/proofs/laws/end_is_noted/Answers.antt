use Rattle.chip_world.proofs.Names.{refl, cond_yes, saw, does, End, part_in, sees, root}
use Rattle.chip_world.proofs.laws.end_is_noted.Goals as goal

pub returns : goal.returns
returns c = λ g log. (
  rw (cond_yes (root g) (root g) (does g (saw End (sees g log End)) (part_in g log (root g))) (part_in g log (root g))
      refl),
  _,
  refl,
)
