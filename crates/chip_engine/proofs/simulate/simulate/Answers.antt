use Rattle.std.proofs.Common.{[], sym, subst}
use Rattle.chip_part.specs.Setting.{Setting}
use Rattle.chip_world.specs.World.{StandsForLog}
use Rattle.chip_engine.proofs.simulate.simulate.Goals as goal

pub run-requires : goal.run-requires
run-requires c =
    let opening = c.in_ok-world.ensures in
    subst (λ (g : Setting). StandsForLog g [] c.in_ok-world.world) (sym opening.setting) opening

pub returns : goal.returns
returns c = rw (c.in_ok-world.ensures.setting, c.deref.ensures.value) at c.run.ensures
