use Rattle.chip_world.proofs.Names.{◌∙◌, sym, eq-eqb, eqb-true, and_parts, and_from, closed_is}
use Rattle.chip_world.proofs.world.World.closed.Goals as goal

pub returns : goal.returns
returns c = λ g log stands.
    let root = (rw (← c.self.view_is) at stands).root_stands in
    let is = c.closed.ensures g _ root in
    let by_deficit = closed_is g log in (
      λ yes. (let both = and_parts _ _ (sym is ∙ yes) in by_deficit.0 (both.1, eqb-true _ 0 both.0)),
      λ all. (let both = by_deficit.1 all in is ∙ and_from _ _ (eq-eqb _ 0 both.1) both.0),
    )
