use Rattle.chip_net.proofs.Names.{refl, ◌∙◌}
use Rattle.chip_net.proofs.root.Root.new.Goals as goal

pub invariant_of-result : goal.invariant_of-result
invariant_of-result c =
    let actor = c.in_ok-new-4.ensures.ok ∙ c.in_ok-new-3.ensures in (
      rw actor (λ v l. refl),
      rw (c.in_ok-new-2.ensures.ok, c.in_ok-new.ensures, c.vertices.ensures.value, actor) refl,
    )
