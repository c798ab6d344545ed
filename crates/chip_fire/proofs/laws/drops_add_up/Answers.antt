use Rattle.chip_fire.proofs.DropLemmas.{drops_add_up}
use Rattle.chip_fire.proofs.laws.drops_add_up.Goals as goal

pub returns : goal.returns
returns c = drops_add_up
