use Rattle.std.proofs.Common.{arith}
use Rattle.std.proofs.lemmas.Grind.{common_steps}
use Rattle.chip_fire.proofs.DropLemmas.{all_supported}
use Rattle.chip_fire.proofs.avalanche.play_out.Goals as goal

pub returns-clause-support : goal.returns-clause-support
returns-clause-support g c = all_supported _ _ _ c.list_all.new.support.items _
    (grind (arith, common_steps, c.list_all.ensures.each)) (omega arith) c.list_all.ensures.all
