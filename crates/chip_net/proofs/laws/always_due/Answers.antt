use Rattle.chip_net.proofs.Names.{never_stuck}
use Rattle.chip_net.proofs.laws.always_due.Goals as goal

pub returns : goal.returns
returns c = λ g s kept end not_closed. never_stuck g kept.setting.game kept.setting.some_ring kept.log kept.legal end not_closed
