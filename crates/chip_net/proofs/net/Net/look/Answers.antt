use Rattle.chip_net.proofs.Names.{sym, ap, ◌∙◌, NetId}
use Rattle.chip_net.proofs.LayingLemmas.{some_words}
use Rattle.chip_net.proofs.MeetingLemmas.{may_look}
use Rattle.chip_net.proofs.net.Net.look.Goals as goal

pub load-requires : goal.load-requires
load-requires c = (
  c.requires.seat ∙ sym (ap (λ (n : NetId). n.table) c.self.view_is),
  some_words _ c.self.invariant.1 c.self.invariant.2,
  may_look _ _ _ _ _,
)
