use Rattle.chip_net.proofs.Names.{◌<◌, subst, NetId}
use Rattle.chip_net.proofs.LayingLemmas.{some_words}
use Rattle.chip_net.proofs.SplittingLemmas.{may_enter}
use Rattle.chip_net.proofs.net.Net.empty_seat.Goals as goal

pub load_new_seat-seat-requires : goal.load_new_seat-seat-requires
load_new_seat-seat-requires c = (some_words _ c.self.invariant.1 c.self.invariant.2, may_enter _ _)

pub returns-clause-some : goal.returns-clause-some
returns-clause-some c =
    subst (λ (n : NetId). 0 < n.table.words) c.self.view_is (some_words _ c.self.invariant.1 c.self.invariant.2)
