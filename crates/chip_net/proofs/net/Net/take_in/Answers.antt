use Rattle.chip_net.proofs.Names.{sym, ap, ◌∙◌, NetId}
use Rattle.chip_net.proofs.LayingLemmas.{some_words}
use Rattle.chip_net.proofs.SplittingLemmas.{takes_in}
use Rattle.chip_net.proofs.net.Net.take_in.Goals as goal

pub join_seat-requires : goal.join_seat-requires
join_seat-requires c =
    let here = sym (ap (λ (n : NetId). n.table) c.self.view_is) in (
      c.requires.seat ∙ here,
      c.requires.other.0 ∙ here,
      c.requires.other.1,
      some_words _ c.self.invariant.1 c.self.invariant.2,
      takes_in _ _ _ c.requires.part.0 _ _ c.requires.part.1,
    )
