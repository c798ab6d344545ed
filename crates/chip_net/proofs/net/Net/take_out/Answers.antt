use Rattle.chip_net.proofs.Names.{refl, eq-eqb, sym, ap, ◌∙◌, NetId, did_in}
use Rattle.chip_net.proofs.LayingLemmas.{some_words}
use Rattle.chip_net.proofs.SplittingLemmas.{takes_out}
use Rattle.chip_net.proofs.ViewingLemmas.{dropped_here, dropped_else, taken_alone}
use Rattle.chip_net.proofs.net.Net.take_out.Goals as goal

pub split_seat-requires : goal.split_seat-requires
split_seat-requires g c = (
  c.requires.seat ∙ sym (ap (λ (n : NetId). n.table) c.self.view_is),
  some_words _ c.self.invariant.1 c.self.invariant.2,
  takes_out _ _ g.J.OnePart.part _ _ c.requires.part,
)

pub returns-clause-gone : goal.returns-clause-gone
returns-clause-gone g c =
    rw c.split_seat.ensures.2 (dropped_here g.J.OnePart.part c.args.seat.now.me.0.parts)

pub returns-clause-others : goal.returns-clause-others
returns-clause-others g c p other =
    rw c.split_seat.ensures.2 (dropped_else g.J.OnePart.part p c.args.seat.now.me.0.parts other)

pub returns-clause-given : goal.returns-clause-given
returns-clause-given g c = (
  c.split_seat.ensures.3,
  rw (c.split_seat.ensures.4, c.requires.part, eq-eqb g.J.OnePart.part g.J.OnePart.part refl),
)

pub returns-clause-alone : goal.returns-clause-alone
returns-clause-alone g c =
    let part = g.J.OnePart.part in let v = c.args.seat.now.me.0 in
    rw c.split_seat.ensures.4 (taken_alone part v (did_in part v) c.requires.part, refl)
