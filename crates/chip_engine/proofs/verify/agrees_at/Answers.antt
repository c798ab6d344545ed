use Rattle.std.proofs.Common.{rules}
use Rattle.chip_engine.proofs.verify.agrees_at.Goals as goal

pub returns : goal.returns
returns c = (
  λ e. record {
    fired = (c.has_numbers.ensures.0 (search rules)).0;
    chips = (c.has_numbers.ensures.0 (search rules)).1;
    over = rw (c.deref.ensures.value, c.deref-2.ensures.value) at (c.stands_alike.ensures.0 (search rules));
    sealed = rw (c.deref-3.ensures.value, c.deref-4.ensures.value) at (c.stands_alike-2.ensures.0 e);
  },
  λ same. c.stands_alike-2.ensures.1 (rw (c.deref-3.ensures.value, c.deref-4.ensures.value) same.sealed),
)
