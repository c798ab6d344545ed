use Rattle.std.proofs.Common.{refl, arith}
use Rattle.std.proofs.lemmas.List.{take_all}
use Rattle.chip_engine.proofs.explain.list_all.Goals as goal

pub returns : goal.returns
returns c = rw (
  c.in_ok-push_str.ensures.bytes,
  c.loop-row.invariant,
  take_all c.loop-row.row-index c.args.table.now (omega arith),
) refl
