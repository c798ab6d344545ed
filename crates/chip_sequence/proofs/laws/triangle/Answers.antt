use Rattle.std.proofs.Common.{refl, arith, rules}
use Rattle.chip_sequence.proofs.laws.triangle.Goals as goal

pub returns-clause-small_triangle : goal.returns-clause-small_triangle
returns-clause-small_triangle c = record {
  sequence = search (rules, arith);
  counted = refl;
  position = refl;
  by_counts = refl;
  ended = refl;
}

pub returns-clause-one_chip_short : goal.returns-clause-one_chip_short
returns-clause-one_chip_short c = record {
  sequence = search (rules, arith);
  position = refl;
  degrees = refl;
  ended = refl;
}
