use Rattle.chip_library.proofs.BooksLemmas.{possible_there}
use Rattle.chip_library.proofs.detector.found.Goals as goal

pub returns-else-is_possible : goal.returns-else-is_possible
returns-else-is_possible c are has = absurd (cc (
  c.is_possible.ensures.1 (possible_there c.args.tallies.now c.in-Some.slot are c.in-Some.ensures.0),
  c.if-is_possible.false,
))
