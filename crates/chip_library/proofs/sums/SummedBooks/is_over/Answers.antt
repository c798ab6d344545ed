use Rattle.chip_library.specs.Sums.{summed_of}
use Rattle.chip_library.proofs.SumsLemmas.{over_in_sums}
use Rattle.chip_library.proofs.sums.SummedBooks.is_over.Goals as goal

pub returns-then-ended : goal.returns-then-ended
returns-then-ended c = over_in_sums (summed_of c.args.self.now) c.args.ended c.if-ended.true
