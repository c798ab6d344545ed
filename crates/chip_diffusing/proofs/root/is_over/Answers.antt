use Rattle.std.proofs.Common.{arith}
use Rattle.std.proofs.lemmas.Bool.Decides.{nat_tests}
use Rattle.chip_diffusing.proofs.OrderLemmas.{tells_over}
use Rattle.chip_diffusing.proofs.root.is_over.Goals as goal

pub returns-then-ended-clause-over : goal.returns-then-ended-clause-over
returns-then-ended-clause-over c = λ t. tells_over c.args.books.now c.args.ended c.if-ended.true
    (let is = c.deficit.ensures in grind (arith, nat_tests))
