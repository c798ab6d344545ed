use Rattle.std.proofs.Common.{refl}
use Rattle.chip_library.specs.PartBooks.{books_of}
use Rattle.chip_library.proofs.BooksLemmas.{all_possible, over_told}
use Rattle.chip_library.proofs.detector.is_over.Goals as goal

pub returns-then-ended-clause-told : goal.returns-then-ended-clause-told
returns-then-ended-clause-told c ins parent sound = over_told (books_of ins c.args.outs.now parent) c.args.ended c.in-Some.deficit
    c.if-ended.true (c.in-Some.ensures.1 sound.outs)

pub returns-in-None-clause-told : goal.returns-in-None-clause-told
returns-in-None-clause-told c ins parent = (refl, λ sound has. c.in-None.ensures (all_possible c.args.outs.now sound.outs))
