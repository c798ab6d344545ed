use Rattle.std.proofs.Common.{refl}
use Rattle.chip_library.proofs.BooksLemmas.{all_possible}
use Rattle.chip_library.proofs.detector.deficit.Goals as goal

pub returns-in-Some-clause-told : goal.returns-in-Some-clause-told
returns-in-Some-clause-told c ins parent sound = (tt, c.in-Some.ensures.1 sound.outs)

pub returns-in-None-clause-told : goal.returns-in-None-clause-told
returns-in-None-clause-told c ins parent = (refl, λ sound has. c.in-None.ensures (all_possible c.args.outs.now sound.outs))
