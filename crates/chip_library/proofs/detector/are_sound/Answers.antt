use Rattle.chip_library.proofs.BooksLemmas.{sound_if}
use Rattle.chip_library.proofs.detector.are_sound.Goals as goal

pub returns : goal.returns
returns c = sound_if c.args.tallies.now c.all_open.result c.is_some.result (c.ascend.ensures.0 c.if-not-ascend.false)
    c.all_open.ensures c.is_some.ensures
