use Rattle.chip_library.proofs.KeptLemmas.{whole_play}
use Rattle.chip_library.proofs.kept.KeptPile.play.Goals as goal

pub returns-in-Ok : goal.returns-in-Ok
returns-in-Ok c = whole_play c.args.self c.play_some-kept.result.0 _ (rw c.in-Ok.is at c.play_some-kept.ensures)
