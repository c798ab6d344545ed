use Rattle.chip_detect.specs.Books.{owed, all_owed, deficit}
use Rattle.chip_detect.proofs.AllowedLemmas.{within_owed}
use Rattle.chip_detect.proofs.laws.no_more_than_owed.Goals as goal

pub returns : goal.returns
returns c b e passive = within_owed e b.parent (owed b e) (all_owed b) (deficit b) passive
