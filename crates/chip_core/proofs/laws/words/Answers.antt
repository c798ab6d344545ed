use Rattle.chip_core.proofs.NumberLemmas.{cells, words_tell, seals_stand_law}
use Rattle.chip_core.proofs.laws.words.Goals as goal

pub returns : goal.returns
returns c = record { cells = cells; words = words_tell; seals = seals_stand_law }
