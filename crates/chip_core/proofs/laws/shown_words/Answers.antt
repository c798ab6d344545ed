use Rattle.chip_core.proofs.ShowingLemmas.{operations_find, words_go_on}
use Rattle.chip_core.proofs.laws.shown_words.Goals as goal

pub returns : goal.returns
returns c = record { find = operations_find; go_on = words_go_on }
