use Rattle.chip_file.proofs.Names.{sym}
use Rattle.chip_file.proofs.RecordLemmas.{rows_mean}
use Rattle.chip_file.proofs.drops.drops_of_text.Goals as goal

pub returns : goal.returns
returns c = rows_mean _ _ _ _ _ (c.visit_text.ensures c.new.ensures.items) (λ drops h. sym h)
