use Rattle.chip_file.proofs.JsonNames.{None, inl, refl}
use Rattle.chip_file.proofs.graph_text.file.Parts.new.Goals as goal

pub returns : goal.returns
returns c = λ most. inl (refl, None, None, None, None, refl, refl, refl, refl, tt)
