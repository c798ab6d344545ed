use Rattle.chip_file.proofs.JsonNames.{inr, inl, refl}
use Rattle.chip_file.proofs.Texts.{no_utf8}
use Rattle.chip_file.proofs.graph_text.file.file_of_text.Goals as goal

pub returns-in_default : goal.returns-in_default
returns-in_default c = inr (inl (refl, no_utf8 c.args.text.now c.in_default.ensures.cases.0))
