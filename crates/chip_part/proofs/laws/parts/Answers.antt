use Rattle.chip_part.proofs.RuleLemmas.{rules_met, met_rules}
use Rattle.chip_part.proofs.PartLemmas.{events_keep}
use Rattle.chip_part.proofs.OpeningLemmas.{opening_keeps}
use Rattle.chip_part.proofs.laws.parts.Goals as goal

pub returns : goal.returns
returns c = record { rules = λ g x s. (rules_met g x s, met_rules g x s); opening = opening_keeps; events = events_keep }
