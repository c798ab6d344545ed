use Rattle.std.proofs.Common.{sym, ◌∙◌}
use Rattle.chip_fire.proofs.ListedLemmas.{none_listed}
use Rattle.chip_fire.proofs.play.over_at.Goals as goal

pub returns-in-Stable : goal.returns-in-Stable
returns-in-Stable c = c.new.ensures.items ∙ sym (none_listed _ _ (c.requires.stable c.in-Stable.is))
