use Rattle.std.proofs.Common.{◌≡◌, drop}
use Rattle.chip_part.specs.Rules.{first_unmet}
use Rattle.chip_part.proofs.rule.first_unmet.Given as goal

abbrev pub invariant-loop-is_met : goal.invariant-loop-is_met
invariant-loop-is_met l = first_unmet l.rules ≡ first_unmet (drop l.is_met-index l.rules)
