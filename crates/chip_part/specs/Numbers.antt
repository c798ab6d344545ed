-- The numbers of rules in outputs.
use Rattle.std.specs.Prelude.{ℕ}
use Rattle.chip_part.specs.declared.rule.Rule.{Rule}
use Rattle.chip_part.specs.declared.rule.Rule.TheVariants.{NoSuch, Sink, Halted, Pending, Zero, Limit, NotLegal}
use Rattle.chip_part.specs.declared.rule.Rule.TheVariants.{NothingPending, Refused, Unput, NotCleared, NotClaimed}
use Rattle.chip_part.specs.declared.rule.Rule.TheVariants.{NoCause, NothingOwed, Engaged, NotClosed, Ended, TooMuch}

-- the number of a rule
abbrev pub rule_number : Rule → ℕ
rule_number NoSuch = 1
rule_number Sink = 2
rule_number Halted = 3
rule_number Pending = 4
rule_number Zero = 5
rule_number Limit = 6
rule_number NotLegal = 7
rule_number NothingPending = 8
rule_number Refused = 9
rule_number Unput = 10
rule_number NotCleared = 11
rule_number NotClaimed = 12
rule_number NoCause = 13
rule_number NothingOwed = 14
rule_number Engaged = 15
rule_number NotClosed = 16
rule_number Ended = 17
rule_number TooMuch = 18
