use Rattle.std.proofs.Common.{◌≡◌, ◌+◌, ◌<◌, false, sum, take, drop, map}
use Rattle.std.specs.Prelude.{string_bytes}
use Rattle.chip_arguments.specs.Places.{argument_places}
use Rattle.chip_arguments.proofs.arguments.number_at.Given as goal

abbrev pub invariant-loop-index : goal.invariant-loop-index
invariant-loop-index l =
    (0 < l.left)
    × (l.place ≡ l.left + sum (take l.index (argument_places false (map string_bytes l.arguments))))
    × (drop l.index (argument_places false (map string_bytes l.arguments))
    ≡ argument_places l.only_operands (drop l.index (map string_bytes l.arguments)))
