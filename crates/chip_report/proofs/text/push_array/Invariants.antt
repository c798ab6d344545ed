use Rattle.chip_report.proofs.Names.{◌≡◌, ◌++◌, map, take, string_bytes, join_with_byte, decimal, comma}
use Rattle.chip_report.proofs.text.push_array.Given as goal

abbrev pub invariant-loop-i : goal.invariant-loop-i
invariant-loop-i l = string_bytes l.text ≡ string_bytes l.initial.text
    ++ join_with_byte comma (map decimal (take l.i l.numbers))
