use Rattle.chip_file.proofs.Names.{◌≡◌, ◌++◌, codes, take, string_bytes}
use Rattle.chip_file.specs.ChipsText.{chips_lines}
use Rattle.chip_file.proofs.chips.text_of_chips.Given as goal

abbrev pub invariant-loop-vertex : goal.invariant-loop-vertex
invariant-loop-vertex l = string_bytes l.text ≡ codes "vertex,chips\n" ++ chips_lines 0 (take l.vertex l.chips)
