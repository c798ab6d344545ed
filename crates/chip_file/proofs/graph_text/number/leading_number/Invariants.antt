use Rattle.chip_file.proofs.JsonNames.{◌-◌, ◌≡◌, ◌≤◌, length, take, AllDigits, digits_value}
use Rattle.chip_file.proofs.graph_text.number.leading_number.Given as goal

abbrev pub invariant-loop-count : goal.invariant-loop-count
invariant-loop-count l = record {
  digits : AllDigits 10 (take l.count l.text);
  so_far : l.value ≡ digits_value 10 (take l.count l.text);
  few : l.count ≤ 19;
  inside : l.count ≤ length l.text;
}

abbrev pub decreases-loop-count : goal.decreases-loop-count
decreases-loop-count l = 19 - l.count
