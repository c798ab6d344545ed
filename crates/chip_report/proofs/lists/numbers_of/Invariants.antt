use Rattle.chip_report.proofs.Names.{◌≡◌, ◌≤◌, length, map, vec_len, spelled_number}
use Rattle.chip_report.proofs.BracketLemmas.{shown}
use Rattle.chip_report.proofs.lists.numbers_of.Given as goal

abbrev pub invariant-loop-digits : goal.invariant-loop-digits
invariant-loop-digits l = record {
  read : l.numbers.items ≡ map spelled_number (shown l.yielded);
  len : vec_len l.numbers ≡ length l.yielded;
  few : vec_len l.numbers ≤ l.most;
}
