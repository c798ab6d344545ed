use Rattle.chip_file.proofs.JsonNames.{length, ◌-◌, ◌≡◌, ◌≤◌, lexemes_at}
use Rattle.chip_file.proofs.graph_text.plain.skip_blanks.Given as goal

abbrev pub invariant-loop-at : goal.invariant-loop-at
invariant-loop-at l = record {
  same : lexemes_at l.text l.at ≡ lexemes_at l.text l.from;
  from : l.from ≤ l.at;
  inside : l.at ≤ length l.text;
}

abbrev pub decreases-loop-at : goal.decreases-loop-at
decreases-loop-at l = length l.text - l.at
