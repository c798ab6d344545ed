use Rattle.chip_crew.proofs.Names.{◌^◌, ◌≡◌, ◌+◌, ◌*◌, ◌≤◌, ends_before}
use Rattle.chip_crew.proofs.dealing.all_ends.Given as goal

abbrev pub invariant-loop-vertex : goal.invariant-loop-vertex
invariant-loop-vertex l = record {
  ends : l.ends ≡ ends_before l.graph l.vertex;
  few : l.ends ≤ l.vertex * (2 ^ 24 + 1);
}
