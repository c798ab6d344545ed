use Rattle.chip_crew.proofs.Names.{◌^◌, ◌≡◌, ℕ, ◌+◌, ◌*◌, ◌<◌, ◌≤◌, ends_before}
use Rattle.chip_crew.proofs.dealing.next_cut.Given as goal

abbrev pub invariant-loop-vertex : goal.invariant-loop-vertex
invariant-loop-vertex l = record {
  ends : l.ends ≡ ends_before l.graph l.vertex;
  few : l.ends ≤ l.vertex * (2 ^ 24 + 1);
  least : (u : ℕ) → l.first ≤ u → u < l.vertex → l.workers * ends_before l.graph u < l.share;
}
