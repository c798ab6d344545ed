use Rattle.chip_sequence.proofs.Names.{◌≡◌, ◌≤◌, ◌^◌, firing_bound}
use Rattle.chip_sequence.proofs.bound.enough.Given as goal

abbrev pub invariant-loop : goal.invariant-loop
invariant-loop l = record {
  is : l.bound ≡ firing_bound l.total l.degree l.counter;
  small : l.bound ≤ 2 ^ 40;
}
