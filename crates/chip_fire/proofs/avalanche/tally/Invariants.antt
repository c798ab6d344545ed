use Rattle.std.proofs.Common.{◌≡◌, ◌+◌, ◌≤◌, length, min, take, drop}
use Rattle.chip_fire.specs.WorkList.{HasSupport}
use Rattle.chip_fire.specs.Pile.{sum_between}
use Rattle.chip_fire.proofs.MeasureLemmas.{IsTallied}
use Rattle.chip_fire.proofs.avalanche.tally.Given as goal

abbrev pub invariant-loop-place : goal.invariant-loop-place
invariant-loop-place l = record {
  front : l.extent ≤ l.place;
  support : HasSupport (length l.fired) l.before l.fired (drop l.place (take l.found l.support));
  tallied : IsTallied l.fn.before l.before l.fired (take l.extent l.support) (take l.extent l.times);
  size :
      l.size + sum_between (λ k. k) (length l.fired) l.before l.fired
      ≡ sum_between (λ k. k) (length l.fired) l.fn.before l.fired;
  extent :
      l.extent + sum_between (λ k. min k 1) (length l.fired) l.before l.fired
      ≡ sum_between (λ k. min k 1) (length l.fired) l.fn.before l.fired;
}
