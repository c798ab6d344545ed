use Rattle.chip_actor.proofs.Names.{◌≡◌, length, map, take, drop, out_after_fire}
use Rattle.chip_actor.proofs.ends.outs.Outs.fire.Given as goal

abbrev pub invariant-loop-out : goal.invariant-loop-out
invariant-loop-out l = record {
  lengths : length l.out-items ≡ length l.initial.out-items;
  done : take l.out-index l.out-items ≡ map (out_after_fire l.k) (take l.out-index l.initial.out-items);
  rest : drop l.out-index l.out-items ≡ drop l.out-index l.initial.out-items;
}
