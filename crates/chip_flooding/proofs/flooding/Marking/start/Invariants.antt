use Rattle.chip_flooding.proofs.Names.{◌≡◌, true, false, is_marked, IsFlooding, unfinished, net, world}
use Rattle.chip_flooding.proofs.flooding.Marking.start.Given as goal

abbrev pub invariant-loop-edge : goal.invariant-loop-edge
invariant-loop-edge l = record {
  topology : l.self.run.topology ≡ l.fn.self.run.topology;
  flooding : IsFlooding (net l.fn.self.run) (world l.self.run) l.self.marked.items l.self.done.items l.part l.edge;
  marked : is_marked l.self.marked.items l.part ≡ true;
  active : (world l.self.run l.part).passive ≡ false;
  unfinished : unfinished l.self ≡ unfinished l.fn.self;
}
