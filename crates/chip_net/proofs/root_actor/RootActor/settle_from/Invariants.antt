use Rattle.chip_net.proofs.Names.{◌-◌, ◌≤◌, DoesMore, settles_from, HoldsNothing}
use Rattle.chip_net.proofs.root_actor.RootActor.settle_from.Given as goal

abbrev pub invariant-loop-vertex : goal.invariant-loop-vertex
invariant-loop-vertex l = record {
  from : l.first ≤ l.vertex;
  within : l.vertex - l.first ≤ l.fn.self.net.setting.game.graph.vertices - l.first;
  settles : DoesMore l.fn.self l.self (settles_from l.fn.self.net.setting l.first (l.vertex - l.first));
  holds : HoldsNothing l.fn.self → HoldsNothing l.self;
}
