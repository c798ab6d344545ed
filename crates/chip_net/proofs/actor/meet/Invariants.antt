use Rattle.chip_net.proofs.Names.{◌≡◌, ℕ, ◌<◌, ◌≤◌, ◌++◌, length, map, take, drop, Some, slice_get, ActorKnown, at_net}
use Rattle.chip_net.proofs.Names.{seatless, find}
use Rattle.chip_net.proofs.actor.meet.Given as goal

abbrev pub ghosts-take_back : goal.ghosts-take_back
ghosts-take_back a = record { part = a.self.now.vertex }

abbrev pub invariant-loop-index : goal.invariant-loop-index
invariant-loop-index l = record {
  table : l.seat.table_id ≡ l.initial.seat.table_id;
  items : l.actors ≡ map seatless (take l.index l.fn.actors) ++ drop l.index l.fn.actors;
  parts : (v : ℕ) (a : ActorKnown) → v < l.index → slice_get l.fn.actors v ≡ Some a
      → find v l.seat.me.0.parts ≡ Some a.did;
  others : (p : ℕ) → length l.fn.actors ≤ p → find p l.seat.me.0.parts ≡ find p l.fn.seat.me.0.parts;
}

abbrev pub invariant-loop-index-2 : goal.invariant-loop-index-2
invariant-loop-index-2 l = record {
  table : l.seat.table_id ≡ l.fn.seat.table_id;
  items : l.actors ≡ map (at_net l.net) (take l.index (map seatless l.fn.actors))
      ++ drop l.index (map seatless l.fn.actors);
  parts : (v : ℕ) (a : ActorKnown) → l.index ≤ v → slice_get l.fn.actors v ≡ Some a
      → find v l.seat.me.0.parts ≡ Some a.did;
  others : (p : ℕ) → length l.fn.actors ≤ p → find p l.seat.me.0.parts ≡ find p l.fn.seat.me.0.parts;
}
