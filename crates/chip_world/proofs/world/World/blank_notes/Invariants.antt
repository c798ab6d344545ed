use Rattle.chip_world.proofs.Names.{◌≡◌, ℕ, ◌<◌, [], length, slice_index, slice_index_or, in_flight, Lane, WhateverLog}
use Rattle.chip_world.proofs.Names.{IsOpenedLane}
use Rattle.chip_world.proofs.world.World.blank_notes.Given as goal

abbrev pub invariant-loop-edge : goal.invariant-loop-edge
invariant-loop-edge l = record {
  sent_each : length l.sent ≡ l.edge;
  sent : (e : ℕ) → e < l.edge → (d : Lane) → IsOpenedLane (λ ms. WhateverLog l.self (λ g log. ms ≡ in_flight g log e))
      (slice_index l.tally.claims.items e) (slice_index_or l.sent e d);
  delivered_each : length l.delivered ≡ l.edge;
  delivered : (e : ℕ) → e < l.edge → (d : Lane) → IsOpenedLane (λ ms. ms ≡ []) (slice_index l.tally.takes.items e)
      (slice_index_or l.delivered e d);
}
