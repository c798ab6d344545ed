use Rattle.chip_world.proofs.Names.{◌≡◌, ◌+◌, ◌-◌, ◌≤◌, take, vec_len, vec_capacity, messages_from, counts_in_flight}
use Rattle.chip_world.proofs.Names.{WhateverLog}
use Rattle.chip_world.proofs.world.World.in_flight.Given as goal

abbrev pub invariant-loop-place : goal.invariant-loop-place
invariant-loop-place l = record {
  so_far : WhateverLog l.self
      (λ g log. l.messages.items
      ≡ messages_from l.edge l.first (take (l.place - l.first) (counts_in_flight g log l.edge)));
  many : vec_len l.messages ≡ l.place - l.first;
  room : (l.claims - l.first) + l.room ≤ vec_capacity l.messages;
}
