use Rattle.chip_world.proofs.Names.{drop, Log, StandsForLog, WhateverLog, HasRooms, IsNotedUpTo}
use Rattle.chip_world.proofs.world.World.run.Given as goal

abbrev pub invariant-loop-event : goal.invariant-loop-event
invariant-loop-event l = record {
  rooms : HasRooms (drop l.event-index l.events) l.notes;
  noted : WhateverLog l.initial.self (λ g log. (now : Log) × StandsForLog g now l.self
      × IsNotedUpTo g log l.events now (drop l.event-index l.events) l.notes);
}
