-- The place of an actor's turn, and how it goes on, whatever part the actor stands for.
use Rattle.std.specs.Prelude.{List, Option}
use Rattle.chip_part.specs.declared.act.Act.{Act}
use Rattle.chip_part.specs.Part.{Part}
use Rattle.chip_part.specs.Rules.{Event}
use Rattle.chip_part.specs.Steps.{Step}
use Rattle.chip_part.specs.declared.cursor.Cursor.{Cursor}
use Rattle.chip_part.specs.Cursor.{IsAt, IsUnderWay, Continues, IsDueAt}
use Rattle.chip_actor.specs.Actor.{Actor, WhateverPart, SomePart}

-- some turn is under way at this cursor
abbrev pub StandsAt : Actor → Cursor → Type 0
StandsAt a cursor = SomePart a (λ g s. (first : Part) × (done : List Step) × IsUnderWay g a.vertex first done cursor s)

-- whatever turn is under way at this cursor, it goes on so
abbrev pub TurnContinues : Actor → Cursor → Act → Cursor → Type 0
TurnContinues a cursor act next = WhateverPart a (λ g s. Continues g a.vertex s cursor act next)

-- ---- for the phases one by one

-- what is due at a cursor, with the cursor after it
abbrev pub DueAt : Actor → Cursor → Option (Event × Cursor) → Type 0
DueAt a cursor due = WhateverPart a (λ g s. IsAt g a.vertex cursor s → IsDueAt g a.vertex s cursor due)

-- a turn may be at this cursor
abbrev pub MayBeAt : Actor → Cursor → Type 0
MayBeAt a cursor = SomePart a (λ g s. IsAt g a.vertex cursor s)
