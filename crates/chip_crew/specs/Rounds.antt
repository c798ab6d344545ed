-- A worker's turns of the actors dealt to it.
use Rattle.std.specs.Prelude.{◌≡◌, ℕ, zero, suc, ◌%◌, max, List, length, slice_get, slice_set, Option, Some, None}
use Rattle.chip_net.specs.Tokens.{ActorKnown, MakesTurn}
use Rattle.chip_net.specs.declared.actor.Turn.{Turn}

-- this actor made exactly one turn, and the others at these places are unchanged; without an actor nothing was done
abbrev pub TurnsThere : ℕ → Option ActorKnown → List ActorKnown → List ActorKnown → Type 0
TurnsThere place None old new = new ≡ old
TurnsThere place (Some next) old new =
    (after : ActorKnown) × (answer : Turn) × MakesTurn next after answer × (new ≡ slice_set old place after)

-- the same of the actor at this place
abbrev pub TurnsAt : ℕ → List ActorKnown → List ActorKnown → Type 0
TurnsAt place old new = TurnsThere place (slice_get old place) old new

-- k turns of a worker that began with these actors, each of which its gate accepted: in each the next actor made its
-- turn, round by round
abbrev pub RoundsMade : (ℕ → Type 0) → ℕ → List ActorKnown → List ActorKnown → Type 0
RoundsMade passes zero first now = now ≡ first
RoundsMade passes (suc k) first now = (before : List ActorKnown) × RoundsMade passes k first before × passes k
    × TurnsAt (k % max 1 (length before)) before now
