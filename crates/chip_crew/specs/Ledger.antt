-- The ledger of a worker's actors.
use Rattle.std.specs.Prelude.{◌≡◌, ℕ, zero, suc, ◌+◌, ◌-◌, List, [], ◌∷◌, ◌++◌, drop, map, Option, Some, None}
use Rattle.std.specs.Prelude.{option_to_list}
use Rattle.std.specs.List.{range_with_len}
use Rattle.chip_net.specs.Tokens.{ActorKnown, MakesTurn}
use Rattle.chip_net.specs.declared.actor.Turn.{Turn}
use Rattle.chip_crew.specs.Crew.{CrewId, all_turns}
use Rattle.chip_crew.specs.declared.queue.Ledger.{Ledger}

-- a ledger that was given back
abbrev pub no_ledger : Ledger
no_ledger = record { workers = 0; has = []; taken = []; put = [] }

-- the calling thread's, before there is a worker: it speaks for all workers, and has all actors
abbrev pub first_ledger : CrewId → Ledger
first_ledger crew =
    record no_ledger { workers = crew.workers; has = range_with_len 0 crew.net.setting.game.graph.vertices }

-- a worker's: it has no actor, nothing was taken from the queue yet, and nothing put there
abbrev pub new_ledger : Ledger
new_ledger = record no_ledger { workers = 1 }

-- the calling thread's, after it gave a worker one of its own
abbrev pub with_fewer : Ledger → Ledger
with_fewer old = record old { workers = old.workers - 1 }

-- the calling thread's, after it got that of a worker back
abbrev pub both_ledgers : Ledger → Ledger → Ledger
both_ledgers one other = record {
  workers = one.workers + other.workers;
  has = one.has ++ other.has;
  taken = one.taken ++ other.taken;
  put = one.put ++ other.put;
}

-- this actor was taken
abbrev pub with_actor : Ledger → ActorKnown → Ledger
with_actor old a = record old { has = old.has ++ a.vertex ∷ []; taken = old.taken ++ a ∷ [] }

-- this actor was put, the first of those that the thread had
abbrev pub with_put : Ledger → ActorKnown → Ledger
with_put old a = record old { has = drop 1 old.has; put = old.put ++ a ∷ [] }

-- the turns of the actors that the thread took from the queue, as of then, and of those that it put there
abbrev pub got_turns : Ledger → ℕ
got_turns l = all_turns l.taken

abbrev pub gave_turns : Ledger → ℕ
gave_turns l = all_turns l.put

-- the turns of this actor, if there is one
abbrev pub kept_turns : Option ActorKnown → ℕ
kept_turns kept = all_turns (option_to_list kept)

-- the vertex of this actor, if there is one
abbrev pub vertex_if_any : Option ActorKnown → List ℕ
vertex_if_any kept = map (λ a. a.vertex) (option_to_list kept)

-- this ledger speaks for one worker, and has this actor, if any
abbrev pub HasJust : Ledger → Option ActorKnown → Type 0
HasJust ledger kept = (ledger.workers ≡ 1) × (ledger.has ≡ vertex_if_any kept)

-- the kept actor is the next, and none was taken; else it is one that was taken, if one came
abbrev pub IsNextActor : Ledger → Ledger → Option ActorKnown → Option ActorKnown → Type 0
IsNextActor old new (Some kept) next = (next ≡ Some kept) × (new ≡ old)
IsNextActor old new None (Some next) = new ≡ with_actor old next
IsNextActor old new None None = new ≡ old

-- the actor was put, or it is kept
abbrev pub IsPutOrKept : Ledger → Ledger → ActorKnown → Option ActorKnown → Type 0
IsPutOrKept old new a None = new ≡ with_put old a
IsPutOrKept old new a (Some kept) = (kept ≡ a) × (new ≡ old)

-- the next actor made exactly one turn, and then it was put, or it is kept; without one none was put or kept
abbrev pub EndsTurn : Ledger → Ledger → Option ActorKnown → Option ActorKnown → Type 0
EndsTurn old new (Some next) kept =
    (after : ActorKnown) × (answer : Turn) × MakesTurn next after answer × IsPutOrKept old new after kept
EndsTurn old new None kept = (new ≡ old) × (kept ≡ None)

-- a worker's turn: the kept actor, else one that was taken, makes a turn, and is put or kept
abbrev pub MakesOneTurn : Ledger → Ledger → Option ActorKnown → Option ActorKnown → Type 0
MakesOneTurn old new kept result = (between : Ledger) × (next : Option ActorKnown) × IsNextActor old between kept next
    × EndsTurn between new next result

-- k turns of a worker, in order from the first, each of which its gate accepted
abbrev pub TurnsMade : (ℕ → Type 0) → ℕ → Ledger → Option ActorKnown → Type 0
TurnsMade passes zero ledger kept = (ledger ≡ new_ledger) × (kept ≡ None)
TurnsMade passes (suc k) ledger kept = (before : Ledger) × (was : Option ActorKnown) × TurnsMade passes k before was
    × passes k × MakesOneTurn before ledger was kept
