-- The places of a crew's actors that wait in a queue.
use Rattle.std.specs.Prelude.{◌≡◌, ◌==◌, ℕ, ◌+◌, ◌<◌, ◌≤◌, List, [], length, All, sum_by, count_by}
use Rattle.chip_net.specs.Tokens.{ActorKnown}
use Rattle.chip_crew.specs.Crew.{CrewId, IsOurs, all_turns}
use Rattle.chip_crew.specs.Ledger.{got_turns, gave_turns}
use Rattle.chip_crew.specs.declared.queue.Ledger.{Ledger}

-- the number of times that this vertex is among these
abbrev pub times : ℕ → List ℕ → ℕ
times v vertices = count_by (λ u. u == v) vertices

-- the number of these actors that are of this vertex
abbrev pub actors_of : ℕ → List ActorKnown → ℕ
actors_of v actors = count_by (λ a. a.vertex == v) actors

-- the thread has no actor, and those that it took and put had made no turns
abbrev pub HasNothing : Ledger → Type 0
HasNothing l = (l.has ≡ []) × (got_turns l ≡ 0) × (gave_turns l ≡ 0)

-- the rule of the queue, which has these actors, while the threads have these ledgers: the actor of each vertex is in
-- one place, in the queue or with one thread; the turns of the actors that came out and of those in the queue sum to
-- those of the actors that went in; and a ledger that speaks for no worker has nothing
pub record AreShared (crew : CrewId) (queued : List ActorKnown) (ledgers : List Ledger) : Type 0 where
  pub ours : All (IsOurs crew) queued
  pub once : (v : ℕ) → v < crew.net.setting.game.graph.vertices
      → actors_of v queued + sum_by (λ l. times v l.has) ledgers ≡ 1
  pub count : length queued + sum_by (λ l. length l.has) ledgers ≡ crew.net.setting.game.graph.vertices
  pub workers : sum_by (λ l. l.workers) ledgers ≡ crew.workers
  pub turns : all_turns queued + sum_by got_turns ledgers ≡ sum_by gave_turns ledgers
  pub spent : All (λ l. l.workers ≡ 0 → HasNothing l) ledgers

-- a ledger that speaks for all workers has the actor of each vertex that is not in the queue
abbrev pub AreAllThere : CrewId → Ledger → List ActorKnown → Type 0
AreAllThere crew ledger queued = ledger.workers ≡ crew.workers
    → (length queued + length ledger.has ≡ crew.net.setting.game.graph.vertices)
    × (all_turns queued + got_turns ledger ≡ gave_turns ledger)
    × ((v : ℕ) → v < crew.net.setting.game.graph.vertices → actors_of v queued + times v ledger.has ≡ 1)

-- the queue and the thread together have at most all actors
abbrev pub HaveRoom : CrewId → Ledger → List ActorKnown → Type 0
HaveRoom crew ledger queued = length queued + length ledger.has ≤ crew.net.setting.game.graph.vertices
