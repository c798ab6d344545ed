-- What the workers start with, and what they give back.
use Rattle.std.specs.Prelude.{◌≡◌, ℕ, ◌<◌, ◌≤◌, max, false, List, length, Option, Some, None, IfSome}
use Rattle.atomic_table.specs.Seated.{TableId}
use Rattle.crossbeam_queue.specs.Passes.{view, IsPassOf}
use Rattle.chip_net.specs.Tokens.{NetId, ActorKnown}
use Rattle.chip_crew.specs.Crew.{IsOurs, EachFrom, all_turns}
use Rattle.chip_crew.specs.Asked.{Asked, passes, ShutFor}
use Rattle.chip_crew.specs.Dealing.{AreActorsOf}
use Rattle.chip_crew.specs.Duties.{ServesTurns}
use Rattle.chip_crew.specs.Rounds.{RoundsMade}
use Rattle.chip_crew.specs.Ledger.{TurnsMade}
use Rattle.chip_crew.specs.declared.plan.Sharing.TheVariants as sharing
use Rattle.chip_crew.specs.declared.worker.Share.{Share}
use Rattle.chip_crew.specs.declared.worker.Share.TheVariants as share
use Rattle.chip_crew.specs.declared.worker.WorkerResult.{WorkerResult}

-- of a round of at most `most` turns a worker made `made`, and fewer than `most` only if its gate was shut
pub record IsRoundOf (asked : Asked) (worker most made : ℕ) : Type 0 where
  pub at_most : made ≤ most
  pub shut : made < most → ShutFor asked worker

-- the actors dealt to a worker after `turns` turns, each of which its gate accepted
abbrev pub HasDealt : Asked → ℕ → ℕ → List ActorKnown → Type 0
HasDealt asked worker turns actors = (asked.crew.sharing ≡ sharing.Dealt) × AreActorsOf asked.crew worker actors
    × ((first : List ActorKnown) × (all_turns first ≡ 0) × RoundsMade (passes asked worker) turns first actors)

module _ {B : Type 0} where
  -- what a worker has after `turns` turns, each of which its gate accepted: with a queue, its pass of it and the net's
  -- actor that it kept; else the actors dealt to it
  abbrev pub HasMade : Asked → ℕ → ℕ → Share B → Type 0
  HasMade asked worker turns (share.Queue queue pass kept) = (asked.crew.sharing ≡ sharing.Queue)
      × IsPassOf queue.now pass × TurnsMade (passes asked worker) turns (view pass) kept × IfSome kept (IsOurs asked.crew)
  HasMade asked worker turns (share.Dealt actors) = HasDealt asked worker turns actors.items

  -- the number of turns in a round of a worker
  abbrev pub round_of : Share B → ℕ
  round_of (share.Queue queue pass kept) = 1
  round_of (share.Dealt actors) = max 1 (length actors.items)

  -- the queue that the worker uses, if any
  abbrev pub queue_of : Share B → Option TableId
  queue_of (share.Queue queue pass kept) = Some pass.table_id
  queue_of (share.Dealt actors) = None

  -- a worker of a crew with this queue, or without one, is ready to start
  pub record IsReady (asked : Asked) (queue : Option TableId) (worker : ℕ) (own : Share B) : Type 0 where
    pub made : HasMade asked worker 0 own
    pub uses : queue_of own ≡ queue

  -- what the workers start with, worker 0 first
  abbrev pub AreReady : Asked → Option TableId → List (Share B) → Type 0
  AreReady asked queue all = EachFrom (IsReady asked queue) 0 all

  module _ {D : Type 0} where
    -- what a worker gives back: what it has after its turns, and its gate returned false only if it may
    pub record IsHanded (asked : Asked) (worker : ℕ) (handed : WorkerResult B D) : Type 0 where
      pub at_most : handed.turns ≤ asked.plan.turns
      pub made : HasMade asked worker handed.turns handed.share
      pub passed : handed.passed ≡ false → ShutFor asked worker

    -- a worker that started with this share and these duties gives this back: it uses the same queue, and did its
    -- duties in its turns
    pub record HasWorked (asked : Asked) (can : NetId → D → Type 0) (before : ℕ → D → D → Type 0) (after : D → D → Type 0)
        (worker : ℕ) (own : Share B) (begun : D) (handed : WorkerResult B D) : Type 0 where
      pub is_handed : IsHanded asked worker handed
      pub uses : queue_of handed.share ≡ queue_of own
      pub served : ServesTurns before after (round_of handed.share) handed.turns begun handed.duties
      pub can_still : can asked.crew.net handed.duties
