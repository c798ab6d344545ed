-- The workers as they start, and once they have ended.
use Rattle.std.specs.Prelude.{◌≡◌, ℕ, ◌<◌, ◌≤◌, false, List, [], ◌∷◌, length, Option, None}
use Rattle.atomic_table.specs.Seated.{TableId}
use Rattle.chip_net.specs.Tokens.{ActorKnown}
use Rattle.chip_crew.specs.Asked.{Asked, SomeShut}
use Rattle.chip_crew.specs.Crew.{AreFrom, all_turns}
use Rattle.chip_crew.specs.Handed.{queue_of, AreReady, IsReady}
use Rattle.chip_crew.specs.Gathering.{AreBack}
use Rattle.chip_crew.specs.Leading.{IsLeader, HasLed}
use Rattle.chip_crew.specs.Plans.{max_workers}
use Rattle.chip_crew.specs.declared.leader.Leader.{Leader}
use Rattle.chip_crew.specs.declared.worker.Share.{Share}
use Rattle.chip_crew.specs.declared.joining.Joined.{Joined}
use Rattle.chip_crew.specs.declared.joining.WorkerPromise.{WorkerPromise}

-- the leader and the actors of a crew on a net that has just opened
pub record AreOpened (asked : Asked) (leader : Leader) (actors : List ActorKnown) : Type 0 where
  pub leads : IsLeader asked leader
  pub each : AreFrom asked.crew 0 actors
  pub count : length actors ≡ asked.crew.net.setting.game.graph.vertices
  pub no_turns : all_turns actors ≡ 0
  pub some : 0 < asked.crew.net.setting.game.graph.vertices
  pub workers_are : asked.plan.workers ≡ asked.crew.workers
  pub some_workers : 0 < asked.crew.workers
  pub few_workers : asked.crew.workers ≤ max_workers

module _ {B : Type 0} where
  -- the queue that the workers with these shares use, if any
  abbrev pub queue_of_all : List (Share B) → Option TableId
  queue_of_all [] = None
  queue_of_all (own ∷ rest) = queue_of own

  -- there is a share for each worker
  pub record AreShares (asked : Asked) (shares : List (Share B)) : Type 0 where
    pub some : 0 < asked.crew.workers
    pub few : asked.crew.workers ≤ max_workers
    pub count : length shares ≡ asked.crew.workers
    pub ready : AreReady asked (queue_of_all shares) shares

  -- it is the contract of this worker
  pub record IsWorker {D : Type 0} (asked : Asked) (queue : Option TableId) (worker : ℕ) (p : WorkerPromise B D)
      : Type 0 where
    pub number_is : p.number ≡ worker
    pub ready : IsReady asked queue worker p.share.value

  -- all workers have ended: worker 0 did its duties with the root, and they gave back all that they had
  pub record HasJoined (asked : Asked) (j : Joined B) : Type 0 where
    pub led : HasLed asked j.round j.turns j.leader
    pub are_back : AreBack asked asked.crew.workers j.collected.back
    pub passed : j.collected.passed ≡ false → SomeShut asked.may_answer asked.crew.workers asked.plan.turns
