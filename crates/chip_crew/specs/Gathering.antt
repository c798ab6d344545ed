-- How the actors are gathered.
use Rattle.std.specs.Prelude.{◌≡◌, ℕ, ◌+◌, ◌*◌, ◌<◌, ◌≤◌, Bool, ◌&&◌, List, length, map, All, Option, Some, None}
use Rattle.std.specs.Global.{Vec}
use Rattle.std.specs.Vec.{vec_capacity}
use Rattle.atomic_table.specs.Seated.{TableId}
use Rattle.crossbeam_queue.specs.Passes.{view, IsPassOf}
use Rattle.chip_net.specs.Tokens.{ActorKnown}
use Rattle.chip_crew.specs.Crew.{CrewId, IsOurs, AreFrom, all_turns}
use Rattle.chip_crew.specs.Dealing.{IsFirstOf}
use Rattle.chip_crew.specs.Asked.{Asked}
use Rattle.chip_crew.specs.Ledger.{got_turns, gave_turns}
use Rattle.chip_crew.specs.Places.{actors_of}
use Rattle.chip_crew.specs.declared.plan.Sharing.TheVariants as sharing
use Rattle.chip_crew.specs.declared.queue.Ledger.{Ledger}
use Rattle.chip_crew.specs.declared.gathering.Back.{Back}
use Rattle.chip_crew.specs.declared.gathering.Collected.{Collected}
use Rattle.chip_crew.specs.declared.gathering.Back.TheVariants as back

-- the actors of all vertices, each once, in any order
pub record AreGathered (crew : CrewId) (actors : List ActorKnown) : Type 0 where
  pub ours : All (IsOurs crew) actors
  pub count : length actors ≡ crew.net.setting.game.graph.vertices
  pub once : (v : ℕ) → v < crew.net.setting.game.graph.vertices → actors_of v actors ≡ 1

-- the row has the actors of the first `workers` workers, one run after the other, and room for all actors
pub record IsRow (crew : CrewId) (workers : ℕ) (row : List ActorKnown) (room : ℕ) : Type 0 where
  pub up_to : IsFirstOf crew workers (length row)
  pub each : AreFrom crew 0 row
  pub has_room : crew.net.setting.game.graph.vertices ≤ room

-- the gathering thread speaks for `workers` workers, the row has its actors and room for all of them, and these workers
-- made at most the turns that the plan allows them
pub record IsGatheringFor (asked : Asked) (workers : ℕ) (ledger : Ledger) (row : Vec ActorKnown) : Type 0 where
  pub speaks : ledger.workers ≡ workers
  pub has : ledger.has ≡ map (λ a. a.vertex) row.items
  pub ours : All (IsOurs asked.crew) row.items
  pub room : asked.crew.net.setting.game.graph.vertices ≤ vec_capacity row
  pub turns : all_turns row.items + gave_turns ledger ≤ got_turns ledger + workers * asked.plan.turns

module _ {B : Type 0} where
  -- the state once `workers` workers have given back what they had
  abbrev pub AreBack : Asked → ℕ → Back B → Type 0
  AreBack asked workers (back.Queue queue pass row) = (asked.crew.sharing ≡ sharing.Queue)
      × IsPassOf queue.now pass × IsGatheringFor asked workers (view pass) row
  AreBack asked workers (back.Dealt row) = (asked.crew.sharing ≡ sharing.Dealt)
      × IsRow asked.crew workers row.items (vec_capacity row) × (all_turns row.items ≤ workers * asked.plan.turns)

  -- the queue through which they come, if any
  abbrev pub queue_for : Back B → Option TableId
  queue_for (back.Queue queue pass row) = Some pass.table_id
  queue_for (back.Dealt row) = None

  -- what one more worker had was taken back, and whether its gate accepted all its turns
  pub record Collects (asked : Asked) (passed : Bool) (old new : Collected B) : Type 0 where
    pub workers : new.workers ≡ old.workers + 1
    pub are_back : AreBack asked new.workers new.back
    pub uses : queue_for new.back ≡ queue_for old.back
    pub passed_is : new.passed ≡ (old.passed && passed)
