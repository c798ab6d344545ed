-- The task of a crew.
use Rattle.std.specs.Prelude.{◌≡◌, ℕ, ◌<◌, ◌≤◌, Bool, true, false, if◌then◌else◌, [], Some, None, is_some}
use Rattle.chip_net.specs.Tokens.{NetId, no_actor}
use Rattle.chip_net.specs.Roots.{RootKnown, new_root}
use Rattle.chip_crew.specs.Crew.{CrewId}
use Rattle.chip_crew.specs.Feeding.{Left}
use Rattle.chip_crew.specs.Plans.{max_turns}
use Rattle.chip_crew.specs.declared.plan.Plan.{Plan}
use Rattle.chip_crew.specs.declared.plan.Sharing.{Sharing}
use Rattle.chip_crew.specs.declared.plan.Sharing.TheVariants as sharing

-- whose actors it shares, the plan, the feeds, and what the gate's result implies for a worker and one of its turns
pub record Asked : Type 1 where
  pub crew : CrewId
  pub plan : Plan
  pub feeds : Left
  pub may_answer : ℕ → ℕ → Bool → Type 0

-- the root of a crew as its net opens: it holds the stopper's part if the plan seals nothing
abbrev pub root_of : CrewId → Plan → RootKnown
root_of crew plan = new_root crew.net (if is_some plan.seal then None else Some [])

-- the task of a crew on this net, with this plan, these feeds and this way of sharing
abbrev pub asked_of : NetId → Plan → Sharing → Left → (ℕ → ℕ → Bool → Type 0) → Asked
asked_of net plan shared feeds may_answer = record {
  crew = record { net = net; room = plan.trace_rows; workers = plan.workers; sharing = shared };
  plan = plan;
  feeds = feeds;
  may_answer = may_answer;
}

-- a crew without a task
abbrev pub none_asked : Asked
none_asked = asked_of no_actor.net (record { workers = 0; ring = 0; turns = 0; trace_rows = 0; seal = None }) sharing.Queue
    None (λ worker turn answer. ⊥)

-- the gate let a worker begin a turn
abbrev pub passes : Asked → ℕ → ℕ → Type 0
passes asked worker turn = asked.may_answer worker turn true

-- a call of the gate for some turn of this worker may return false
abbrev pub ShutFor : Asked → ℕ → Type 0
ShutFor asked worker = (turn : ℕ) × (turn < asked.plan.turns) × asked.may_answer worker turn false

-- a call of the gate for some worker's turn may return false
abbrev pub SomeShut : (ℕ → ℕ → Bool → Type 0) → ℕ → ℕ → Type 0
SomeShut may_answer workers turns =
    (worker : ℕ) × (turn : ℕ) × (worker < workers) × (turn < turns) × may_answer worker turn false

-- what the workers share fits the task: the net, the plan, and a gate whose results imply what is known
pub record IsAsked (asked : Asked) (net : NetId) (plan : Plan) (may_answer : ℕ → ℕ → Bool → Type 0) : Type 0 where
  pub net_is : net ≡ asked.crew.net
  pub plan_is : plan ≡ asked.plan
  pub few_turns : asked.plan.turns ≤ max_turns
  pub gate : (worker turn : ℕ) (answer : Bool) → may_answer worker turn answer → asked.may_answer worker turn answer
