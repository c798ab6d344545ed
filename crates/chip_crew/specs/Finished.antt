-- What a run returns.
use Rattle.std.specs.Prelude.{◌≡◌, ◌⊎◌, ℕ, ◌+◌, ◌<◌, ⊤, Bool, true, false, sum, Some, None, ◌*◌, ◌≤◌}
use Rattle.std.specs.Prelude.{is_some}
use Rattle.chip_graph.specs.Limits.{max_total}
use Rattle.chip_graph.specs.More.{HasMore, HasRoomForChips, all_brought}
use Rattle.chip_graph.specs.ChipGame.{ChipGame}
use Rattle.chip_sequence.specs.Play.{IsPlayed}
use Rattle.chip_part.specs.Setting.{setting_with}
use Rattle.chip_net.specs.Roots.{fed_by}
use Rattle.chip_net.specs.Meeting.{IsRun}
use Rattle.chip_crew.specs.Plans.{is_fed_plan}
use Rattle.chip_crew.specs.Asked.{Asked, SomeShut}
use Rattle.chip_crew.specs.Crew.{CrewId, AreActors, all_turns}
use Rattle.chip_crew.specs.Feeding.{Left, pairs}
use Rattle.chip_crew.specs.Ending.{EndsLed, StaysUnfinished}
use Rattle.chip_crew.specs.Sealing.{KnowsSeals}
use Rattle.chip_crew.specs.declared.plan.Plan.{Plan}
use Rattle.chip_crew.specs.declared.plan.Sharing.{Sharing}
use Rattle.chip_crew.specs.declared.play.Finished.{Finished}
use Rattle.chip_crew.specs.declared.fault.CrewFault.{CrewFault}
use Rattle.chip_crew.specs.declared.fault.CrewFault.TheVariants as fault

-- the chips of the start and of the feeds stay within the total
abbrev pub StaysWithin : ChipGame → Left → Type 0
StaysWithin game None = ⊤
StaysWithin game (Some feeds) = HasRoomForChips game feeds

-- they exceed the total
abbrev pub PassesTotal : ChipGame → Left → Type 0
PassesTotal game None = ⊥
PassesTotal game (Some feeds) = max_total < sum game.start + all_brought feeds

-- plan and feeds are in their ranges, and the feeds stay within the total
pub record CanPlay (game : ChipGame) (feeds : Left) (plan : Plan) : Type 0 where
  pub within : is_fed_plan game (pairs feeds) plan ≡ true
  pub total : StaysWithin game feeds

-- why a crew can't play this game by this plan, with these feeds
abbrev pub RefusesPlan : ChipGame → Left → Plan → CrewFault → Type 0
RefusesPlan game feeds plan e = ((e ≡ fault.Plan) × (is_fed_plan game (pairs feeds) plan ≡ false))
    ⊎ ((e ≡ fault.Total) × (is_fed_plan game (pairs feeds) plan ≡ true) × PassesTotal game feeds)

-- the crew's net was opened for this game with the plan's rings, for feeding if there are feeds, and its actors with
-- room for the plan's trace rows; the plan's workers share them in this way
pub record IsCrewFor (shared : Sharing) (game : ChipGame) (feeds : Left) (plan : Plan) (crew : CrewId) : Type 0 where
  pub can : CanPlay game feeds plan
  pub setting : crew.net.setting ≡ setting_with game plan.ring (is_some feeds)
  pub room : crew.room ≡ plan.trace_rows
  pub workers : crew.workers ≡ plan.workers
  pub sharing : crew.sharing ≡ shared

-- the crew's root fed everything, was polled when it was closed and then finished, and the crew has all its actors
pub record HasFinished (crew : CrewId) (feeds : Left) (plan : Plan) (f : Finished) : Type 0 where
  pub ends : EndsLed crew feeds plan f.receipt f.outcome
  pub actors : AreActors crew f.actors.items
  -- all workers together made at most the turns that the plan allows them
  pub turns : all_turns f.actors.items ≤ crew.workers * plan.turns
  -- the steps of the root, the stopper and the actors are one run with this outcome
  pub run : IsRun f.receipt f.actors.items f.outcome

-- the game with all chips at the start, fed ones among them
abbrev pub IsWhole : ChipGame → Left → ChipGame → Type 0
IsWhole game None whole = whole ≡ game
IsWhole game (Some feeds) whole = HasMore game feeds whole

-- a crew of this game finished after exactly these feeds, in order, and the seal of the plan if worker 0 made that
-- turn, and no other; without a seal the outcome is the plain player's of the game with all these chips at the start
pub record IsFinished (shared : Sharing) (game : ChipGame) (feeds : Left) (plan : Plan) (f : Finished) : Type 0 where
  pub crew : CrewId
  pub opened : IsCrewFor shared game feeds plan crew
  pub finished : HasFinished crew feeds plan f
  pub sealed : KnowsSeals plan.seal finished.ends.turns f.receipt
  pub fed : fed_by finished.ends.ends.root ≡ pairs feeds
  pub whole : ChipGame
  pub whole_is : IsWhole game feeds whole
  pub played : plan.seal ≡ None → IsPlayed whole f.outcome

-- ---- why a crew didn't finish

-- why an opened crew didn't finish: memory or threads ran out, a gate was shut, or the root is open. Each actor is
-- there exactly once
abbrev pub IsCrewStopped : Asked → CrewFault → Type 0
IsCrewStopped asked fault.NoMemory = ⊤
IsCrewStopped asked fault.Spawn = ⊤
IsCrewStopped asked fault.GateShut = SomeShut asked.may_answer asked.crew.workers asked.plan.turns
IsCrewStopped asked (fault.Unfinished deficit root) = StaysUnfinished asked.crew asked.feeds asked.plan root deficit
IsCrewStopped asked _ = ⊥

-- plan or feeds are at fault; or their total is; or a crew of this game didn't finish, whose gate may return such
-- results. Each actor is there exactly once
abbrev pub IsFaultOf : Sharing → ChipGame → Left → Plan → (ℕ → ℕ → Bool → Type 0) → CrewFault → Type 0
IsFaultOf shared game feeds plan may_answer fault.Plan = is_fed_plan game (pairs feeds) plan ≡ false
IsFaultOf shared game feeds plan may_answer fault.Total = (is_fed_plan game (pairs feeds) plan ≡ true) × PassesTotal game feeds
IsFaultOf shared game feeds plan may_answer fault.NoMemory = CanPlay game feeds plan
IsFaultOf shared game feeds plan may_answer fault.Spawn = CanPlay game feeds plan
IsFaultOf shared game feeds plan may_answer fault.GateShut =
    CanPlay game feeds plan × SomeShut may_answer plan.workers plan.turns
IsFaultOf shared game feeds plan may_answer (fault.Doubled v) = ⊥
IsFaultOf shared game feeds plan may_answer (fault.Lost v) = ⊥
IsFaultOf shared game feeds plan may_answer (fault.Unfinished deficit root) =
    (crew : CrewId) × IsCrewFor shared game feeds plan crew × StaysUnfinished crew feeds plan root deficit
