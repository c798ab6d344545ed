-- The end of a crew.
use Rattle.std.specs.Prelude.{◌≡◌, ◌⊎◌, ℕ, ◌≤◌, false, None}
use Rattle.chip_sequence.specs.declared.outcome.Outcome.{Outcome}
use Rattle.chip_net.specs.Roots.{RootKnown, root_deficit, has_ended, IsRootOver, IsPolling}
use Rattle.chip_net.specs.Finish.{Finishes}
use Rattle.chip_crew.specs.Asked.{root_of}
use Rattle.chip_crew.specs.Crew.{CrewId}
use Rattle.chip_crew.specs.Dealing.{IsRoundOfTurns}
use Rattle.chip_crew.specs.Feeding.{Left, IsLed}
use Rattle.chip_crew.specs.Sealing.{TakesBack}
use Rattle.chip_crew.specs.declared.plan.Plan.{Plan}

-- the root was polled once
abbrev pub PolledOnce : RootKnown → RootKnown → Type 0
PolledOnce old now = IsPolling old now old.net.setting.game.graph.vertices

-- it was polled once, was closed then, and finished
pub record EndsWell (old receipt : RootKnown) (o : Outcome) : Type 0 where
  pub root : RootKnown
  pub polled : PolledOnce old root
  pub closed : IsRootOver root
  pub finishes : Finishes root receipt o

-- in `turns` turns the root made all feeds and noted the end: in the turns of the plan, or fewer if it was closed by
-- then; it took the stopper back, was polled once, and finished
pub record EndsLed (crew : CrewId) (feeds : Left) (plan : Plan) (receipt : RootKnown) (o : Outcome) : Type 0 where
  pub round : ℕ
  pub is_round : IsRoundOfTurns crew round
  pub turns : ℕ
  pub at_most : turns ≤ plan.turns
  pub led : RootKnown
  pub is_led : IsLed round turns feeds (root_of crew plan) None led
  pub lasts : (turns ≡ plan.turns) ⊎ IsRootOver led
  pub back : RootKnown
  pub is_back : TakesBack plan.seal turns led back
  pub ends : EndsWell back receipt o

-- the root was polled once and isn't closed: `left` messages are open, 0 only if the end of feeding isn't noted
pub record StaysOpen (old now : RootKnown) (left : ℕ) : Type 0 where
  pub polled : PolledOnce old now
  pub deficit : left ≡ root_deficit now
  pub some : left ≡ 0 → has_ended now ≡ false
  pub not_over : IsRootOver now → ⊥

-- after all turns of the plan the root has these feeds left; then it took the stopper back, was polled once, and isn't
-- closed
pub record StaysUnfinished (crew : CrewId) (feeds : Left) (plan : Plan) (now : RootKnown) (deficit : ℕ) : Type 0 where
  pub round : ℕ
  pub is_round : IsRoundOfTurns crew round
  pub left : Left
  pub led : RootKnown
  pub is_led : IsLed round plan.turns feeds (root_of crew plan) left led
  pub back : RootKnown
  pub is_back : TakesBack plan.seal plan.turns led back
  pub stays : StaysOpen back now deficit
