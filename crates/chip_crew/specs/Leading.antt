-- The duties of worker 0 besides its turns.
use Rattle.std.specs.Prelude.{◌≡◌, ℕ, ◌<◌, ◌≤◌, Bool, true, false}
use Rattle.std.specs.Option.{option_copied}
use Rattle.chip_net.specs.Tokens.{NetId}
use Rattle.chip_net.specs.Roots.{IsPolling, IsRootOver}
use Rattle.chip_crew.specs.Asked.{Asked, root_of}
use Rattle.chip_crew.specs.Dealing.{IsRoundOfTurns}
use Rattle.chip_crew.specs.Duties.{ServesTurns}
use Rattle.chip_crew.specs.Feeding.{MayFeedLeft, FeedsOnce}
use Rattle.chip_crew.specs.Sealing.{MaySeal, SealsBefore, HasSealed}
use Rattle.chip_crew.specs.declared.leader.Leader.{Leader}

-- root and stopper are of this net, the root may make the feeds left, the edge to seal is one of the graph, and a root
-- that was found closed is closed
pub record CanLead (net : NetId) (leader : Leader) : Type 0 where
  pub net_is : leader.root.net ≡ net
  pub may : MayFeedLeft leader.root (option_copied leader.feeds)
  pub seal : MaySeal net leader.seal
  pub closed : leader.is_closed ≡ true → IsRootOver leader.root

-- the stopper sealed what is due before this turn, and the root made the next feed if it could
pub record LeadsTurn (turn : ℕ) (old new : Leader) : Type 0 where
  pub seals : SealsBefore turn old.seal new.seal
  pub feeds : FeedsOnce (option_copied old.feeds) (option_copied new.feeds) old.root new.root

-- the root was polled
pub record LeadsRound (old new : Leader) : Type 0 where
  pub polls : IsPolling old.root new.root old.root.net.setting.game.graph.vertices
  pub feeds : new.feeds ≡ old.feeds
  pub seal : new.seal ≡ old.seal

-- the crew is to stop exactly if the root is closed
abbrev pub Stops : Bool → Leader → Type 0
Stops true leader = IsRootOver leader.root
Stops false leader = IsRootOver leader.root → ⊥

-- the start of worker 0: the root of the crew, its feeds, and the stopper, which has sealed nothing
pub record IsLeader (asked : Asked) (leader : Leader) : Type 0 where
  pub root : leader.root ≡ root_of asked.crew asked.plan
  pub feeds : option_copied leader.feeds ≡ asked.feeds
  pub seal : HasSealed asked.crew asked.plan.seal 0 leader.seal
  pub goes_on : leader.is_closed ≡ false
  pub can : CanLead asked.crew.net leader

-- it led in `turns` turns, `round` of them in each round
pub record HasLed (asked : Asked) (round turns : ℕ) (leader : Leader) : Type 0 where
  pub first : Leader
  pub begins : IsLeader asked first
  pub is_round : IsRoundOfTurns asked.crew round
  pub some : 0 < round
  pub at_most : turns ≤ asked.plan.turns
  pub served : ServesTurns LeadsTurn LeadsRound round turns first leader
  pub can : CanLead asked.crew.net leader
