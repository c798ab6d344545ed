-- How worker 0 feeds a game while it runs.
use Rattle.std.specs.Prelude.{◌≡◌, ◌⊎◌, ℕ, zero, suc, ◌+◌, ◌%◌, ◌<◌, ◌≤◌, ◌==◌, Bool, true, false, All, List, [], ◌∷◌}
use Rattle.std.specs.Prelude.{Option, Some, None}
use Rattle.chip_graph.specs.Limits.{max_total}
use Rattle.chip_graph.specs.More.{all_brought}
use Rattle.chip_net.specs.Roots.{RootKnown, has_ended, all_given, FeedsChips, ReadsFullCell, Ends, IsPolling}
use Rattle.chip_net.specs.declared.poll.RootState.{RootState}

-- the feeds left before the end is noted, a vertex and its chips each; none if the end is noted
abbrev pub Left : Type 0
Left = Option (List (ℕ × ℕ))

-- the feeds left, as a list
abbrev pub pairs : Left → List (ℕ × ℕ)
pairs None = []
pairs (Some left) = left

-- the root may make all these feeds: the end isn't noted, each is of 1 chip or more for a vertex, and with what was
-- given they stay within the total
pub record MayFeed (root : RootKnown) (left : List (ℕ × ℕ)) : Type 0 where
  pub not_ended : has_ended root ≡ false
  pub each : All (λ pair. (pair.0 < root.net.setting.game.graph.vertices) × (0 < pair.1)) left
  pub within : all_given root + all_brought left ≤ max_total

-- the same of the feeds left, if the end isn't noted
abbrev pub MayFeedLeft : RootKnown → Left → Type 0
MayFeedLeft root None = Unit {0}
MayFeedLeft root (Some left) = MayFeed root left

-- the next feed was made; or its cell was full, and it is still left
abbrev pub FeedsNext : List (ℕ × ℕ) → List (ℕ × ℕ) → RootKnown → RootKnown → Type 0
FeedsNext [] left old new = (left ≡ []) × (new ≡ old)
FeedsNext (pair ∷ rest) left old new = ((left ≡ rest) × ((place : ℕ) × FeedsChips old new pair.0 pair.1 place))
    ⊎ ((left ≡ pair ∷ rest) × ReadsFullCell old new pair.0)

-- if nothing is left, the end is noted
abbrev pub EndsAfter : List (ℕ × ℕ) → Left → RootKnown → RootKnown → Type 0
EndsAfter [] left old new = (left ≡ None) × ((answer : RootState) × Ends old new answer)
EndsAfter (pair ∷ rest) left old new = (left ≡ Some (pair ∷ rest)) × (new ≡ old)

-- the next feed was made if its cell was empty, and the end was noted if none was left then
abbrev pub FeedsOnce : Left → Left → RootKnown → RootKnown → Type 0
FeedsOnce None left old new = (left ≡ None) × (new ≡ old)
FeedsOnce (Some feeds) left old new =
    (rest : List (ℕ × ℕ)) × (middle : RootKnown) × FeedsNext feeds rest old middle × EndsAfter rest left middle new

-- the root was polled, or left alone
abbrev pub PollsIf : Bool → RootKnown → RootKnown → Type 0
PollsIf true old new = IsPolling old new old.net.setting.game.graph.vertices
PollsIf false old new = new ≡ old

-- k turns of worker 0, `round` of them in each round: before each the root made the next of these feeds if it could,
-- and after each round it was polled; these are the feeds left
abbrev pub IsLed : ℕ → ℕ → Left → RootKnown → Left → RootKnown → Type 0
IsLed round zero feeds old left now = (left ≡ feeds) × (now ≡ old)
IsLed round (suc k) feeds old left now =
    (rest : Left) × (before : RootKnown) × (fed : RootKnown) × IsLed round k feeds old rest before
    × FeedsOnce rest left before fed × PollsIf (suc k % round == 0) fed now
