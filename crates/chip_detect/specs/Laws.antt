-- What follows from the rules of the books.
use Rattle.std.specs.Prelude.{◌≡◌, ℕ, ◌<◌, ◌≤◌, Bool, true, false, ◌&&◌, ◌==◌, if◌then◌else◌, Some, None}
use Rattle.chip_detect.specs.Books.{Books, IsSound, owed, all_owed, deficit, is_engaged}
use Rattle.chip_detect.specs.Acknowledging.{is_parent, may_ack}
use Rattle.chip_detect.specs.Steps.{Step, Acked, Acknowledges, MayBeMade, Makes}

-- every step keeps the books sound
abbrev pub StepsKeepSoundness : Type 0
StepsKeepSoundness =
    (old new : Books) (s : Step) →
    IsSound old → MayBeMade old s → Makes old s new → IsSound new

-- the step acknowledged on the parent edge a count that a passive vertex may and an active one may not, and nothing at
-- all is left
pub record IsLastAcknowledgement (old new : Books) (s : Step) : Type 0 where
  pub edge : ℕ
  pub count : ℕ
  pub step : s ≡ Acked edge count
  pub on_parent : old.parent ≡ Some edge
  pub allowed_passive : count ≤ may_ack old edge true
  pub refused_active : may_ack old edge false < count
  pub owes_nothing : (e : ℕ) → owed new e ≡ 0
  pub nothing_owed : all_owed new ≡ 0
  pub no_deficit : deficit new ≡ 0

-- no step but a last acknowledgement makes an engaged vertex neutral
abbrev pub NeutralOnlyWhenDone : Type 0
NeutralOnlyWhenDone =
    (old new : Books) (s : Step) →
    IsSound old → MayBeMade old s → Makes old s new →
    is_engaged old ≡ true → is_engaged new ≡ false →
    IsLastAcknowledgement old new s

-- the parent goes exactly if all that is owed on its edge is acknowledged
abbrev pub ParentGoesWithAll : Type 0
ParentGoesWithAll =
    (old new : Books) (e count : ℕ) →
    IsSound old → count ≤ owed old e → Acknowledges old new e count →
    new.parent ≡ (if is_parent e old.parent && count == owed old e then None else old.parent)

-- no more may be acknowledged than is owed
abbrev pub NoMoreThanOwed : Type 0
NoMoreThanOwed = (b : Books) (e : ℕ) (passive : Bool) → may_ack b e passive ≤ owed b e
