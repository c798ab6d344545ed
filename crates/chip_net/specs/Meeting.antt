-- The steps of all tokens of a net, in one log.
use Rattle.std.specs.Prelude.{◌≡◌, ℕ, ◌≤◌, List, ◌++◌, length, slice_get, Some}
use Rattle.chip_sequence.specs.declared.outcome.Outcome.{Outcome}
use Rattle.chip_link.specs.Link.{claims_of}
use Rattle.chip_part.specs.Setting.{Setting, IsSetting}
use Rattle.chip_core.specs.Core.{Log, Step, out_in, IsLegalLog, IsClosed}
use Rattle.chip_core.specs.Outcomes.{IsOutcomeOf}
use Rattle.chip_core.specs.Histories.{done_by}
use Rattle.chip_net.specs.Views.{View, find}
use Rattle.chip_net.specs.Tokens.{NetId, ActorKnown}
use Rattle.chip_net.specs.Rule.{SomeLog}
use Rattle.chip_net.specs.Roots.{RootKnown, StopperKnown, Seals}
use Rattle.chip_net.specs.declared.stopper.SealedAt.{SealedAt}
use Rattle.chip_net.specs.Finish.{HasDoneIn, Finishes}

-- actors of the first vertices of this net, ascending
abbrev pub AreInPlace : NetId → List ActorKnown → Type 0
AreInPlace net actors = (v : ℕ) (a : ActorKnown) → slice_get actors v ≡ Some a → (a.net ≡ net) × (a.vertex ≡ v)

-- each of these actors made its steps in the log
abbrev pub DidTheirs : Setting → Log → List ActorKnown → Type 0
DidTheirs g log actors =
    (v : ℕ) (a : ActorKnown) → slice_get actors v ≡ Some a → a.did ≡ done_by g a.vertex log

-- one legal log has the steps of the root, of the stopper, if the root has that part, and of each of these actors
abbrev pub Together : RootKnown → List ActorKnown → Type 0
Together root actors = IsSetting root.net.setting
    × SomeLog root.net.setting (λ log. HasDoneIn root log × DidTheirs root.net.setting log actors)

-- some legal closed log has all steps of the root, of the stopper, if the root has that part, and of each of these
-- actors; and this is its outcome
pub record IsRun (receipt : RootKnown) (actors : List ActorKnown) (o : Outcome) : Type 0 where
  pub log : Log
  pub legal : IsLegalLog receipt.net.setting log
  pub agrees : HasDoneIn receipt log
  pub actors_did : DidTheirs receipt.net.setting log actors
  pub closed : IsClosed receipt.net.setting log
  pub outcome : IsOutcomeOf receipt.net.setting log o

-- one legal log has the steps of these actors and of the view's parts from this number on
abbrev pub HaveMet : Setting → View → List ActorKnown → Type 0
HaveMet g view actors = SomeLog g (λ log. DidTheirs g log actors
    × ((p : ℕ) (did : List Step) → length actors ≤ p → find p view.parts ≡ Some did → did ≡ done_by g p log))

-- if a root finished and then met the actors, all of this is one run with the outcome that it read
abbrev pub OneRun : Type 0
OneRun = (old receipt : RootKnown) (o : Outcome) (actors : List ActorKnown) → Finishes old receipt o
    → Together receipt actors → IsRun receipt actors o

-- a seal returns the number of all messages ever sent on the edge, whatever the stopper did after it
abbrev pub SealsTellAll : Type 0
SealsTellAll = (receipt : RootKnown) (actors : List ActorKnown) (o : Outcome) → IsSetting receipt.net.setting
    → (run : IsRun receipt actors o) (old new : StopperKnown) (edge : ℕ) (answer : SealedAt) → Seals old new edge answer
    → new.net ≡ receipt.net → (later : List Step) → receipt.stopper_did ≡ Some (new.did ++ later)
    → answer.count ≡ claims_of (out_in receipt.net.setting run.log edge).link
