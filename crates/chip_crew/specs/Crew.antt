-- The invariant of a crew on its net.
use Rattle.std.specs.Prelude.{◌≡◌, ℕ, zero, suc, ◌<◌, List, [], ◌∷◌, length, slice_get, Some, ⊤, ◌==◌, Bool, false, count_by, sum_by}
use Rattle.chip_part.specs.Setting.{Setting}
use Rattle.chip_part.specs.Edges.{root_edge}
use Rattle.chip_core.specs.Core.{Event, Take}
use Rattle.chip_net.specs.Tokens.{NetId, ActorKnown, MakesTurn}
use Rattle.chip_net.specs.declared.actor.Turn.{Turn}
use Rattle.chip_crew.specs.declared.plan.Sharing.{Sharing}

-- whose actors these are: the net, the trace rows that each has room for, the number of workers, and their way of
-- sharing
pub record CrewId : Type 0 where
  pub net : NetId
  pub room : ℕ
  pub workers : ℕ
  pub sharing : Sharing

-- the actor has made k whole turns since its net opened, in order
abbrev pub Turned : ℕ → ActorKnown → Type 0
Turned zero a = a.did ≡ []
Turned (suc k) a = (before : ActorKnown) × (answer : Turn) × Turned k before × MakesTurn before a answer

-- a take from the root edge of a vertex
abbrev pub is_root_take : Setting → ℕ → Event → Bool
is_root_take g v (Take e) = e == root_edge g v
is_root_take g v _ = false

-- the number of turns that an actor made: in each it takes once from its root edge
abbrev pub turns_of : ActorKnown → ℕ
turns_of a = count_by (λ x. is_root_take a.net.setting a.vertex x.event) a.did

-- and that of all of these together
abbrev pub all_turns : List ActorKnown → ℕ
all_turns actors = sum_by turns_of actors

-- the net opened this actor, which has only made whole turns since
pub record IsOurs (crew : CrewId) (a : ActorKnown) : Type 0 where
  pub net_is : a.net ≡ crew.net
  pub inside : a.vertex < crew.net.setting.game.graph.vertices
  pub room_is : a.room ≡ crew.room
  pub turned : Turned (turns_of a) a

-- each of these has the property of its number; numbers grow by one from n on
abbrev pub EachFrom : {X : Type 0} → (ℕ → X → Type 0) → ℕ → List X → Type 0
EachFrom P n [] = ⊤
EachFrom P n (x ∷ xs) = P n x × EachFrom P (suc n) xs

-- the crew's actor of this vertex
abbrev pub IsAt : CrewId → ℕ → ActorKnown → Type 0
IsAt crew v a = IsOurs crew a × (a.vertex ≡ v)

-- the crew's actors of consecutive vertices, from this one on
abbrev pub AreFrom : CrewId → ℕ → List ActorKnown → Type 0
AreFrom crew from actors = EachFrom (IsAt crew) from actors

-- actors of the first vertices, each once, ascending
abbrev pub AreAscendingActors : CrewId → List ActorKnown → Type 0
AreAscendingActors crew actors = (v : ℕ) (a : ActorKnown) → slice_get actors v ≡ Some a → IsOurs crew a × (a.vertex ≡ v)

-- the actors of all vertices, each once, ascending
pub record AreActors (crew : CrewId) (actors : List ActorKnown) : Type 0 where
  pub count : length actors ≡ crew.net.setting.game.graph.vertices
  pub order : AreAscendingActors crew actors
