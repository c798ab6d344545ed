-- Firing sequences: lists of vertices, in order of firing.
use Rattle.std.specs.Prelude.{◌≡◌, ℕ, ◌+◌, ◌≤◌, ◌==◌, if◌then◌else◌, List, [], ◌∷◌}
use Rattle.chip_graph.specs.Multigraph.{Multigraph}
use Rattle.chip_sequence.specs.Firing.{IsLegal, fired_once}

-- the configuration after the vertices of a list have fired in turn, from the configuration x
abbrev pub position_after : Multigraph → (ℕ → ℕ) → List ℕ → ℕ → ℕ
position_after G x [] = x
position_after G x (v ∷ vs) = position_after G (fired_once G v x) vs

-- each vertex of the list is legal when it fires
abbrev pub IsFiringSequence : Multigraph → (ℕ → ℕ) → List ℕ → Type 0
IsFiringSequence G x [] = Unit {0}
IsFiringSequence G x (v ∷ vs) = IsLegal G x v × IsFiringSequence G (fired_once G v x) vs

-- how often u occurs
abbrev pub counts : List ℕ → ℕ → ℕ
counts [] u = 0
counts (v ∷ vs) u = if v == u then counts vs u + 1 else counts vs u

-- no vertex is legal after the list
abbrev pub HasEnded : Multigraph → (ℕ → ℕ) → List ℕ → Type 0
HasEnded G x vs = (v : ℕ) → IsLegal G (position_after G x vs) v → ⊥

-- no vertex occurs more often than the limit allows
abbrev pub IsWithin : ℕ → List ℕ → Type 0
IsWithin limit vs = (v : ℕ) → counts vs v ≤ limit

-- each vertex that is still legal after the list has fired as often as the limit allows
abbrev pub HasEndedWithin : Multigraph → (ℕ → ℕ) → ℕ → List ℕ → Type 0
HasEndedWithin G x limit vs = (v : ℕ) → IsLegal G (position_after G x vs) v → counts vs v ≡ limit

-- a firing sequence within the limit that has ended within the limit
pub record IsWholePlay (G : Multigraph) (x : ℕ → ℕ) (limit : ℕ) (vs : List ℕ) : Type 0 where
  pub sequence : IsFiringSequence G x vs
  pub within : IsWithin limit vs
  pub ended : HasEndedWithin G x limit vs
