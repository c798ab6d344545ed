-- The change that a step makes to the tallies of one side of a vertex, edge by edge.
use Rattle.std.specs.Prelude.{◌≡◌, ℕ, ◌+◌, ◌==◌, if◌then◌else◌, List}
use Rattle.chip_detect.specs.Tally.{Tally, edges_of, messages_on, answered_on}

-- every edge is unchanged
abbrev pub Same : (ℕ → ℕ) → (ℕ → ℕ) → Type 0
Same old new = (e : ℕ) → new e ≡ old e

-- the edge has `more` more, and every other edge is unchanged
abbrev pub Adds : (ℕ → ℕ) → (ℕ → ℕ) → ℕ → ℕ → Type 0
Adds old new edge more = (e : ℕ) → new e ≡ (if edge == e then old e + more else old e)

-- one more message on the edge
pub record AddsMessage (old new : List Tally) (edge : ℕ) : Type 0 where
  pub edges : edges_of new ≡ edges_of old
  pub messages : Adds (messages_on old) (messages_on new) edge 1
  pub answered : Same (answered_on old) (answered_on new)

-- `count` more messages of the edge are answered
pub record AddsAnswers (old new : List Tally) (edge count : ℕ) : Type 0 where
  pub edges : edges_of new ≡ edges_of old
  pub messages : Same (messages_on old) (messages_on new)
  pub answered : Adds (answered_on old) (answered_on new) edge count
