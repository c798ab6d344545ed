-- What is measured of an avalanche beside its numbers: the vertices that fire, and for how many rounds.
use Rattle.std.specs.Prelude.{◌≡◌, ℕ, zero, suc, ◌<◌, Bool, true, List, map, min, take, slice_index, Option, MatchOption}
use Rattle.chip_graph.specs.Multigraph.{Multigraph}
use Rattle.chip_sequence.specs.Firing.{IsStable, legal_vertices}
use Rattle.chip_sequence.specs.Sequence.{position_after, IsFiringSequence, counts, HasEnded}
use Rattle.chip_fire.specs.declared.avalanche.Measured.{Measured}
use Rattle.chip_fire.specs.declared.pile.Pile.{Pile}
use Rattle.chip_fire.specs.Avalanches.{IsAvalanche}

-- a row has each vertex that fires by these counts once, and how often each fires
pub record IsRow (f : ℕ → ℕ) (vertices times : List ℕ) : Type 0 where
  pub once : (v : ℕ) → counts vertices v ≡ min (f v) 1
  pub times_are : times ≡ map f vertices

-- each firing sequence from x that ends has this row
abbrev pub HasRow : Multigraph → (ℕ → ℕ) → (vertices times : List ℕ) → Type 0
HasRow G x vertices times =
    (vs : List ℕ) → IsFiringSequence G x vs → HasEnded G x vs → IsRow (counts vs) vertices times

-- the position after a round from x, in which each vertex that is legal at x fires once
abbrev pub after_round : Multigraph → (ℕ → ℕ) → ℕ → ℕ
after_round G x = position_after G x (legal_vertices G x)

-- the position after n rounds from x
abbrev pub after_rounds : Multigraph → (ℕ → ℕ) → ℕ → ℕ → ℕ
after_rounds G x zero = x
after_rounds G x (suc n) = after_round G (after_rounds G x n)

-- after n rounds from x no vertex is legal, and after fewer some vertex is
pub record IsDuration (G : Multigraph) (x : ℕ → ℕ) (n : ℕ) : Type 0 where
  pub ended : IsStable G (after_rounds G x n)
  pub going : (k : ℕ) → k < n → IsStable G (after_rounds G x k) → ⊥

-- the vertices that fired in the last drop on a pile
abbrev pub row_vertices : Pile → List ℕ
row_vertices p = take p.room.row p.room.support.items

-- how often each of them fired in it
abbrev pub row_times : Pile → List ℕ
row_times p = take p.room.row p.room.list.items

-- the play from x has left the pile p with no vertex legal, and this is its avalanche, beside its row and, if it was timed,
-- its duration; or the limit has stopped it
abbrev pub TellsMeasured : Multigraph → (ℕ → ℕ) → Pile → Bool → Option Measured → Type 0
TellsMeasured G x p timed told = MatchOption told
    (IsStable G (slice_index p.chips.items) → ⊥)
    (λ m. IsStable G (slice_index p.chips.items) × IsAvalanche G x m.avalanche (slice_index p.chips.items)
    × HasRow G x (row_vertices p) (row_times p) × (timed ≡ true → IsDuration G x m.duration))
