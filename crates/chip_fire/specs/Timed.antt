-- A play in rounds, in each of which each legal vertex fires once.
use Rattle.std.specs.Prelude.{◌≡◌, ℕ, ◌+◌, ◌≤◌, min, List, length, take, slice_index, slice_set, Option, MatchOption}
use Rattle.chip_graph.specs.Multigraph.{Multigraph}
use Rattle.chip_sequence.specs.Firing.{IsLegal, fired_once}
use Rattle.chip_fire.specs.Rounds.{IsInRange, StaysOnTheWay, OnlyRise, firings_left}
use Rattle.chip_fire.specs.Pile.{sum_between}
use Rattle.chip_fire.specs.WorkList.{HasSupport}
use Rattle.chip_fire.specs.Measured.{after_round, IsDuration}

-- some legal vertex has fired as often as the limit allows
abbrev pub IsHeld : Multigraph → ℕ → (chips fired : List ℕ) → Type 0
IsHeld G limit chips fired = (v : ℕ) × IsLegal G (slice_index chips) v × (slice_index fired v ≡ limit)

-- the first vertices of the support are those that fired between these counts, and as many
pub record AreFound (n : ℕ) (before fired support : List ℕ) (found : ℕ) : Type 0 where
  pub rises : OnlyRise before fired
  pub fits : found ≤ length support
  pub has : HasSupport n before fired (take found support)
  pub many : found ≡ sum_between (λ k. min k 1) n before fired

-- a vertex has fired once more
pub record FiresOnce (G : Multigraph) (limit v : ℕ) (chips fired chips' fired' : List ℕ) : Type 0 where
  pub in_range : IsInRange G limit chips' fired'
  pub stays : StaysOnTheWay G limit chips fired chips' fired'
  pub position : (u : ℕ) → slice_index chips' u ≡ fired_once G v (slice_index chips) u
  pub counted : fired' ≡ slice_set fired v (slice_index fired v + 1)

-- a round on from these chips and counts, in which `turns` vertices fired
pub record FiresAll (G : Multigraph) (limit : ℕ) (chips fired chips' fired' : List ℕ) (turns : ℕ) : Type 0 where
  pub position : (u : ℕ) → slice_index chips' u ≡ after_round G (slice_index chips) u
  pub each_fires : firings_left G limit fired' + turns ≤ firings_left G limit fired

-- a play in rounds from x has ended after n of them, or a vertex is held by the limit
abbrev pub EndsInRounds : Multigraph → ℕ → (ℕ → ℕ) → (chips fired : List ℕ) → Option ℕ → ℕ → Type 0
EndsInRounds G limit x chips fired worked n =
    MatchOption worked (IsHeld G limit chips fired) (λ _. IsDuration G x n)
