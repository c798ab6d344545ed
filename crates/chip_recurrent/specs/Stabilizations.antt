-- Stabilizations within the limits of a game, and why there is none. Chips on the sink do not count.
use Rattle.std.specs.Prelude.{◌≡◌, ℕ, ◌+◌, ◌-◌, ◌<◌, ◌≤◌, ◌^◌, ◌==◌, if◌then◌else◌, min, List, length, slice_index}
use Rattle.chip_graph.specs.Limits.{max_total, max_limit}
use Rattle.chip_graph.specs.Sums.{sum_below}
use Rattle.chip_graph.specs.Multigraph.{Multigraph, IsGraph}
use Rattle.chip_sequence.specs.Sequence.{counts, IsWithin}
use Rattle.chip_group.specs.Recurrent.{EachNonSink, StabilizesTo}
use Rattle.chip_recurrent.specs.declared.fault.RowFault.{RowFault}
use Rattle.chip_recurrent.specs.declared.fault.RowFault.TheVariants.{Total, Stopped, NoMemory}

-- the sum of two configurations
abbrev pub sum_of : List ℕ → List ℕ → ℕ → ℕ
sum_of chips more v = slice_index chips v + slice_index more v

-- the number of chips off the sink
abbrev pub chips_off_sink : Multigraph → (ℕ → ℕ) → ℕ
chips_off_sink G x = sum_below G.vertices (λ v. if v == G.sink then 0 else x v)

-- c is the stabilization of x within the limits: of at most 2^40 chips, and no vertex fires more than 2^40 times
pub record StabilizesWithin (G : Multigraph) (x c : ℕ → ℕ) : Type 0 where
  pub few_chips : chips_off_sink G x ≤ max_total
  pub end : StabilizesTo G x c
  pub few_firings : IsWithin max_limit end.fires_to.firings

-- x, the configuration of this row, has no stabilization within the limits, and why; or memory ran out
abbrev pub IsFaultOfRow : Multigraph → (x : ℕ → ℕ) → ℕ → RowFault → Type 0
IsFaultOfRow G x row (Total place) = (place ≡ row) × (max_total < chips_off_sink G x)
IsFaultOfRow G x row (Stopped place) = (place ≡ row) × (chips_off_sink G x ≤ max_total)
    × ((c : ℕ → ℕ) (end : StabilizesTo G x c) → IsWithin max_limit end.fires_to.firings → ⊥)
IsFaultOfRow G x row NoMemory = Unit {0}

-- these are the stabilization of x, without chips on the sink, and its odometer
pub record IsStabilized (G : Multigraph) (x : ℕ → ℕ) (chips fired : List ℕ) : Type 0 where
  pub is_graph : IsGraph G
  pub chips_each : length chips ≡ G.vertices
  pub fired_each : length fired ≡ G.vertices
  pub stabilizes : StabilizesWithin G x (slice_index chips)
  pub odometer : (v : ℕ) → slice_index fired v ≡ counts stabilizes.end.fires_to.firings v
  pub none_on_sink : slice_index chips G.sink ≡ 0

-- chips with which a game begins that stabilizes x: up to 2^64 - 1 on a vertex, and none on the sink
pub record IsStart (G : Multigraph) (x : ℕ → ℕ) (start : List ℕ) : Type 0 where
  pub each : length start ≡ G.vertices
  pub off_sink : EachNonSink G (λ v. slice_index start v ≡ min (x v) (2 ^ 64 - 1))
  pub none_on_sink : slice_index start G.sink ≡ 0
