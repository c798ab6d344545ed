-- The least burning script (Speer, Asymmetric abelian sandpile models, 1993).
use Rattle.std.specs.Prelude.{◌≡◌, ℕ, ◌-◌, ◌≤◌, List, length, slice_index}
use Rattle.chip_graph.specs.Multigraph.{Multigraph, IsGraph}
use Rattle.chip_sequence.specs.Certificate.{in_degree}
use Rattle.chip_group.specs.Recurrent.{EachNonSink, IsBurningScript}
use Rattle.chip_recurrent.specs.Stabilizations.{StabilizesWithin}

-- s is a burning script with the chips b, and no vertex fires less often in another one
pub record IsLeastScript (G : Multigraph) (s b : ℕ → ℕ) : Type 0 where
  pub script : IsBurningScript G s b
  pub least : (f c : ℕ → ℕ) → IsBurningScript G f c → EachNonSink G (λ v. s v ≤ f v)

-- one chip less on each vertex than edges lead in: in its stabilization each fires once less than by the least script
abbrev pub burning_start : Multigraph → ℕ → ℕ
burning_start G v = in_degree G v - 1

-- these are the least burning script and its chips, 0 at the sink, found within the limits
pub record IsBurning (G : Multigraph) (script chips : List ℕ) : Type 0 where
  pub is_graph : IsGraph G
  pub script_each : length script ≡ G.vertices
  pub chips_each : length chips ≡ G.vertices
  pub least : IsLeastScript G (slice_index script) (slice_index chips)
  pub script_at_sink : slice_index script G.sink ≡ 0
  pub none_on_sink : slice_index chips G.sink ≡ 0
  pub within : (c : ℕ → ℕ) × StabilizesWithin G (burning_start G) c
