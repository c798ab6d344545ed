-- The distances of vertices from the sink.
use Rattle.std.specs.Prelude.{◌≡◌, ℕ, ◌<◌, List, length, Option, Some, None, slice_index_or}
use Rattle.chip_graph.specs.Multigraph.{Multigraph, ReachesSink, IsDistance}

-- the distance of v from the sink; `None` if no walk leads there
abbrev pub IsDistanceOf : Multigraph → ℕ → Option ℕ → Type 0
IsDistanceOf G v None = ReachesSink G v → ⊥
IsDistanceOf G v (Some d) = IsDistance G v d

-- the distances from the sink, by vertex
pub record AreDistances (G : Multigraph) (distances : List (Option ℕ)) : Type 0 where
  pub one_each : length distances ≡ G.vertices
  pub each : (v : ℕ) → v < G.vertices → IsDistanceOf G v (slice_index_or distances v None)
