-- The state of a search for distances.
use Rattle.std.specs.Prelude.{ℕ, ◌==◌, if◌then◌else◌, Option, Some, None, is_some}
use Rattle.std.specs.Prelude.{List, [], ◌∷◌, ◌++◌, fold, map, slice_index_or, slice_set}
use Rattle.chip_graph.specs.declared.edge.Edge.{Edge}
use Rattle.chip_graph.specs.declared.distance.Reached.{Reached}
use Rattle.chip_graph.specs.declared.distance.Search.{Search}
use Rattle.chip_graph.specs.declared.distance.TheConstants.{UNREACHED}
use Rattle.chip_graph.specs.Ends.{edge_of}

-- the distances by vertex, and the vertices that have one, in order of reaching them
pub record Found : Type 0 where
  pub distances : List (Option ℕ)
  pub reached : List Reached

-- a distance as it is stored
abbrev pub noted : ℕ → Option ℕ
noted d = if d == UNREACHED then None else Some d

-- the view of a `Search`
abbrev pub findings : Search → Found
findings s = record { distances = map noted s.distances.items; reached = s.reached.items }

-- v is reached at this distance, unless it was reached before
abbrev pub with_vertex : ℕ → ℕ → Found → Found
with_vertex v d f =
    if is_some (slice_index_or f.distances v None)
    then f
    else record {
      distances = slice_set f.distances v (Some d);
      reached = f.reached ++ record { vertex = v; distance = d } ∷ [];
    }

-- these vertices are reached at this distance, unless they were reached before
abbrev pub with_all : ℕ → List ℕ → Found → Found
with_all d vs f = fold (λ g v. with_vertex v d g) f vs

-- the same of the tails of these edges
abbrev pub with_tails : List Edge → ℕ → List ℕ → Found → Found
with_tails edges d es f = with_all d (map (λ e. (edge_of edges e).tail) es) f
