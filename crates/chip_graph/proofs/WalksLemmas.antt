-- Serves Multigraph.antt.
-- Walks to the sink.
use Rattle.std.proofs.Common.{◌≢◌, ℕ, ◌<◌, cond, eqb, List, [], ◌∷◌, length, arith}
use Rattle.std.proofs.lemmas.Bool.Decides.{nat_tests}
use Rattle.chip_graph.specs.Multigraph.{Multigraph, edge_at, IsWalk, ReachesSink, degree}
use Rattle.chip_graph.proofs.SumLemmas.{sum_below_term}

-- every vertex with a walk to the sink has edges out of it, except the sink
pub degree_positive : (G : Multigraph) (v : ℕ) → ReachesSink G v → v ≢ G.sink
    → ((e : ℕ) → e < length G.edges → 0 < (edge_at G e).mult) → 0 < degree G v
degree_positive G v (es, walk) other mults = first es walk
  where
    first : (es : List ℕ) → IsWalk G v es G.sink → 0 < degree G v
    first [] walk = absurd (other walk)
    first (e ∷ es) walk =
        let term = sum_below_term (length G.edges) (λ i. cond (eqb (edge_at G i).tail v) (edge_at G i).mult 0) e walk.0
        in
        let some = mults e walk.0 in let at = walk.1 in grind (arith, nat_tests)
