-- Serves Multigraph.antt, Faults.antt, Distances.antt.
-- What a graph stores besides its edges is computed from them.
use Rattle.chip_graph.proofs.Names.{◌≡◌, ◌≢◌, ℕ, suc, ◌<◌, ◌⊎◌, List, [], ◌∷◌, length, map, get_or, Option, Some, None}
use Rattle.chip_graph.proofs.Names.{Ok, Err, refl, ap, ◌∙◌, subst, arith, length-map, get_or-map, nat_tests, GraphFault}
use Rattle.chip_graph.proofs.Names.{SizeLimits, Multigraph, ReachesSink, fault_of_rows, IsGraphFault, UNREACHED, noted}
use Rattle.chip_graph.proofs.Names.{IsDistanceOf, AreDistances}
use Rattle.std.proofs.Common.{Result}
use Rattle.std.specs.Result.{IsErrAnd}
use Rattle.chip_graph.specs.Multigraph.{IsDistance}
use Rattle.chip_graph.specs.Faults.{NamesUnreached, MakesGraph}
use Rattle.chip_graph.specs.declared.fault.GraphFault.TheVariants as graph_fault

-- a vertex that has a distance reaches the sink
reaches : (G : Multigraph) (v : ℕ) (found : Option ℕ) (d : ℕ) → found ≡ Some d → IsDistanceOf G v found
    → ReachesSink G v
reaches G v found d is of = let at : IsDistance G v d = subst (IsDistanceOf G v) is of in (at.reached.0, at.reached.1)

-- a distance that was found
noted_some : (d : ℕ) → d ≢ UNREACHED → noted d ≡ Some d
noted_some d other = grind (arith, nat_tests)

-- where all were found, all are distances
pub all_noted : (ds : List ℕ) → ((v : ℕ) → v < length ds → get_or ds v 0 ≢ UNREACHED)
    → map noted ds ≡ map (λ d. Some d) ds
all_noted [] all = refl
all_noted (d ∷ ds) all = let here = noted_some d (all 0 (omega arith)) in
    let rest = all_noted ds (λ v l. all (suc v) (omega arith)) in cc

module _ (G : Multigraph) (distances : List ℕ) (are : AreDistances G (map (λ d. Some d) distances)) (v : ℕ)
    (is_vertex : v < G.vertices) where
  pub distance_within : v < length distances
  distance_within = let each = are.one_each in let same = length-map distances (λ d. Some d) in omega arith

  -- where each vertex has a distance, this is it
  pub distance_is : IsDistance G v (get_or distances v 0)
  distance_is =
      subst (IsDistanceOf G v) (get_or-map (λ d. Some d) distances v 0 None distance_within) (are.each v is_vertex)

  -- and it reaches the sink
  pub all_reach : ReachesSink G v
  all_reach = (distance_is.reached.0, distance_is.reached.1)

-- the first missing distance determines the fault
pub unreached_fault : (G : Multigraph) (ds : List ℕ) → AreDistances G (map noted ds)
    → (v : ℕ) (fault : GraphFault) → fault ≡ graph_fault.Unreached v → v < length ds → get_or ds v 0 ≡ UNREACHED
    → ((u : ℕ) → u < v → get_or ds u 0 ≢ UNREACHED) → NamesUnreached G fault
unreached_fault G ds are v fault is l missing before =
    let each = are.one_each in
    let same = length-map ds noted in (
      v,
      is,
      record {
        is_vertex = omega arith;
        unreached = subst (IsDistanceOf G v) (get_or-map noted ds v 0 None l ∙ ap noted missing) (are.each v (omega arith));
        least = λ u m. reaches G u (get_or (map noted ds) u None) (get_or ds u 0)
            (get_or-map noted ds u 0 None (omega arith) ∙ noted_some (get_or ds u 0) (before u m))
            (are.each u (omega arith));
      },
    )

-- a refusal for a true reason is a valid result
pub refused : (limits : SizeLimits) (G : Multigraph) (result : Result Multigraph GraphFault) (fault : GraphFault)
    → IsErrAnd result (λ e. e ≡ fault) → ((fault ≡ graph_fault.NoMemory) × (fault_of_rows limits G ≡ None))
    ⊎ IsGraphFault limits G fault → MakesGraph limits G result
refused limits G (Ok graph) fault is why = absurd is
refused limits G (Err e) fault is why = rw is why
