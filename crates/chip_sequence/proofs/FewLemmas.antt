-- Serves Laws.antt, Bound.antt.
-- With c chips in all, the count of an edge's tail exceeds that of its head by at most c, so that of a vertex is at
-- most c times its distance.
use Rattle.chip_sequence.proofs.Names.{◌≡◌, ◌≢◌, ℕ, ◌+◌, ◌-◌, ◌*◌, ◌<◌, ◌≤◌, Bool, cond, eqb, List, [], ◌∷◌}
use Rattle.chip_sequence.proofs.Names.{refl, sym, ap, arith, eq-eqb, mul-le-mul_left, mul-le-mul_right, dite, dec_lt}
use Rattle.chip_sequence.proofs.Names.{ℕ_discrete, Multigraph, edge_at, degree, IsWalk, IsGraph, sum_below, cond_yes}
use Rattle.chip_sequence.proofs.Names.{tested_scale, tested_term, inflow, counts}
use Rattle.chip_sequence.proofs.Names.{IsFiringSequence, length}
use Rattle.chip_sequence.proofs.Names.{true, false, ltb, not, ◌&&◌, picked_has}
use Rattle.std.proofs.Common.{mul-add, add-mul, eqb-true, lt-ltb}
use Rattle.std.proofs.lemmas.Bool.{ne_eqb}
use Rattle.chip_graph.specs.Multigraph.{IsDistance}
use Rattle.chip_graph.proofs.SumLemmas.{cond_no, sum_below_add, sum_below_le, sum_below_one}
use Rattle.chip_sequence.specs.Certificate.{in_degree, HasFewIn}
use Rattle.chip_sequence.specs.Laws.{EnoughByDistance}
use Rattle.chip_sequence.proofs.CertificateLemmas.{inflow_add}
use Rattle.chip_sequence.proofs.FiringLemmas.{inflow_le, position_is, sink_never}
use Rattle.chip_sequence.proofs.BoundLemmas.{flows_through, bound_of_walk, bound_more, enough_above}
use Rattle.chip_sequence.specs.Bound.{has_few_in, fires_at_distance, greatest_degree, IsGreatestDistance}

module _ (G : Multigraph) where
  -- what flows in by f is at most what flows in by the firings above t, and the in-degree for each of t firings
  inflow_above : (f : ℕ → ℕ) (t u : ℕ) → inflow G f u ≤ inflow G (λ v. f v - t) u + in_degree G u * t
  inflow_above f t u = omega (
    arith,
    inflow_le G f (λ v. (f v - t) + t) (λ v. omega arith) u,
    inflow_add G (λ v. f v - t) (λ v. t) u,
    tested_scale (length G.edges) (λ e. eqb (edge_at G e).head u) t (λ e. (edge_at G e).mult),
  )

module _ (G : Multigraph) (good : IsGraph G) (few_in : HasFewIn G) (x : ℕ → ℕ) (vs : List ℕ)
    (ok : IsFiringSequence G x vs) where
  -- a vertex that fires more than t times sends out above t at most its chips and what flows in above t
  sent_above : (t u : ℕ) → u < G.vertices → t < counts vs u
      → degree G u * (counts vs u - t) ≤ x u + inflow G (λ v. counts vs v - t) u
  sent_above t u l more =
      let other : u ≢ G.sink = (λ same. let none = ap (counts vs) same in absurd (omega (arith, sink_never G vs x ok))) in
      let a = inflow_above G (counts vs) t u in
      let b = mul-le-mul_right t (few_in u l other) in
      let c = position_is G vs x ok u in
      let d = mul-add (degree G u) (counts vs u - t) t in
      let e = ap (λ (n : ℕ). degree G u * n) (let z : (counts vs u - t) + t ≡ counts vs u = omega arith in z) in
      omega arith

  -- what flows into w by the firings above its own is at most all chips
  flow_above : (w : ℕ) → w < G.vertices → inflow G (λ v. counts vs v - counts vs w) w ≤ sum_below G.vertices x
  flow_above w l =
      let t : ℕ = counts vs w in
      let g : ℕ → ℕ = λ v. counts vs v - t in
      let kept : ℕ → ℕ = λ u. cond (eqb w u) (inflow G g w) 0 in
      let each = sum_below_le G.vertices (λ u. degree G u * g u + kept u) (λ u. x u + inflow G g u)
      (λ u m. dite (dec_lt t (counts vs u))
      (λ more. let other : w ≢ u = (λ same. let level = ap (counts vs) same in absurd (omega arith)) in
      omega (arith, sent_above t u m more, cond_no w u (inflow G g w) 0 other))
      (λ few. let none = ap (λ (n : ℕ). degree G u * n) (let z : g u ≡ 0 = omega arith in z) in
      dite (ℕ_discrete w u)
      (λ same. omega (arith, cond_yes w u (inflow G g w) 0 same, ap (inflow G g) same))
      (λ other. omega (arith, cond_no w u (inflow G g w) 0 other)))) in
      let a = sum_below_add G.vertices (λ u. degree G u * g u) kept in
      let b = sum_below_add G.vertices x (inflow G g) in
      let c = sum_below_one G.vertices kept w l (λ u m ne. cond_no w u (inflow G g w) 0 (λ e. ne (sym e))) in
      let d = cond_yes w w (inflow G g w) 0 refl in
      omega (arith, flows_through G good g)

  -- the count of an edge's tail exceeds that of its head by at most the number of chips
  pub along_edge : (e : ℕ) → e < length G.edges
      → counts vs (edge_at G e).tail ≤ counts vs (edge_at G e).head + sum_below G.vertices x
  along_edge e l =
      let inside = good.edges_fit e l in
      let w : ℕ = (edge_at G e).head in
      let u : ℕ = (edge_at G e).tail in
      let all = flow_above w inside.head_is_vertex in
      let here = tested_term (length G.edges) (λ i. eqb (edge_at G i).head w)
      (λ i. (edge_at G i).mult * (counts vs (edge_at G i).tail - counts vs w)) e l (eq-eqb w w refl) in
      let once = mul-le-mul_right (counts vs u - counts vs w) inside.some_chips in
      omega arith

  -- along a walk to the sink
  pub along_walk : (es : List ℕ) (v : ℕ) → IsWalk G v es G.sink → counts vs v ≤ sum_below G.vertices x * length es
  along_walk [] v is = rw is (omega (arith, sink_never G vs x ok))
  along_walk (e ∷ es) v way =
      let rest = along_walk es (edge_at G e).head way.2 in
      omega (arith, along_edge e way.0, ap (counts vs) way.1, add-mul 1 (length es) (sum_below G.vertices x))

  -- the law: along a shortest walk
  pub few_firings : (v distance : ℕ) → IsDistance G v distance → counts vs v ≤ sum_below G.vertices x * distance
  few_firings v distance is = let way = is.reached in rw (← way.2) (along_walk way.0 v way.1)

-- so a limit of that many firings stops no vertex
pub enough_by_distance : EnoughByDistance
enough_by_distance G x good few distance limit far = enough_above G x (sum_below G.vertices x * distance)
    (λ vs ok v l.
    let way = far.greatest v l in
    omega (arith, along_walk G good few x vs ok way.0 v way.1, mul-le-mul_left (sum_below G.vertices x) way.2)) limit

-- ---- the bound of any graph

-- a graph that passes the test
few_tested : (G : Multigraph) → has_few_in G ≡ true → HasFewIn G
few_tested G none v l other = dite (dec_lt (degree G v) (in_degree G v))
    (λ more.
    let picked = picked_has (λ u. not (eqb u G.sink) && ltb (degree G u) (in_degree G u)) G.vertices v l
    (rw (ne_eqb v G.sink other, lt-ltb (degree G v) (in_degree G v) more) refl) in
    let at = picked.1 in
    absurd (omega (arith, eqb-true _ _ none)))
    (λ few. omega arith)

module _ (G : Multigraph) (good : IsGraph G) (x : ℕ → ℕ) where
  -- a walk to the sink of at most this length
  fires_by_walk : (vs : List ℕ) → IsFiringSequence G x vs → (distance : ℕ) (es : List ℕ) (v : ℕ) → IsWalk G v es G.sink
      → length es ≤ distance → counts vs v ≤ fires_at_distance G (sum_below G.vertices x) distance
  fires_by_walk vs ok distance es v way near = by (has_few_in G) refl
    where
      by : (b : Bool) → has_few_in G ≡ b → counts vs v ≤ fires_at_distance G (sum_below G.vertices x) distance
      by true few = rw few (omega (
        arith,
        along_walk G good (few_tested G few) x vs ok es v way,
        mul-le-mul_left (sum_below G.vertices x) near,
      ))
      by false many = rw many (omega (
        arith,
        bound_of_walk G good x vs ok es v way,
        bound_more (sum_below G.vertices x) (greatest_degree G) (length es) distance near,
      ))

  pub fires_at : (v distance : ℕ) → IsDistance G v distance → (vs : List ℕ) → IsFiringSequence G x vs
      → counts vs v ≤ fires_at_distance G (sum_below G.vertices x) distance
  fires_at v distance is vs ok = let way = is.reached in
      fires_by_walk vs ok distance way.0 v way.1 (let a = way.2 in omega arith)

  -- one number for all, if no vertex is further from the sink
  pub fires_below : (distance : ℕ) → IsGreatestDistance G distance → (vs : List ℕ) → IsFiringSequence G x vs → (v : ℕ)
      → v < G.vertices → counts vs v ≤ fires_at_distance G (sum_below G.vertices x) distance
  fires_below distance far vs ok v l = let way = far.greatest v l in fires_by_walk vs ok distance way.0 v way.1 way.2
