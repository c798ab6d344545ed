-- Serves Sequence.antt, Bound.antt.
-- Chips are kept, no vertex fires more often than the bound of its distance, and the search for the greatest distance.
use Rattle.chip_sequence.proofs.Names.{◌≡◌, ◌≢◌, ℕ, zero, suc, ◌+◌, ◌*◌, ◌<◌, ◌≤◌, eqb, List, [], ◌∷◌, ◌++◌, length}
use Rattle.chip_sequence.proofs.Names.{refl, sym, ap, ◌∙◌, arith, eq-eqb, mul-le-mul, mul-le-mul_left, mul-le-mul_right}
use Rattle.chip_sequence.proofs.Names.{◌^◌, nat_tests, dite, ℕ_discrete, dec_lt, dec_le, sum_below, Multigraph, edge_at}
use Rattle.chip_sequence.proofs.Names.{degree, IsWalk, IsGraph, sum_below_ext, sum_below_term, tested_ext, tested_scale}
use Rattle.chip_sequence.proofs.Names.{tested_term, position_after, IsFiringSequence, counts, HasEnded}
use Rattle.chip_sequence.proofs.Names.{IsWholePlay, inflow, greatest_below, firing_bound}
use Rattle.std.proofs.Common.{max, eqb-true}
use Rattle.chip_graph.specs.Multigraph.{sum_out, IsDistance}
use Rattle.chip_graph.proofs.SumLemmas.{sum_below_add, sum_below_by_place}
use Rattle.chip_sequence.specs.Bound.{greatest_degree, IsGreatestDistance}
use Rattle.chip_sequence.proofs.FiringLemmas.{counts-append, counts_here, counts_outside, sink_never, position_is}
use Rattle.chip_sequence.proofs.FiringLemmas.{sequence-append}
use Rattle.chip_sequence.proofs.EndLemmas.{continued, one_end}
use Rattle.chip_graph.proofs.WalksLemmas.{degree_positive}

-- a number of the list is at most the greatest
pub greatest_below_is : (n : ℕ) (f : ℕ → ℕ) (v : ℕ) → v < n → f v ≤ greatest_below n f
greatest_below_is zero f v l = absurd (omega arith)
greatest_below_is (suc n) f v l = let rest = greatest_below_is n f v in grind (arith, nat_tests)

-- a greater distance has a greater bound
pub bound_more : (total most i j : ℕ) → i ≤ j → firing_bound total most i ≤ firing_bound total most j
bound_more total most zero j l = omega arith
bound_more total most (suc i) zero l = absurd (omega arith)
bound_more total most (suc i) (suc j) l =
    omega (arith, mul-le-mul_left most (bound_more total most i j (omega arith)))

-- no vertex is stopped by a limit that is not below what bounds all firings: one still legal has fired less often
pub enough_above : (G : Multigraph) (x : ℕ → ℕ) (top : ℕ)
    → ((vs : List ℕ) → IsFiringSequence G x vs → (v : ℕ) → v < G.vertices → counts vs v ≤ top)
    → (limit : ℕ) → top ≤ limit → (vs : List ℕ) → IsWholePlay G x limit vs → HasEnded G x vs
enough_above G x top bound limit low vs play v can =
    let once = bound (vs ++ v ∷ []) (sequence-append G vs (v ∷ []) x play.sequence (can, tt)) v can.is_vertex in
    absurd (omega (arith, counts-append vs (v ∷ []) v, counts_here v v [] refl, play.ended v can))

module _ (G : Multigraph) (good : IsGraph G) where
  -- ---- no chip is lost

  -- over all edges inflow and outflow are equal: what flows into the vertices is what their firings take away
  pub flows_through : (f : ℕ → ℕ) → sum_below G.vertices (inflow G f) ≡ sum_below G.vertices (λ u. degree G u * f u)
  flows_through f =
      let flow : ℕ → ℕ = λ e. (edge_at G e).mult * f (edge_at G e).tail in
      sum_below_by_place G.vertices (length G.edges) flow (λ e. (edge_at G e).head)
      (λ e l. (good.edges_fit e l).head_is_vertex)
      ∙ sym (sum_below_by_place G.vertices (length G.edges) flow (λ e. (edge_at G e).tail)
      (λ e l. (good.edges_fit e l).tail_is_vertex))
      ∙ sum_below_ext G.vertices (λ u. sum_out G u flow) _
      (λ u l. tested_ext (length G.edges) (λ e. eqb (edge_at G e).tail u) flow (λ e. (edge_at G e).mult * f u)
      (λ e m on. ap (λ (w : ℕ). (edge_at G e).mult * f w) (eqb-true (edge_at G e).tail u on))
      ∙ tested_scale (length G.edges) (λ e. eqb (edge_at G e).tail u) (f u) (λ e. (edge_at G e).mult))

  -- counts lead to a configuration with the same number of chips
  pub led_total : (x f y : ℕ → ℕ) → ((u : ℕ) → u < G.vertices → y u + degree G u * f u ≡ x u + inflow G f u)
      → sum_below G.vertices y ≡ sum_below G.vertices x
  led_total x f y to =
      let a = sum_below_add G.vertices y (λ u. degree G u * f u) in
      let b = sum_below_add G.vertices x (inflow G f) in
      let c = sum_below_ext G.vertices (λ u. y u + degree G u * f u) (λ u. x u + inflow G f u) to in
      omega (arith, flows_through f)

  pub chips_are_kept : (x : ℕ → ℕ) (vs : List ℕ) → IsFiringSequence G x vs
      → sum_below G.vertices (position_after G x vs) ≡ sum_below G.vertices x
  chips_are_kept x vs ok = led_total x (counts vs) (position_after G x vs) (λ u l. position_is G vs x ok u)

  -- ---- the bound

  -- a vertex with a walk to the sink fires at most as often as the bound of its length: each of its firings sends a
  -- chip to the walk's next vertex, which has at most all chips and sends on what it gets
  pub bound_of_walk : (x : ℕ → ℕ) (vs : List ℕ) → IsFiringSequence G x vs → (es : List ℕ) (v : ℕ) → IsWalk G v es G.sink
      → counts vs v ≤ firing_bound (sum_below G.vertices x) (greatest_degree G) (length es)
  bound_of_walk x vs ok [] v is = rw is (omega (arith, sink_never G vs x ok))
  bound_of_walk x vs ok (e ∷ es) v way =
      let u : ℕ = (edge_at G e).head in
      let inside = good.edges_fit e way.0 in
      let ih = bound_of_walk x vs ok es u way.2 in
      let here = tested_term (length G.edges) (λ i. eqb (edge_at G i).head u)
      (λ i. (edge_at G i).mult * counts vs (edge_at G i).tail) e way.0 (eq-eqb u u refl) in
      let once = mul-le-mul_right (counts vs (edge_at G e).tail) inside.some_chips in
      let mine = sum_below_term G.vertices (position_after G x vs) u inside.head_is_vertex in
      let out = mul-le-mul (greatest_below_is G.vertices (degree G) u inside.head_is_vertex) ih in
      omega (arith, position_is G vs x ok u, chips_are_kept x vs ok, ap (counts vs) way.1)

  pub bound_law : (x : ℕ → ℕ) (v distance : ℕ) → IsDistance G v distance → (vs : List ℕ) → IsFiringSequence G x vs
      → counts vs v ≤ firing_bound (sum_below G.vertices x) (greatest_degree G) distance
  bound_law x v distance is vs ok =
      let way = is.reached in rw (← way.2) (bound_of_walk x vs ok way.0 v way.1)

  -- ---- where the limit is enough

  module _ (x : ℕ → ℕ) (distance : ℕ) (near : (v : ℕ) → v < G.vertices → (es : List ℕ) × IsWalk G v es G.sink
      × (length es ≤ distance)) where
    -- the bound at the greatest distance
    abbrev pub top : ℕ
    top = firing_bound (sum_below G.vertices x) (greatest_degree G) distance

    -- it bounds every vertex
    pub below_top : (vs : List ℕ) → IsFiringSequence G x vs → (v : ℕ) → counts vs v ≤ top
    below_top vs ok v = dite (dec_lt v G.vertices)
        (λ l.
        let way = near v l in
        let b = bound_more (sum_below G.vertices x) (greatest_degree G) (length way.0) distance way.2 in
        omega (arith, bound_of_walk x vs ok way.0 v way.1))
        (λ nl. omega (arith, counts_outside G vs x v ok (omega arith)))

    pub enough_law : (limit : ℕ) → top ≤ limit → (vs : List ℕ) → IsWholePlay G x limit vs → HasEnded G x vs
    enough_law = enough_above G x top (λ vs ok v l. below_top vs ok v)

  -- some number of edges that is at least every vertex's distance
  some_distance : (n : ℕ) → n ≤ G.vertices → (distance : ℕ)
      × ((v : ℕ) → v < n → (es : List ℕ) × IsWalk G v es G.sink × (length es ≤ distance))
  some_distance zero l = (0, λ v m. absurd (omega arith))
  some_distance (suc n) l =
      let below = some_distance n (omega arith) in
      let way = good.all_reach n (omega arith) in (
        below.0 + length way.0,
        λ v m. dite (ℕ_discrete v n)
            (λ same. (way.0, rw same way.1, omega arith))
            (λ other. (let rest = below.1 v (omega arith) in (rest.0, rest.1, (let a = rest.2 in omega arith)))),
      )

  -- ---- without a limit

  pub ends : (x : ℕ → ℕ) (vs : List ℕ) → IsFiringSequence G x vs → (more : List ℕ) × IsFiringSequence G x (vs ++ more)
      × HasEnded G x (vs ++ more)
  ends x vs ok =
      let far = some_distance G.vertices (omega arith) in
      let rest = continued G x (top x far.0 far.1) vs ok (below_top x far.0 far.1 vs ok) in
      (rest.0, rest.1.sequence, enough_law x far.0 far.1 (top x far.0 far.1) (omega arith) (vs ++ rest.0) rest.1)

  -- one that has ended is a whole play within the bound
  whole : (x : ℕ → ℕ) (vs : List ℕ) → IsFiringSequence G x vs → HasEnded G x vs
      → (distance : ℕ) (near : (v : ℕ) → v < G.vertices → (es : List ℕ) × IsWalk G v es G.sink × (length es ≤ distance))
      → IsWholePlay G x (top x distance near) vs
  whole x vs ok ended distance near =
      record { sequence = ok; within = below_top x distance near vs ok; ended = λ v can. absurd (ended v can) }

  pub same_ends : (x : ℕ → ℕ) (vs ws : List ℕ) → IsFiringSequence G x vs → HasEnded G x vs → IsFiringSequence G x ws
      → HasEnded G x ws → ((u : ℕ) → counts vs u ≡ counts ws u)
      × ((u : ℕ) → position_after G x vs u ≡ position_after G x ws u)
  same_ends x vs ws ok ended ok' ended' =
      let far = some_distance G.vertices (omega arith) in
      one_end G x (top x far.0 far.1) vs ws (whole x vs ok ended far.0 far.1) (whole x ws ok' ended' far.0 far.1)

  -- ---- out-degrees

  -- a vertex that is not the sink has a chip to send
  pub some_degree : (v : ℕ) → v < G.vertices → v ≢ G.sink → 0 < degree G v
  some_degree v l ns = degree_positive G v (good.all_reach v l) ns (λ e m. (good.edges_fit e m).some_chips)

-- the greatest distance of the sink and the vertices below n
pub record IsGreatestBelow (G : Multigraph) (n distance : ℕ) : Type 0 where
  pub reached : (v : ℕ) × (v < G.vertices) × IsDistance G v distance
  pub greatest : (v : ℕ) → v < n → (es : List ℕ) × IsWalk G v es G.sink × (length es ≤ distance)

-- the distance of the sink is 0
pub greatest_none : (G : Multigraph) → G.sink < G.vertices → IsGreatestBelow G 0 0
greatest_none G inside = record {
  reached = (G.sink, inside, record { reached = ([], refl, refl); shortest = λ es way. omega arith });
  greatest = λ v l. absurd (omega arith);
}

-- one vertex more
pub greatest_more : (G : Multigraph) (n distance d : ℕ) → n < G.vertices → IsGreatestBelow G n distance
    → IsDistance G n d → IsGreatestBelow G (n + 1) (max distance d)
greatest_more G n distance d inside so_far is = record {
  reached = dite (dec_le d distance)
      (λ near. let most : max distance d ≡ distance = omega arith in rw most so_far.reached)
      (λ far. let most : max distance d ≡ d = omega arith in rw most (n, inside, is));
  greatest = λ v l. dite (ℕ_discrete v n)
      (λ same. rw same (is.reached.0, is.reached.1, (let a = is.reached.2 in omega arith)))
      (λ other. (let way = so_far.greatest v (omega arith) in (way.0, way.1, (let a = way.2 in omega arith))));
}

-- all vertices
pub greatest_all : (G : Multigraph) (n distance : ℕ) → n ≡ G.vertices → IsGreatestBelow G n distance
    → IsGreatestDistance G distance
greatest_all G n distance all so_far =
    record { reached = so_far.reached; greatest = λ v l. so_far.greatest v (omega arith) }

-- where the next bound is too great, so is that at the greatest distance
pub too_far : (total most now i distance : ℕ) → now ≡ firing_bound total most i → i < distance
    → (total + most * now ≤ 2 ^ 40 → ⊥) → firing_bound total most distance ≤ 2 ^ 40 → ⊥
too_far total most now i distance is further above low =
    let a = bound_more total most (suc i) distance (omega arith) in
    above (omega (arith, ap (λ (n : ℕ). most * n) is))
