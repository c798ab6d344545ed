-- Serves Certificate.antt, Sequence.antt, Firing.antt.
-- Counts that are forced because they burn; the counts of a sequence burn in the order of the last firings.
use Rattle.chip_sequence.proofs.Names.{◌≡◌, ℕ, zero, suc, ◌+◌, ◌-◌, ◌*◌, ◌^◌, ◌<◌, ◌≤◌, Bool, true, cond, eqb, leb}
use Rattle.chip_sequence.proofs.Names.{length, take, sum_by, get_or, sym, ap, arith, mul-le-mul_left, mul-le-mul_right}
use Rattle.chip_sequence.proofs.Names.{◌≢◌, List, [], ◌∷◌, refl, sum_by_more_le, dite, ℕ_discrete, dec_lt, dec_le}
use Rattle.chip_sequence.proofs.Names.{Multigraph, edge_at, edges_in, sum_in, degree, IsGraph, picked_sum, tested_le}
use Rattle.chip_sequence.proofs.Names.{tested_add, tested_scale, position_after, counts, IsFiringSequence, IsWithin}
use Rattle.chip_sequence.proofs.Names.{inflow, AreForced, fired_once, nat_tests, ltb, ◌&&◌}
use Rattle.std.proofs.Common.{false, le-leb, ◌||◌}
use Rattle.chip_sequence.specs.Certificate.{in_degree, HasFewIn, late_in_degree, IsBurnt, AreBurnt}
use Rattle.chip_sequence.proofs.FiringLemmas.{inflow_le, position_is, counts_here, counts_else, counts_outside}
use Rattle.chip_sequence.proofs.FiringLemmas.{sink_never, inflow_more, counts_more, fired_is}
use Rattle.chip_sequence.proofs.AfterLemmas.{sum_small}
use Rattle.chip_sequence.proofs.CertificateLemmas.{inflow_add}
use Rattle.std.proofs.lemmas.Bool.{cond-true}
use Rattle.chip_graph.proofs.SumLemmas.{by_test}

-- ---- the vertex with the greatest number, and among these the one that burns first

-- below n, none has more than v, and none with the same number has a smaller rank
record IsFirst (w rank : ℕ → ℕ) (n v : ℕ) : Type 0 where
  is_below : v < n
  most : (u : ℕ) → u < n → w u ≤ w v
  first : (u : ℕ) → u < n → w u ≡ w v → rank v ≤ rank u

some_first : (w rank : ℕ → ℕ) (n : ℕ) → (v : ℕ) × IsFirst w rank (suc n) v
some_first w rank zero = (
  0,
  record {
    is_below = omega arith;
    most = λ u l. (let same : u ≡ 0 = omega arith in rw same (omega arith));
    first = λ u l _. (let same : u ≡ 0 = omega arith in rw same (omega arith));
  },
)
some_first w rank (suc n) =
    let before = some_first w rank n in
    let v : ℕ = before.0 in
    let is : IsFirst w rank (suc n) v = before.1 in
    let new : ℕ = suc n in
    by_test (ltb (w v) (w new) || (eqb (w new) (w v) && ltb (rank new) (rank v)))
    (λ yes. (
      new,
      record {
        is_below = omega arith;
        most = λ u l. dite (ℕ_discrete u new) (λ e. rw e (omega arith))
            (λ ne. let a = is.most u (omega arith) in grind (arith, nat_tests));
        first = λ u l same. dite (ℕ_discrete u new) (λ e. rw e (omega arith))
            (λ ne. let a = is.most u (omega arith) in let b = is.first u (omega arith) in grind (arith, nat_tests));
      },
    ))
    (λ no. (
      v,
      record {
        is_below = omega (arith, is.is_below);
        most = λ u l. dite (ℕ_discrete u new) (λ e. rw e (grind (arith, nat_tests))) (λ ne. is.most u (omega arith));
        first = λ u l. dite (ℕ_discrete u new) (λ e. rw e (λ same. grind (arith, nat_tests)))
            (λ ne. is.first u (omega arith));
      },
    ))

-- ---- at one vertex

-- an edge brings at most `mult * most`, less its multiplicity unless its tail is late
edge_brings : (mult most tail : ℕ) (r s : ℕ) → tail ≤ most → (tail ≡ most → r ≤ s)
    → mult * tail + mult ≤ mult * most + cond (leb r s) mult 0
edge_brings mult most tail r s low late = dite (dec_le r s)
    (λ l. omega (arith, cond-true (leb r s) mult 0 (le-leb r s l), mul-le-mul_left mult low))
    (λ nl. let less : tail + 1 ≤ most = grind arith in omega (arith, mul-le-mul_left mult less))

module _ (G : Multigraph) (good : IsGraph G) (x : ℕ → ℕ) (limit : ℕ) (f g rank : ℕ → ℕ) (forced : AreForced G x limit f)
    (burnt : AreBurnt G x limit f g rank) where
  -- what flows into the first of those that lack most
  first_flows : (w : ℕ → ℕ) (n v : ℕ) → G.vertices ≤ n → IsFirst w rank n v
      → inflow G w v + in_degree G v ≤ in_degree G v * w v + late_in_degree G rank v
  first_flows w n v all is =
      let into : ℕ → Bool = λ e. eqb (edge_at G e).head v in
      let mult : ℕ → ℕ = λ e. (edge_at G e).mult in
      let tail : ℕ → ℕ = λ e. (edge_at G e).tail in
      let late : ℕ → ℕ = λ e. cond (leb (rank v) (rank (tail e))) (mult e) 0 in
      let a = tested_add (length G.edges) into (λ e. mult e * w (tail e)) mult in
      let b = tested_le (length G.edges) into (λ e. mult e * w (tail e) + mult e) (λ e. mult e * w v + late e)
      (λ e l on. let inside = (good.edges_fit e l).tail_is_vertex in
      edge_brings (mult e) (w v) (w (tail e)) (rank v) (rank (tail e)) (is.most (tail e) (omega arith))
      (is.first (tail e) (omega arith))) in
      let c = tested_add (length G.edges) into (λ e. mult e * w v) late in
      let d = tested_scale (length G.edges) into (w v) mult in
      omega arith

  pub burnt_counts : AreForced G x limit g
  burnt_counts vs ok ended u = dite (dec_lt (counts vs u) (g u))
      (λ more.
      let w : ℕ → ℕ = λ v. g v - counts vs v in
      let u_in = (burnt u (let a = forced vs ok ended u in omega arith)).is_vertex in
      let found = some_first w rank (G.vertices - 1) in
      let v : ℕ = found.0 in
      let is : IsFirst w rank (suc (G.vertices - 1)) v = found.1 in
      let most : w u ≤ w v = is.most u (omega arith) in
      let why : IsBurnt G x limit g rank v = burnt v (let a = forced vs ok ended v in omega arith) in
      let within = why.within in
      let flows = first_flows w (suc (G.vertices - 1)) v (omega arith) is in
      let again : in_degree G v * w v ≡ in_degree G v * ((w v - 1) + 1) =
      ap (λ (n : ℕ). in_degree G v * n) (omega arith) in
      let split : g v ≡ counts vs v + ((w v - 1) + 1) = omega arith in
      let come = inflow_le G g (λ z. counts vs z + w z) (λ z. omega arith) v in
      let enough : degree G v ≤ position_after G x vs v = omega (
        arith,
        ap (λ (n : ℕ). degree G v * n) split,
        mul-le-mul_right (w v - 1) why.few_in,
        why.covered,
        position_is G vs x ok v,
        inflow_add G (counts vs) w v,
      ) in
      let full = ended v (record { is_vertex = why.is_vertex; not_sink = why.not_sink; enough_chips = enough }) in
      absurd (omega arith))
      (λ enough. omega arith)

-- ---- the burning test

module _ (G : Multigraph) (good : IsGraph G) (v : ℕ) where
  -- a sum along the edges into v
  pub in_sum : (h : ℕ → ℕ) → sum_by h (edges_in G v) ≡ sum_in G v h
  in_sum h = picked_sum h (λ e. eqb (edge_at G e).head v) (length G.edges)

  -- the sum so far and the next edge's part fit 64 bits
  pub in_fits : (h : ℕ → ℕ) → ((e : ℕ) → h e ≤ (edge_at G e).mult) → (n i : ℕ) → n ≡ sum_by h (take i (edges_in G v))
      → i < length (edges_in G v) → n + h (get_or (edges_in G v) i 0) < 2 ^ 64
  in_fits h small n i is l =
      let few = good.few_edges in
      omega (
        arith,
        sum_by_more_le h (edges_in G v) i 0 l,
        in_sum h,
        sum_small (length G.edges) (2 ^ 20)
            (λ e. eqb (edge_at G e).head v) h (λ e m. omega (arith, small e, (good.edges_fit e m).few_chips)),
      )

-- what counts at most where a test passes
pub if_late_small : (b : Bool) (mult : ℕ) → cond b mult 0 ≤ mult
if_late_small b mult = grind arith

-- ---- the place of the last firing

-- the place of the last occurrence of a vertex in a list, from 1 on; 0 if it does not occur
last_of : List ℕ → ℕ → ℕ
last_of [] u = 0
last_of (v ∷ vs) u = cond (ltb 0 (last_of vs u)) (last_of vs u + 1) (cond (eqb v u) 1 0)

-- a vertex that fires has a place
last_some : (vs : List ℕ) (u : ℕ) → 0 < counts vs u → 0 < last_of vs u
unfolding last_of
last_some [] u some = absurd (omega arith)
last_some (v ∷ vs) u some = let rest = last_some vs u in grind (arith, nat_tests)

-- a vertex with a place fires
last_fires : (vs : List ℕ) (u : ℕ) → 0 < last_of vs u → 0 < counts vs u
unfolding last_of
last_fires [] u some = absurd (omega arith)
last_fires (v ∷ vs) u some = let rest = last_fires vs u in grind (arith, nat_tests)

-- ---- choices by a test

-- a choice that is made only where something counts
counted_once : (a : Bool) (m n : ℕ) → (a ≡ true → 0 < n) → cond a m 0 ≤ m * n
counted_once true m n p = omega (arith, mul-le-mul_left m (p refl))
counted_once false m n p = omega arith

module _ (G : Multigraph) where
  -- a tail that is late in the whole is late in the rest
  keeps : (v : ℕ) (vs : List ℕ) (w : ℕ) → 0 < counts vs w
      → late_in_degree G (last_of (v ∷ vs)) w ≤ late_in_degree G (last_of vs) w
  unfolding last_of
  keeps v vs w again = let some = last_some vs w again in
      tested_le _ (λ e. eqb (edge_at G e).head w) _ _ (λ e l on. grind (arith, nat_tests))

  -- a tail that is late has fired
  came : (ws : List ℕ) (w : ℕ) → 0 < counts ws w → late_in_degree G (last_of ws) w ≤ inflow G (counts ws) w
  came ws w fires = let some = last_some ws w fires in
      tested_le _ (λ e. eqb (edge_at G e).head w) _ _
      (λ e l on. counted_once _ (edge_at G e).mult (counts ws (edge_at G e).tail)
      (λ is. last_fires ws (edge_at G e).tail (grind (arith, nat_tests))))

  -- every vertex that fires in a sequence has at its end a chip for each that came in from a tail that fired after it
  covered : (vs : List ℕ) (y : ℕ → ℕ) → IsFiringSequence G y vs → (w : ℕ) → 0 < counts vs w
      → degree G w * counts vs w + late_in_degree G (last_of vs) w ≤ y w + inflow G (counts vs) w
  covered [] y ok w some = absurd (omega arith)
  covered (v ∷ vs) y ok w some =
      let more = inflow_more G (counts vs) (counts (v ∷ vs)) v 1 (counts_here v v vs refl)
      (λ z ne. counts_else v z vs (λ e. ne (sym e))) w in
      let enough = ok.0.enough_chips in
      dite (dec_lt 0 (counts vs w))
      (λ again. let late = keeps v vs w again in let here = fired_is G v w y enough in
      omega (arith, covered vs (fired_once G v y) ok.1 w again, ap (λ (n : ℕ). degree G w * n) (counts_more v w vs)))
      (λ first.
      let same : v ≡ w = grind (arith, nat_tests) in
      let one : counts (v ∷ vs) w ≡ 1 = grind (arith, nat_tests) in
      let d : degree G w ≤ y w = rw same at enough in
      omega (arith, ap (λ (n : ℕ). degree G w * n) one, came (v ∷ vs) w some))

-- so they burn
pub fired_burn : (G : Multigraph) (x : ℕ → ℕ) (limit : ℕ) → HasFewIn G → (vs : List ℕ) → IsFiringSequence G x vs
    → IsWithin limit vs → (rank : ℕ → ℕ) × AreBurnt G x limit (λ v. 0) (counts vs) rank
fired_burn G x limit few vs ok within = (
  last_of vs,
  λ v some.
      let inside : v < G.vertices = dite (dec_lt v G.vertices) (λ l. l)
      (λ past. absurd (omega (arith, counts_outside G vs x v ok (omega arith)))) in
      let other : v ≢ G.sink = (λ is. absurd (omega (arith, sink_never G vs x ok, ap (counts vs) is))) in
      record {
        is_vertex = inside;
        not_sink = other;
        within = within v;
        few_in = few v inside other;
        covered = covered G vs x ok v some;
      },
)
