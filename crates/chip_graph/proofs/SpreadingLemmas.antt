-- Serves Multigraph.antt, Found.antt, Distances.antt.
-- The search for distances: its invariant after each vertex, and its result.
use Rattle.chip_graph.proofs.Names.{◌≡◌, ◌≢◌, ℕ, zero, suc, ◌+◌, ◌<◌, ◌≤◌, cond, List, [], ◌∷◌, ◌++◌, length, get_or}
use Rattle.chip_graph.proofs.Names.{set, replicate, map, Option, Some, None, refl, sym, ap, ◌∙◌, inl, inr, ◌⊎◌, arith}
use Rattle.chip_graph.proofs.Names.{length-set, eqb, eq-eqb, get_or-set_same, get_or-set_other, dite, ℕ_discrete, rules}
use Rattle.chip_graph.proofs.Names.{get_or_append_left, get_or_push, get_or-map, map-set, Multigraph, edge_at, edges_in}
use Rattle.chip_graph.proofs.Names.{IsWalk, IsDistanceOf, AreDistances, nat_tests, All-nil, All, Contains, UNREACHED}
use Rattle.chip_graph.proofs.Names.{noted}
use Rattle.std.proofs.Common.{is_some, count_by, eqb-true}
use Rattle.std.proofs.lemmas.List.{length_push, get_or_read, length-replicate}
use Rattle.std.proofs.lemmas.List.Sums.{sum_by-set, count_by-le-length}
use Rattle.std.proofs.lemmas.List.Folds.{sum_by-replicate}
use Rattle.std.proofs.lemmas.Option.{same_Some, none-some}
use Rattle.chip_graph.specs.declared.distance.Reached.{Reached}
use Rattle.std.proofs.lemmas.List.Elements.{All-cons, All-weaker, All-contains, All-contains_itself}
use Rattle.chip_graph.proofs.PickLemmas.{Contains-picked, picked_has}
use Rattle.chip_graph.specs.Found.{Found, with_vertex, with_tails}

-- the distance noted for v
abbrev pub distance_at : Found → ℕ → Option ℕ
distance_at f v = get_or f.distances v None

-- the vertex that was reached at a place
abbrev pub reached_at : Found → ℕ → Reached
reached_at f i = get_or f.reached i (record { vertex = 0; distance = 0 })

-- a distance is noted for v, of at most d
abbrev pub IsWithin : Found → ℕ → ℕ → Type 0
IsWithin f v d = (k : ℕ) × (distance_at f v ≡ Some k) × (k ≤ d)

-- a vertex reached at a place has a walk of its distance, which is at most that place
pub record IsReached (G : Multigraph) (place : ℕ) (r : Reached) : Type 0 where
  pub is_vertex : r.vertex < G.vertices
  pub walk : (es : List ℕ) × IsWalk G r.vertex es G.sink × (length es ≡ r.distance)
  pub early : r.distance ≤ place

-- the place of v among the reached, at distance d
pub record IsListed (f : Found) (v d : ℕ) : Type 0 where
  pub place : ℕ
  pub inside : place < length f.reached
  pub is : reached_at f place ≡ record { vertex = v; distance = d }

-- a search that `left` of the reached vertices have left: the edges into them have been read.
-- Walks are found nearest first, and no distance is more than one above that of the next vertex to leave.
pub record IsSpread (G : Multigraph) (f : Found) (left : ℕ) : Type 0 where
  pub one_each : length f.distances ≡ G.vertices
  pub counted : length f.reached ≡ count_by is_some f.distances
  pub at_sink : distance_at f G.sink ≡ Some 0
  pub each : (i : ℕ) → i < length f.reached → IsReached G i (reached_at f i)
  pub listed : (v d : ℕ) → distance_at f v ≡ Some d → IsListed f v d
  pub nearest_first : (i j : ℕ) → i ≤ j → j < length f.reached → (reached_at f i).distance ≤ (reached_at f j).distance
  pub few_left : left ≤ length f.reached
  pub near : (i : ℕ) → i < length f.reached → left < length f.reached
      → (reached_at f i).distance ≤ (reached_at f left).distance + 1
  pub spread : (i e : ℕ) → i < left → e < length G.edges → (edge_at G e).head ≡ (reached_at f i).vertex
      → IsWithin f (edge_at G e).tail ((reached_at f i).distance + 1)

-- what was found stays, at its place
pub record Grows (old new : Found) : Type 0 where
  pub keeps : (v d : ℕ) → distance_at old v ≡ Some d → distance_at new v ≡ Some d
  pub longer : length old.reached ≤ length new.reached
  pub same : (i : ℕ) → i < length old.reached → reached_at new i ≡ reached_at old i

-- growing is reflexive and transitive, and keeps what is noted
grows_not : (f : Found) → Grows f f
grows_not f = record { keeps = λ v d e. e; longer = omega arith; same = λ i l. refl }

grows_on : {f g h : Found} → Grows f g → Grows g h → Grows f h
grows_on a b = search (rules, arith)

within_grows : {f g : Found} → Grows f g → (v d : ℕ) → IsWithin f v d → IsWithin g v d
within_grows a v d w = (w.0, a.keeps v w.0 w.1, w.2)

-- there is a value, or none
option_cases : (o : Option ℕ) → (o ≡ None) ⊎ ((k : ℕ) × (o ≡ Some k))
option_cases None = inl refl
option_cases (Some k) = inr (k, refl)

-- ---- one vertex is reached

-- v is reached, and was not before
abbrev pub pushed : ℕ → ℕ → Found → Found
pushed v d f = record {
  distances = set f.distances v (Some d);
  reached = f.reached
      ++ record { vertex = v; distance = d } ∷ [];
}

-- a vertex that was not reached before, as the distances are kept
pub reached_new : (v d : ℕ) (ds : List ℕ) (rs : List Reached) → v < length ds → get_or ds v 0 ≡ UNREACHED → d < UNREACHED
    → record { distances = map noted (set ds v d); reached = rs ++ record { vertex = v; distance = d } ∷ [] }
    ≡ with_vertex v d (record { distances = map noted ds; reached = rs })
reached_new v d ds rs inside is small =
    let some : noted d ≡ Some d = grind (arith, nat_tests) in
    let new : get_or (map noted ds) v None ≡ None = get_or-map noted ds v 0 None inside ∙ ap noted is in
    rw (map-set, new, some)

-- the distances, the places and the number of the reached once v is among them
module _ (v d : ℕ) (f : Found) (inside : v < length f.distances) (new : distance_at f v ≡ None) where
  pushed_here : distance_at (pushed v d f) v ≡ Some d
  pushed_here = get_or-set_same f.distances v (Some d) None inside

  pushed_other : (u : ℕ) → u ≢ v → distance_at (pushed v d f) u ≡ distance_at f u
  pushed_other u ne = get_or-set_other f.distances v u (Some d) None ne

  pushed_last : (i : ℕ) → length f.reached ≡ i → reached_at (pushed v d f) i ≡ record { vertex = v; distance = d }
  pushed_last i e = get_or_push f.reached (record { vertex = v; distance = d })
      (record { vertex = 0; distance = 0 }) i e

  pushed_length : length (pushed v d f).reached ≡ length f.reached + 1
  pushed_length = length_push f.reached (record { vertex = v; distance = d })

  pushed_grows : Grows f (pushed v d f)
  pushed_grows = record {
    keeps = λ u k e. dite (ℕ_discrete u v)
        (λ s. absurd (none-some k (sym new ∙ ap (distance_at f) (sym s) ∙ e)))
        (λ n. pushed_other u n ∙ e);
    longer = (let a = pushed_length in omega arith);
    same = λ i l. get_or_append_left f.reached (record { vertex = v; distance = d } ∷ [])
        (record { vertex = 0; distance = 0 }) i l;
  }

  pushed_counted : count_by is_some (pushed v d f).distances ≡ count_by is_some f.distances + 1
  pushed_counted =
      omega (arith, rw new at (sum_by-set (λ (o : Option ℕ). cond (is_some o) 1 0) f.distances v (Some d) None inside))

-- the last of the reached has the property, and so have all
module _ (P : ℕ → Reached → Type 0) (v d : ℕ) (f : Found) (inside : v < length f.distances)
    (new : distance_at f v ≡ None) where
  pushed_each : ((i : ℕ) → i < length f.reached → P i (reached_at f i))
      → P (length f.reached) (record { vertex = v; distance = d }) → (i : ℕ) → i < length (pushed v d f).reached
      → P i (reached_at (pushed v d f) i)
  pushed_each old last i l = dite (ℕ_discrete i (length f.reached))
      (λ s. rw (pushed_last v d f inside new i (sym s), s) last)
      (λ n. let m : i < length f.reached = (let a = pushed_length v d f inside new in omega arith) in
      rw ((pushed_grows v d f inside new).same i m) (old i m))

module _ (G : Multigraph) (f : Found) (left : ℕ) (kept : IsSpread G f left) (v d : ℕ)
    (some_left : left < length f.reached) (next : d ≡ (reached_at f left).distance + 1) where
  -- a vertex that was not reached before is
  pushed_spread : (walk : (es : List ℕ) × IsWalk G v es G.sink × (length es ≡ d)) → v < G.vertices
      → distance_at f v ≡ None → IsSpread G (pushed v d f) left
  pushed_spread walk inside new =
      let within : v < length f.distances = (let a = kept.one_each in omega arith) in
      let grows = pushed_grows v d f within new in
      let more = pushed_length v d f within new in
      let at_left = ap (λ (r : Reached). r.distance) (grows.same left some_left) in
      record {
        one_each = length-set f.distances v (Some d) ∙ kept.one_each;
        counted = (let a = kept.counted in let b = pushed_counted v d f within new in omega arith);
        at_sink = grows.keeps G.sink 0 kept.at_sink;
        each = pushed_each (IsReached G) v d f within new kept.each (let a = (kept.each left some_left).early in
            record { is_vertex = inside; walk = walk; early = omega arith });
        listed = λ u k e. dite (ℕ_discrete u v)
            (λ s. let last = pushed_last v d f within new (length f.reached) refl in
            let far = same_Some d k (sym (pushed_here v d f within new) ∙ rw s at e) in
            record { place = length f.reached; inside = omega arith; is = rw (s, ← far) last })
            (λ n. let was = kept.listed u k (sym (pushed_other v d f within new u n) ∙ e) in
            let inside = was.inside in
            record { place = was.place; inside = omega arith; is = grows.same was.place was.inside ∙ was.is });
        nearest_first = λ i j m l. pushed_each (λ j r. i ≤ j
            → (reached_at (pushed v d f) i).distance ≤ r.distance) v d f within new
            (λ j l m. let a = kept.nearest_first i j m l in
            let b = ap (λ (r : Reached). r.distance) (grows.same i (omega arith)) in omega arith)
            (λ m. pushed_each (λ i r. r.distance ≤ d) v d f within new (λ i l. let a = kept.near i l some_left in
            omega arith) (omega arith) i (omega arith))
            j l m;
        few_left = omega arith;
        near = λ i l m. pushed_each (λ i r. r.distance ≤ (reached_at (pushed v d f) left).distance + 1) v d f within new
            (λ i l. let a = kept.near i l some_left in omega arith) (omega arith) i l;
        spread = λ i e l m h. let same = grows.same i (omega arith) in
            rw same (within_grows grows _ _ (kept.spread i e l m (rw same at h)));
      }

-- the search after a step: it has grown, and its invariant holds, with v reached within d
pub record IsStep (G : Multigraph) (old new : Found) (left v d : ℕ) : Type 0 where
  pub grows : Grows old new
  pub kept : IsSpread G new left
  pub within : IsWithin new v d

-- one edge into the vertex whose turn it is
module _ (G : Multigraph) (f : Found) (left : ℕ) (kept : IsSpread G f left) (some_left : left < length f.reached)
    (e : ℕ) (is_edge : e < length G.edges) (from : (edge_at G e).head ≡ (reached_at f left).vertex)
    (inside : (edge_at G e).tail < G.vertices) where
  -- its tail is reached, or was, within one more
  with_vertex_step : (d : ℕ) → d ≡ (reached_at f left).distance + 1
      → IsStep G f (with_vertex (edge_at G e).tail d f) left (edge_at G e).tail d
  with_vertex_step d next =
      let v : ℕ = (edge_at G e).tail in
      elim (option_cases (distance_at f v)) [
        | inl new ↦
            let walk = (kept.each left some_left).walk in
            let within : v < length f.distances = (let a = kept.one_each in omega arith) in
            let walk_on : (es : List ℕ) × IsWalk G v es G.sink × (length es ≡ d) =
            (e ∷ walk.0, (is_edge, refl, rw from walk.1), (let a = walk.2 in omega arith)) in
            rw new (record {
              grows = pushed_grows v d f within new;
              kept = pushed_spread G f left kept v d some_left next walk_on inside new;
              within = (d, pushed_here v d f within new, omega arith);
            })
        | inr known ↦
            let was = kept.listed v known.0 known.1 in
            let near = kept.near was.place was.inside some_left in
            let far = ap (λ (r : Reached). r.distance) was.is in
            rw known.1 (record { grows = grows_not f; kept = kept; within = (known.0, known.1, omega arith) })
      ]

-- the search after reading the edges of a list
pub record AreSteps (G : Multigraph) (old new : Found) (left d : ℕ) (es : List ℕ) : Type 0 where
  pub grows : Grows old new
  pub kept : IsSpread G new left
  pub within : All (λ e. IsWithin new (edge_at G e).tail d) es

module _ (G : Multigraph) (tails : (e : ℕ) → e < length G.edges → (edge_at G e).tail < G.vertices) (left d : ℕ) where
  -- so it goes along the whole list
  pub with_tails_steps : (es : List ℕ) (f : Found) → IsSpread G f left → left < length f.reached
      → All (λ e. (e < length G.edges) × ((edge_at G e).head ≡ (reached_at f left).vertex)) es
      → d ≡ (reached_at f left).distance + 1 → AreSteps G f (with_tails G.edges d es f) left d es
  with_tails_steps [] f kept some_left into next = record { grows = grows_not f; kept = kept; within = All-nil _ }
  with_tails_steps (e ∷ es) f kept some_left into next =
      let here = into 0 e (omega arith) in
      let first = with_vertex_step G f left kept some_left e here.0 here.1 (tails e here.0) d next in
      let same = first.grows.same left some_left in
      let rest = with_tails_steps es (with_vertex (edge_at G e).tail d f) first.kept
      (let a = first.grows.longer in omega arith) (rw same (λ k c l. into (suc k) c (omega arith))) (rw same next) in
      record {
        grows = grows_on first.grows rest.grows;
        kept = rest.kept;
        within = All-cons (λ i. IsWithin (with_tails G.edges d (e ∷ es) f) (edge_at G i).tail d) e es
            (within_grows rest.grows _ _ first.within) rest.within;
      }

-- ---- the beginning

-- nothing is reached
abbrev pub nothing : ℕ → Found
nothing n = record { distances = replicate n None; reached = [] }

-- no vertex has a distance
nothing_at : (n v : ℕ) → distance_at (nothing n) v ≡ None
nothing_at zero v = refl
nothing_at (suc n) zero = refl
nothing_at (suc n) (suc v) = nothing_at n v

-- where only the sink is reached, none has left
pub begin_spread : (G : Multigraph) → G.sink < G.vertices → IsSpread G (with_vertex G.sink 0 (nothing G.vertices)) 0
begin_spread G inside =
    let n : ℕ = G.vertices in
    let s : ℕ = G.sink in
    let size : length (nothing n).distances ≡ n = length-replicate n None in
    let within : s < length (nothing n).distances = omega arith in
    let new : distance_at (nothing n) s ≡ None = nothing_at n s in
    let none = sum_by-replicate (λ (o : Option ℕ). cond (is_some o) 1 0) n None in
    rw new (record {
      one_each = length-set (nothing n).distances s (Some 0) ∙ size;
      counted = omega (arith, pushed_counted s 0 (nothing n) within new);
      at_sink = pushed_here s 0 (nothing n) within new;
      each = λ i l. (let first : i ≡ 0 = omega arith in
          rw first (record { is_vertex = inside; walk = ([], refl, refl); early = omega arith }));
      listed = λ v d e. dite (ℕ_discrete v s)
          (λ y. let far = same_Some 0 d (sym (pushed_here s 0 (nothing n) within new) ∙ rw y at e) in
          record { place = 0; inside = omega arith; is = rw (y, ← far) })
          (λ z. absurd (none-some d (sym (nothing_at n v) ∙ sym (pushed_other s 0 (nothing n) within new v z) ∙ e)));
      nearest_first = λ i j m l. (let first : j ≡ 0 = omega arith in let first' : i ≡ 0 = omega arith in
          rw (first, first') (omega arith));
      few_left = omega arith;
      near = λ i l m. (let first : i ≡ 0 = omega arith in rw first (omega arith));
      spread = λ i e l. absurd (omega arith);
    })

-- ---- one more vertex has had its turn

-- where all the tails are reached, the next vertex may leave
turn_over : (G : Multigraph) (f : Found) (left : ℕ) → IsSpread G f left → left < length f.reached
    → ((e : ℕ) → e < length G.edges → (edge_at G e).head ≡ (reached_at f left).vertex
    → IsWithin f (edge_at G e).tail ((reached_at f left).distance + 1)) → IsSpread G f (left + 1)
turn_over G f left kept some_left within = record {
  one_each = kept.one_each;
  counted = kept.counted;
  at_sink = kept.at_sink;
  each = kept.each;
  listed = kept.listed;
  nearest_first = kept.nearest_first;
  few_left = omega arith;
  near = λ i l m. omega (arith, kept.near i l some_left, kept.nearest_first left (left + 1) (omega arith) m);
  spread = λ i e l m h. dite (ℕ_discrete i left)
      (λ y. rw y (within e m (rw y at h)))
      (λ n. kept.spread i e (omega arith) m h);
}

-- so it may once the edges into it have been read
pub turn_spread : (G : Multigraph) (f : Found) (left : ℕ)
    → ((e : ℕ) → e < length G.edges → (edge_at G e).tail < G.vertices) → IsSpread G f left → left < length f.reached
    → IsSpread G (with_tails G.edges ((reached_at f left).distance + 1) (edges_in G (reached_at f left).vertex) f)
    (left + 1)
turn_spread G f left tails kept some_left =
    let u : ℕ = (reached_at f left).vertex in
    let d : ℕ = (reached_at f left).distance + 1 in
    let into = All-weaker (Contains (edges_in G u)) (λ e. (e < length G.edges) × ((edge_at G e).head ≡ u))
    (λ e has. let at = Contains-picked (λ e. eqb (edge_at G e).head u) (length G.edges) e has in
    (at.0, eqb-true _ _ at.1)) (edges_in G u) (All-contains_itself (edges_in G u)) in
    let steps = with_tails_steps G tails left d (edges_in G u) f kept some_left into refl in
    let same = steps.grows.same left some_left in
    let g : Found = with_tails G.edges d (edges_in G u) f in
    turn_over G g left steps.kept (let a = steps.grows.longer in omega arith) (rw same (λ e l h.
    All-contains (λ e. IsWithin g (edge_at G e).tail d) (edges_in G u) e steps.within
    (picked_has (λ e. eqb (edge_at G e).head u) (length G.edges) e l (eq-eqb _ _ h))))

-- ---- the end

module _ (G : Multigraph) (f : Found) (left : ℕ) (kept : IsSpread G f left) where
  -- there are at most as many reached as vertices, and a distance is below their number
  pub few_reached : length f.reached ≤ G.vertices
  few_reached = omega (arith, kept.counted, kept.one_each, count_by-le-length is_some f.distances)

  -- where each of the reached has had its turn, the start of a walk is reached within its length
  walk_within : length f.reached ≤ left → (es : List ℕ) (v : ℕ) → IsWalk G v es G.sink → IsWithin f v (length es)
  walk_within done [] v walk = (0, ap (distance_at f) walk ∙ kept.at_sink, omega arith)
  walk_within done (e ∷ es) v walk =
      let rest = walk_within done es (edge_at G e).head walk.2 in
      let at = kept.listed (edge_at G e).head rest.0 rest.1 in
      let within = kept.spread at.place e (let a = at.inside in omega arith) walk.0 (rw at.is) in
      let far = ap (λ (r : Reached). r.distance) at.is in
      (within.0, ap (distance_at f) (sym walk.1) ∙ within.1, (let a = within.2 in let b = rest.2 in omega arith))

  -- and each noted distance is the vertex's distance
  pub all_distances : length f.reached ≤ left → AreDistances G f.distances
  all_distances done = record { one_each = kept.one_each; each = λ v l. at_each (distance_at f v) v refl }
    where
      at_each : (o : Option ℕ) (v : ℕ) → distance_at f v ≡ o → IsDistanceOf G v o
      at_each None v e = λ walk. (let w = walk_within done walk.0 v walk.1 in none-some w.0 (sym e ∙ w.1))
      at_each (Some d) v e =
          let at = kept.listed v d e in
          record {
            reached = (rw at.is at (kept.each at.place at.inside)).walk;
            shortest = λ es w. (let within = walk_within done es v w in let a = same_Some within.0 d (sym within.1 ∙ e)
                in let b = within.2 in omega arith);
          }

-- ---- the steps of the code

-- the vertex whose turn it is, as it is read
module _ (G : Multigraph) (f : Found) (left : ℕ) (kept : IsSpread G f left) (r : Reached)
    (some_left : left < length f.reached) (read : r ≡ get_or f.reached left r) where
  -- it is the one at that place, with its properties
  turn_is : r ≡ reached_at f left
  turn_is = get_or_read f.reached left r some_left read (record { vertex = 0; distance = 0 })

  pub turn_reached : IsReached G left r
  turn_reached = rw turn_is (kept.each left some_left)

  -- its turn, where a row has the edges into it
  pub turn_kept : ((e : ℕ) → e < length G.edges → (edge_at G e).tail < G.vertices) → (row : List ℕ)
      → row ≡ edges_in G r.vertex → IsSpread G (with_tails G.edges (r.distance + 1) row f) (left + 1)
  turn_kept tails row is = rw (is, turn_is) (turn_spread G f left tails kept some_left)
