-- Serves WorkList.antt, Timed.antt.
-- The list of all legal vertices.
use Rattle.std.proofs.Common.{◌≡◌, ◌≢◌, ℕ, zero, suc, ◌+◌, ◌-◌, ◌*◌, ◌<◌, ◌≤◌, if◌then◌else◌, cond, eqb, leb, ltb, not, ◌&&◌}
use Rattle.std.proofs.Common.{min, List, [], ◌∷◌, ◌++◌, Bool, true, false, length, get_or, set, take, drop, slice_index}
use Rattle.std.proofs.Common.{refl, sym, ap, ◌∙◌, subst, arith, get_or-set_same, get_or-set_other, Contains}
use Rattle.std.proofs.lemmas.Bool.Decides.{nat_tests}
use Rattle.std.proofs.lemmas.List.{take_more_set, length-take-le, length-drop, length-append, ext_get_or, get_or-take, get_or-drop, length_push}
use Rattle.std.proofs.Common.{drop-cons, add-one, eqb-true, ◌⊎◌, inl, inr, ⊎_elim, ◌/◌, ◌^◌, All, Ok}
use Rattle.std.specs.Prelude.{Result, IfOk}
use Rattle.std.specs.declared.alloc.AllocError.{AllocError}
use Rattle.std.proofs.Math.Nat.{div-mul-le_self, lt-div-mul-add}
use Rattle.std.proofs.lemmas.Bool.{eqb-false}
use Rattle.chip_graph.specs.ChipGame.{ChipGame}
use Rattle.chip_graph.proofs.PickLemmas.{All-picked, picked_none}
use Rattle.chip_fire.specs.Search.{places}
use Rattle.std.proofs.lemmas.List.Elements.{All-nil}
use mir.Val.{bool_byte}
use mathlib.Core.Logic.{dite}
use native.Mathlib.Decide.{ℕ_discrete, dec_lt}
use Rattle.chip_graph.specs.Sums.{sum_below, filter_below}
use Rattle.chip_graph.specs.Multigraph.{Multigraph, IsGraph, degree, edge_at, edges_out}
use Rattle.chip_graph.proofs.SumLemmas.{by_test, sum_below_none, sum_below_move, sum_small, cond_no}
use Rattle.chip_sequence.specs.Firing.{IsLegal, IsStable, legal_vertices}
use Rattle.chip_sequence.specs.Sequence.{counts}
use Rattle.chip_sequence.proofs.FiringLemmas.{counts_here, counts_else, counts_more, counts-append}
use Rattle.chip_sequence.proofs.LegalLemmas.{legal_of_test, test_of_legal}
use Rattle.chip_fire.specs.WorkList.{AreTheLegal, IsSent, IsStuck, WorksOff, legal_in_all}
use Rattle.chip_fire.specs.declared.work_list.Listing.{Listing}
use Rattle.chip_fire.specs.declared.work_list.Listing.TheVariants.{GoesOn, Ends, GivesUp}
use Rattle.chip_fire.specs.Rounds.{OnlyRise, IsAtRest}
use Rattle.chip_fire.specs.Pile.{sum_between}
use Rattle.chip_fire.specs.Timed.{AreFound}
use Rattle.chip_fire.proofs.WorkLemmas.{supported, sent_step}
use Rattle.chip_sequence.proofs.BatchLemmas.{link_at}
use Rattle.chip_graph.specs.declared.edge.Link.{Link}
use Rattle.chip_fire.proofs.DropLemmas.{none_between}

-- ---- counts of lists

-- a list of the numbers that pass a test has each once
counts_picked : (test : ℕ → Bool) (n v : ℕ) → counts (filter_below test n) v ≡ cond (ltb v n && test v) 1 0
counts_picked test zero v = grind (arith, nat_tests)
counts_picked test (suc n) v =
    let rest = counts_picked test n v in
    by_test (test n)
    (λ is. rw is (let a = counts-append (filter_below test n) (n ∷ []) v in let b = counts_more n v [] in
    dite (ℕ_discrete v n)
    (λ e. let here : test v ≡ true = ap test e ∙ is in grind (arith, nat_tests))
    (λ ne. grind (arith, nat_tests))))
    (λ is. rw is (let a = counts-append (filter_below test n) [] v in
    dite (ℕ_discrete v n)
    (λ e. let here : test v ≡ false = ap test e ∙ is in grind (arith, nat_tests))
    (λ ne. grind (arith, nat_tests))))

-- nothing counts in an empty list
counts_none : (xs : List ℕ) (v : ℕ) → length xs ≡ 0 → counts xs v ≡ 0
counts_none [] v none = refl
counts_none (x ∷ xs) v none = absurd (omega arith)

-- what is in a list counts
counts_some : (xs : List ℕ) (i : ℕ) → i < length xs → 0 < counts xs (get_or xs i 0)
counts_some [] i l = absurd (omega arith)
counts_some (x ∷ xs) zero l = let a = counts_here x x xs refl in omega arith
counts_some (x ∷ xs) (suc i) l =
    let a = counts_some xs i (omega arith) in let b = counts_more x (get_or xs i 0) xs in omega arith

-- a list of numbers below n is as long as their counts say
length_counted : (n : ℕ) (xs : List ℕ) → ((v : ℕ) → n ≤ v → counts xs v ≡ 0) → length xs ≡ sum_below n (counts xs)
length_counted n [] past = sym (sum_below_none n (counts []) (λ e l. refl))
length_counted n (x ∷ xs) past =
    let here = counts_here x x xs refl in
    let inside : x < n = dite (dec_lt x n) (λ l. l) (λ nl. let a = past x (omega arith) in absurd (omega arith)) in
    let rest = length_counted n xs (λ v l. let a = past v l in let b = counts_more x v xs in omega arith) in
    let move = sum_below_move n (counts (x ∷ xs)) (counts xs) x inside (λ e l ne. counts_else x e xs (λ z. ne (sym z))) in
    omega arith

-- if each is there once at most, it has n at most
pub length_once : (n : ℕ) (xs : List ℕ) → ((v : ℕ) → n ≤ v → counts xs v ≡ 0) → ((v : ℕ) → counts xs v ≤ 1) → length xs ≤ n
length_once n xs past once =
    let a = length_counted n xs past in
    let b = sum_small n 1 (λ v. true) (counts xs) (λ v l. once v) in omega arith

-- ---- the legal vertices

-- the test of a legal vertex
abbrev pub may_fire : Multigraph → (ℕ → ℕ) → ℕ → Bool
may_fire G x v = ltb v G.vertices && (not (eqb v G.sink) && leb (degree G v) (x v))

pub counts_legal : (G : Multigraph) (x : ℕ → ℕ) (v : ℕ) → counts (legal_vertices G x) v ≡ cond (may_fire G x v) 1 0
counts_legal G x v = counts_picked (λ w. not (eqb w G.sink) && leb (degree G w) (x w)) G.vertices v

-- who counts among them is legal
pub legal_counts : (G : Multigraph) (x : ℕ → ℕ) (v : ℕ) → 0 < counts (legal_vertices G x) v → IsLegal G x v
legal_counts G x v some =
    let a = counts_legal G x v in
    let inside : v < G.vertices = grind (arith, nat_tests) in
    legal_of_test G x v inside (grind (arith, nat_tests))

-- and who is legal counts
pub counts_if_legal : (G : Multigraph) (x : ℕ → ℕ) (v : ℕ) → IsLegal G x v → counts (legal_vertices G x) v ≡ 1
counts_if_legal G x v can =
    let a = counts_legal G x v in let b = test_of_legal G x v can in let c = can.is_vertex in grind (arith, nat_tests)

module _ (G : Multigraph) (chips work : List ℕ) (are : AreTheLegal G chips work) where
  pub once : (v : ℕ) → counts work v ≤ 1
  once v = let a = are.each v in let b = counts_legal G (slice_index chips) v in grind arith

  outside : (v : ℕ) → G.vertices ≤ v → counts work v ≡ 0
  outside v past = let a = are.each v in let b = counts_legal G (slice_index chips) v in grind (arith, nat_tests)

  -- no more than there are vertices
  pub few_legal : length work ≤ G.vertices
  few_legal = length_once G.vertices work outside once

  -- each of them is legal
  pub legal_there : (i : ℕ) → i < length work → IsLegal G (slice_index chips) (get_or work i 0)
  legal_there i l = legal_counts G (slice_index chips) (get_or work i 0)
      (let a = are.each (get_or work i 0) in let b = counts_some work i l in omega arith)

  -- they are as many
  pub as_many : length work ≡ length (legal_vertices G (slice_index chips))
  as_many =
      let same : counts work ≡ counts (legal_vertices G (slice_index chips)) = (λ i v. are.each v i) in
      let a = length_counted G.vertices work outside in
      let b = length_counted G.vertices (legal_vertices G (slice_index chips))
      (λ v past. let c = counts_legal G (slice_index chips) v in grind (arith, nat_tests)) in
      a ∙ ap (sum_below G.vertices) same ∙ sym b

-- if there is none, no vertex is legal
pub none_legal : (G : Multigraph) (chips : List ℕ) → AreTheLegal G chips [] → IsStable G (slice_index chips)
none_legal G chips are v can =
    let a = are.each v in let b = counts_if_legal G (slice_index chips) v can in absurd (omega arith)

-- a vertex that alone may be legal is the one that is, if it is
pub the_legal_if : (G : Multigraph) (chips list : List ℕ) (v : ℕ) (b : Bool) → (b ≡ true → IsLegal G (slice_index chips) v)
    → (IsLegal G (slice_index chips) v → b ≡ true) → 0 < length list
    → ((u : ℕ) → IsLegal G (slice_index chips) u → u ≡ v) → AreTheLegal G chips (take (bool_byte b) (set list 0 v))
the_legal_if G chips list v true can is room alone =
    subst (AreTheLegal G chips) (sym (take_more_set list 0 v room)) (record {
      each = λ u. dite (ℕ_discrete v u)
          (λ e. let here = subst (IsLegal G (slice_index chips)) e (can refl) in
          let a = counts_if_legal G (slice_index chips) u here in let b = counts_here v u [] e in omega arith)
          (λ ne. let a = counts_else v u [] ne in
          dite (dec_lt 0 (counts (legal_vertices G (slice_index chips)) u))
          (λ some. absurd (ne (sym (alone u (legal_counts G (slice_index chips) u some)))))
          (λ none. omega arith));
    })
the_legal_if G chips list v false can is room alone = record {
  each = λ u. dite (dec_lt 0 (counts (legal_vertices G (slice_index chips)) u))
      (λ some.
      let here = legal_counts G (slice_index chips) u some in
      let a : false ≡ true = is (subst (IsLegal G (slice_index chips)) (alone u here) here) in cc)
      (λ none. omega arith);
}

-- if there are none, as many as are counted
pub none_counted : (G : Multigraph) (chips : List ℕ) → length (legal_vertices G (slice_index chips)) ≡ 0
    → IsStable G (slice_index chips)
none_counted G chips none v can =
    let a = counts_if_legal G (slice_index chips) v can in
    let b = counts_none (legal_vertices G (slice_index chips)) v none in absurd (omega arith)

-- and the play is at rest
pub rests : (g : ChipGame) (chips fired : List ℕ) → legal_in_all g.graph chips ≡ 0 → IsAtRest g chips fired
rests g chips fired none v can = absurd (none_counted g.graph chips none v can)

-- a work list that ends leaves no vertex legal
pub list_ends : (g g' : ChipGame) (few most : ℕ) (chips fired : List ℕ) (before after : ℕ)
    → (listing : Result Listing AllocError) → g' ≡ g
    → IfOk listing (WorksOff g few most chips fired before after) → listing ≡ Ok Ends
    → IsStable g'.graph (slice_index chips)
list_ends g g' few most chips fired before after listing same works ends = rw same (none_counted g.graph chips
    (subst (λ (l : Result Listing AllocError). IfOk l (WorksOff g few most chips fired before after)) ends works))

-- they are vertices
pub legal_inside : (G : Multigraph) (x : ℕ → ℕ) (list : List ℕ) → list ≡ legal_vertices G x → All (λ v. v < G.vertices) list
legal_inside G x list is =
    rw is (All-picked (λ v. not (eqb v G.sink) && leb (degree G v) (x v)) G.vertices G.vertices (omega arith))

-- where none is legal, the play is at rest
pub stable_rests : (g : ChipGame) (chips fired : List ℕ) → IsStable g.graph (slice_index chips) → IsAtRest g chips fired
stable_rests g chips fired stable v can = absurd (stable v can)

-- and none is listed
pub none_listed : (G : Multigraph) (x : ℕ → ℕ) → IsStable G x → legal_vertices G x ≡ []
none_listed G x stable = picked_none (λ v. not (eqb v G.sink) && leb (degree G v) (x v)) G.vertices
    (λ v l on. stable v (legal_of_test G x v l on))

-- the list of them stands at the front
pub front_legal : (G : Multigraph) (chips list : List ℕ) (n : ℕ) → n ≡ length (legal_vertices G (slice_index chips))
    → n ≤ length list → ((i : ℕ) → i < n → get_or list i 0 ≡ get_or (legal_vertices G (slice_index chips)) i 0)
    → AreTheLegal G chips (take n list)
front_legal G chips list n long room front =
    let legal : List ℕ = legal_vertices G (slice_index chips) in
    let each = length-take-le n list room in
    subst (AreTheLegal G chips) (sym (ext_get_or 0 (take n list) legal (each ∙ long)
    (λ i l. let m : i < n = omega arith in get_or-take n list i 0 m ∙ front i m))) (record { each = λ v. refl })

-- those below m are no more than those below n
picked_more : (test : ℕ → Bool) (m n : ℕ) → m ≤ n → length (filter_below test m) ≤ length (filter_below test n)
picked_more test m zero le = let e : m ≡ 0 = omega arith in rw e (omega arith)
picked_more test m (suc n) le = dite (ℕ_discrete m (suc n))
    (λ e. rw e (omega arith))
    (λ ne. let a = picked_more test m n (omega arith) in
    let b = length-append (filter_below test n) (if test n then n ∷ [] else []) in omega arith)

module _ (G : Multigraph) (x : ℕ → ℕ) where
  abbrev test : ℕ → Bool
  test v = not (eqb v G.sink) && leb (degree G v) (x v)

  -- a legal vertex counts
  pub count_legal : (n : ℕ) → IsLegal G x n → length (filter_below test (n + 1)) ≡ length (filter_below test n) + 1
  count_legal n can =
      let is = test_of_legal G x n can in
      let e : n + 1 ≡ suc n = omega arith in rw (e, is) (length_push (filter_below test n) n)

  -- and no other
  pub count_other : (n : ℕ) → n < G.vertices → (IsLegal G x n → ⊥)
      → length (filter_below test (n + 1)) ≡ length (filter_below test n)
  count_other n inside cannot =
      let e : n + 1 ≡ suc n = omega arith in rw e (by_test (test n)
      (λ is. absurd (cannot (legal_of_test G x n inside is)))
      (λ is. rw is (let a = length-append (filter_below test n) [] in omega arith)))

  -- no more of the first n than of all
  pub count_below : (n : ℕ) → n ≤ G.vertices → length (filter_below test n) ≤ length (legal_vertices G x)
  count_below n few = picked_more test n G.vertices few

-- ---- the chips of one vertex change

-- the sink sends none
pub sink_degree : (G : Multigraph) → IsGraph G → degree G G.sink ≡ 0
sink_degree G good = sum_below_none (length G.edges) _
    (λ e l. let other = (good.edges_fit e l).not_from_sink in cond_no (edge_at G e).tail G.sink _ _ other)

module _ (G : Multigraph) (chips old : List ℕ) (h has : ℕ) (is_vertex : h < G.vertices) (each : length chips ≡ G.vertices) where
  legal_set : (work : List ℕ) → ((u : ℕ) → h ≢ u → counts work u ≡ counts (legal_vertices G (slice_index chips)) u)
      → counts work h ≡ cond (not (eqb h G.sink) && leb (degree G h) has) 1 0 → AreTheLegal G (set chips h has) work
  legal_set work others here = record {
    each = λ u. dite (ℕ_discrete h u)
        (λ e. subst (λ (w : ℕ). counts work w ≡ counts (legal_vertices G (slice_index (set chips h has))) w) e
        (let a = counts_legal G (slice_index (set chips h has)) h in
        let b = get_or-set_same chips h has 0 (omega arith) in grind (arith, nat_tests)))
        (λ ne.
        let a = others u ne in
        let b = counts_legal G (slice_index chips) u in
        let c = counts_legal G (slice_index (set chips h has)) u in
        let d = get_or-set_other chips h u has 0 (λ z. ne (sym z)) in
        a ∙ b ∙ sym (rw d at c));
  }

  -- it has more chips, and is as legal as before
  pub legal_same : AreTheLegal G chips old → get_or chips h 0 ≤ has
      → (degree G h ≤ has → degree G h ≤ get_or chips h 0) → AreTheLegal G (set chips h has) old
  legal_same are more had = legal_set old (λ u ne. are.each u)
      (let a = are.each h in let b = counts_legal G (slice_index chips) h in
      dite (dec_lt has (degree G h))
      (λ few. grind (arith, nat_tests))
      (λ enough. let c = had (omega arith) in grind (arith, nat_tests)))

  -- it is legal with them, and was not
  pub legal_push : AreTheLegal G chips old → get_or chips h 0 < degree G h → degree G h ≤ has → h ≢ G.sink
      → AreTheLegal G (set chips h has) (old ++ h ∷ [])
  legal_push are few enough other = legal_set (old ++ h ∷ [])
      (λ u ne. (let a = are.each u in let b = counts-append old (h ∷ []) u in let c = counts_else h u [] ne in omega arith))
      (let a = are.each h in let b = counts_legal G (slice_index chips) h in let c = counts-append old (h ∷ []) h in
      let d = counts_here h h [] refl in grind (arith, nat_tests))

  -- it fires and has still enough
  pub legal_again : AreTheLegal G chips (h ∷ old) → IsLegal G (slice_index chips) h → degree G h ≤ has
      → AreTheLegal G (set chips h has) (old ++ h ∷ [])
  legal_again are can enough = legal_set (old ++ h ∷ [])
      (λ u ne. (let a = are.each u in let b = counts-append old (h ∷ []) u in let c = counts_more h u old in
      let d = counts_more h u [] in omega arith))
      (let a = are.each h in let b = counts_if_legal G (slice_index chips) h can in let c = counts-append old (h ∷ []) h in
      let d = counts_here h h old refl in let e = counts_here h h [] refl in let f = can.not_sink in grind (arith, nat_tests))

  -- it fires and has not
  pub legal_taken : AreTheLegal G chips (h ∷ old) → IsLegal G (slice_index chips) h → has < degree G h
      → AreTheLegal G (set chips h has) old
  legal_taken are can few = legal_set old
      (λ u ne. (let a = are.each u in let c = counts_else h u old ne in omega arith))
      (let a = are.each h in let b = counts_if_legal G (slice_index chips) h can in
      let d = counts_here h h old refl in grind (arith, nat_tests))

-- ---- queues

-- the first of a queue, and those after it
pub queue_next : (queue : List ℕ) (i waiting : ℕ) → 0 < waiting → i + waiting ≤ length queue
    → take waiting (drop i queue) ≡ get_or queue i 0 ∷ take (waiting - 1) (drop (i + 1) queue)
queue_next queue i waiting some fits =
    let e : waiting ≡ suc (waiting - 1) = omega arith in
    let here : drop i queue ≡ get_or queue i 0 ∷ drop (i + 1) queue = rw add-one (drop-cons queue i 0 (omega arith)) in
    ap (take waiting) here ∙ ap (λ (m : ℕ). take m (get_or queue i 0 ∷ drop (i + 1) queue)) e

-- whose turn it is may fire
pub next_legal : (G : Multigraph) (chips queue : List ℕ) (i waiting : ℕ) → AreTheLegal G chips (take waiting (drop i queue))
    → 0 < waiting → i + waiting ≤ length queue → IsLegal G (slice_index chips) (get_or queue i 0)
next_legal G chips queue i waiting are some fits =
    let past = length-drop i queue in
    let long = length-take-le waiting (drop i queue) (omega arith) in
    let here = get_or-take waiting (drop i queue) 0 0 some ∙ get_or-drop i queue 0 0 in
    let e : i + 0 ≡ i = omega arith in
    subst (λ (j : ℕ). IsLegal G (slice_index chips) (get_or queue j 0)) e
    (subst (IsLegal G (slice_index chips)) here (legal_there G chips (take waiting (drop i queue)) are 0 (omega arith)))

-- the queue has no more than there are vertices
pub queue_short : (G : Multigraph) (chips queue : List ℕ) (listed : ℕ) → AreTheLegal G chips (take listed queue)
    → listed ≤ length queue → listed ≤ G.vertices
queue_short G chips queue listed are fits =
    let a = few_legal G chips (take listed queue) are in let b = length-take-le listed queue fits in omega arith

-- it has as many
pub queue_many : (G : Multigraph) (chips queue : List ℕ) (i n : ℕ) → AreTheLegal G chips (take n (drop i queue))
    → i + n ≤ length queue → n ≡ legal_in_all G chips
queue_many G chips queue i n are fits =
    let past = length-drop i queue in
    let long = length-take-le n (drop i queue) (omega arith) in
    sym long ∙ as_many G chips (take n (drop i queue)) are

-- one of a queue that begins in its first half is stuck
pub stuck_at : (G : Multigraph) (limit : ℕ) (chips fired : List ℕ) (v len first listed : ℕ) → IsLegal G (slice_index chips) v
    → listed ≡ legal_in_all G chips → first ≤ len / 2 → 0 < listed → first + listed ≤ len
    → (limit < slice_index fired v + slice_index chips v / degree G v)
    ⊎ (len - (first + 1) < listed - 1 + length (edges_out G v))
    → IsStuck G limit chips fired (len / 2)
stuck_at G limit chips fired v len first listed can many low some fits why =
    (v, can, ⊎_elim (λ held. inl held) (λ long. inr (omega arith)) why)

-- and so in less room
pub stuck_in : (G : Multigraph) (limit : ℕ) (chips fired : List ℕ) (room less : ℕ) → less ≤ room
    → IsStuck G limit chips fired room → IsStuck G limit chips fired less
stuck_in G limit chips fired room less le (v, can, why) =
    (v, can, ⊎_elim (λ held. inl held) (λ long. inr (omega arith)) why)

-- what a work list has done after so many turns, each of which counts for so many visits, if so many vertices are legal
pub works_off : (g : ChipGame) (few most : ℕ) (chips fired : List ℕ) (before after turns m each room legal : ℕ)
    → 0 < each → each ≤ places g → m ≡ most / each → few ≤ room → turns ≤ m
    → (before + turns * each < 2 ^ 64 → after ≡ before + turns * each) → legal ≡ legal_in_all g.graph chips
    → (turns < m → (legal ≡ 0) ⊎ IsStuck g.graph g.limit chips fired room)
    → WorksOff g few most chips fired before after (cond (eqb legal 0) Ends (cond (eqb turns m) GoesOn GivesUp))
works_off g few most chips fired before after turns m each room legal some fits is le at_most counted many over =
    by_test (eqb legal 0)
    (λ none. rw none (let a = eqb-true legal 0 none in omega arith))
    (λ left. rw left (by_test (eqb turns m)
    (λ t. rw t (λ small.
    let same : turns ≡ m = eqb-true turns m t in
    let a = div-mul-le_self most each in
    let b : most < most / each * each + each = lt-div-mul-add some in
    let c = ap (λ (n : ℕ). n * each) (same ∙ is) in
    let e = counted (omega arith) in omega arith))
    (λ t. rw t (
    let other = eqb-false turns m t in
    ⊎_elim (λ none. absurd (eqb-false legal 0 left none)) (λ stuck. inr (stuck_in _ _ _ _ room few le stuck))
    (over (omega arith))))))

-- ---- the list of one firing

-- there is room for the vertex that fires
pub again_room : (G : Multigraph) (chips list : List ℕ) (v listed : ℕ) → AreTheLegal G chips (v ∷ take listed list)
    → listed ≤ length list → G.vertices ≤ length list → listed < length list
again_room G chips list v listed are fits room =
    let a = few_legal G chips (v ∷ take listed list) are in let b = length-take-le listed list fits in omega arith

-- and for one that is legal by it
pub push_room : (G : Multigraph) (chips list : List ℕ) (h listed : ℕ) → AreTheLegal G chips (take listed list ++ h ∷ [])
    → listed ≤ length list → G.vertices ≤ length list → listed < length list
push_room G chips list h listed are fits room =
    let a = few_legal G chips (take listed list ++ h ∷ []) are in
    let b = length-take-le listed list fits in let c = length_push (take listed list) h in omega arith

module _ (G : Multigraph) (good : IsGraph G) (links : List Link) (taken : List ℕ) (i : ℕ) (chips work : List ℕ)
    (k : ℕ) (sent : IsSent G k links taken i chips) (inside : i < length links) (are : AreTheLegal G chips work) (m : ℕ)
    (is : m ≡ k * (link_at links i).mult) where
  -- the head of the next edge, and its chips with that edge
  abbrev head : ℕ
  head = (link_at links i).head

  abbrev has : ℕ
  has = get_or chips head 0 + m

  head_in : head < G.vertices
  head_in = sent.heads i (record { head = 0; mult = 0 }) inside

  -- it is legal by that edge
  pub link_push : get_or chips head 0 < degree G head → degree G head ≤ has → AreTheLegal G (set chips head has) (work ++ head ∷ [])
  link_push few enough = legal_push G chips work head has head_in sent.chips_each are few enough
      (λ e. let a = ap (degree G) e in let b = sink_degree G good in absurd (omega arith))

  -- or as legal as before
  pub link_same : (degree G head ≤ has → degree G head ≤ get_or chips head 0) → AreTheLegal G (set chips head has) work
  link_same had = legal_same G chips work head has head_in sent.chips_each are (omega arith) had

  pub sent_more : IsSent G k links taken (i + 1) (set chips head has)
  sent_more = subst (λ (n : ℕ). IsSent G k links taken (i + 1) (set chips head (get_or chips head 0 + n))) (sym is)
      (sent_step G k links taken i chips sent inside)

-- ---- the vertices that fired

module _ (n : ℕ) (before fired support : List ℕ) (found v : ℕ) (so_far : AreFound n before fired support found)
    (is_vertex : v < n) (each : length fired ≡ n) (k : ℕ) (some : 0 < k) where
  -- the counts with k firings of v
  abbrev fired' : List ℕ
  fired' = set fired v (get_or fired v 0 + k)

  here_more : get_or fired' v 0 ≡ get_or fired v 0 + k
  here_more = get_or-set_same fired v (get_or fired v 0 + k) 0 (omega arith)

  others_same : (u : ℕ) → u ≢ v → get_or fired' u 0 ≡ get_or fired u 0
  others_same u ne = get_or-set_other fired v u (get_or fired v 0 + k) 0 ne

  rises_more : OnlyRise before fired'
  rises_more u = let a = so_far.rises u in dite (ℕ_discrete u v)
      (λ e. subst (λ (w : ℕ). get_or before w 0 ≤ get_or fired' w 0) (sym e)
      (let b = so_far.rises v in let c = here_more in omega arith))
      (λ ne. let b = others_same u ne in omega arith)

  moved : sum_between (λ k. min k 1) n before fired' + min (get_or fired v 0 - get_or before v 0) 1
      ≡ sum_between (λ k. min k 1) n before fired + min (get_or fired' v 0 - get_or before v 0) 1
  moved = sum_below_move n (λ u. min (get_or fired' u 0 - get_or before u 0) 1) (λ u. min (get_or fired u 0 - get_or before u 0) 1)
      v is_vertex (λ u l ne. ap (λ (k : ℕ). min (k - get_or before u 0) 1) (others_same u ne))

  -- one that had not fired
  pub found_room : get_or fired v 0 ≡ get_or before v 0 → found < n
  found_room first =
      let a = moved in let b = here_more in let c = so_far.many in
      let d = sum_small n 1 (λ u. true) (λ u. min (get_or fired' u 0 - get_or before u 0) 1) (λ u l. omega arith) in omega arith

  pub found_new : length support ≡ n → get_or fired v 0 ≡ get_or before v 0
      → AreFound n before fired' (set support found v) (found + 1)
  found_new long first =
      let room = found_room first in
      let put = supported n before fired fired' support found v so_far.has is_vertex others_same (omega arith) true
      (grind (arith, nat_tests)) in
      record {
        rises = rises_more;
        fits = put.0;
        has = put.1;
        many = (let a = moved in let b = here_more in let c = so_far.many in omega arith);
      }

  -- one that had
  pub found_old : get_or fired v 0 ≢ get_or before v 0 → AreFound n before fired' support found
  found_old again = record {
    rises = rises_more;
    fits = so_far.fits;
    has = record {
      vertices = so_far.has.vertices;
      each = λ u l ne. dite (ℕ_discrete u v)
          (λ e. subst (Contains (take found support)) (sym e) (so_far.has.each v is_vertex (λ same. again (sym same))))
          (λ apart. so_far.has.each u l (λ same. ne (same ∙ sym (others_same u apart))));
    };
    many = (let a = moved in let b = here_more in let c = so_far.many in let d = so_far.rises v in omega arith);
  }

-- none has
pub found_none : (n : ℕ) (fired support : List ℕ) → AreFound n fired fired support 0
found_none n fired support = record {
  rises = λ v. omega arith;
  fits = omega arith;
  has = record { vertices = All-nil (λ (u : ℕ). u < n); each = λ u l ne. absurd (ne refl) };
  many = sym (none_between (λ k. min k 1) refl n fired);
}
