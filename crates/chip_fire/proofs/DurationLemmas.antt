-- Serves Timed.antt.
-- Rounds, in each of which each legal vertex fires once.
use Rattle.std.proofs.Common.{◌≡◌, ℕ, suc, ◌+◌, ◌-◌, ◌*◌, ◌<◌, ◌≤◌}
use Rattle.std.proofs.Common.{List, [], ◌∷◌, true, length, get_or, set, take, drop, slice_index}
use Rattle.std.proofs.Common.{refl, sym, ap, ◌∙◌, subst, arith}
use Rattle.std.proofs.lemmas.List.{take_more, length-take-le, length-drop, take_all, take-take}
use Rattle.std.proofs.Common.{drop-cons, add-one, ◌^◌, mul-le-mul_right}
use borrow.Rule.Slice.PartMut.{put_mid}
use mathlib.Core.Logic.{dite}
use native.Mathlib.Decide.{ℕ_discrete}
use Rattle.chip_graph.specs.Multigraph.{Multigraph, degree}
use Rattle.chip_graph.proofs.SumLemmas.{sum_small}
use Rattle.chip_sequence.specs.Firing.{IsLegal, IsStable, legal_vertices, fired_once}
use Rattle.chip_sequence.specs.Sequence.{position_after, IsFiringSequence, counts}
use Rattle.chip_sequence.proofs.FiringLemmas.{counts_here, counts_more, same_position, fired_else, inflow_le}
use Rattle.chip_fire.specs.WorkList.{AreTheLegal, IsSent}
use Rattle.chip_graph.specs.Limits.{max_limit}
use Rattle.chip_sequence.proofs.FiringLemmas.{position-append}
use Rattle.chip_fire.specs.Rounds.{IsInRange, IsBegun, firings_left}
use Rattle.chip_fire.specs.Timed.{FiresOnce, IsHeld, EndsInRounds}
use Rattle.std.proofs.Common.{Option, Some, None}
use Rattle.std.specs.Prelude.{MatchOption}
use Rattle.chip_fire.specs.declared.pile.BegunDrop.{BegunDrop}
use Rattle.chip_fire.specs.declared.pile.Pile.{Pile}
use Rattle.chip_fire.specs.Pile.{IsPile, IsBegunDrop}
use Rattle.chip_fire.specs.Measured.{after_round, after_rounds, IsDuration}
use Rattle.chip_fire.proofs.WorkLemmas.{queue_put, turned, sent_none}
use Rattle.chip_fire.proofs.ListedLemmas.{once, counts_legal, legal_counts, legal_there}
use Rattle.chip_fire.proofs.PlayLemmas.{turn_less}
use Rattle.chip_sequence.proofs.BatchLemmas.{links_of, batch_fired}
use Rattle.chip_fire.proofs.DropLemmas.{rest_leads}
use Rattle.chip_graph.specs.ChipGame.{ChipGame}
use Rattle.chip_sequence.proofs.CertificateLemmas.{led}

-- ---- a round

module _ (G : Multigraph) where
  -- vertices that are legal at x may fire one after another, each once
  pub once_each : (vs : List ℕ) (x : ℕ → ℕ) → ((u : ℕ) → counts vs u ≤ 1)
      → ((u : ℕ) → 0 < counts vs u → IsLegal G x u) → IsFiringSequence G x vs
  once_each [] x once legal = tt
  once_each (v ∷ vs) x once legal =
      let here = counts_here v v vs refl in
      let can = legal v (omega arith) in (
        can,
        once_each vs (fired_once G v x) (λ u. let a = once u in let b = counts_more v u vs in omega arith)
            (λ u some. dite (ℕ_discrete u v)
            (λ e. let a = once v in let b = subst (λ (w : ℕ). 0 < counts vs w) e some in absurd (omega arith))
            (λ ne.
            let a = counts_more v u vs in
            let can' = legal u (omega arith) in
            let more = fired_else G v u x ne in
            record {
              is_vertex = can'.is_vertex;
              not_sink = can'.not_sink;
              enough_chips = (let b = can'.enough_chips in omega arith);
            })),
      )

  -- in whatever order they fire, they leave the position after the round
  pub round_is : (chips work : List ℕ) → AreTheLegal G chips work → (u : ℕ)
      → position_after G (slice_index chips) work u ≡ after_round G (slice_index chips) u
  round_is chips work are =
      let x : ℕ → ℕ = slice_index chips in
      same_position G x work (legal_vertices G x)
      (once_each work x (once G chips work are) (λ u some. legal_counts G x u (let a = are.each u in omega arith)))
      (once_each (legal_vertices G x) x (λ u. let a = counts_legal G x u in grind arith) (λ u some. legal_counts G x u some))
      are.each

-- ---- the turns of a round

-- fewer at the front are the same too
front_same : (xs ys : List ℕ) (m n : ℕ) → m ≤ n → take n xs ≡ take n ys → take m xs ≡ take m ys
front_same xs ys m n le same = sym (take-take m n xs le) ∙ ap (take m) same ∙ take-take m n ys le

module _ (queue all : List ℕ) (listed i waiting : ℕ) (inside : i < listed) (fits : i + waiting ≤ length queue)
    (enough : listed ≤ i + waiting) (long : length all ≡ listed)
    (rest : take (listed - i) (drop i queue) ≡ drop i all) where
  -- whose turn it is
  here_is : drop i queue ≡ get_or queue i 0 ∷ drop (i + 1) queue
  here_is = rw add-one (drop-cons queue i 0 (omega arith))

  split : get_or queue i 0 ∷ take (listed - (i + 1)) (drop (i + 1) queue) ≡ get_or all i 0 ∷ drop (i + 1) all
  split =
      let e : listed - i ≡ suc (listed - (i + 1)) = omega arith in
      let there : drop i all ≡ get_or all i 0 ∷ drop (i + 1) all = rw add-one (drop-cons all i 0 (omega arith)) in
      sym (ap (take (listed - i)) here_is ∙ ap (λ (m : ℕ). take m (get_or queue i 0 ∷ drop (i + 1) queue)) e) ∙ rest ∙ there

  pub next_is : get_or queue i 0 ≡ get_or all i 0
  next_is = let a = split in cc

  next_rest : take (listed - (i + 1)) (drop (i + 1) queue) ≡ drop (i + 1) all
  next_rest = let a = split in cc

  -- who waits after it
  pub rest_after : (list : List ℕ) → length list ≡ length queue - (i + 1)
      → take (waiting - 1) list ≡ take (waiting - 1) (drop (i + 1) queue)
      → take (listed - (i + 1)) (drop (i + 1) (put_mid (i + 1) (length queue - (i + 1)) queue list)) ≡ drop (i + 1) all
  rest_after list each kept =
      let past = length-drop (i + 1) queue in
      let put = queue_put (i + 1) (length queue - (i + 1)) (listed - (i + 1)) queue list (omega arith) (omega arith) in
      put.0 ∙ front_same list (drop (i + 1) queue) (listed - (i + 1)) (waiting - 1) (omega arith) kept
      ∙ next_rest

  -- where its firing leads
  pub position_next : (G : Multigraph) (x y y' : ℕ → ℕ) → ((u : ℕ) → y u ≡ position_after G x (take i all) u)
      → ((u : ℕ) → y' u ≡ fired_once G (get_or queue i 0) y u) → (u : ℕ) → y' u ≡ position_after G x (take (i + 1) all) u
  position_next G x y y' so_far fires u =
      let there : y ≡ position_after G x (take i all) = (λ k w. so_far w k) in
      let more = take_more all i 0 (omega arith) in
      let a = fires u in
      let b = rw (next_is, there) at a in
      b ∙ sym (rw more (ap (λ (h : ℕ → ℕ). h u) (position-append G (take i all) (get_or all i 0 ∷ []) x)))

-- ---- round after round

-- few firings are left
pub left_fits : (G : Multigraph) (limit : ℕ) (chips fired : List ℕ) → IsInRange G limit chips fired
    → firings_left G limit fired ≤ 2 ^ 61
left_fits G limit chips fired ok =
    let a = sum_small G.vertices max_limit (λ v. true) (λ v. limit - slice_index fired v)
    (λ v l. let b = ok.low_limit in omega arith) in
    let b = mul-le-mul_right max_limit ok.graph_fits.few_vertices in omega arith

module _ (G : Multigraph) (x : ℕ → ℕ) (chips : List ℕ) (n : ℕ)
    (there : (u : ℕ) → slice_index chips u ≡ after_rounds G x n u) where
  same_there : slice_index chips ≡ after_rounds G x n
  same_there i u = there u i

  -- one round more
  pub round_more : (chips' : List ℕ) → ((u : ℕ) → slice_index chips' u ≡ after_round G (slice_index chips) u) → (u : ℕ)
      → slice_index chips' u ≡ after_rounds G x (n + 1) u
  round_more chips' next u =
      let e : n + 1 ≡ suc n = omega arith in
      rw e (next u ∙ ap (λ (y : ℕ → ℕ). after_round G y u) same_there)

  -- it was still going before
  pub going_more : ((k : ℕ) → k < n → IsStable G (after_rounds G x k) → ⊥) → (list : List ℕ) (m : ℕ) → 0 < m → m ≤ length list
      → AreTheLegal G chips (take m list) → (k : ℕ) → k < n + 1 → IsStable G (after_rounds G x k) → ⊥
  going_more so_far list m some fits are k l stable = dite (ℕ_discrete k n)
      (λ e.
      let long = length-take-le m list fits in
      let can = legal_there G chips (take m list) are 0 (omega arith) in
      subst (IsStable G) (sym same_there) (subst (λ (j : ℕ). IsStable G (after_rounds G x j)) e stable) _ can)
      (λ ne. so_far k (omega arith) stable)

  -- and is over then
  pub rounds_over : ((k : ℕ) → k < n → IsStable G (after_rounds G x k) → ⊥) → IsStable G (slice_index chips) → IsDuration G x n
  rounds_over going stable = record { ended = subst (IsStable G) same_there stable; going = going }

-- ---- one firing

module _ (G : Multigraph) (limit : ℕ) (chips fired : List ℕ) (ok : IsInRange G limit chips fired) (v left : ℕ)
    (can : IsLegal G (slice_index chips) v) (is : left ≡ get_or chips v 0 - degree G v) where
  left_is : left ≡ get_or chips v 0 - 1 * degree G v
  left_is = omega arith

  once_enough : 1 * degree G v ≤ get_or chips v 0
  once_enough = let a = can.enough_chips in omega arith

  -- before its edges
  pub sent_first : IsSent G 1 (links_of G ok.graph_fits v) (set chips v left) 0 (set chips v left)
  sent_first = rw left_is (sent_none G limit chips fired ok v 1 can once_enough)

  -- after them
  pub fired_once_is : get_or fired v 0 < limit → (chips' : List ℕ) (i : ℕ) → length (links_of G ok.graph_fits v) ≤ i
      → IsSent G 1 (links_of G ok.graph_fits v) (set chips v left) i chips'
      → FiresOnce G limit v chips fired chips' (set fired v (get_or fired v 0 + 1))
  fired_once_is below chips' i all sent =
      let sent' : IsSent G 1 (links_of G ok.graph_fits v) (set chips v (get_or chips v 0 - 1 * degree G v)) i chips' =
      rw (← left_is) sent in
      let a = turned G limit chips fired ok v 1 can once_enough (omega arith) chips' i all sent' in
      record {
        in_range = a.0;
        stays = a.1;
        position = batch_fired G ok.graph_fits v 1 chips can.is_vertex ok.chips_each once_enough can.not_sink chips'
            (rw (take_all i (links_of G ok.graph_fits v) all) at sent'.each);
        counted = refl;
      }

-- it leaves fewer firings
pub fires_less : (G : Multigraph) (limit : ℕ) (chips fired : List ℕ) → IsInRange G limit chips fired → (v : ℕ) → v < G.vertices
    → get_or fired v 0 < limit → firings_left G limit (set fired v (get_or fired v 0 + 1)) < firings_left G limit fired
fires_less G limit chips fired ok v is_vertex below =
    (turn_less G limit chips fired ok v 1 is_vertex (omega arith) (omega arith)).0

-- ---- a vertex that the limit holds

-- then no play of the game ends with no vertex legal
pub held_stops : (g : ChipGame) (chips fired chips' fired' : List ℕ) → IsBegun g chips fired → IsHeld g.graph g.limit chips fired
    → IsBegun g chips' fired' → IsStable g.graph (slice_index chips') → ⊥
held_stops g chips fired chips' fired' begun (v, can, held) begun' stable =
    let x : ℕ → ℕ = slice_index g.start in
    let (vs, leads) = rest_leads g chips' fired' begun' (λ u can'. absurd (stable u can')) in
    let there : slice_index chips' ≡ position_after g.graph x vs = (λ i u. leads.position u i) in
    let least : (u : ℕ) → slice_index fired u ≤ slice_index fired' u = (λ u.
    let a = begun.on_the_way.forced vs leads.sequence
    (λ w last. absurd (stable w (subst (λ (y : ℕ → ℕ). IsLegal g.graph y w) (sym there) last))) u in
    let b = leads.counted u in omega arith) in
    let same : slice_index fired v ≡ slice_index fired' v = (let a = least v in let b = begun'.in_range.low_counts v in omega arith) in
    let a = led g.graph x g.limit (slice_index chips) (slice_index fired) begun.on_the_way v in
    let b = led g.graph x g.limit (slice_index chips') (slice_index fired') begun'.on_the_way v in
    let c = inflow_le g.graph (slice_index fired) (slice_index fired') least v in
    let d = ap (λ (n : ℕ). degree g.graph v * n) same in
    stable v (record {
      is_vertex = can.is_vertex;
      not_sink = can.not_sink;
      enough_chips = (let e = can.enough_chips in omega arith);
    })

lasts : {A B : Type 0} (worked : Option ℕ) → (A → ⊥) → MatchOption worked A (λ _. B) → B
lasts None never held = absurd (never held)
lasts (Some n) never over = over

-- so a drop that has left a pile with no vertex legal has lasted so many rounds
pub has_lasted : (g : ChipGame) (ds : List (ℕ × ℕ)) (x : ℕ → ℕ) (d : BegunDrop) → IsBegunDrop g ds x d
    → (p : Pile) → IsPile p → p.game ≡ d.pile.game → IsStable g.graph (slice_index p.chips.items) → (n : ℕ)
    → EndsInRounds g.graph g.limit x d.pile.chips.items d.pile.fired.items d.worked n → IsDuration g.graph x n
has_lasted g ds x d is p pile same stable n ends = lasts d.worked
    (λ held. held_stops d.pile.game d.pile.chips.items d.pile.fired.items p.chips.items p.fired.items is.begun
    (rw (is.adds.same_graph, is.adds.same_limit) held) (rw same at pile.begun) (rw is.adds.same_graph stable)) ends
