-- Serves Turn.antt, Cursor.antt, Part.antt.
-- Each phase of a turn: its next operation, and when the next phase is due.
use Rattle.std.proofs.lemmas.Bool.Decides.{nat_tests}
use Rattle.std.proofs.Common.{◌≡◌, ◌≢◌, ℕ, ◌+◌, ◌-◌, ◌*◌, ◌/◌, ◌<◌, ◌≤◌, min, Bool, true, false, not, ◌&&◌, cond, eqb}
use Rattle.std.proofs.Common.{List, [], ◌∷◌, length, get_or, slice_index, Option, Some, None, is_some, option_to_list}
use Rattle.std.proofs.Common.{refl, sym, ap, ◌∙◌, subst, arith, eq-eqb, ne_eqb, eqb-true, true≢false, inl}
use Rattle.std.proofs.Math.Nat.{div-mul-le_self, le-div_iff_mul-le, le-min, min-le_left, min-le_right, mul-le-mul_right}
use Rattle.std.proofs.Math.Nat.{le_trans}
use Rattle.std.proofs.Math.Seq.{get_or-append_right}
use Rattle.std.proofs.lemmas.List.{get_or_append_left, get_or_default}
use Rattle.std.proofs.lemmas.Bool.{and_from, cond-true}
use mathlib.Core.Logic.{dite}
use native.Mathlib.Decide.{ℕ_discrete, dec_lt}
use Rattle.chip_graph.specs.Multigraph.{edge_at, edges_in, degree}
use Rattle.chip_graph.specs.ChipGame.{IsGame}
use Rattle.chip_part.specs.Setting.{Setting}
use Rattle.chip_graph.proofs.SumLemmas.{cond_yes, tested_none}
use Rattle.chip_graph.proofs.PickLemmas.{All-picked}
use Rattle.chip_graph.proofs.WalksLemmas.{degree_positive}
use Rattle.chip_link.specs.Link.{Tail, claims_of, after_clear, after_claim}
use Rattle.chip_part.specs.declared.cause.Cause.TheVariants.{SealedEdge, FiringLimit}
use Rattle.chip_part.specs.declared.cursor.Cursor.TheVariants as At
use Rattle.chip_part.specs.Edges.{graph_edges, all_edges, root_edge, tail_of, head_of}
use Rattle.chip_part.specs.Part.{Part, Cause, is_running, may_ack_on, unput_count, refusals, cause}
use Rattle.chip_part.specs.Rules.{Take, Ack, Fire, Clear, Claim, Put, Halt, Settle}
use Rattle.chip_part.specs.Steps.{Step, does, saw}
use Rattle.chip_part.specs.Turn.{nothing, either_phase, where_phase, and_then, each_phase, one_step, seeing, ins_of}
use Rattle.chip_part.specs.Turn.{outs_of, firing, may_fire, batch_of, putting, sending, sending_all, after_clear_phase}
use Rattle.chip_part.specs.Turn.{after_claim_phase, acknowledging, acknowledging_parent, last_acknowledgement}
use Rattle.chip_part.specs.Turn.{is_at_limit}
use Rattle.chip_part.specs.Cursor.{out_at, rest_of_turn, claiming, storing, from_firing, from_settling, from_putting}
use Rattle.chip_part.specs.Cursor.{from_refusal, from_sending, from_limit, from_acknowledging, HoldsNothing, IsSending}
use Rattle.chip_part.specs.Cursor.{IsAt, GoesBy}
use Rattle.chip_part.proofs.EdgeLemmas.{tail_graph, head_graph, head_root, graph_inside}
use Rattle.chip_part.proofs.RuleLemmas.{met_rules, positive, some_of}
use Rattle.chip_part.proofs.PartLemmas.{out_zero, tail_inside, may_le}
use Rattle.chip_part.proofs.PickedLemmas.{picked_passes, among_new_outs}
use Rattle.chip_part.proofs.CursorLemmas.{skip, step, either_yes, either_no, where_yes, where_no, each_over, each_more}
use Rattle.chip_part.proofs.CursorLemmas.{each_to, each_none, Passes}

-- ---- a claim

claim_held : (b : Bool) (count : ℕ) (t : Tail) → t.held ≡ None
    → is_some (let u : Tail = cond b (record t { held = Some count; clear = false })
    (record t { clear = false; refused = true }) in u).held ≡ b
claim_held b count t none = grind (arith, nat_tests)

-- ---- the edges of a vertex

module _ (g : Setting) (v : ℕ) where
  pub out_inside : (place : ℕ) → place < length (outs_of g v) → out_at g v place < graph_edges g
  out_inside place within = All-picked (λ i. eqb (edge_at g.game.graph i).tail v) (graph_edges g) (graph_edges g)
      (omega arith) place 0 within

  pub out_leaves : (place : ℕ) → place < length (outs_of g v) → tail_of g (out_at g v place) ≡ v
  out_leaves place within = tail_graph g _ (out_inside place within)
      ∙ eqb-true _ _ (picked_passes (λ i. eqb (edge_at g.game.graph i).tail v) (graph_edges g) place 0 within)

  pub in_enters : (place : ℕ) → place < length (ins_of g v) → head_of g (slice_index (ins_of g v) place) ≡ v
  in_enters place within = dite (dec_lt place (length (edges_in g.game.graph v)))
      (λ l.
      let test = λ (i : ℕ). eqb (edge_at g.game.graph i).head v in
      let here = get_or_append_left (edges_in g.game.graph v) (root_edge g v ∷ []) 0 place l in
      ap (head_of g) here ∙ head_graph g _ (All-picked test (graph_edges g) (graph_edges g) (omega arith) place 0 l)
      ∙ eqb-true _ _ (picked_passes test (graph_edges g) place 0 l))
      (λ n.
      let all = Rattle.std.proofs.Common.length-append (edges_in g.game.graph v) (root_edge g v ∷ []) in
      let last : place - length (edges_in g.game.graph v) ≡ 0 = omega arith in
      let here : slice_index (ins_of g v) place
      ≡ root_edge g v = get_or-append_right (edges_in g.game.graph v) (root_edge g v ∷ []) place 0 (omega arith)
      ∙ ap (λ (k : ℕ). get_or (root_edge g v ∷ []) k 0) last in
      let root = head_root g (root_edge g v) (omega arith) in
      ap (head_of g) here ∙ (let a : head_of g (root_edge g v) ≡ v = omega arith in a))

  in_inside : v < g.game.graph.vertices → (e : ℕ) → head_of g e ≡ v → e < all_edges g
  in_inside vertex e at = dite (dec_lt e (graph_edges g)) (λ l. omega arith) (λ n. let h = head_root g e (omega arith)
      in omega arith)

  -- an edge out of the vertex is at a place
  out_place : v < g.game.graph.vertices → (e : ℕ) → tail_of g e ≡ v → (k : ℕ) × (k < length (outs_of g v))
      × (out_at g v k ≡ e)
  out_place vertex e at = let c = among_new_outs g v vertex e at in
      (c.0, c.1, sym (get_or_default (outs_of g v) c.0 e 0 c.1) ∙ c.2)

-- something may be acknowledged on the edge at this place of those into the vertex
abbrev pub acks_at : Setting → ℕ → Part → ℕ → Bool
acks_at g v s k = not (eqb (may_ack_on g (head_of g (slice_index (ins_of g v) k)) s (slice_index (ins_of g v) k)) 0)

-- ---- the phases

module _ (g : Setting) (v : ℕ) (vertex : v < g.game.graph.vertices) (s : Part) where
  inside : (e : ℕ) → tail_of g e ≡ v → e < graph_edges g
  inside e at = tail_inside g e (subst (λ (n : ℕ). n < g.game.graph.vertices) (sym at) vertex)

  no_unput : HoldsNothing g v s → unput_count g v s ≡ 0
  no_unput none = tested_none (all_edges g) (λ e. eqb (tail_of g e) v)
      (λ e. length (option_to_list (s.out e).link.held))
      (λ e l on. ap (λ (o : Option ℕ). length (option_to_list o)) (none e (eqb-true _ _ on)))

  open_edge : refusals g v s ≡ 0 → (e : ℕ) → tail_of g e ≡ v → (s.out e).link.refused ≡ false
  open_edge none e at = let l = inside e at in
      let z = out_zero g v (λ i. cond (s.out i).link.refused 1 0) none e (omega arith) at in grind (arith, nat_tests)

  refused_edge : (e : ℕ) → tail_of g e ≡ v → (s.out e).link.refused ≡ true → refusals g v s ≢ 0
  refused_edge e at is z = true≢false (sym is ∙ open_edge z e at)

  -- if a claim was refused there is an edge out of the vertex, which isn't the sink
  refused_some : refusals g v s ≢ 0 → 0 < length (outs_of g v)
  refused_some some = dite (dec_lt 0 (length (outs_of g v))) (λ l. l)
      (λ n. absurd (some (tested_none (all_edges g) (λ e. eqb (tail_of g e) v) (λ e. cond (s.out e).link.refused 1 0)
      (λ e l on. (let p = out_place g v vertex e (eqb-true _ _ on) in let a = p.1 in absurd (omega arith))))))

  not_sink : IsGame g.game → (e : ℕ) → tail_of g e ≡ v → v ≢ g.game.graph.sink
  not_sink game e at is = let l = inside e at in
      (game.graph_fits.edges_fit e l).not_from_sink (sym (tail_graph g e l) ∙ at ∙ is)

  cause_sealed : refusals g v s ≢ 0 → (c : Cause) × (cause g v s ≡ Some c)
  cause_sealed some = (SealedEdge, cond-true (not (eqb (refusals g v s) 0)) _ _ (ap not (ne_eqb _ _ some)))

  -- takes

  pub take_due : (place : ℕ) → place < length (ins_of g v)
      → GoesBy g v s (At.Take place) (Take (slice_index (ins_of g v) place)) (At.Take (place + 1))
  take_due place within =
      let e : ℕ = slice_index (ins_of g v) place in
      record {
        mine = in_enters g v place within;
        met = met_rules g (Take e) s (in_inside g v vertex e (in_enters g v place within));
        fewer = omega arith;
        fits = λ seen. tt;
        rest = λ seen ds after h. each_more (λ i. one_step g v (Take i)) (ins_of g v) (from_settling g v 0)
            place within s (does g (saw (Take e) seen) s) (saw (Take e) seen ∷ []) ds after (seen, [], refl, (refl, refl)) h;
      }

  pub takes_over : (place : ℕ) → length (ins_of g v) ≤ place → Passes g v s (At.Take place) (At.Settle 0)
  takes_over place over = record { fewer = omega arith; rest = each_over _ _ _ place over s }

  -- settles

  pub settle_due : (place : ℕ) → place < length (outs_of g v)
      → GoesBy g v s (At.Settle place) (Settle (out_at g v place)) (At.Settle (place + 1))
  settle_due place within =
      let e : ℕ = out_at g v place in
      record {
        mine = out_leaves g v place within;
        met = met_rules g (Settle e) s (let l = out_inside g v place within in omega arith);
        fewer = omega arith;
        fits = λ seen. tt;
        rest = λ seen ds after h. each_more (λ i. one_step g v (Settle i)) (outs_of g v) (from_firing g v) place
            within s (does g (saw (Settle e) seen) s) (saw (Settle e) seen ∷ []) ds after (seen, [], refl, (refl, refl)) h;
      }

  pub settles_over : (place : ℕ) → length (outs_of g v) ≤ place → Passes g v s (At.Settle place) At.Fire
  settles_over place over = record { fewer = omega arith; rest = each_over _ _ _ place over s }

  -- the firing

  pub may_fire_pays : IsGame g.game → may_fire g v s ≡ true → 0 < degree g.game.graph v
  may_fire_pays game may =
      degree_positive g.game.graph v (game.graph_fits.all_reach v vertex) (λ at. grind (arith, nat_tests))
      (λ e l. (game.graph_fits.edges_fit e l).some_chips)

  -- a batch is one firing at least, and is paid
  batch_some : (chips cost left : ℕ) → 0 < cost → cost ≤ chips → 0 < left → 1 ≤ min (chips / cost) left
  batch_some chips cost rest some enough more = le-min
      ((le-div_iff_mul-le {k = cost} {x = 1} {y = chips} some).1
      (let a : 1 * cost ≡ cost = Rattle.std.proofs.Common.one-mul cost in omega arith)) more

  batch_paid : (chips cost left : ℕ) → min (chips / cost) left * cost ≤ chips
  batch_paid chips cost rest = le_trans (mul-le-mul_right cost (min-le_left (chips / cost) rest))
      (div-mul-le_self chips cost)

  pub fire_due : IsGame g.game → may_fire g v s ≡ true → GoesBy g v s At.Fire (Fire v (batch_of g v s)) (At.Put 0)
  fire_due game may =
      let costs : degree g.game.graph v ≤ s.chips = grind (arith, nat_tests) in
      let below : s.fired < g.game.limit = grind (arith, nat_tests) in
      let some = batch_some s.chips (degree g.game.graph v) (g.game.limit - s.fired) (may_fire_pays game may) costs
      (let z : 0 < g.game.limit - s.fired = omega arith in z) in
      let paid = batch_paid s.chips (degree g.game.graph v) (g.game.limit - s.fired) in
      let room = min-le_right (s.chips / degree g.game.graph v) (g.game.limit - s.fired) in
      record {
        mine = refl;
        met = met_rules g (Fire v (batch_of g v s)) s (grind (arith, nat_tests));
        fewer = omega arith;
        fits = λ seen k l. absurd (omega arith);
        rest = λ seen ds after h. step (firing g v) (from_putting g v 0) s
            (does g (saw (Fire v (batch_of g v s)) seen) s)
            (saw (Fire v (batch_of g v s)) seen)
            (where_yes (may_fire g v) (one_step g v (Fire v (batch_of g v s))) s _ _ may (seen, [], refl, (refl, refl)))
            ds after h;
      }

  pub no_fire_due : may_fire g v s ≡ false → Passes g v s At.Fire (At.Put 0)
  no_fire_due off = let idle = where_no (may_fire g v) (one_step g v (Fire v (batch_of g v s))) s off in
      record { fewer = omega arith; rest = skip (firing g v) _ s idle }

  -- puts of what was claimed before

  idle_put : (k : ℕ) → is_some (s.out (out_at g v k)).link.held ≡ false → putting g v (out_at g v k) s [] s
  idle_put k = where_no (λ p. is_some (p.out (out_at g v k)).link.held) (one_step g v (Put (out_at g v k))) s

  pub put_due : (place next : ℕ) → IsAt g v (At.Put place) s → place ≤ next → next < length (outs_of g v)
      → is_some (s.out (out_at g v next)).link.held ≡ true
      → ((k : ℕ) → place ≤ k → k < next → is_some (s.out (out_at g v k)).link.held ≡ false)
      → GoesBy g v s (At.Put place) (Put (out_at g v next)) (At.Put (next + 1))
  put_due place next at from within held none =
      let e : ℕ = out_at g v next in
      record {
        mine = out_leaves g v next within;
        met = met_rules g (Put e) s (graph_inside g e (out_inside g v next within), some_of _ held);
        fewer = omega arith;
        fits = λ seen k l. (let old = at k in let passed = none k in grind (arith, nat_tests));
        rest = λ seen ds after h. each_to (putting g v) (outs_of g v) (from_refusal g v) place next from (omega arith) s
            (λ k a b. idle_put k (none k a b)) _ after
            (each_more (putting g v) (outs_of g v) (from_refusal g v) next within s
            (does g (saw (Put e) seen) s) (saw (Put e) seen ∷ []) ds after
            (where_yes (λ p. is_some (p.out e).link.held) (one_step g v (Put e)) s _ _ held
            (seen, [], refl, (refl, refl))) h);
      }

  pub puts_over : (place : ℕ)
      → ((k : ℕ) → place ≤ k → k < length (outs_of g v) → is_some (s.out (out_at g v k)).link.held ≡ false)
      → Passes g v s (At.Put place) At.Refusal
  puts_over place none = record { fewer = omega arith; rest = each_none _ _ _ place s (λ k a b. idle_put k (none k a b)) }

  pub puts_fit : (place : ℕ) → IsAt g v (At.Put place) s
      → ((k : ℕ) → place ≤ k → k < length (outs_of g v) → is_some (s.out (out_at g v k)).link.held ≡ false)
      → HoldsNothing g v s
  puts_fit place at none e out =
      let p = out_place g v vertex e out in let old = at p.0 in let passed = none p.0 in
      grind (arith, nat_tests)

  -- a refusal that was noted before

  pub refusal_due : IsGame g.game → HoldsNothing g v s → s.halt ≡ None → refusals g v s ≢ 0
      → GoesBy g v s At.Refusal (Halt v) At.Limit
  refusal_due game none runs some = record {
    mine = refl;
    met = met_rules g (Halt v) s (
      vertex,
      not_sink game (out_at g v 0) (out_leaves g v 0 (refused_some some)),
      runs,
      no_unput none,
      cause_sealed some,
    );
    fewer = (let a = refused_some some in omega arith);
    fits = λ seen. none;
    rest = λ seen ds after h. step (sending_all g v) (from_limit g v) s
        (does g (saw (Halt v) seen) s) (saw (Halt v) seen)
        (either_yes (is_running s.halt) _ nothing s _ _ (ap is_running runs)
        (either_no (eqb (refusals g v s) 0) _ (one_step g v (Halt v)) s _ _ (ne_eqb _ _ some)
        (seen, [], refl, (refl, refl)))) ds after h;
  }

  pub refusal_over : is_running s.halt ≡ false → Passes g v s At.Refusal At.Limit
  refusal_over halted = let idle : sending_all g v s [] s = either_no (is_running s.halt) _ nothing s [] s halted (refl, refl) in
      record { fewer = omega arith; rest = skip (sending_all g v) _ s idle }

  pub refusal_none : s.halt ≡ None → refusals g v s ≡ 0 → Passes g v s At.Refusal (At.Send 0)
  refusal_none runs none = record {
    fewer = omega arith;
    rest = λ ds after (front, m, back, is, sends, more). (
      front,
      m,
      back,
      is,
      either_yes (is_running s.halt) _ nothing s front m (ap is_running runs)
          (either_yes (eqb (refusals g v s) 0) _ (one_step g v (Halt v)) s front m (eq-eqb _ _ none) sends),
      more,
    );
  }

  pub sends_begin : HoldsNothing g v s → s.halt ≡ None → refusals g v s ≡ 0 → IsSending g v s
  sends_begin holds runs none = record { running = runs; held = holds; refused = open_edge none }

  -- sends

  idle_send : (e : ℕ) → not (eqb (s.out e).pending 0) ≡ false → sending g v e s [] s
  idle_send e none = where_no (λ p. is_running p.halt && not (eqb (p.out e).pending 0))
      (seeing g v (Clear e) (after_clear_phase g v e)) s (grind (arith, nat_tests))

  pub send_due : (place next : ℕ) → IsSending g v s → place ≤ next → next < length (outs_of g v)
      → not (eqb (s.out (out_at g v next)).pending 0) ≡ true
      → ((k : ℕ) → place ≤ k → k < next → not (eqb (s.out (out_at g v k)).pending 0) ≡ false)
      → GoesBy g v s (At.Send place) (Clear (out_at g v next)) (At.Claim next)
  send_due place next at from within some none =
      let e : ℕ = out_at g v next in
      record {
        mine = out_leaves g v next within;
        met = met_rules g (Clear e) s (inl
            (out_inside g v next within, at.running, at.refused e (out_leaves g v next within), positive _ some));
        fewer = omega arith;
        fits = λ seen. (
          within,
          record {
            running = at.running;
            held = λ i out. (let was = at.held i out in grind (arith, nat_tests));
            refused = λ i out. (let was = at.refused i out in grind (arith, nat_tests));
          },
        );
        rest = λ seen ds after (front, m, back, is, claim, more).
            each_to (sending g v) (outs_of g v) (from_limit g v) place next from (omega arith) s
            (λ k a b. idle_send (out_at g v k) (none k a b)) _ after
            (subst (λ (xs : List Step). and_then
            (each_phase (sending g v) (Rattle.std.proofs.Common.drop next (outs_of g v))) (from_limit g v) s
            (saw (Clear e) seen ∷ xs) after) (sym is)
            (each_more (sending g v) (outs_of g v) (from_limit g v) next within s m
            (saw (Clear e) seen ∷ front) back after
            (where_yes (λ p. is_running p.halt && not (eqb (p.out e).pending 0))
            (seeing g v (Clear e) (after_clear_phase g v e)) s _ m (and_from _ _ (ap is_running at.running) some) (
              seen,
              front,
              refl,
              subst (λ (b : Bool). either_phase b (seeing g v (Claim e) (after_claim_phase g v e)) nothing
                  (does g (saw (Clear e) seen) s) front m)
                  (ap (λ (t : Tail). t.clear) (cond_yes e e (after_clear seen (s.out e).link) (s.out e).link refl))
                  claim,
            )) more));
      }

  pub sends_to : (place next : ℕ) → place ≤ next → next ≤ length (outs_of g v)
      → ((k : ℕ) → place ≤ k → k < next → not (eqb (s.out (out_at g v k)).pending 0) ≡ false)
      → Passes g v s (At.Send place) (At.Send next)
  sends_to place next le within none = let idle = (λ (k : ℕ). idle_send (out_at g v k)) in
      record { fewer = omega arith; rest = each_to _ _ _ place next le within s (λ k a b. idle k (none k a b)) }

  pub sends_over : (place : ℕ)
      → ((k : ℕ) → place ≤ k → k < length (outs_of g v) → not (eqb (s.out (out_at g v k)).pending 0) ≡ false)
      → Passes g v s (At.Send place) At.Limit
  sends_over place none =
      record { fewer = omega arith; rest = each_none _ _ _ place s (λ k a b. idle_send (out_at g v k) (none k a b)) }

  -- claims

  pub claim_due : (place : ℕ) → IsAt g v (At.Claim place) s → (s.out (out_at g v place)).link.clear ≡ true
      → GoesBy g v s (At.Claim place) (Claim (out_at g v place)) (At.Store place)
  claim_due place (within, at) clear =
      let e : ℕ = out_at g v place in
      let out = out_leaves g v place within in
      let t : Tail = (s.out e).link in
      record {
        mine = out;
        met = met_rules g (Claim e) s (out_inside g v place within, at.running, clear);
        fewer = omega arith;
        fits = λ seen. (
          within,
          record {
            running = at.running;
            held = λ i there other. (let was = at.held i there in grind (arith, nat_tests));
            refused = λ i there other. (let was = at.refused i there in grind (arith, nat_tests));
            either = (let was = at.held e out in let open' = at.refused e out in grind (arith, nat_tests));
          },
        );
        rest = λ seen ds after (front, m, back, is, store, more). (
          saw (Claim e) seen ∷ front,
          m,
          back,
          ap (λ (xs : List Step). saw (Claim e) seen ∷ xs) is,
          where_yes (λ p. (p.out e).link.clear) (seeing g v (Claim e) (after_claim_phase g v e)) s _ m clear (
            seen,
            front,
            refl,
            subst (λ (b : Bool). either_phase b (one_step g v (Put e)) (one_step g v (Halt v))
                (does g (saw (Claim e) seen) s) front m)
                (ap (λ (u : Tail). is_some u.held) (cond_yes e e (after_claim (s.out e).pending seen t) t refl)
                ∙ claim_held (eqb seen (claims_of t)) (s.out e).pending t (at.held e out)) store,
          ),
          more,
        );
      }

  pub claim_over : (place : ℕ) → IsAt g v (At.Claim place) s → (s.out (out_at g v place)).link.clear ≡ false
      → Passes g v s (At.Claim place) (At.Send (place + 1))
  claim_over place (within, at) full = record {
    fewer = omega arith;
    rest = skip (claiming g v (out_at g v place)) _ s (where_no (λ p. (p.out (out_at g v place)).link.clear)
        (seeing g v (Claim (out_at g v place)) (after_claim_phase g v (out_at g v place))) s full);
  }

  -- puts of what was claimed just now, and halts by a refusal

  pub store_due : (place : ℕ) → IsAt g v (At.Store place) s → is_some (s.out (out_at g v place)).link.held ≡ true
      → GoesBy g v s (At.Store place) (Put (out_at g v place)) (At.Send (place + 1))
  store_due place (within, at) held =
      let e : ℕ = out_at g v place in
      record {
        mine = out_leaves g v place within;
        met = met_rules g (Put e) s (graph_inside g e (out_inside g v place within), some_of _ held);
        fewer = omega arith;
        fits = λ seen. record {
          running = at.running;
          held = λ i there. (let was = at.held i there in grind (arith, nat_tests));
          refused = λ i there. (let was = at.refused i there in let here = at.either in grind (arith, nat_tests));
        };
        rest = λ seen ds after h. step (storing g v e) (from_sending g v (place + 1)) s
            (does g (saw (Put e) seen) s) (saw (Put e) seen)
            (either_yes (is_some (s.out e).link.held) _ (one_step g v (Halt v)) s _ _ held
            (seen, [], refl, (refl, refl))) ds after h;
      }

  halted_idle : (p : Part) → is_running p.halt ≡ false → (e : ℕ) → sending g v e p [] p
  halted_idle p halted e = where_no (λ q. is_running q.halt && not (eqb (q.out e).pending 0))
      (seeing g v (Clear e) (after_clear_phase g v e)) p (λ j. halted j && not (eqb (p.out e).pending 0))

  pub stop_due : IsGame g.game → (place : ℕ) → IsAt g v (At.Store place) s
      → is_some (s.out (out_at g v place)).link.held ≡ false → GoesBy g v s (At.Store place) (Halt v) At.Limit
  stop_due game place (within, at) none =
      let e : ℕ = out_at g v place in
      let out = out_leaves g v place within in
      let some = refused_edge e out (at.either ∙ ap not none) in
      let holds : HoldsNothing g v s = λ i there. (let was = at.held i there in grind (arith, nat_tests)) in
      let cause' = cause_sealed some in
      record {
        mine = refl;
        met = met_rules g (Halt v) s (vertex, not_sink game e out, at.running, no_unput holds, cause');
        fewer = omega arith;
        fits = λ seen. holds;
        rest = λ seen ds after h. step (storing g v e) (from_sending g v (place + 1)) s
            (does g (saw (Halt v) seen) s) (saw (Halt v) seen)
            (either_no (is_some (s.out e).link.held) (one_step g v (Put e)) _ s _ _ none (seen, [], refl, (refl, refl)))
            ds after
            (each_none (sending g v) (outs_of g v) (from_limit g v) (place + 1)
            (does g (saw (Halt v) seen) s)
            (λ k a b. halted_idle (does g (saw (Halt v) seen) s) (ap is_running cause'.1)
            (out_at g v k)) ds after h);
      }

  -- the halt by the limit

  pub limit_due : HoldsNothing g v s → is_at_limit g v s ≡ true → GoesBy g v s At.Limit (Halt v) (At.Ack 0)
  limit_due holds may =
      let why : (k : Cause) × (cause g v s ≡ Some k) = dite (ℕ_discrete (refusals g v s) 0)
      (λ none. (FiringLimit, grind (arith, nat_tests))) cause_sealed in
      record {
        mine = refl;
        met = met_rules g (Halt v) s
            (vertex, (λ at. grind (arith, nat_tests)), grind (arith, nat_tests), no_unput holds, why);
        fewer = omega arith;
        fits = λ seen. tt;
        rest = λ seen ds after h. step (where_phase (is_at_limit g v) (one_step g v (Halt v)))
            (from_acknowledging g v 0) s (does g (saw (Halt v) seen) s)
            (saw (Halt v) seen)
            (where_yes (is_at_limit g v) (one_step g v (Halt v)) s _ _ may (seen, [], refl, (refl, refl))) ds after h;
      }

  pub no_limit_due : is_at_limit g v s ≡ false → Passes g v s At.Limit (At.Ack 0)
  no_limit_due off = let idle = where_no (is_at_limit g v) (one_step g v (Halt v)) s off in
      record { fewer = omega arith; rest = skip (where_phase (is_at_limit g v) (one_step g v (Halt v))) _ s idle }

  -- acknowledgements

  ack_met : (e : ℕ) → head_of g e ≡ v → not (eqb (may_ack_on g (head_of g e) s e) 0) ≡ true
      → Rattle.chip_part.specs.Rules.unmet_rule g (Ack e) s ≡ None
  ack_met e at some = let a = positive _ some in let b = may_le g (head_of g e) e s in
      met_rules g (Ack e) s (in_inside g v vertex e at, (omega arith), a)

  idle_ack : (k : ℕ) → acks_at g v s k ≡ false → acknowledging g v (slice_index (ins_of g v) k) s [] s
  idle_ack k = where_no (λ p. acks_at g v p k) (one_step g v (Ack (slice_index (ins_of g v) k))) s

  pub ack_due : (place next : ℕ) → place ≤ next → next < length (ins_of g v)
      → acks_at g v s next ≡ true
      → ((k : ℕ) → place ≤ k → k < next
      → acks_at g v s k ≡ false)
      → GoesBy g v s (At.Ack place) (Ack (slice_index (ins_of g v) next)) (At.Ack (next + 1))
  ack_due place next from within some none =
      let e : ℕ = slice_index (ins_of g v) next in
      record {
        mine = in_enters g v next within;
        met = ack_met e (in_enters g v next within) some;
        fewer = omega arith;
        fits = λ seen. tt;
        rest = λ seen ds after h. each_to (acknowledging g v) (ins_of g v) (last_acknowledgement g v) place next from
            (omega arith) s (λ k a b. idle_ack k (none k a b)) _ after
            (each_more (acknowledging g v) (ins_of g v) (last_acknowledgement g v) next within s
            (does g (saw (Ack e) seen) s) (saw (Ack e) seen ∷ []) ds after
            (where_yes (λ p. not (eqb (may_ack_on g (head_of g e) p e) 0)) (one_step g v (Ack e)) s _ _ some
            (seen, [], refl, (refl, refl))) h);
      }

  pub acks_to : (place next : ℕ) → place ≤ next → next ≤ length (ins_of g v)
      → ((k : ℕ) → place ≤ k → k < next
      → acks_at g v s k ≡ false)
      → Passes g v s (At.Ack place) (At.Ack next)
  acks_to place next le within none =
      record { fewer = omega arith; rest = each_to _ _ _ place next le within s (λ k a b. idle_ack k (none k a b)) }

  pub acks_over : (place : ℕ)
      → ((k : ℕ) → place ≤ k → k < length (ins_of g v)
      → acks_at g v s k ≡ false)
      → Passes g v s (At.Ack place) At.Parent
  acks_over place none = record { fewer = omega arith; rest = each_none _ _ _ place s (λ k a b. idle_ack k (none k a b)) }

  pub parent_due : (e : ℕ) → s.parent ≡ Some e → head_of g e ≡ v → not (eqb (may_ack_on g (head_of g e) s e) 0) ≡ true
      → GoesBy g v s At.Parent (Ack e) At.Over
  parent_due e is at some = record {
    mine = at;
    met = ack_met e at some;
    fewer = omega arith;
    fits = λ seen. tt;
    rest = λ seen ds after h. subst
        (λ (o : Option ℕ). acknowledging_parent g v o s (saw (Ack e) seen ∷ ds) after) (sym is)
        (where_yes (λ p. not (eqb (may_ack_on g (head_of g e) p e) 0)) (one_step g v (Ack e)) s _ after some
        (seen, ds, refl, h));
  }

  pub no_parent_due : (e : ℕ) → s.parent ≡ Some e → may_ack_on g (head_of g e) s e ≡ 0 → rest_of_turn g v At.Parent s [] s
  no_parent_due e is none = subst (λ (o : Option ℕ). acknowledging_parent g v o s [] s) (sym is)
      (where_no (λ p. not (eqb (may_ack_on g (head_of g e) p e) 0)) (one_step g v (Ack e)) s (ap not (eq-eqb _ _ none)))

  pub no_parent : s.parent ≡ None → rest_of_turn g v At.Parent s [] s
  no_parent is = subst (λ (o : Option ℕ). acknowledging_parent g v o s [] s) (sym is) (refl, refl)
