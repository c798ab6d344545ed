-- Serves Part.antt, Rules.antt, Steps.antt.
-- Every part keeps its invariants by its own events, whatever they see.
use Rattle.std.proofs.Common.{◌≡◌, ◌≢◌, ◌⊎◌, ℕ, zero, suc, ◌+◌, ◌-◌, ◌*◌, ◌<◌, ◌≤◌, Bool, true, false, not, ◌&&◌, cond}
use Rattle.std.proofs.Common.{eqb, List, [], ◌∷◌, ◌++◌, length, sum, Option, Some, None, option_to_list, refl, sym, ap}
use Rattle.std.proofs.Common.{◌∙◌, subst, arith, ⊎_elim, eq-eqb, eqb-true, true≢false, length-append, append-nil}
use Rattle.std.proofs.Common.{mul-add, mul_comm, rules}
use Rattle.std.proofs.lemmas.Bool.Decides.{nat_tests}
use Rattle.std.proofs.lemmas.Bool.{and_parts, and_from, cond-true, cond-false}
use Rattle.std.proofs.lemmas.List.Sums.{sum_by-append, sum_by_push}
use mathlib.Core.Logic.{dite}
use native.Mathlib.Decide.{ℕ_discrete, dec_lt}
use Rattle.chip_graph.specs.Limits.{max_total}
use Rattle.chip_graph.specs.Sums.{sum_below}
use Rattle.chip_graph.specs.Multigraph.{degree}
use Rattle.chip_part.specs.Setting.{Setting}
use Rattle.chip_graph.proofs.SumLemmas.{cond_yes, cond_no, by_test, tested_le, tested_zero}
use Rattle.chip_graph.proofs.SumLemmas.{tested_none, tested_move, sum_below_ext, sum_below_move}
use Rattle.chip_link.specs.Link.{Tail, claims_of, sent_counts, after_clear, after_claim, after_put, after_take}
use Rattle.chip_detect.specs.Acknowledging.{is_parent, or_else}
use Rattle.chip_part.specs.declared.cause.Cause.TheVariants.{FiringLimit}
use Rattle.chip_part.specs.Edges.{graph_edges, all_edges, root_edge, tail_of, head_of, mult_of, over_outs, over_ins}
use Rattle.chip_part.specs.Part.{Cause, Part, owed_on, outstanding_on, may_ack_on, owed_by, pending_of, unput_count, refusals}
use Rattle.chip_part.specs.Part.{cause, is_legal, is_passive, deficit_of, all_fed}
use Rattle.chip_part.specs.Rules.{Event, Take, Ack, Fire, Clear, Claim, Put, Halt, Settle, Feed, End, unmet_rule}
use Rattle.chip_part.specs.Steps.{part_of, settled_after, got_after, acked_after, halt_after, fired_after, saw}
use Rattle.chip_part.specs.Steps.{parent_after, link_after, ended_after, does, Step}
use Rattle.chip_part.proofs.RuleLemmas.{rules_met}
use Rattle.chip_part.proofs.EdgeLemmas.{tail_root}
use Rattle.chip_part.specs.Kept.{Met, IsNeutral, KeepsOut, KeepsPart}
use Rattle.chip_detect.proofs.AllowedLemmas.{within_owed}
use Rattle.chip_link.proofs.SoundsLemmas.{none-some}

-- one edge is changed, and the claims on the others need that they are others
pub at_other : {A : Type 0} (P : ℕ → A → Type 0) (e : ℕ) (new old : ℕ → A) → P e (new e)
    → ((i : ℕ) → e ≢ i → P i (old i)) → (i : ℕ) → P i (cond (eqb e i) (new i) (old i))
at_other P e new old here rest i = dite (ℕ_discrete e i)
    (λ same. subst (λ (k : ℕ). P k (cond (eqb e k) (new k) (old k))) same
    (subst (P e) (sym (cond_yes e e (new e) (old e) refl)) here))
    (λ other. subst (P i) (sym (cond_no e i (new i) (old i) other)) (rest i other))

-- one edge is changed, the others are unchanged
pub at_edge : {A : Type 0} (P : ℕ → A → Type 0) (e : ℕ) (new old : ℕ → A) → P e (new e) → ((i : ℕ) → P i (old i))
    → (i : ℕ) → P i (cond (eqb e i) (new i) (old i))
at_edge P e new old here rest = at_other P e new old here (λ i other. rest i)

-- no message is claimed if none is counted
pub no_held : (held : Option ℕ) → length (option_to_list held) ≡ 0 → held ≡ None
no_held held z = grind (arith, nat_tests)

held_counts : (held : Option ℕ) (count : ℕ) → held ≡ Some count → 0 < length (option_to_list held)
held_counts held count h = grind (arith, nat_tests)

module _ (g : Setting) where
  pub tail_inside : (e : ℕ) → tail_of g e < g.game.graph.vertices → e < graph_edges g
  tail_inside e l = dite (dec_lt e (length g.game.graph.edges)) (λ h. h) (λ n. let a = tail_root g e (omega arith) in
      absurd (omega arith))

  -- of the edges out of v, each is 0 if their sum is
  pub out_zero : (v : ℕ) (f : ℕ → ℕ) → over_outs g v f ≡ 0 → (e : ℕ) → e < all_edges g → tail_of g e ≡ v → f e ≡ 0
  out_zero v f z e l at = tested_zero (all_edges g) (λ i. eqb (tail_of g i) v) f z e l (eq-eqb (tail_of g e) v at)

  pub in_zero : (v : ℕ) (f : ℕ → ℕ) → over_ins g v f ≡ 0 → (e : ℕ) → e < all_edges g → head_of g e ≡ v → f e ≡ 0
  in_zero v f z e l at = tested_zero (all_edges g) (λ i. eqb (head_of g i) v) f z e l (eq-eqb (head_of g e) v at)

  -- ---- the edges out of the part

  abbrev pub Outs : ℕ → Part → Type 0
  Outs p s = (e : ℕ) → tail_of g e ≡ p → KeepsOut g e (s.out e).link (s.out e).pending s.fired

  -- with feeding, a root edge keeps only that nothing is pending on it
  root_kept : (e : ℕ) (t : Tail) (pending fired : ℕ) → graph_edges g ≤ e → g.fed ≡ true → pending ≡ 0
      → KeepsOut g e t pending fired
  root_kept e t pending fired past on idle = search (rules, arith, nat_tests)

  -- there is feeding if the end isn't noted
  fed_by : (s : Part) → (g.fed ≡ false → s.ended ≡ true) → s.ended ≡ false → g.fed ≡ true
  fed_by s unfed going = by_test g.fed (λ on. on) (λ off. absurd (true≢false (sym (unfed off) ∙ going)))

  -- a claim that is accepted, and one that is refused
  claim_keeps : (e : ℕ) (t : Tail) (pending fired : ℕ) (b : Bool) → KeepsOut g e t pending fired → e < graph_edges g
      → t.clear ≡ true → KeepsOut g e (cond b (record t { held = Some pending; clear = false })
      (record t { clear = false; refused = true })) (cond b 0 pending) fired
  claim_keeps e t pending fired true old inside clear =
      let pends = old.clear_pends inside clear in
      let few = old.fewer_yet inside pends in
      let hand = old.free_hand inside pends in
      let empty : length (option_to_list t.held) ≡ 0 = ap (λ (h : Option ℕ). length (option_to_list h)) hand in
      let nothing : sum (option_to_list t.held) ≡ 0 = ap (λ (h : Option ℕ). sum (option_to_list h)) hand in
      let a = old.all_made inside in let b = old.clear_open inside clear in search (rules, arith, nat_tests)
  claim_keeps e t pending fired false old inside clear = let a = old.clear_pends inside clear in search (rules, arith, nat_tests)

  outs_kept : (x : Event) (seen p : ℕ) (s : Part) → p ≡ part_of g x → Met g x s → (g.fed ≡ false → s.ended ≡ true)
      → Outs p s → Outs p (does g (saw x seen) s)
  outs_kept (Feed e k) seen p s by may unfed ok = at_edge (λ i (t : Tail). tail_of g i ≡ p
      → KeepsOut g i t (s.out i).pending s.fired) e (λ i. after_claim k seen (s.out i).link) (λ i. (s.out i).link)
      (λ at. root_kept e _ _ _ may.0 (fed_by s unfed may.2) ((ok e at).root_idle may.0)) ok
  outs_kept (Fire v k) seen p s by may unfed ok = λ i at.
      let o = s.out i in
      let old = ok i at in
      let mine : tail_of g i ≡ v = at ∙ by in
      let inside : i < graph_edges g = tail_inside i (subst (λ (n : ℕ). n < g.game.graph.vertices) (sym mine) may.0) in
      let none : o.pending ≡ 0 = out_zero v (λ e. (s.out e).pending) may.3 i (omega arith) mine in
      let idle : length (option_to_list o.link.held)
      ≡ 0 = out_zero v (λ e. length (option_to_list (s.out e).link.held)) may.4 i (omega arith) mine in
      let a = old.all_made inside in let few = old.fewer inside in
      let m = mul-add (mult_of g i) s.fired k in
      let c = mul_comm (mult_of g i) k in
      let some_k = may.5 in
      subst (λ (n : ℕ). KeepsOut g i o.link n (s.fired + k))
      (sym (cond_yes (tail_of g i) v (k * mult_of g i) o.pending mine))
      (let held = no_held o.link.held idle in let x = old.clear_pends inside in let y = old.refused_pends inside in search (rules, arith, nat_tests))
  outs_kept (Clear e) seen p s by may unfed ok = at_edge (λ i (t : Tail). tail_of g i ≡ p
      → KeepsOut g i t (s.out i).pending s.fired) e (λ i. after_clear seen (s.out i).link) (λ i. (s.out i).link)
      (λ at. let old = ok e at in ⊎_elim
      (λ v. search (rules, arith, nat_tests))
      (λ r. root_kept e _ _ _ r.0 (fed_by s unfed r.2) (old.root_idle r.0)) may) ok
  outs_kept (Put e) seen p s by may unfed ok = at_edge (λ i (t : Tail). tail_of g i ≡ p
      → KeepsOut g i t (s.out i).pending s.fired) e (λ i. after_put (s.out i).link) (λ i. (s.out i).link)
      (λ at. let old = ok e at in
      let t = (s.out e).link in
      let sums = sum_by-append (λ (x : ℕ). x) t.put (option_to_list t.held) in
      let long = length-append t.put (option_to_list t.held) in
      let some = may.1.1 in
      let unfed' = λ (l : graph_edges g ≤ e) (off : g.fed ≡ false). ap (λ (k : Tail). k.held) (old.root_unfed l off) in
      search (rules, arith, nat_tests)) ok
  outs_kept (Claim e) seen p s by may unfed ok = λ i at. by_test (eqb e i)
      (λ is. let same = eqb-true e i is in let inside = may.0 in let clear = may.2 in
      rw is (claim_keeps i (s.out i).link (s.out i).pending s.fired (eqb seen (claims_of (s.out i).link)) (ok i at)
      (omega arith) (grind (arith, nat_tests))))
      (λ off. rw off (ok i at))
  outs_kept _ seen p s by may unfed ok = ok

  -- ---- the edges into the part

  pub took_sum : (seen : ℕ) (got : List ℕ) → sum (after_take seen got) ≡ sum got + seen
  took_sum seen got = dite (ℕ_discrete seen 0)
      (λ none. let a = ap sum (cond_yes seen 0 got (got ++ seen ∷ []) none) in omega arith)
      (λ some. let a = ap sum (cond_no seen 0 got (got ++ seen ∷ []) some) in
      let b = sum_by_push (λ (x : ℕ). x) got seen in omega arith)

  pub took_some : (seen : ℕ) (got : List ℕ) → seen ≢ 0 → length (after_take seen got) ≡ length got + 1
  took_some seen got some = let b = length-append got (seen ∷ []) in grind (arith, nat_tests)

  pub took_none : (seen : ℕ) (got : List ℕ) → seen ≡ 0 → after_take seen got ≡ got
  took_none seen got none = cond_yes seen 0 got (got ++ seen ∷ []) none

  took_more : (seen : ℕ) (got : List ℕ) → length got ≤ length (after_take seen got)
  took_more seen got = let b = length-append got (seen ∷ []) in grind (arith, nat_tests)

  pub may_le : (v e : ℕ) (s : Part) → may_ack_on g v s e ≤ owed_on (s.into e)
  may_le v e s = within_owed e s.parent (owed_on (s.into e)) (owed_by g v s) (deficit_of g v s) (is_passive g v s)

  chips_kept : (x : Event) (seen p : ℕ) (s : Part) → p ≡ part_of g x → Met g x s
      → s.chips + degree g.game.graph p * s.fired ≡ over_ins g p (λ e. sum (s.into e).got)
      → (does g (saw x seen) s).chips + degree g.game.graph p
      * (does g (saw x seen) s).fired
      ≡ over_ins g p (λ e. sum ((does g (saw x seen) s).into e).got)
  chips_kept (Take e) seen p s by may ok =
      let a = tested_move (all_edges g) (λ i. eqb (head_of g i) p) (λ i. sum (got_after (Take e) seen i (s.into i)))
      (λ i. sum (s.into i).got) e may (eq-eqb _ _ (sym by))
      (λ i l ne on. ap sum (cond_no e i (after_take seen (s.into i).got) (s.into i).got (λ z. ne (sym z)))) in
      let c = took_sum seen (s.into e).got in grind (arith, nat_tests)
  chips_kept (Fire v k) seen p s by may ok =
      let a = mul-add (degree g.game.graph p) s.fired k in let b = mul_comm (degree g.game.graph p) k in
      let c = ap (λ (w : ℕ). k * degree g.game.graph w) by in let d = may.7 in omega arith
  chips_kept _ seen p s by may ok = ok

  within_kept : (x : Event) (s : Part) → Met g x s → s.fired ≤ g.game.limit → fired_after x s.fired ≤ g.game.limit
  within_kept (Fire v k) s may ok = may.6
  within_kept _ s may ok = ok

  acks_kept : (x : Event) (seen : ℕ) (s : Part) → ((e : ℕ) → (s.into e).acked ≤ length (s.into e).got) → (e : ℕ)
      → acked_after g x s e (s.into e) ≤ length (got_after x seen e (s.into e))
  acks_kept (Take e) seen s ok = λ i. (let a = ok i in let b = took_more seen (s.into i).got in grind (arith, nat_tests))
  acks_kept (Ack e) seen s ok = λ i. (let a = ok i in let c = may_le (head_of g e) e s in grind (arith, nat_tests))
  acks_kept _ seen s ok = ok

  -- a take that found nothing
  pub idle_take : (e seen : ℕ) (s : Part) → seen ≡ 0 → does g (saw (Take e) seen) s ≡ s
  idle_take e seen s none = λ j. record {
    chips = (let z : s.chips + seen ≡ s.chips = omega arith in z) j;
    fired = s.fired;
    halt = s.halt;
    parent = cond_yes seen 0 s.parent (or_else s.parent e) none j;
    out = s.out;
    into = λ i. record {
      got = (let z : got_after (Take e) seen i (s.into i) ≡ (s.into i).got = grind (arith, nat_tests) in z) j;
      acked = (s.into i).acked;
    };
    stop = s.stop;
    ended = s.ended;
  }

  -- ---- the parent

  is_parent_of : (o : Option ℕ) (e : ℕ) → o ≡ Some e → is_parent e o ≡ true
  is_parent_of o e h = grind (arith, nat_tests)

  abbrev pub Parents : ℕ → Part → Type 0
  Parents p s = (e : ℕ) → s.parent ≡ Some e → (e < all_edges g) × (head_of g e ≡ p) × (0 < owed_on (s.into e))

  -- more was got, or nothing
  owed_take : (e seen : ℕ) (s : Part) (i : ℕ)
      → owed_on (s.into i) ≤ length (got_after (Take e) seen i (s.into i)) - (s.into i).acked
  owed_take e seen s i = let b = took_more seen (s.into i).got in grind (arith, nat_tests)

  or_else_is : (o : Option ℕ) (e i : ℕ) → or_else o e ≡ Some i → (o ≡ Some i) ⊎ (e ≡ i)
  or_else_is o e i h = grind (arith, nat_tests)

  or_else-not_none : (o : Option ℕ) (e : ℕ) → or_else o e ≡ None → ⊥
  or_else-not_none o e h = grind (arith, nat_tests)

  parents_kept : (x : Event) (seen p : ℕ) (s : Part) → p ≡ part_of g x → Met g x s
      → ((e : ℕ) → (s.into e).acked ≤ length (s.into e).got) → Parents p s
      → Parents p (does g (saw x seen) s)
  parents_kept (Take e) seen p s by may acks ok = λ i h.
      let c = owed_take e seen s i in let d = length-append (s.into i).got (seen ∷ []) in let a = ok i in let b = acks i in
      let o = or_else_is s.parent e i in grind (arith, nat_tests)
  parents_kept (Ack e) seen p s by may acks ok = λ i h. by_test (is_parent e s.parent
      && eqb (may_ack_on g (head_of g e) s e) (owed_on (s.into e)))
      (λ y. absurd (none-some i (sym (cond-true _ None s.parent y) ∙ h)))
      (λ n.
      let was : s.parent ≡ Some i = sym (cond-false _ None s.parent n) ∙ h in
      let a = ok i was in
      let some_owed = a.2 in (
        a.0,
        a.1,
        dite (ℕ_discrete e i)
            (λ same.
            let mine : is_parent e s.parent ≡ true = is_parent_of s.parent e (was ∙ ap Some (sym same)) in
            let not_all : may_ack_on g (head_of g e) s e
            ≢ owed_on (s.into e) = (λ z. true≢false (sym (and_from _ _ mine (eq-eqb _ _ z)) ∙ n)) in
            let le = may_le (head_of g e) e s in
            let has = acks e in
            subst (λ (k : ℕ). 0 < length (s.into k).got - acked_after g (Ack e) s k (s.into k)) same
            (let c = cond_yes e e ((s.into e).acked + may_ack_on g (head_of g e) s e) (s.into e).acked refl in
            omega arith))
            (λ other. let c = cond_no e i ((s.into i).acked + may_ack_on g (head_of g e) s e) (s.into i).acked other in
            omega arith),
      ))
  parents_kept _ seen p s by may acks ok = ok

  -- ---- halts

  pub none_halt : (h : Option Cause) (c : Cause) → h ≡ None → h ≡ Some c → ⊥
  none_halt h c n q = absurd (cc)

  -- a running vertex that is passive has nothing to do
  pub passive_parts : (v : ℕ) (s : Part) → is_passive g v s ≡ true → s.halt ≡ None
      → (unput_count g v s ≡ 0) × (pending_of g v s ≡ 0) × (is_legal g v s ≡ false)
  passive_parts v s h none = grind (arith, nat_tests)

  pub no_refusals : (p : ℕ) (s : Part) → p < g.game.graph.vertices → Outs p s → pending_of g p s ≡ 0 → refusals g p s ≡ 0
  no_refusals p s vertex outs none = tested_none (all_edges g) (λ e. eqb (tail_of g e) p)
      (λ e. cond (s.out e).link.refused 1 0) (λ e l on. let at = eqb-true _ _ on in
      let inside : e < graph_edges g = tail_inside e (subst (λ (n : ℕ). n < g.game.graph.vertices) (sym at) vertex) in
      let a = (outs e at).refused_pends inside in let b = out_zero p (λ i. (s.out i).pending) none e l at in
      grind (arith, nat_tests))

  pub cause_limit : (v : ℕ) (s : Part) → cause g v s ≡ Some FiringLimit → (s.fired ≡ g.game.limit) × (pending_of g v s ≡ 0)
      × (is_legal g v s ≡ true)
  cause_limit v s h = grind (arith, nat_tests)

  at_limit_kept : (x : Event) (seen p : ℕ) (s : Part) → p ≡ part_of g x → Met g x s
      → (s.halt ≡ Some FiringLimit → (s.fired ≡ g.game.limit) × (pending_of g p s ≡ 0) × (is_legal g p s ≡ true))
      → halt_after g x s ≡ Some FiringLimit → ((does g (saw x seen) s).fired ≡ g.game.limit)
      × (pending_of g p (does g (saw x seen) s) ≡ 0)
      × (is_legal g p (does g (saw x seen) s) ≡ true)
  at_limit_kept (Take e) seen p s by may ok h = let a = ok h in grind (arith, nat_tests)
  at_limit_kept (Fire v k) seen p s by may ok h = absurd (none_halt s.halt FiringLimit may.2 h)
  at_limit_kept (Claim e) seen p s by may ok h = absurd (none_halt s.halt FiringLimit may.1 h)
  at_limit_kept (Halt v) seen p s by may ok h = subst (λ (w : ℕ). (s.fired ≡ g.game.limit) × (pending_of g w s ≡ 0)
      × (is_legal g w s ≡ true)) (sym by) (cause_limit v s h)
  at_limit_kept _ seen p s by may ok h = ok h

  -- ---- a neutral vertex: it makes none of the events that would end its rest

  module _ (p : ℕ) (s : Part) (outs : Outs p s) (rest : IsNeutral g p s) where
    pub no_fire : (v k : ℕ) → p ≡ v → Met g (Fire v k) s → ⊥
    no_fire v k by may =
        let idle = passive_parts p s rest.passive may.2 in
        let some_k = may.5 in let chips = may.7 in let other = may.1 in
        let enough : degree g.game.graph v ≤ k * degree g.game.graph v = one_of k (degree g.game.graph v) some_k in
        let same = idle.2 in grind (arith, nat_tests)
      where
        one_of : (k d : ℕ) → 0 < k → d ≤ k * d
        one_of zero d l = absurd (omega arith)
        one_of (suc k) d l = omega (arith, Rattle.std.proofs.Common.suc-mul k d)

    pub no_pending : (e : ℕ) → p ≡ tail_of g e → e < all_edges g → s.halt ≡ None → 0 < (s.out e).pending → ⊥
    no_pending e by l none h = let idle = passive_parts p s rest.passive none in
        let a = out_zero p (λ i. (s.out i).pending) idle.1 e l (sym by) in absurd (omega arith)

    pub no_put : (e : ℕ) → p ≡ tail_of g e → e < all_edges g → (count : ℕ) → (s.out e).link.held ≡ Some count → ⊥
    no_put e by l count h = let some = held_counts (s.out e).link.held count h in let a = and_parts _ _ rest.passive in
        let b = out_zero p (λ i. length (option_to_list (s.out i).link.held)) (eqb-true _ _ a.0) e l (sym by) in
        absurd (omega arith)

    pub no_halt : (v : ℕ) → p ≡ v → Met g (Halt v) s → ⊥
    no_halt v by may =
        let idle = passive_parts p s rest.passive may.2 in
        let refused = no_refusals p s (subst (λ (n : ℕ). n < g.game.graph.vertices) (sym by) may.0) outs idle.1 in
        let off = idle.2 in let some = may.4.1 in grind (arith, nat_tests)

  -- a vertex isn't the tail of a root edge
  not_root : (p e : ℕ) → p < g.game.graph.vertices → p ≡ tail_of g e → graph_edges g ≤ e → ⊥
  not_root p e l by past = let at = tail_root g e past in absurd (omega arith)

  neutral_kept : (x : Event) (seen p : ℕ) (s : Part) → p ≡ part_of g x → Met g x s → KeepsPart g p s
      → p < g.game.graph.vertices → parent_after g x seen s ≡ None
      → IsNeutral g p (does g (saw x seen) s)
  neutral_kept (Take e) seen p s by may ok l h = dite (ℕ_discrete seen 0)
      (λ none. subst (IsNeutral g p) (sym (idle_take e seen s none))
      (ok.neutral l (sym (cond_yes seen 0 s.parent (or_else s.parent e) none) ∙ h)))
      (λ some. absurd (or_else-not_none s.parent e (sym (cond_no seen 0 s.parent (or_else s.parent e) some) ∙ h)))
  neutral_kept (Ack e) seen p s by may ok l h =
      by_test (is_parent e s.parent && eqb (may_ack_on g (head_of g e) s e) (owed_on (s.into e)))
      (λ y.
      let both = and_parts _ _ y in
      let all_of = eqb-true _ _ both.1 in
      let done : Bool = eqb (owed_by g (head_of g e) s) (owed_on (s.into e)) && is_passive g (head_of g e) s
      && eqb (deficit_of g (head_of g e) s) 0 in
      let finished : done ≡ true = by_test done (λ z. z)
      (λ n. (let few = cond-true (is_parent e s.parent && not done) (owed_on (s.into e) - 1) (owed_on (s.into e))
      (and_from _ _ both.0 (Rattle.std.proofs.lemmas.Bool.not_from_false _ n)) in let some = may.1 in
      absurd (omega arith))) in
      let one = and_parts _ _ finished in
      let two = and_parts _ _ one.0 in
      let only : owed_by g (head_of g e) s ≡ owed_on (s.into e) = eqb-true _ _ two.0 in
      subst (λ (w : ℕ). IsNeutral g w (does g (saw (Ack e) seen) s)) (sym by) record {
        no_parent = cond-true _ None s.parent y;
        passive = two.1;
        nothing_owed =
            let a = tested_move (all_edges g) (λ i. eqb (head_of g i) (head_of g e))
            (λ i. length (s.into i).got - acked_after g (Ack e) s i (s.into i))
            (λ i. owed_on (s.into i)) e may.0 (eq-eqb _ _ refl)
            (λ i m ne on. ap (λ (n : ℕ). length (s.into i).got - n)
            (cond_no e i ((s.into i).acked + may_ack_on g (head_of g e) s e) (s.into i).acked (λ z. ne (sym z)))) in
            let c = cond_yes e e ((s.into e).acked + may_ack_on g (head_of g e) s e) (s.into e).acked refl in
            omega arith;
        no_deficit = eqb-true _ _ one.1;
      })
      (λ n.
      let none : s.parent ≡ None = sym (cond-false _ None s.parent n) ∙ h in
      let a = in_zero p (λ i. owed_on (s.into i)) (ok.neutral l none).nothing_owed e may.0 (sym by) in
      let b = may.1 in absurd (omega arith))
  neutral_kept (Fire v k) seen p s by may ok l h = absurd (no_fire p s ok.outs (ok.neutral l h) v k by may)
  neutral_kept (Clear e) seen p s by may ok l h = ⊎_elim
      (λ v. absurd (no_pending p s ok.outs (ok.neutral l h) e by (let a = v.0 in omega arith) v.1 v.3))
      (λ r. absurd (not_root p e l by r.0)) may
  neutral_kept (Feed e k) seen p s by may ok l h = absurd (not_root p e l by may.0)
  neutral_kept End seen p s by may ok l h = absurd (omega arith)
  neutral_kept (Claim e) seen p s by may ok l h = absurd
      (no_pending p s ok.outs (ok.neutral l h) e by (let a = may.0 in
      omega arith) may.1 ((ok.outs e (sym by)).clear_pends may.0 may.2))
  neutral_kept (Put e) seen p s by may ok l h = absurd
      (no_put p s ok.outs (ok.neutral l h) e by (may.0) may.1.0 may.1.1)
  neutral_kept (Halt v) seen p s by may ok l h = absurd (no_halt p s ok.outs (ok.neutral l h) v by may)
  neutral_kept (Settle e) seen p s by may ok l h =
      let old = ok.neutral l h in
      let a = tested_le (all_edges g) (λ i. eqb (tail_of g i) p)
      (λ i. claims_of (s.out i).link - settled_after g (Settle e) seen i (s.out i)) (λ i. outstanding_on (s.out i))
      (λ i m on. grind (arith, nat_tests)) in search (rules, arith, nat_tests)
  neutral_kept _ seen p s by may ok l h = let old = ok.neutral l h in search (rules, arith, nat_tests)

  -- ---- what was fed

  -- a claim for k chips sends at most these more
  claim_sends : (k seen : ℕ) (t : Tail) → sum (sent_counts (after_claim k seen t)) ≤ sum (sent_counts t) + k
  claim_sends k seen t = let was = sum_by-append (λ (x : ℕ). x) t.put (option_to_list t.held) in
      let b = sum_by_push (λ (x : ℕ). x) t.put k in grind (arith, nat_tests)

  -- a put sends nothing more
  put_sends : (t : Tail) → sent_counts (after_put t) ≡ sent_counts t
  put_sends t = append-nil (sent_counts t)

  -- an edge that isn't fed has sent the same as before
  abbrev pub sent_after : Event → ℕ → Part → ℕ → ℕ
  sent_after x seen s e = sum (sent_counts (link_after x seen e (s.out e)))

  fed_kept : (x : Event) (seen : ℕ) (s : Part) → Met g x s → all_fed g s ≤ max_total
      → sum_below g.game.graph.vertices (λ v. sent_after x seen s (root_edge g v)) ≤ max_total
  fed_kept (Feed e k) seen s may ok =
      let past = may.0 in
      let inside = may.1 in
      let few = may.4 in
      let v : ℕ = e - graph_edges g in
      let at : root_edge g v ≡ e = omega arith in
      let m = sum_below_move g.game.graph.vertices (λ w. sent_after (Feed e k) seen s (root_edge g w))
      (λ w. sum (sent_counts (s.out (root_edge g w)).link)) v (omega arith)
      (λ w l ne. grind (arith, nat_tests)) in
      let more = claim_sends k seen (s.out (root_edge g v)).link in
      grind (arith, nat_tests)
  fed_kept (Claim e) seen s may ok =
      let inside = may.0 in
      let same = sum_below_ext g.game.graph.vertices (λ v. sent_after (Claim e) seen s (root_edge g v))
      (λ v. sum (sent_counts (s.out (root_edge g v)).link)) (λ v l. grind (arith, nat_tests)) in
      omega arith
  fed_kept (Clear e) seen s may ok =
      let same = sum_below_ext g.game.graph.vertices (λ v. sent_after (Clear e) seen s (root_edge g v))
      (λ v. sum (sent_counts (s.out (root_edge g v)).link)) (λ v l. grind (arith, nat_tests)) in
      omega arith
  fed_kept (Put e) seen s may ok =
      let same = sum_below_ext g.game.graph.vertices (λ v. sent_after (Put e) seen s (root_edge g v))
      (λ v. sum (sent_counts (s.out (root_edge g v)).link)) (λ v l.
      let same = put_sends (s.out (root_edge g v)).link in grind (arith, nat_tests)) in
      omega arith
  fed_kept _ seen s may ok = ok

  -- what is noted stays noted
  pub stays_ended : (x : Event) (ended : Bool) → ended ≡ true → ended_after x ended ≡ true
  stays_ended End ended on = refl
  stays_ended _ ended on = on

  pub part_kept : (x : Event) (seen p : ℕ) (s : Part) → p ≡ part_of g x → Met g x s → KeepsPart g p s
      → KeepsPart g p (does g (saw x seen) s)
  part_kept x seen p s by may ok = record {
    outs = outs_kept x seen p s by may ok.unfed_ended ok.outs;
    chips_are = chips_kept x seen p s by may ok.chips_are;
    within = within_kept x s may ok.within;
    acks = acks_kept x seen s ok.acks;
    parents = parents_kept x seen p s by may ok.acks ok.parents;
    at_limit = at_limit_kept x seen p s by may ok.at_limit;
    neutral = neutral_kept x seen p s by may ok;
    fed_within = λ at. fed_kept x seen s may (ok.fed_within at);
    unfed_ended = λ off. stays_ended x s.ended (ok.unfed_ended off);
  }

  -- the part that makes an event keeps it
  pub events_keep : (x : Step) (s : Part) → unmet_rule g x.event s ≡ None → KeepsPart g (part_of g x.event) s
      → KeepsPart g (part_of g x.event) (does g x s)
  events_keep x s may ok = part_kept x.event x.seen (part_of g x.event) s refl (rules_met g x.event s may) ok
