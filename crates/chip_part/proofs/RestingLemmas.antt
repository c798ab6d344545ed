-- Serves Turn.antt, Part.antt, Laws.antt.
-- After a whole turn nothing may be acknowledged. So a vertex that is passive then is neutral, or waits for
-- acknowledgements.
use Rattle.std.proofs.lemmas.Bool.Decides.{nat_tests}
use Rattle.std.proofs.Common.{◌≡◌, ◌⊎◌, ℕ, ◌+◌, ◌-◌, ◌<◌, Bool, true, not, ◌&&◌, cond, eqb, List, [], ◌∷◌, Option, Some}
use Rattle.std.proofs.Common.{None, Contains, refl, sym, ap, ◌∙◌, subst, arith, inl, inr, ⊎_elim, eqb-true, eq-eqb}
use Rattle.std.proofs.Common.{true≢false, pos_of_ne-zero}
use Rattle.std.proofs.lemmas.Bool.{and_from, and_parts, not-true, cond-true, cond-false}
use mathlib.Core.Logic.{dite}
use native.Mathlib.Decide.{ℕ_discrete}
use Rattle.chip_graph.proofs.SumLemmas.{cond_yes, cond_no, by_test, sum_below_one}
use Rattle.chip_detect.specs.Acknowledging.{is_parent, is_done}
use Rattle.chip_part.specs.Setting.{Setting}
use Rattle.chip_part.specs.Edges.{all_edges, head_of}
use Rattle.chip_part.specs.Part.{Part, owed_on, may_ack_on, owed_by, deficit_of, is_passive}
use Rattle.chip_part.specs.Kept.{KeepsPart}
use Rattle.chip_part.specs.Laws.{IdleTurnRests}
use Rattle.chip_part.specs.Rules.{Ack}
use Rattle.chip_part.specs.Steps.{Step, does, saw}
use Rattle.chip_part.specs.Turn.{each_phase, ins_of, acknowledging, acknowledging_parent, turn}
use Rattle.chip_part.proofs.PartLemmas.{may_le}
use Rattle.chip_part.proofs.PickedLemmas.{into_turn}
use Rattle.chip_link.proofs.SoundsLemmas.{none-some}
use Rattle.chip_detect.proofs.ListLemmas.{contains_cases}

parent_of : (e : ℕ) (p : Option ℕ) → is_parent e p ≡ true → p ≡ Some e
parent_of e p on = grind (arith, nat_tests)

pub same_edge : (e i : ℕ) (p : Option ℕ) → p ≡ Some e → p ≡ Some i → e ≡ i
same_edge e i p here there = cc

module _ (g : Setting) where
  -- nothing is owed on this edge, or it is the parent edge, with one message
  abbrev pub Little : Part → ℕ → Type 0
  Little s e = (owed_on (s.into e) ≡ 0) ⊎ ((s.parent ≡ Some e) × (owed_on (s.into e) ≡ 1))

  abbrev keeps : ℕ → Part → ℕ → Bool
  keeps h s e = is_parent e s.parent
      && not (is_done (owed_on (s.into e)) (owed_by g h s) (deficit_of g h s) (is_passive g h s))

  -- all that is owed may be acknowledged, or the edge is the parent edge and all but one
  all_but_one : (h e : ℕ) (s : Part) → (may_ack_on g h s e ≡ owed_on (s.into e))
      ⊎ ((s.parent ≡ Some e) × (may_ack_on g h s e ≡ owed_on (s.into e) - 1))
  all_but_one h e s = by_test (keeps h s e)
      (λ on. inr (parent_of e s.parent (and_parts _ _ on).0, cond-true (keeps h s e) _ _ on))
      (λ off. inl (cond-false (keeps h s e) _ _ off))

  pub idle_little : (h e : ℕ) (s : Part) → may_ack_on g h s e ≡ 0 → Little s e
  idle_little h e s none = ⊎_elim (λ all. inl (omega arith))
      (λ few. dite (ℕ_discrete (owed_on (s.into e)) 0) (λ z. inl z) (λ some. let a = few.1 in inr (few.0, omega arith)))
      (all_but_one h e s)

  module _ (s : Part) (e seen : ℕ) (some : 0 < may_ack_on g (head_of g e) s e) where
    abbrev pub acked : Part
    acked = does g (saw (Ack e) seen) s

    owed_less : owed_on (acked.into e) ≡ owed_on (s.into e) - may_ack_on g (head_of g e) s e
    owed_less = let a = cond_yes e e ((s.into e).acked + may_ack_on g (head_of g e) s e) (s.into e).acked refl in omega arith

    -- if the parent is still there, it was
    pub was_parent : (i : ℕ) → acked.parent ≡ Some i → s.parent ≡ Some i
    was_parent i is = grind (arith, nat_tests)

    here_little : Little acked e
    here_little = let a = owed_less in let b = all_but_one (head_of g e) e s in grind (arith, nat_tests)

    stays_little : (i : ℕ) → Little s i → Little acked i
    stays_little i little = let here = here_little in grind (arith, nat_tests)

  module _ (v : ℕ) where
    -- ---- the acknowledgements of a turn

    -- one of an edge, made or not
    abbrev Acked : ℕ → Part → Part → Type 0
    Acked e s t = ((t ≡ s) × (may_ack_on g (head_of g e) s e ≡ 0))
        ⊎ ((0 < may_ack_on g (head_of g e) s e) × ((seen : ℕ) × (t ≡ does g (saw (Ack e) seen) s)))

    acked_or_not : (e : ℕ) (s : Part) (ds : List Step) (t : Part) → acknowledging g v e s ds t → Acked e s t
    acked_or_not e s ds t phase = by_test (eqb (may_ack_on g (head_of g e) s e) 0)
        (λ none. let idle = rw none at phase in inl (idle.1, eqb-true _ _ none))
        (λ some. let made = rw some at phase in inr (grind (arith, nat_tests), (made.0, made.3.1)))

    after_one : (e : ℕ) (s t : Part) → Acked e s t → ((i : ℕ) → Little s i → Little t i) × Little t e
    after_one e s t acked = ⊎_elim
        (λ idle. (
          λ i little. subst (λ (p : Part). Little p i) (sym idle.0) little,
          subst (λ (p : Part). Little p e) (sym idle.0) (idle_little (head_of g e) e s idle.1),
        ))
        (λ made. (
          λ i little. subst (λ (p : Part). Little p i) (sym made.1.1) (stays_little s e made.1.0 made.0 i little),
          subst (λ (p : Part). Little p e) (sym made.1.1) (here_little s e made.1.0 made.0),
        )) acked

    after_all : (es : List ℕ) (s : Part) (ds : List Step) (t : Part) → each_phase (acknowledging g v) es s ds t
        → ((i : ℕ) → Little s i → Little t i) × ((i : ℕ) → Contains es i → Little t i)
    after_all [] s ds t (empty, same) = (
      λ i little. subst (λ (p : Part). Little p i) (sym same) little,
      λ i at. (let l = at.1 in absurd (omega arith)),
    )
    after_all (e ∷ es) s ds t (front, m, back, is, first, rest) =
        let one = after_one e s m (acked_or_not e s front m first) in
        let more = after_all es m back t rest in (
          λ i little. more.0 i (one.0 i little),
          λ i at. ⊎_elim (λ same. more.0 i (subst (Little m) (sym same) one.1)) (λ later. more.1 i later) (contains_cases e es i at),
        )

    -- and the last one, on the parent edge
    after_last : (p : Option ℕ) (s : Part) (ds : List Step) (t : Part) → s.parent ≡ p → acknowledging_parent g v p s ds t
        → (e : ℕ) → head_of g e ≡ v → Little s e → may_ack_on g v t e ≡ 0
    after_last None s ds t none (empty, same) e at little = ⊎_elim
        (λ z. let a = may_le g v e s in let b = ap (λ (p : Part). may_ack_on g v p e) same in omega arith)
        (λ one. absurd (none-some e (sym none ∙ one.0))) little
    after_last (Some q) s ds t parent phase e at little =
        let acked = acked_or_not q s ds t phase in
        ⊎_elim
        (λ z. let a = may_le g v e t in omega arith)
        (λ one. ⊎_elim
        (λ idle.
        let q_is : q ≡ e = same_edge q e s.parent parent (sym (ap (λ (p : Part). p.parent) idle.0) ∙ one.0) in
        ap (λ (p : Part). may_ack_on g v p e) idle.0
        ∙ subst (λ (u : ℕ). may_ack_on g u s e ≡ 0) at (subst (λ (i : ℕ). may_ack_on g (head_of g i) s i ≡ 0) q_is idle.1))
        (λ made.
        let was = was_parent s q made.1.0 made.0 e (sym (ap (λ (p : Part). p.parent) made.1.1) ∙ one.0) in
        let q_is : q ≡ e = same_edge q e s.parent parent was in
        let a : owed_on (t.into q) ≡ owed_on (s.into q) - may_ack_on g (head_of g q) s q =
        ap (λ (p : Part). owed_on (p.into q)) made.1.1 ∙ owed_less s q made.1.0 made.0 in
        let b = ap (λ (i : ℕ). owed_on (t.into i)) q_is in
        let c = ap (λ (i : ℕ). owed_on (s.into i)) q_is in
        let some = made.0 in let d = one.1 in
        absurd (⊎_elim (λ z. omega arith) (λ y. let f = y.1 in omega arith) little))
        acked)
        ((after_one q s t acked).0 e little)

    pub nothing_left : (s : Part) (ds : List Step) (after : Part) → turn g v s ds after → (e : ℕ)
        → head_of g e ≡ v → may_ack_on g v after e ≡ 0
    nothing_left s ds after
        (_, _, _, _, _, (_, _, _, _, _, (_, _, _, _, _, (_, _, _, _, _, (_, _, _, _, _, (_, _, _, _, _, (f, m, r, is, all, last)))))))
        e at =
        after_last m.parent m r after refl last e at ((after_all (ins_of g v) _ f m all).1 e (into_turn g v e at))

    -- so a passive vertex has a deficit, if it has a parent
    module _ (s : Part) (kept : KeepsPart g v s) (passive : is_passive g v s ≡ true) (left : (e : ℕ) → e < all_edges g
        → head_of g e ≡ v → may_ack_on g v s e ≡ 0) where
      with_parent : (p : ℕ) → s.parent ≡ Some p → deficit_of g v s ≡ 0 → ⊥
      with_parent p is settled =
          let mine = kept.parents p is in
          let whole : owed_by g v s ≡ owed_on (s.into p) = sum_below_one (all_edges g)
          (λ e. cond (eqb (head_of g e) v) (owed_on (s.into e)) 0) p mine.0 (λ e l other. dite (ℕ_discrete (head_of g e) v)
          (λ at. cond_yes (head_of g e) v (owed_on (s.into e)) 0 at ∙ ⊎_elim (λ none. none)
          (λ one. absurd (other (same_edge e p s.parent one.0 is))) (idle_little v e s (left e l at)))
          (λ away. cond_no (head_of g e) v (owed_on (s.into e)) 0 away))
          ∙ cond_yes (head_of g p) v (owed_on (s.into p)) 0 mine.1 in
          by_test (keeps v s p)
          (λ on. true≢false (sym (and_from _ _ (and_from _ _ (eq-eqb _ _ whole) passive) (eq-eqb _ _ settled))
          ∙ not-true _ (and_parts _ _ on).1))
          (λ off. let all = cond-false (keeps v s p) (owed_on (s.into p) - 1) (owed_on (s.into p)) off in
          let none = left p mine.0 mine.1 in let some = mine.2 in absurd (omega arith))

      pub rests : (s.parent ≡ None) ⊎ (0 < deficit_of g v s)
      rests = by_parent s.parent refl
        where
          by_parent : (p : Option ℕ) → s.parent ≡ p → (s.parent ≡ None) ⊎ (0 < deficit_of g v s)
          by_parent None is = inl is
          by_parent (Some p) is = inr (pos_of_ne-zero (with_parent p is))

pub idle_turn_rests : IdleTurnRests
idle_turn_rests g v s ds after is_turn idle kept passive = rests g v after kept passive
    (λ e l at. nothing_left g v s ds after is_turn e at)
