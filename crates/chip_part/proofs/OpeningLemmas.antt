-- Serves Edges.antt, Part.antt.
-- Every part opens with its invariants.
use Rattle.std.proofs.lemmas.Bool.Decides.{nat_tests}
use Rattle.std.proofs.Common.{◌≡◌, ℕ, ◌+◌, ◌-◌, ◌<◌, Bool, false, not, ◌&&◌, cond, eqb, ltb, leb, [], ◌∷◌, length, sum}
use Rattle.std.proofs.Common.{Option, Some, None, refl, sym, ap, ◌∙◌, subst, arith, eq-eqb, eqb-true, rules, lt-ltb}
use Rattle.std.proofs.Common.{le-ltb, mul-zero, append-nil}
use Rattle.std.proofs.lemmas.Bool.{lt-leb, and_right, cond-true, cond-false}
use mathlib.Core.Logic.{dite}
use native.Mathlib.Decide.{ℕ_discrete}
use Rattle.chip_graph.specs.Multigraph.{degree}
use Rattle.chip_graph.specs.ChipGame.{IsGame}
use Rattle.chip_part.specs.Setting.{Setting}
use Rattle.chip_graph.specs.Sums.{sum_below}
use Rattle.chip_graph.proofs.SumLemmas.{cond_yes, cond_no, tested_none, sum_below_ext}
use Rattle.chip_graph.proofs.SumLemmas.{sum_by_place}
use Rattle.chip_graph.proofs.WalksLemmas.{degree_positive}
use Rattle.chip_link.specs.Link.{claims_of, sent_counts}
use Rattle.chip_part.specs.Edges.{graph_edges, all_edges, root_edge, tail_of, head_of, mult_of, start_of}
use Rattle.chip_part.specs.Part.{Cause, opening_part, first_put, is_legal, all_fed}
use Rattle.chip_part.specs.Kept.{KeepsPart, opening_tail}
use Rattle.chip_part.proofs.PartLemmas.{tail_inside}
use Rattle.chip_link.proofs.SoundsLemmas.{none-some}

module _ (g : Setting) where
  -- a root edge opens with the chips of its vertex, if it has any
  pub first_is : (v : ℕ) → first_put g (root_edge g v) ≡ cond (eqb (start_of g v) 0) [] (start_of g v ∷ [])
  first_is v = cond-false (ltb (root_edge g v) (length g.game.graph.edges)) [] _
      (le-ltb (root_edge g v) (length g.game.graph.edges) (omega arith))
      ∙ ap (λ (u : ℕ). cond (eqb (start_of g u) 0) [] (start_of g u ∷ []))
      (let at : root_edge g v - graph_edges g ≡ v = omega arith in at)

  first_sum : (v : ℕ) → sum (first_put g (root_edge g v)) ≡ start_of g v
  first_sum v = let s : ℕ = start_of g v in ap sum (first_is v) ∙ dite (ℕ_discrete s 0)
      (λ z. ap sum (cond_yes s 0 [] (s ∷ []) z) ∙ sym z)
      (λ z. ap sum (cond_no s 0 [] (s ∷ []) z) ∙ (let y : 0 + s ≡ s = omega arith in y))

  -- what an opening edge ever sent to a vertex is that vertex's start
  pub first_sent : (v : ℕ) → sum (sent_counts (opening_tail g (root_edge g v))) ≡ start_of g v
  first_sent v = ap sum (append-nil (first_put g (root_edge g v))) ∙ first_sum v

  -- the chips of the start are those of the game
  pub first_fed : IsGame g.game → all_fed g (opening_part g) ≡ sum g.game.start
  first_fed game = sum_below_ext g.game.graph.vertices _ (start_of g) (λ v l. first_sent v)
      ∙ ap (λ (n : ℕ). sum_below n (start_of g)) (sym game.start_fits) ∙ sym (sum_by_place g.game.start)

  none_put : (e : ℕ) → e < graph_edges g → first_put g e ≡ []
  none_put e l = cond-true (ltb e (length g.game.graph.edges)) [] _ (lt-ltb e (length g.game.graph.edges) l)

  pub first_few : (e : ℕ) → e < graph_edges g → length (first_put g e) ≡ 0
  first_few e l = ap length (none_put e l)

  pub opening_keeps : IsGame g.game → (p : ℕ) → KeepsPart g p (opening_part g)
  opening_keeps game p = record {
    outs = λ e at. (let a = none_put e in let b = first_few e in let c = mul-zero (mult_of g e) in
        search (rules, arith, nat_tests));
    chips_are = (let a = tested_none (all_edges g) (λ e. eqb (head_of g e) p) (λ e. 0) (λ e l on. refl) in
        let b = mul-zero (degree g.game.graph p) in omega arith);
    within = omega arith;
    acks = λ e. omega arith;
    parents = λ e h. absurd (none-some e h);
    at_limit = λ h. absurd (none_cause h);
    neutral = λ l h. record {
      no_parent = refl;
      passive = (let a = tested_none (all_edges g) (λ e. eqb (tail_of g e) p) (λ e. 0) (λ e m on. refl) in
          let off = illegal l in grind (arith, nat_tests));
      nothing_owed = tested_none (all_edges g) (λ e. eqb (head_of g e) p) (λ e. 0 - 0) (λ e m on. refl);
      no_deficit = tested_none (all_edges g) (λ e. eqb (tail_of g e) p)
          (λ e. claims_of (record { put = first_put g e; held = None; clear = false; refused = false }) - 0) (λ e m on.
          (let at = eqb-true _ _ on in
          let inside = tail_inside g e (subst (λ (n : ℕ). n < g.game.graph.vertices) (sym at) l) in
          let a = first_few e inside in omega arith));
    };
    fed_within = λ at. (let a = first_fed game in let b = game.few_chips in omega arith);
    unfed_ended = λ off. ap not off;
  }
    where
      none_cause : {c : Cause} → ◌≡◌ {A = Option Cause} None (Some c) → ⊥
      none_cause q = absurd (cc)

      illegal : p < g.game.graph.vertices → is_legal g p (opening_part g) ≡ false
      illegal l = dite (ℕ_discrete p g.game.graph.sink)
          (λ e. ap (λ (b : Bool). not b && leb (degree g.game.graph p) 0) (eq-eqb p g.game.graph.sink e))
          (λ ne. and_right _ _ (lt-leb (degree g.game.graph p) 0
          (degree_positive g.game.graph p (game.graph_fits.all_reach p l) ne
          (λ e m. (game.graph_fits.edges_fit e m).some_chips))))
