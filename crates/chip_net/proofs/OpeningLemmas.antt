-- Serves Layout.antt, Views.antt, Opening.antt.
-- The table at the opening satisfies the rule.
use Rattle.chip_net.proofs.Names.{◌≡◌, ◌≢◌, ℕ, zero, suc, ◌+◌, ◌<◌, cond, ltb, List, [], ◌∷◌, length, set}
use Rattle.chip_net.proofs.Names.{length-set, Some, refl, sym, ◌∙◌, arith, lt-ltb, le-ltb, get_or_past}
use Rattle.chip_net.proofs.Names.{mod-eq_of_lt, dite, ℕ_discrete, get_elem?, opening, cond_no, Setting}
use Rattle.chip_net.proofs.Names.{IsSetting, graph_edges, all_edges, start_of, first_put, Step, Word, of_edge, of_acks}
use Rattle.chip_net.proofs.Names.{of_cell, of_vertex, IsWord, first_is, index_of, word_count, value_in, find_in}
use Rattle.chip_net.proofs.Names.{opening_view, Kept, first_value, AreOpening}
use Rattle.chip_net.proofs.Names.{nat_tests}
use Rattle.chip_net.proofs.LayingLemmas.{written_here, written_else}
use Rattle.chip_net.proofs.ViewingLemmas.{none_some, part_there, part_empty}

-- one more edge changes a count only at that edge
same_test : (e n : ℕ) → e ≢ n → ltb e n ≡ ltb e (n + 1)
same_test e n other = grind (arith, nat_tests)

now_counted : (e n : ℕ) (x : ℕ) → e ≡ n → cond (ltb e (n + 1)) x 0 ≡ x
now_counted e n x same = grind (arith, nat_tests)

module _ (g : Setting) where
  module _ (v : ℕ) (inside : v < g.game.graph.vertices) (words : List ℕ) (opening : AreOpening g (graph_edges g + v) words)
    where
      abbrev edge : ℕ
      edge = graph_edges g + v

      abbrev words' : List ℕ
      words' = set words (index_of g (of_edge edge)) 1

      abbrev words'' : List ℕ
      words'' = set words' (index_of g (of_cell edge 0)) (start_of g v)

      -- a vertex with chips has a message
      pub opens_message : 0 < g.ring → start_of g v ≢ 0 → AreOpening g ((graph_edges g + v) + 1) words''
      opens_message some_ring some_chips = record {
        wide = length-set words' (index_of g (of_cell edge 0)) (start_of g v) ∙ wide';
        each = each;
      }
        where
          wide' : length words' ≡ word_count g
          wide' = length-set words (index_of g (of_edge edge)) 1 ∙ opening.wide

          there : IsWord g (of_edge edge)
          there = omega arith

          cell_there : IsWord g (of_cell edge 0)
          cell_there = (omega arith, some_ring)

          put : first_put g edge ≡ start_of g v ∷ []
          put = first_is g v ∙ cond_no (start_of g v) 0 _ _ some_chips

          -- every word but these two is unchanged
          still : (q : Word) → IsWord g q → q ≢ of_edge edge → q ≢ of_cell edge 0 → value_in g words'' q
              ≡ first_value g edge q
          still q l one two = written_else g words' wide' (of_cell edge 0) cell_there (start_of g v) q l two
              ∙ written_else g words opening.wide (of_edge edge) there 1 q l one ∙ opening.each q l

          each : (q : Word) → IsWord g q → value_in g words'' q ≡ first_value g (edge + 1) q
          each (of_edge e) l = dite (ℕ_discrete e edge)
              (λ same. rw (
                same,
                written_else g words' wide' (of_cell edge 0) cell_there (start_of g v)
                    (of_edge edge) there (λ z. absurd (cc)),
                written_here g words opening.wide (of_edge edge) there 1,
                put,
              )
              (sym (now_counted edge edge 1 refl)))
              (λ other. rw (← same_test e edge other) (still (of_edge e) l (λ z. grind arith) (λ z. absurd (cc))))
          each (of_acks e) l = still (of_acks e) l (λ z. absurd (cc)) (λ z. absurd (cc))
          each (of_vertex u) l = still (of_vertex u) l (λ z. absurd (cc)) (λ z. absurd (cc))
          each (of_cell e i) l = dite (ℕ_discrete e edge)
              (λ same. dite (ℕ_discrete i 0)
              (λ first. rw (same, first, written_here g words' wide' (of_cell edge 0) cell_there (start_of g v), put)
              (sym (now_counted edge edge (start_of g v) refl)))
              (λ later. rw (
                still (of_cell e i) l (λ z. absurd (cc)) (λ z. grind arith),
                now_counted e edge _ same,
                same,
                le-ltb edge edge (omega arith),
                put,
              ) (sym (get_or_past (start_of g v ∷ []) i 0 (omega arith)))))
              (λ other. rw (← same_test e edge other) (still (of_cell e i) l (λ z. absurd (cc)) (λ z. grind arith)))

  -- all words written
  pub opens : IsSetting g → (words : List ℕ) → AreOpening g (all_edges g) words
      → Kept g (opening words [] (opening_view g))
  opens setting words opening = record {
    log = [];
    owner = λ _. 0;
    setting = setting;
    wide = opening.wide;
    each_part = first;
    there = λ p l. part_there (g.game.graph.vertices + 2) p l;
    shown = record {
      edges = λ e l. record {
        word_is = rw (opening.each (of_edge e) l, lt-ltb e (all_edges g) l) (omega arith);
        ring_is = λ p lo hi.
            let m : p < g.ring = omega arith in
            rw (mod-eq_of_lt m, opening.each (of_cell e p) (l, m), lt-ltb e (all_edges g) l);
      };
      acks = λ e l. opening.each (of_acks e) l;
      fired = λ v l. opening.each (of_vertex v) l;
    };
    legal = tt;
  }
    where
      first : (p j : ℕ) (did : List Step) → find_in p (get_elem? (opening_view g ∷ []) j) ≡ Some did
          → (0 ≡ j) × (did ≡ [])
      first p zero did found = (refl, part_empty (g.game.graph.vertices + 2) p did found)
      first p (suc j) did found = absurd (none_some did found)
