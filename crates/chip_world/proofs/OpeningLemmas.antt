-- Serves World.antt.
-- A world that opens.
use Rattle.chip_world.proofs.Names.{◌≡◌, ◌≢◌, ℕ, ◌+◌, ◌<◌, cond, eqb, ltb, List, [], ◌∷◌, ◌++◌, length}
use Rattle.chip_world.proofs.Names.{get_or, set, replicate, None, refl, arith}
use Rattle.chip_world.proofs.Names.{length-set, false, get_or-set_same, get_or-set_other, get_or-replicate, get_or_past}
use Rattle.chip_world.proofs.Names.{get_or_push, get_or_append_left, length-replicate, dite, ℕ_discrete, dec_lt}
use Rattle.chip_world.proofs.Names.{Setting, IsSetting, cond_yes, cond_no, WordsShow, fresh_shows, first_shows}
use Rattle.chip_world.proofs.Names.{RootStandsFor, first_put, opening_part, graph_edges, all_edges, opening_words}
use Rattle.chip_world.proofs.Names.{WorldState, ShowsEdge, StandsForLog, first_chips, AreOpeningWords, AreOpeningActors}
use Rattle.chip_world.proofs.Names.{by_test}

-- one more element, and what holds of each
pub pushed : {X : Type 0} (P : ℕ → X → Type 0) (xs : List X) (y : X) (n : ℕ) → length xs ≡ n
    → ((i : ℕ) → i < n → (d : X) → P i (get_or xs i d)) → P n y → (i : ℕ) → i < n + 1 → (d : X)
    → P i (get_or (xs ++ y ∷ []) i d)
pushed P xs y n count each here i l d = dite (ℕ_discrete i n)
    (λ same. rw (same, get_or_push xs y d n count) here)
    (λ other. rw (get_or_append_left xs (y ∷ []) d i (omega arith)) (each i (omega arith) d))

-- a cell of a ring that opens
other_cells : (ring chips i : ℕ) → i ≢ 0 → i < ring → get_or (set (replicate ring 0) 0 chips) i 0 ≡ 0
other_cells ring chips i other l = rw (get_or-set_other, get_or-replicate)

first_cell : (ring chips : ℕ) → 0 < ring → get_or (set (replicate ring 0) 0 chips) 0 0 ≡ chips
first_cell ring chips some_ring = get_or-set_same (replicate ring 0) 0 chips 0 (rw length-replicate some_ring)

-- the words of an edge show the message with which it opens, or none
ring_shows : (ring chips : ℕ) → 0 < ring → (put : List ℕ) → put ≡ cond (eqb chips 0) [] (chips ∷ [])
    → WordsShow ring (cond (eqb chips 0) 0 1) (λ i. get_or (set (replicate ring 0) 0 chips) i 0)
    (record { put = put; held = None; clear = false; refused = false }) [] None
ring_shows ring chips some_ring put put_is = dite (ℕ_discrete chips 0)
    (λ none. rw (put_is, cond_yes {A = ℕ} chips 0 0 1 none, cond_yes chips 0 [] (chips ∷ []) none)
    (fresh_shows ring cells (zeros none)))
    (λ some. rw (put_is, cond_no {A = ℕ} chips 0 0 1 some, cond_no chips 0 [] (chips ∷ []) some)
    (first_shows ring chips cells some_ring (first_cell ring chips some_ring)
    (λ i l other. other_cells ring chips i other l)))
  where
    cells : ℕ → ℕ
    cells i = get_or (set (replicate ring 0) 0 chips) i 0

    zeros : chips ≡ 0 → (i : ℕ) → get_or (set (replicate ring 0) 0 chips) i 0 ≡ 0
    zeros none i = dite (ℕ_discrete i 0) (λ same. rw (same, first_cell ring chips some_ring) none)
        (λ other. rw (get_or-set_other (replicate ring 0) 0 i chips 0 other) (dite (dec_lt i ring)
        (λ l. get_or-replicate ring i 0 0 l)
        (λ past. get_or_past (replicate ring 0) i 0 (rw length-replicate (omega arith)))))

module _ (g : Setting) (is_setting : IsSetting g) where
  first_put_is : (e : ℕ) → first_put g e
      ≡ cond (eqb (first_chips g.game e) 0) [] (first_chips g.game e ∷ [])
  first_put_is e = by_test (ltb e (graph_edges g)) (λ yes. rw yes) (λ no. rw no)

  edge_shown : (e : ℕ) → ShowsEdge g [] e (opening_words g.ring (first_chips g.game e))
  edge_shown e = record {
    cells_each = rw (length-set, length-replicate);
    shows = ring_shows g.ring (first_chips g.game e) is_setting.some_ring (first_put g e) (first_put_is e);
    acknowledged = refl;
  }

  pub opens : (w : WorldState) → w.setting ≡ g → AreOpeningActors g g.game.graph.vertices w.actors
      → AreOpeningWords g (all_edges g) w.words → RootStandsFor g (opening_part g) w.root
      → StandsForLog g [] w
  opens w setting actors words root_stands = record {
    setting = setting;
    is_setting = is_setting;
    legal = tt;
    actors_each = actors.count_is;
    actors = actors.each;
    words_each = words.count_is;
    words = λ e l d. rw (words.each e l d) (edge_shown e);
    root_stands = root_stands;
  }
