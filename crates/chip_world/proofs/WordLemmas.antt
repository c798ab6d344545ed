-- Serves SharedWords.antt.
-- The shared words of a world by its log: an operation sees in them what the core's event sees, and leaves words that
-- show the extended log.
use Rattle.chip_world.proofs.Names.{◌≡◌, ◌≢◌, ℕ, ◌+◌, ◌-◌, ◌%◌, ◌^◌, ◌<◌, true, cond, eqb, List, ◌∷◌, length, sum}
use Rattle.chip_world.proofs.Names.{get_or, None, option_to_list, refl, sym, ap, arith, ⊎_elim, length-set}
use Rattle.chip_world.proofs.Names.{get_or-set_same, get_or-set_other, bit_or, mod_below, get_or_default}
use Rattle.chip_world.proofs.Names.{dite, ℕ_discrete, IsGame, Setting, cond_yes, cond_no, claims_of, Sound}
use Rattle.chip_world.proofs.Names.{word_after_exchange, claims_in, may_le, Act, may_ack_on, cause, is_by_limit, Met}
use Rattle.chip_world.proofs.Names.{act_of, rules_met, Log, Event, Take, Ack, Fire, Clear, Claim, Put, Halt, Settle}
use Rattle.chip_world.proofs.Names.{Seal, Read, Feed, End, unmet_rule, part_of, part_in, out_in, into_in, stop_in}
use Rattle.chip_world.proofs.Names.{word_of_part, sees, IsLegalLog, head_of, all_edges, graph_edges, stopper, Word}
use Rattle.chip_world.proofs.Names.{of_edge, of_acks, of_cell, of_vertex, halt_bits, word_of_event, word_to_note}
use Rattle.chip_world.proofs.Names.{IsShown, acting_part, IsLeft, operations_find, words_go_on, part_kept, edge_sound}
use Rattle.chip_world.proofs.Names.{EdgeState, no_words, words_of, with_cell, with_claim, with_acks, with_seal}
use Rattle.chip_world.proofs.Names.{with_edge, cell_of, seen_in, words_after, HasCell, CanPerform, is_by_act}
use Rattle.chip_world.proofs.Names.{is_of_root, saw, ShowsEdge, claims_most, words as words_read}
use Rattle.chip_part.specs.declared.act.Act.TheVariants as Do

-- the value of a shared word, if the vertices have these fired words
abbrev value_of : List EdgeState → (ℕ → ℕ) → Word → ℕ
value_of words fired (of_edge e) = (words_of words e).word
value_of words fired (of_acks e) = (words_of words e).acknowledged
value_of words fired (of_cell e i) = cell_of words e i
value_of words fired (of_vertex v) = fired v

-- the words of one edge are changed
module _ (words : List EdgeState) (e : ℕ) (f : EdgeState → EdgeState) where
  here_changed : e < length words → words_of (with_edge e f words) e ≡ f (words_of words e)
  here_changed l = get_or-set_same words e (f (words_of words e)) no_words l

  others_stay : (i : ℕ) → i ≢ e → words_of (with_edge e f words) i ≡ words_of words i
  others_stay i other = get_or-set_other words e i (f (words_of words e)) no_words other

  -- the change leaves every other edge unchanged
  stays : {A : Type 0} (part : EdgeState → A) → e < length words → part (f (words_of words e)) ≡ part (words_of words e)
      → (i : ℕ) → part (words_of (with_edge e f words) i) ≡ part (words_of words i)
  stays part l same i = dite (ℕ_discrete i e)
      (λ z. rw (z, here_changed l) same) (λ z. ap part (others_stay i z))

-- one word is changed, and every other is unchanged
module _ (words : List EdgeState) (fired : ℕ → ℕ) where
  edge_else : (e n : ℕ) → e < length words → (w : Word) → w ≢ of_edge e
      → value_of (with_edge e (λ s. record s { word = n }) words) fired w ≡ value_of words fired w
  edge_else e n l (of_edge i) ne =
      rw (others_stay words e (λ s. record s { word = n }) i (λ z. ne (ap of_edge z)), value_of)
  edge_else e n l (of_acks i) ne = stays words e (λ s. record s { word = n }) (λ s. s.acknowledged) l refl i
  edge_else e n l (of_cell i j) ne = stays words e (λ s. record s { word = n }) (λ s. get_or s.cells j 0) l refl i
  edge_else e n l (of_vertex v) ne = refl

  acks_else : (e n : ℕ) → e < length words → (w : Word) → w ≢ of_acks e
      → value_of (with_edge e (with_acks n) words) fired w ≡ value_of words fired w
  acks_else e n l (of_edge i) ne = stays words e (with_acks n) (λ s. s.word) l refl i
  acks_else e n l (of_acks i) ne = rw (others_stay words e (with_acks n) i (λ z. ne (ap of_acks z)), value_of)
  acks_else e n l (of_cell i j) ne = stays words e (with_acks n) (λ s. get_or s.cells j 0) l refl i
  acks_else e n l (of_vertex v) ne = refl

  cell_else : (e c n : ℕ) → e < length words → (w : Word) → w ≢ of_cell e c
      → value_of (with_edge e (with_cell c n) words) fired w ≡ value_of words fired w
  cell_else e c n l (of_edge i) ne = stays words e (with_cell c n) (λ s. s.word) l refl i
  cell_else e c n l (of_acks i) ne = stays words e (with_cell c n) (λ s. s.acknowledged) l refl i
  cell_else e c n l (of_cell i j) ne = dite (ℕ_discrete j c)
      (λ same. rw (others_stay words e (with_cell c n) i (λ z. ne (cc))))
      (λ other. stays words e (with_cell c n) (λ s. get_or s.cells j 0) l
      (get_or-set_other (words_of words e).cells c j n 0 other) i)
  cell_else e c n l (of_vertex v) ne = refl

  vertex_else : (v n : ℕ) (w : Word) → w ≢ of_vertex v
      → value_of words (λ u. cond (eqb v u) n (fired u)) w ≡ value_of words fired w
  vertex_else v n (of_vertex u) ne = cond_no v u n (fired u) (λ z. ne (ap of_vertex (sym z)))
  vertex_else v n _ ne = refl

-- an operation adds no edge
pub length-words_after : (act : Act) (words : List EdgeState) → length (words_after act words) ≡ length words
length-words_after (Do.Take e cell) words = length-set words e _
length-words_after (Do.Claim e expected new) words = length-set words e _
length-words_after (Do.Put e cell value) words = length-set words e _
length-words_after (Do.Ack e count) words = length-set words e _
length-words_after _ words = refl

module _ (g : Setting) (game : IsGame g.game) (some_ring : 0 < g.ring) (log : Log) (legal : IsLegalLog g log) where
  sound : (e : ℕ) → Sound g.ring (out_in g log e).link (into_in g log e).got (stop_in g log e)
  sound = edge_sound g game some_ring log legal

  module _ (words : List EdgeState) (words_each : length words ≡ all_edges g) (shown : (e : ℕ) → e < all_edges g
      → (d : EdgeState) → ShowsEdge g log e (get_or words e d)) where
    at : (e : ℕ) → e < all_edges g → ShowsEdge g log e (words_of words e)
    at e l = shown e l no_words

    has_cell : (e p : ℕ) → e < all_edges g → HasCell words e (p % g.ring)
    has_cell e p l = (omega arith, (let a = (at e l).cells_each in let b = mod_below p g.ring some_ring in omega arith))

    -- the meaning of the rules that are met
    met_for : (x : Event) → unmet_rule g x (part_in g log (part_of g x)) ≡ None → Met g x (part_in g log (part_of g x))
    met_for x none = rules_met g x (part_in g log (part_of g x)) none

    -- the words show the log, with the fired words that it makes
    abbrev fired : ℕ → ℕ
    fired v = word_of_part (part_in g log v)

    all_shown : IsShown g log (value_of words fired)
    all_shown = record {
      edges = λ e l. (at e l).shows;
      acks = λ e l. (at e l).acknowledged;
      fired = λ v l. refl;
    }

    -- an enabled operation finds its words
    pub can_perform : (x : Event) → is_by_act x ≡ true → unmet_rule g x (part_in g log (part_of g x)) ≡ None
        → CanPerform (act_of g x (part_in g log (part_of g x))) words
    can_perform (Take e) mine none = has_cell e (length (into_in g log e).got) (met_for (Take e) none)
    can_perform (Ack e) mine none =
        let met = met_for (Ack e) none in
        let all = (at e met.0).acknowledged in
        let may = may_le g (head_of g e) e (part_in g log (head_of g e)) in
        let acked = (part_kept g game log legal (head_of g e)).acks e in
        let few = claims_most g game some_ring log legal e in
        let behind = (sound e).behind in
        (omega arith, omega arith)
    can_perform (Fire v k) mine none = tt
    can_perform (Clear e) mine none = has_cell e (claims_of (out_in g log e).link)
        (⊎_elim (λ v. (let l = v.0 in omega arith)) (λ r. r.1) (met_for (Clear e) none))
    can_perform (Claim e) mine none = let met = met_for (Claim e) none in omega arith
    can_perform (Put e) mine none = has_cell e (claims_of (out_in g log e).link - 1)
        (met_for (Put e) none).0
    can_perform (Halt v) mine none = tt
    can_perform (Settle e) mine none = let met = met_for (Settle e) none in omega arith
    can_perform (Seal e) mine none = absurd (cc)
    can_perform (Read v) mine none = absurd (cc)
    can_perform (Feed e k) mine none = let l = (met_for (Feed e k) none).1 in omega arith
    can_perform End mine none = let some = game.graph_fits.some_vertex in omega arith

    -- an operation of a vertex finds the word of its event
    found_there : (own : ℕ) (x : Event) → own ≡ fired (part_of g x) → is_by_act x ≡ true
        → seen_in (act_of g x (acting_part g log x)) own words
        ≡ word_to_note x (value_of words fired (word_of_event g x (acting_part g log x)))
    found_there own (Fire v k) is mine = is
    found_there own (Halt v) is mine = is
    found_there own (Seal e) is mine = absurd (cc)
    found_there own (Read v) is mine = absurd (cc)
    found_there own _ is mine = refl

    -- so it sees the words as the parts left them
    pub sees_words : (own : ℕ) (x : Event) → own ≡ fired (part_of g x)
        → is_by_act x ≡ true → unmet_rule g x (part_in g log (part_of g x)) ≡ None
        → seen_in (act_of g x (part_in g log (part_of g x))) own words ≡ sees g log x
    sees_words own x is mine none =
        rw (found_there own x is mine)
        (operations_find g game some_ring log legal (value_of words fired) all_shown x none).1

    -- an event of the root is on no fired word
    own_unseen : (own other : ℕ) (x : Event) → is_of_root g x ≡ true
        → seen_in (act_of g x (acting_part g log x)) own words ≡ seen_in (act_of g x (acting_part g log x)) other words
    own_unseen own other (Take e) mine = absurd (cc)
    own_unseen own other (Ack e) mine = absurd (cc)
    own_unseen own other (Fire v k) mine = absurd (cc)
    own_unseen own other (Claim e) mine = absurd (cc)
    own_unseen own other (Halt v) mine = absurd (cc)
    own_unseen own other (Seal e) mine = absurd (cc)
    own_unseen own other _ mine = refl

    pub root_sees_words : (x : Event) → is_of_root g x ≡ true
        → is_by_act x ≡ true → unmet_rule g x (part_in g log (part_of g x)) ≡ None
        → seen_in (act_of g x (part_in g log (part_of g x))) 0 words ≡ sees g log x
    root_sees_words x own mine none =
        rw (own_unseen 0 (fired (part_of g x)) x own) (sees_words (fired (part_of g x)) x refl mine none)

    -- what an enabled event leaves
    record Leaves (x : Event) (new : List EdgeState) : Type 0 where
      words_stay : length new ≡ length words
      cells_stay : (i : ℕ) → length (words_of new i).cells ≡ length (words_of words i).cells
      fired_then : ℕ → ℕ
      left : IsLeft g log x (value_of words fired) (value_of new fired_then)

    -- it shows the extended log
    shows_left : (x : Event) → unmet_rule g x (part_in g log (part_of g x)) ≡ None → (new : List EdgeState)
        → Leaves x new
        → (e : ℕ) → e < all_edges g → (d : EdgeState)
        → ShowsEdge g (saw x (sees g log x) ∷ log) e (get_or new e d)
    shows_left x none new leaves e l d =
        let after = words_go_on g game some_ring log legal (value_of words fired) (value_of new leaves.fired_then)
        all_shown x none leaves.left in
        let same = leaves.words_stay in
        rw (get_or_default new e d no_words (omega arith)) record {
          cells_each = rw (leaves.cells_stay e) (at e l).cells_each;
          shows = after.edges e l;
          acknowledged = after.acks e l;
        }

    -- the words of one edge are changed
    one_edge : (x : Event) (e : ℕ) (f : EdgeState → EdgeState) → e < all_edges g
        → length (f (words_of words e)).cells ≡ length (words_of words e).cells
        → IsLeft g log x (value_of words fired) (value_of (with_edge e f words) fired) → Leaves x (with_edge e f words)
    one_edge x e f l cells left = record {
      words_stay = length-set words e _;
      cells_stay = stays words e f (λ s. length s.cells) (omega arith) cells;
      fired_then = fired;
      left = left;
    }

    -- no words of an edge are changed
    no_edge : (x : Event) (fired_then : ℕ → ℕ) → IsLeft g log x (value_of words fired) (value_of words fired_then)
        → Leaves x words
    no_edge x fired_then left = record {
      words_stay = refl;
      cells_stay = λ i. refl;
      fired_then = fired_then;
      left = left;
    }

    leaves : (x : Event) → is_by_act x ≡ true → unmet_rule g x (part_in g log (part_of g x)) ≡ None
        → Leaves x (words_after (act_of g x (part_in g log (part_of g x))) words)
    leaves (Take e) mine none =
        let l = met_for (Take e) none in
        let c : ℕ = length (into_in g log e).got % g.ring in
        let inside = has_cell e (length (into_in g log e).got) l in
        one_edge (Take e) e (with_cell c 0) l (length-set (words_of words e).cells c 0) record {
          here = rw (here_changed words e (with_cell c 0) inside.0) (get_or-set_same _ c 0 0 inside.1);
          others = λ w is ne. cell_else words fired e c 0 inside.0 w ne;
        }
    leaves (Ack e) mine none =
        let l = (met_for (Ack e) none).0 in
        let n : ℕ = may_ack_on g (head_of g e) (part_in g log (head_of g e)) e in
        let room = can_perform (Ack e) mine none in
        let fits : (words_of words e).acknowledged + n ≡ ((words_of words e).acknowledged + n) % 2 ^ 64 =
        (let few = room.1 in omega arith) in
        one_edge (Ack e) e (with_acks n) l refl record {
          here = rw (here_changed words e (with_acks n) room.0, value_of) fits;
          others = λ w is ne. acks_else words fired e n room.0 w ne;
        }
    leaves (Fire v k) mine none =
        let n : ℕ = (fired v + k) % 2 ^ 64 in
        no_edge (Fire v k) (λ u. cond (eqb v u) n (fired u)) record {
          here = cond_yes v v n (fired v) refl;
          others = λ w is ne. vertex_else words fired v n w ne;
        }
    leaves (Clear e) mine none = no_edge (Clear e) fired record { here = refl; others = λ w is ne. refl }
    leaves (Claim e) mine none =
        let met = met_for (Claim e) none in
        let claims : ℕ = claims_of (out_in g log e).link in
        let inside = can_perform (Claim e) mine none in
        one_edge (Claim e) e (with_claim claims (claims + 1)) (omega arith) refl record {
          here = rw (here_changed words e (with_claim claims (claims + 1)) inside, value_of);
          others = λ w is ne. edge_else words fired e
              (word_after_exchange claims (claims + 1) (words_of words e).word) inside w ne;
        }
    leaves (Put e) mine none =
        let l : e < all_edges g = (met_for (Put e) none).0 in
        let c : ℕ = (claims_of (out_in g log e).link - 1) % g.ring in
        let n : ℕ = sum (option_to_list (out_in g log e).link.held) in
        let inside = has_cell e (claims_of (out_in g log e).link - 1) l in
        one_edge (Put e) e (with_cell c n) l (length-set (words_of words e).cells c n) record {
          here = rw (here_changed words e (with_cell c n) inside.0) (get_or-set_same _ c n 0 inside.1);
          others = λ w is ne. cell_else words fired e c n inside.0 w ne;
        }
    leaves (Halt v) mine none =
        let n : ℕ = bit_or (fired v) (halt_bits (is_by_limit (cause g v (part_in g log v)))) in
        no_edge (Halt v) (λ u. cond (eqb v u) n (fired u)) record {
          here = cond_yes v v n (fired v) refl;
          others = λ w is ne. vertex_else words fired v n w ne;
        }
    leaves (Settle e) mine none = no_edge (Settle e) fired record { here = refl; others = λ w is ne. refl }
    leaves (Seal e) mine none = absurd (cc)
    leaves (Read v) mine none = absurd (cc)
    leaves (Feed e k) mine none =
        let met = met_for (Feed e k) none in
        let claims : ℕ = claims_of (out_in g log e).link in
        let inside = can_perform (Feed e k) mine none in
        one_edge (Feed e k) e (with_claim claims (claims + 1)) met.1 refl record {
          here = rw (here_changed words e (with_claim claims (claims + 1)) inside, value_of);
          others = λ w is ne. edge_else words fired e
              (word_after_exchange claims (claims + 1) (words_of words e).word) inside w ne;
        }
    leaves End mine none = no_edge End fired record { here = refl; others = λ w is ne. refl }

    -- what each operation leaves shows the log with its event
    pub words_shown : (x : Event) → is_by_act x ≡ true → unmet_rule g x (part_in g log (part_of g x)) ≡ None
        → (e : ℕ) → e < all_edges g → (d : EdgeState)
        → ShowsEdge g (saw x (sees g log x) ∷ log) e
        (get_or (words_after (act_of g x (part_in g log (part_of g x))) words) e d)
    words_shown x mine none = shows_left x none _ (leaves x mine none)

    -- the seal of an edge
    pub seal_shown : (e : ℕ) → unmet_rule g (Seal e) (part_in g log (stopper g)) ≡ None → (i : ℕ) → i < all_edges g
        → (d : EdgeState)
        → ShowsEdge g (saw (Seal e) (sees g log (Seal e)) ∷ log) i
        (get_or (with_edge e with_seal words) i d)
    seal_shown e none =
        let met = met_for (Seal e) none in
        let inside : e < length words = omega arith in
        shows_left (Seal e) none (with_edge e with_seal words)
        (one_edge (Seal e) e with_seal (omega arith) refl record {
          here = rw (here_changed words e with_seal inside, value_of);
          others = λ w is ne. edge_else words fired e (bit_or (words_of words e).word (2 ^ 63)) inside w ne;
        })

    -- a read leaves the words
    pub read_shown : (v : ℕ) → unmet_rule g (Read v) (part_in g log (part_of g (Read v))) ≡ None → (i : ℕ)
        → i < all_edges g
        → (d : EdgeState)
        → ShowsEdge g (saw (Read v) (sees g log (Read v)) ∷ log) i (get_or words i d)
    read_shown v none = shows_left (Read v) none words
        (no_edge (Read v) fired record { here = refl; others = λ w is ne. refl })

    pub sees_seal : (e : ℕ) → e < graph_edges g → (words_of words e).word ≡ sees g log (Seal e)
    sees_seal e inside = (at e (omega arith)).shows.word_is

    -- the numbers in the words
    pub claims_told : (e : ℕ) → e < all_edges g → claims_in (words_of words e).word ≡ claims_of (out_in g log e).link
    claims_told e l = rw ((at e l).shows.word_is) ((words_read g game some_ring log legal).claims e)
