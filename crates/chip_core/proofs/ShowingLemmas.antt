-- Serves Core.antt, Words.antt.
-- The operation of an event finds in its word what the core's event sees, and the words after it show the log with that
-- event.
use Rattle.chip_core.proofs.Names.{nat_tests, ◌≡◌, ◌≢◌, ℕ, ◌+◌, ◌-◌, ◌%◌, ◌^◌, ◌<◌, true, false, cond, eqb, List, ◌∷◌}
use Rattle.chip_core.proofs.Names.{length, sum, Option, Some, None, option_to_list, refl, ◌∙◌}
use Rattle.chip_core.proofs.Names.{arith, ⊎_elim, zero-add, bit_or, mod_below, dite, ℕ_discrete, cond_yes, cond_no}
use Rattle.chip_core.proofs.Names.{Tail, claims_of, after_claim, after_put, after_take, after_seal, Sound, WordsShow}
use Rattle.chip_core.proofs.Names.{fired_word, word_after_exchange, clear_sees, claim_shows, put_shows, take_sees}
use Rattle.chip_core.proofs.Names.{take_shows, seal_shows, one_held, halts_word, halts_by_limit, IsGame, Setting, Cause}
use Rattle.chip_core.proofs.Names.{may_ack_on, cause, is_by_limit, SealedEdge, FiringLimit, Met, link_after, got_after}
use Rattle.chip_core.proofs.Names.{acked_after, stop_after, saw, at_edge, at_other, may_le, rules_met, Log, Step, Event}
use Rattle.chip_core.proofs.Names.{Take, Ack, Fire, Clear, Claim, Put, Halt, Settle, Seal, Read, Feed, End, Part, Out}
use Rattle.chip_core.proofs.Names.{unmet_rule, part_of, does, part_in, out_in, into_in, stop_in, word_of_part, sees}
use Rattle.chip_core.proofs.Names.{IsLegalLog, tail_of, head_of, root_edge, all_edges, Word, of_edge, of_cell}
use Rattle.chip_core.proofs.Names.{of_vertex, IsWord, halt_bits, word_of_event, word_to_note, IsShown, acting_part}
use Rattle.chip_core.proofs.Names.{OperationsFind, IsLeft, WordsGoOn}
use Rattle.chip_core.specs.Words.{of_acks}
use Rattle.chip_core.proofs.LogLemmas.{part_here, part_else, link_step, got_step, acked_step, stop_step, part_kept}
use Rattle.chip_core.proofs.LogLemmas.{edge_sound, empty_hand}
use Rattle.chip_core.proofs.NumberLemmas.{claims_most}

-- the same edge, from other words
reread : (ring word word' : ℕ) (cell cell' : ℕ → ℕ) (t : Tail) (got : List ℕ) (stop : Option ℕ) → 0 < ring
    → word' ≡ word → ((i : ℕ) → i < ring → cell' i ≡ cell i)
    → WordsShow ring word cell t got stop → WordsShow ring word' cell' t got stop
reread ring word word' cell cell' t got stop some_ring e es ok = record {
  word_is = cc;
  ring_is = λ p lo hi. es (p % ring) (mod_below p ring some_ring) ∙ ok.ring_is p lo hi;
}

-- the word of a halted vertex
word_halts : (c : Cause) (n fired : ℕ) → fired < 2 ^ 62 → n ≡ fired_word fired false false
    → bit_or n (halt_bits (is_by_limit (Some c))) ≡ fired_word fired true (is_by_limit (Some c))
word_halts SealedEdge n fired few is = let a = halts_word fired false false few in cc
word_halts FiringLimit n fired few is = let a = halts_by_limit fired false false few in cc

-- the word of an enabled event exists
pub word_for : (g : Setting) → 0 < g.game.graph.vertices → 0 < g.ring → (x : Event) (s : Part) → unmet_rule g x s ≡ None
    → IsWord g (word_of_event g x s)
word_for g some_vertex some_ring (Take e) s none = (rules_met g (Take e) s none, mod_below _ g.ring some_ring)
word_for g some_vertex some_ring (Ack e) s none = (rules_met g (Ack e) s none).0
word_for g some_vertex some_ring (Fire v k) s none = (rules_met g (Fire v k) s none).0
word_for g some_vertex some_ring (Clear e) s none = (
  ⊎_elim (λ v. (let l = v.0 in omega arith)) (λ r. r.1) (rules_met g (Clear e) s none),
  mod_below _ g.ring some_ring,
)
word_for g some_vertex some_ring (Claim e) s none = let m = rules_met g (Claim e) s none in omega arith
word_for g some_vertex some_ring (Put e) s none =
    ((rules_met g (Put e) s none).0, mod_below _ g.ring some_ring)
word_for g some_vertex some_ring (Halt v) s none = (rules_met g (Halt v) s none).0
word_for g some_vertex some_ring (Settle e) s none = rules_met g (Settle e) s none
word_for g some_vertex some_ring (Seal e) s none = let m = rules_met g (Seal e) s none in omega arith
word_for g some_vertex some_ring (Read v) s none = (rules_met g (Read v) s none).0
word_for g some_vertex some_ring (Feed e k) s none = (rules_met g (Feed e k) s none).1
word_for g some_vertex some_ring End s none = omega arith

module _ (g : Setting) (game : IsGame g.game) (some_ring : 0 < g.ring) (log : Log) (legal : IsLegalLog g log) (value : Word
    → ℕ) (shown : IsShown g log value) where
  sound : (e : ℕ) → Sound g.ring (out_in g log e).link (into_in g log e).got (stop_in g log e)
  sound e = edge_sound g game some_ring log legal e

  met_for : (x : Event) → unmet_rule g x (acting_part g log x) ≡ None → Met g x (acting_part g log x)
  met_for x none = rules_met g x (acting_part g log x) none

  -- nothing is claimed on an edge that may be looked at
  idle : (e : ℕ) → unmet_rule g (Clear e) (part_in g log (tail_of g e)) ≡ None → (out_in g log e).link.held ≡ None
  idle e none = empty_hand g game some_ring log legal e (met_for (Clear e) none)

  -- the word exists
  pub word_there : (x : Event) → unmet_rule g x (acting_part g log x) ≡ None
      → IsWord g (word_of_event g x (acting_part g log x))
  word_there x none = word_for g game.graph_fits.some_vertex some_ring x (acting_part g log x) none

  -- what is found there
  pub finds : (x : Event) → unmet_rule g x (acting_part g log x) ≡ None
      → word_to_note x (value (word_of_event g x (acting_part g log x))) ≡ sees g log x
  finds (Take e) none = take_sees g.ring some_ring _ _ _ _ _ (sound e) (shown.edges e (word_there (Take e) none).0)
  finds (Ack e) none = shown.acks e (word_there (Ack e) none)
  finds (Fire v k) none = shown.fired v (word_there (Fire v k) none)
  finds (Clear e) none = clear_sees g.ring some_ring _ _ _ _ _ (sound e) (shown.edges e (word_there (Clear e) none).0)
      (idle e none)
  finds (Claim e) none = (shown.edges e (word_there (Claim e) none)).word_is
  finds (Put e) none = refl
  finds (Halt v) none = shown.fired v (word_there (Halt v) none)
  finds (Settle e) none = shown.acks e (word_there (Settle e) none)
  finds (Seal e) none = (shown.edges e (word_there (Seal e) none)).word_is
  finds (Read v) none = shown.fired v (word_there (Read v) none)
  finds (Feed e k) none = (shown.edges e (word_there (Feed e k) none)).word_is
  finds End none = shown.acks (root_edge g 0) (word_there End none)

  -- other words, after the operation of an event
  module _ (value' : Word → ℕ) where
    abbrev seen_by : Event → ℕ
    seen_by x = sees g log x

    -- an edge whose words are the same
    same_edge : (e : ℕ) → e < all_edges g → value' (of_edge e) ≡ value (of_edge e)
        → ((i : ℕ) → i < g.ring → value' (of_cell e i) ≡ value (of_cell e i))
        → WordsShow g.ring (value' (of_edge e)) (λ i. value' (of_cell e i)) (out_in g log e).link (into_in g log e).got
        (stop_in g log e)
    same_edge e l word cells = reread g.ring _ _ _ _ _ _ _ some_ring word cells (shown.edges e l)

    ShowsAfter : Event → ℕ → Type 0
    ShowsAfter x e = WordsShow g.ring (value' (of_edge e))
        (λ i. value' (of_cell e i)) (link_after x (seen_by x) e (out_in g log e))
        (got_after x (seen_by x) e (into_in g log e)) (stop_after x (seen_by x) e (stop_in g log e))

    -- an event on a word of another kind
    other_words : (x : Event) → IsLeft g log x value value' → (e : ℕ) → e < all_edges g
        → (of_edge e ≢ word_of_event g x (acting_part g log x))
        → ((i : ℕ) → of_cell e i ≢ word_of_event g x (acting_part g log x))
        → WordsShow g.ring (value' (of_edge e)) (λ i. value' (of_cell e i)) (out_in g log e).link (into_in g log e).got
        (stop_in g log e)
    other_words x w e l ne nes = same_edge e l (w.others (of_edge e) l ne)
        (λ i h. w.others (of_cell e i) (l, h) (nes i))

    -- after a claim or a feed of a with these counts
    claim_after : (a : ℕ) (count : ℕ → ℕ) → (out_in g log a).link.clear ≡ true → (seen : ℕ) → value (of_edge a) ≡ seen
        → value' (of_edge a) ≡ word_after_exchange (claims_of (out_in g log a).link) (claims_of (out_in g log a).link + 1)
        (value (of_edge a))
        → ((i : ℕ) → i < all_edges g → a ≢ i → value' (of_edge i) ≡ value (of_edge i))
        → ((i : ℕ) → i < all_edges g → (j : ℕ) → j < g.ring → value' (of_cell i j) ≡ value (of_cell i j)) → (e : ℕ)
        → e < all_edges g → WordsShow g.ring (value' (of_edge e)) (λ j. value' (of_cell e j))
        (cond (eqb a e) (after_claim (count e) seen (out_in g log e).link) (out_in g log e).link) (into_in g log e).got
        (stop_in g log e)
    claim_after a count clear seen found here edges cells e l = at_other (λ i (u : Tail). i < all_edges g
        → WordsShow g.ring (value' (of_edge i)) (λ j. value' (of_cell i j)) u (into_in g log i).got (stop_in g log i)) a
        (λ i. after_claim (count i) seen (out_in g log i).link) (λ i. (out_in g log i).link)
        (λ m. reread g.ring _ _ _ _ _ _ _ some_ring refl (cells a m)
        (rw (← found) (claim_shows g.ring some_ring (value (of_edge a)) (λ j. value (of_cell a j)) _ _ _ (sound a)
        (shown.edges a m) (count a) (value' (of_edge a)) ((sound a).quiet clear) (λ hit. here ∙ cond_yes (value
        (of_edge a)) _ _ _ hit) (λ miss. here ∙ cond_no (value (of_edge a)) _ _ _ miss))))
        (λ i other m. same_edge i m (edges i m other) (cells i m)) e l

    edges_after : (x : Event) → unmet_rule g x (acting_part g log x) ≡ None → IsLeft g log x value value' → (e : ℕ)
        → e < all_edges g → ShowsAfter x e
    unfolding ShowsAfter
    edges_after (Take a) none w e l = at_other (λ i (got : List ℕ). i < all_edges g
        → WordsShow g.ring (value' (of_edge i)) (λ j. value' (of_cell i j)) (out_in g log i).link got (stop_in g log i)) a
        (λ i. after_take (seen_by (Take a)) (into_in g log i).got) (λ i. (into_in g log i).got)
        (λ l. reread g.ring _ _ _ _ _ _ _ some_ring (w.others (of_edge a) l (λ z. absurd (cc)))
        (λ j h. refl)
        (rw (← (finds (Take a) none)) (take_shows g.ring some_ring (value (of_edge a)) (λ j. value
        (of_cell a j)) _ _ _ (sound a) (shown.edges a l) (λ j. value' (of_cell a j)) w.here
        (λ j h other. w.others (of_cell a j) (l, h) (λ z. grind arith)))))
        (λ i other l. other_words (Take a) w i l (λ z. absurd (cc)) (λ j z. grind arith))
        e l
    edges_after (Clear a) none w e l =
        let c : ℕ = claims_of (out_in g log a).link % g.ring in
        let cells : (i : ℕ) → i < g.ring → value' (of_cell e i) ≡ value (of_cell e i) = (λ i h. dite (ℕ_discrete e a)
        (λ same. dite (ℕ_discrete i c)
        (λ it. let here = w.here in grind arith)
        (λ ne. w.others (of_cell e i) (l, h) (λ z. grind arith)))
        (λ ne. w.others (of_cell e i) (l, h) (λ z. grind arith))) in
        let kept = same_edge e l (w.others (of_edge e) l (λ z. absurd (cc))) cells in
        grind (arith, nat_tests)
    edges_after (Put a) none w e l = at_other (λ i (u : Tail). i < all_edges g
        → WordsShow g.ring (value' (of_edge i)) (λ j. value' (of_cell i j)) u (into_in g log i).got (stop_in g log i)) a
        (λ i. after_put (out_in g log i).link) (λ i. (out_in g log i).link)
        (λ l.
        let met = met_for (Put a) none in
        let o : Out = out_in g log a in
        let count : ℕ = met.1.0 in
        let one : o.link.held ≡ Some count = met.1.1 in
        let value_is : sum (option_to_list o.link.held) ≡ count = (let b = zero-add count in cc) in
        let place : claims_of o.link - 1 ≡ length o.link.put = (let z = one_held o.link count one in omega arith) in
        let cell_is : length o.link.put % g.ring ≡ (claims_of o.link - 1) % g.ring =
        cc in
        reread g.ring _ _ _ _ _ _ _ some_ring (w.others (of_edge a) l (λ z. absurd (cc))) (λ j h. refl)
        (put_shows g.ring some_ring (value (of_edge a)) (λ j. value (of_cell a j)) _ _ _ (sound a)
        (shown.edges a l) count (λ j. value' (of_cell a j)) one
        (cc)
        (λ j h other. w.others (of_cell a j) (l, h) (λ z. grind arith))))
        (λ i other l. other_words (Put a) w i l (λ z. absurd (cc)) (λ j z. grind arith))
        e l
    edges_after (Seal a) none w e l = at_other (λ i (stop : Option ℕ). i < all_edges g
        → WordsShow g.ring (value' (of_edge i)) (λ j. value' (of_cell i j)) (out_in g log i).link (into_in g log i).got stop)
        a
        (λ i. after_seal (seen_by (Seal a)) (stop_in g log i)) (λ i. stop_in g log i)
        (λ l.
        let few = claims_most g game some_ring log legal a in
        reread g.ring _ _ _ _ _ _ _ some_ring w.here
        (λ j h. w.others (of_cell a j) (l, h) (λ z. absurd (cc)))
        (rw (← (finds (Seal a) none)) (seal_shows g.ring some_ring (value (of_edge a)) (λ j. value
        (of_cell a j)) _ _ _ (sound a) (shown.edges a l) (omega arith))))
        (λ i other l. other_words (Seal a) w i l (λ z. grind arith) (λ j z. absurd (cc)))
        e l
    edges_after (Claim a) none w e l = claim_after a (λ i. (out_in g log i).pending) (met_for (Claim a) none).2
        (seen_by (Claim a)) (finds (Claim a) none) w.here
        (λ i m other. w.others (of_edge i) m (λ z. grind arith))
        (λ i m j h. w.others (of_cell i j) (m, h) (λ z. absurd (cc))) e l
    edges_after (Feed a k) none w e l = claim_after a (λ i. k) (met_for (Feed a k) none).5
        (seen_by (Feed a k)) (finds (Feed a k) none) w.here
        (λ i m other. w.others (of_edge i) m (λ z. grind arith))
        (λ i m j h. w.others (of_cell i j) (m, h) (λ z. absurd (cc))) e l
    edges_after x none w e l = other_words x w e l (λ z. absurd (cc))
        (λ i z. absurd (cc))

    acks_after : (x : Event) → unmet_rule g x (acting_part g log x) ≡ None → IsLeft g log x value value' → (e : ℕ)
        → e < all_edges g → value' (of_acks e) ≡ acked_after g x (part_in g log (head_of g e)) e (into_in g log e)
    acks_after (Ack a) none w e l = at_other (λ i (n : ℕ). i < all_edges g → value' (of_acks i) ≡ n) a
        (λ i. (into_in g log i).acked + may_ack_on g (head_of g a) (part_in g log (head_of g i)) a)
        (λ i. (into_in g log i).acked)
        (λ l.
        let is = shown.acks a l in
        let may = may_le g (head_of g a) a (part_in g log (head_of g a)) in
        let acked = (part_kept g game log legal (head_of g a)).acks a in
        let few = claims_most g game some_ring log legal a in
        let behind = (sound a).behind in
        w.here ∙ omega arith)
        (λ i other l. (let b = w.others (of_acks i) l (λ z. grind arith) in let c = shown.acks i l in cc))
        e l
    acks_after (Settle a) none w e l = dite (ℕ_discrete e a)
        (λ same. (let here = w.here in let is = shown.acks e l in cc))
        (λ other. (let b = w.others (of_acks e) l (λ z. grind arith) in let c = shown.acks e l in cc))
    acks_after End none w e l = dite (ℕ_discrete e (root_edge g 0))
        (λ same. (let here = w.here in let is = shown.acks e l in cc))
        (λ other. (let a = w.others (of_acks e) l (λ z. grind arith) in let b = shown.acks e l in cc))
    acks_after _ none w e l = w.others (of_acks e) l (λ z. absurd (cc)) ∙ shown.acks e l

    -- an event that leaves firings and halts
    word_stays : (x : Step) (v : ℕ)
        → word_of_part (does g x (acting_part g log x.event)) ≡ word_of_part (acting_part g log x.event)
        → word_of_part (part_in g (x ∷ log) v) ≡ word_of_part (part_in g log v)
    word_stays x v still = at_edge (λ u (s : Part). word_of_part s ≡ word_of_part (part_in g log u)) (part_of g x.event)
        (λ u. does g x (part_in g log u)) (part_in g log) still (λ u. refl) v

    abbrev pub made_by : Event → Step
    made_by x = saw x (seen_by x)

    -- the word of the vertex that acts, and of the others
    word_of_one : (x : Event) (a : ℕ) → part_of g x ≡ a → word_of_event g x (acting_part g log x) ≡ of_vertex a
        → IsLeft g log x value value'
        → value' (of_vertex a) ≡ word_of_part (does g (made_by x) (part_in g log a))
        → (v : ℕ) → v < g.game.graph.vertices → value' (of_vertex v) ≡ word_of_part (part_in g (made_by x ∷ log) v)
    word_of_one x a by at w is v l = dite (ℕ_discrete v a)
        (λ same. (let b = part_here g (made_by x) log v (cc) in cc))
        (λ other. (let c = w.others (of_vertex v) l (λ z. other (let y : v ≡ a = cc in y)) in
        let d = shown.fired v l in let f = part_else g (made_by x) log v (λ z. other (cc)) in cc))

    fired_after : (x : Event) → unmet_rule g x (acting_part g log x) ≡ None → IsLeft g log x value value' → (v : ℕ)
        → v < g.game.graph.vertices → value' (of_vertex v) ≡ word_of_part (part_in g (made_by x ∷ log) v)
    fired_after (Fire a k) none w v l =
        let met = met_for (Fire a k) none in
        let s : Part = part_in g log a in
        let low = game.low_limit in
        let few = met.6 in
        let running : word_of_part s
        ≡ (s.fired + 0) + 0 = cc in
        let after : word_of_part (does g (made_by (Fire a k)) s) ≡ ((s.fired + k) + 0) + 0 =
        cc in
        let is = shown.fired a met.0 in
        word_of_one (Fire a k) a refl refl w (w.here ∙ omega arith) v l
    fired_after (Halt a) none w v l =
        let met = met_for (Halt a) none in
        let s : Part = part_in g log a in
        let low = game.low_limit in
        let within = (part_kept g game log legal a).within in
        let found : value (of_vertex a) ≡ fired_word s.fired false false = (let b = shown.fired a met.0 in cc) in
        let why : cause g a s ≡ Some met.4.0 = met.4.1 in
        word_of_one (Halt a) a refl refl w
        (let c = word_halts met.4.0 (value (of_vertex a)) s.fired (omega arith) found in cc)
        v l
    fired_after (Read a) none w v l =
        let is = shown.fired v l in let stays = word_stays (made_by (Read a)) v refl in
        dite (ℕ_discrete v a) (λ same. (let here = w.here in cc))
        (λ other. (let there = w.others (of_vertex v) l (λ z. grind arith) in cc))
    fired_after x none w v l =
        let a = w.others (of_vertex v) l (λ z. absurd (cc)) in let b = shown.fired v l in
        let c = word_stays (made_by x) v refl in cc

    -- the words show the longer log
    pub shows_more : (x : Event) → unmet_rule g x (acting_part g log x) ≡ None → IsLeft g log x value value'
        → IsShown g (made_by x ∷ log) value'
    unfolding ShowsAfter
    shows_more x none w =
        let y : Step = made_by x in
        record {
          edges = λ e l.
              rw (link_step g y log e, got_step g y log e, stop_step g y log e)
              (edges_after x none w e l);
          acks = λ e l. (let a = acks_after x none w e l in let b = acked_step g y log e in cc);
          fired = λ v l. fired_after x none w v l;
        }

pub operations_find : OperationsFind
operations_find g game some_ring log legal value shown x none =
    (word_there g game some_ring log legal value shown x none, finds g game some_ring log legal value shown x none)

pub words_go_on : WordsGoOn
words_go_on g game some_ring log legal old new shown x none left =
    shows_more g game some_ring log legal old shown new x none left
