-- Serves Link.antt, Ends.antt, Edge.antt.
-- One edge end to end: every list of steps has lists of counts as in `Link`, and so its laws hold.
use Rattle.std.proofs.Common.{◌≡◌, ◌≢◌, ◌⊎◌, inl, inr, ⊎_elim, option_map, ℕ, ◌+◌, ◌-◌, ◌%◌, ◌^◌, ◌<◌, ◌≤◌, Bool, true}
use Rattle.std.proofs.Common.{false, ◌&&◌, cond, ltb, List, [], ◌∷◌, ◌++◌, length, take, drop, get_or, set, replicate}
use Rattle.std.proofs.Common.{Option, Some, None, option_to_list, is_none, is_some, refl, sym, ap, ◌∙◌, subst, arith}
use Rattle.std.proofs.Common.{append_assoc, append-nil, true≢false, ltb-true, eq-eqb, ne_eqb, rules}
use Rattle.std.proofs.lemmas.Bool.{and_parts, cases_Bool, cond-true, cond-false}
use Rattle.std.proofs.lemmas.Bool.Decides.{nat_tests}
use Rattle.std.proofs.lemmas.List.{get_or-set_same, get_or-set_other, length-set, length-replicate, get_or-replicate}
use Rattle.std.proofs.lemmas.List.{get_or_past, take-append-drop}
use Rattle.std.proofs.lemmas.Nat.{mod_below}
use mathlib.Core.Logic.{dite}
use native.Mathlib.Decide.{ℕ_discrete}
use Rattle.chip_link.specs.declared.message.Message.{Message}
use Rattle.chip_link.specs.Words.{word_after_exchange, edge_word}
use Rattle.chip_link.specs.Ends.{TailState, HeadState, may_clear, tail_cell, head_cell, tail_after_clear}
use Rattle.chip_link.specs.Ends.{tail_after_claim, tail_after_put, message_claimed, put_of, is_count, head_after_take}
use Rattle.chip_link.specs.Ends.{message_taken}
use Rattle.chip_link.specs.Link.{Tail, fresh_tail, sent_counts, claims_of, after_clear, after_claim, after_put}
use Rattle.chip_link.specs.Link.{after_take, after_seal, word_of, tail_state, head_state, IsSealedAt, Sound, WordsShow}
use Rattle.chip_link.specs.Edge.{LiveEdge, EdgeStep, Clear, Claim, Put, Take, Seal, new_edge, edge_step, steps}
use Rattle.chip_link.specs.Edge.{cells_after_store, claim_on, take_on}
use Rattle.chip_link.specs.Laws.{AreInOrder, TakesPrefix, ClaimsInOrder, NothingAfterSeal, WordTells, SealsAllClaims}
use Rattle.chip_link.proofs.SoundsLemmas.{none_held, length-sent_counts, none-some, clear_sound}
use Rattle.chip_link.proofs.SoundsLemmas.{claim_sound, put_sound, take_sound, seal_sound, fresh_sound}
use Rattle.chip_link.proofs.ShownLemmas.{clear_sees, clear_shows, claim_shows, put_shows, take_sees, take_shows}
use Rattle.chip_link.proofs.ShownLemmas.{seal_shows, fresh_shows}
use Rattle.chip_link.proofs.StatesLemmas.{tail_clears, tail_claims, tail_puts, puts_at, head_takes}
use Rattle.chip_link.proofs.NumberingLemmas.{numbered, numbered-append, length-numbered, numbered_in_order}
use Rattle.chip_link.proofs.NumberingLemmas.{numbered_prefix}

-- the running edge s has these lists
pub record Follows (edge ring : ℕ) (s : LiveEdge) (t : Tail) (got : List ℕ) : Type 0 where
  pub tail_is : s.tail ≡ tail_state edge ring t
  pub head_is : s.head ≡ head_state edge ring got
  pub claimed_is : s.claimed ≡ numbered edge 0 (sent_counts t)
  pub taken_is : s.taken ≡ numbered edge 0 got
  pub cells_are : length s.cells ≡ ring
  pub shows : WordsShow ring s.word (λ i. get_or s.cells i 0) t got s.stop
  pub sound : Sound ring t got s.stop
  pub few : claims_of t ≤ 2 ^ 62
  pub fewer : t.clear ≡ true → claims_of t < 2 ^ 62

-- it has some lists
abbrev pub HasLists : ℕ → ℕ → LiveEdge → Type 0
HasLists edge ring s = (t : Tail) × (got : List ℕ) × Follows edge ring s t got

cond_is : {A : Type 0} (b c : Bool) (x y : A) → b ≡ c → cond b x y ≡ cond c x y
cond_is b c x y e = ap (λ (t : Bool). cond t x y) e

is_none-true : (h : Option ℕ) → is_none h ≡ true → h ≡ None
is_none-true None e = refl
is_none-true (Some c) e = absurd (true≢false (sym e))

held_cases : (h : Option ℕ) → (h ≡ None) ⊎ ((c : ℕ) × (h ≡ Some c))
held_cases None = inl refl
held_cases (Some c) = inr (c, refl)

module _ (edge ring : ℕ) (some_ring : 0 < ring) (s : LiveEdge) (t : Tail) (got : List ℕ)
    (f : Follows edge ring s t got) where
  -- a look, whether it counts or not
  after_look : HasLists edge ring (edge_step Clear s)
  after_look =
      let seen : ℕ = get_or s.cells (tail_cell s.tail) 0 in
      let cell_is : seen ≡ get_or s.cells (claims_of t % ring) 0 =
      ap (λ (u : TailState). get_or s.cells (tail_cell u) 0) f.tail_is in
      ⊎_elim
      (λ may.
      let parts = and_parts _ _ may in
      let none : t.held ≡ None = is_none-true t.held (and_parts _ _ parts.0).0 in
      let below : claims_of t < 2 ^ 62 = ltb-true (claims_of t) (2 ^ 62) parts.1 in (
        after_clear seen t,
        got,
        (let tail = tail_clears edge ring t seen may in
            let shown = clear_shows ring some_ring s.word _ t got s.stop f.sound f.shows seen in
            let kept : Sound ring (after_clear seen t) got s.stop = clear_sound ring some_ring t got s.stop f.sound seen none
            (cell_is ∙ clear_sees ring some_ring s.word _ t got s.stop f.sound f.shows none) in
            let tail_is = ap (tail_after_clear seen) f.tail_is ∙ tail in search (rules, arith, nat_tests)),
      ))
      (λ no.
      let same : s.tail ≡ tail_after_clear seen s.tail =
      f.tail_is ∙ sym (ap (tail_after_clear seen) f.tail_is ∙ cond_is _ false _ _ no) in
      subst (HasLists edge ring) (λ j. record s { tail = same j }) (t, got, f))
      (cases_Bool (may_clear (tail_state edge ring t)))

  -- the claim that a look allows
  claimed_on : (count : ℕ) → 0 < count → t.clear ≡ true → HasLists edge ring (claim_on count s)
  claimed_on count some_count is_clear =
      let none : t.held ≡ None = f.sound.quiet is_clear in
      let below = f.fewer is_clear in
      let all_put = none_held t none in
      let word' : ℕ = word_after_exchange s.tail.claims (s.tail.claims + 1) s.word in
      let word_is : word' ≡ word_after_exchange (claims_of t) (claims_of t + 1) s.word =
      ap (λ (u : TailState). word_after_exchange u.claims (u.claims + 1) s.word) f.tail_is in
      let tail_is = ap (tail_after_claim s.word count) f.tail_is ∙ tail_claims edge ring t count s.word none in
      let sound = claim_sound ring some_ring t got s.stop f.sound count s.word some_count is_clear f.shows.word_is in
      let shows = claim_shows ring some_ring s.word _ t got s.stop f.sound f.shows count word' none
      (λ hit. word_is ∙ cond-true _ _ _ (eq-eqb s.word (claims_of t) hit))
      (λ miss. word_is ∙ cond-false _ _ _ (ne_eqb s.word (claims_of t) miss))
      in
      let message_is : option_to_list (message_claimed s.word count s.tail)
      ≡ option_to_list (message_claimed s.word count (tail_state edge ring t))
      = ap (λ (u : TailState). option_to_list (message_claimed s.word count u)) f.tail_is in
      let claimed_as : (u : Tail) → after_claim count s.word t ≡ u
      → s.claimed ++ option_to_list (message_claimed s.word count s.tail) ≡ numbered edge 0 (sent_counts u)
      → claims_of u ≤ 2 ^ 62 → u.clear ≡ false → HasLists edge ring (claim_on count s)
      = λ u e claimed few not_clear. (
        u,
        got,
        record {
          tail_is = tail_is ∙ ap (tail_state edge ring) e;
          head_is = f.head_is;
          claimed_is = claimed;
          taken_is = f.taken_is;
          cells_are = f.cells_are;
          shows = subst (λ (v : Tail). WordsShow ring word' (λ i. get_or s.cells i 0) v got s.stop) e shows;
          sound = subst (λ (v : Tail). Sound ring v got s.stop) e sound;
          few = few;
          fewer = λ c. absurd (true≢false (sym c ∙ not_clear));
        },
      ) in
      dite (ℕ_discrete s.word (claims_of t))
      (λ hit.
      let m : Message = record { edge = edge; place = claims_of t; count = count } in
      let one : option_to_list (message_claimed s.word count s.tail) ≡ m ∷ [] = message_is
      ∙ ap option_to_list (cond-true _ _ _ (eq-eqb s.word (claims_of t) hit)) in
      let old : s.claimed ≡ numbered edge 0 t.put = f.claimed_is
      ∙ ap (λ (h : Option ℕ). numbered edge 0 (t.put ++ option_to_list h)) none
      ∙ ap (numbered edge 0) (append-nil t.put) in
      claimed_as (record t { held = Some count; clear = false }) (cond-true _ _ _ (eq-eqb s.word (claims_of t) hit))
      (ap (λ (ms : List Message). s.claimed ++ ms) one ∙ ap (λ (ms : List Message). ms ++ m ∷ []) old
      ∙ ap (λ (n : ℕ). numbered edge 0 t.put ++ numbered edge n (count ∷ []))
      (let place : claims_of t ≡ 0 + length t.put = omega arith in place)
      ∙ sym (numbered-append edge 0 t.put (count ∷ [])))
      (omega arith) refl)
      (λ miss.
      let nothing : option_to_list (message_claimed s.word count s.tail) ≡ [] = message_is
      ∙ ap option_to_list (cond-false _ _ _ (ne_eqb s.word (claims_of t) miss)) in
      claimed_as (record t { clear = false; refused = true }) (cond-false _ _ _ (ne_eqb s.word (claims_of t) miss))
      (ap (λ (ms : List Message). s.claimed ++ ms) nothing ∙ append-nil s.claimed ∙ f.claimed_is) f.few refl)

  -- a claim, whether it is allowed or not
  after_claiming : (count : ℕ) → HasLists edge ring (edge_step (Claim count) s)
  after_claiming count = ⊎_elim
      (λ may.
      let parts = and_parts _ _ may in
      let some_count : 0 < count = ltb-true 0 count (and_parts _ _ parts.1).0 in
      let is_clear : t.clear ≡ true = sym (ap (λ (u : TailState). u.clear) f.tail_is) ∙ parts.0 in
      rw may (claimed_on count some_count is_clear))
      (λ no. rw no (t, got, f))
      (cases_Bool (s.tail.clear && is_count count))

  -- a put with nothing to put, and of what is held
  after_putting : HasLists edge ring (edge_step Put s)
  after_putting = ⊎_elim
      (λ none.
      let nothing : put_of s.tail ≡ None = ap put_of f.tail_is
      ∙ ap (λ (h : Option ℕ). option_map (λ (c : ℕ). ((claims_of t - 1) % ring, c)) h) none in
      let kept : s.cells ≡ cells_after_store (put_of s.tail) s.cells =
      sym (ap (λ (p : Option (ℕ × ℕ)). cells_after_store p s.cells) nothing) in
      let same : s.tail ≡ tail_after_put s.tail = f.tail_is
      ∙ ap (λ (h : Option ℕ). let u : TailState = record (tail_state edge ring t) { held = h } in u) none
      ∙ sym (ap tail_after_put f.tail_is) in
      subst (HasLists edge ring) (λ j. record s { cells = kept j; tail = same j }) (t, got, f))
      (λ held.
      let count : ℕ = held.0 in let one : t.held ≡ Some count = held.1 in
      let at : ℕ = length t.put % ring in
      let inside : at < length s.cells = (let m = mod_below (length t.put) ring some_ring in let l = f.cells_are in
      omega arith) in
      let put : put_of s.tail ≡ Some (at, count) = ap put_of f.tail_is ∙ puts_at edge ring t count one in
      let cells_are : cells_after_store (put_of s.tail) s.cells ≡ set s.cells at count =
      ap (λ (p : Option (ℕ × ℕ)). cells_after_store p s.cells) put in (
        after_put t,
        got,
        record {
          tail_is = ap tail_after_put f.tail_is ∙ tail_puts edge ring t;
          head_is = f.head_is;
          claimed_is = f.claimed_is ∙ ap (numbered edge 0) (sym (append-nil (sent_counts t)));
          taken_is = f.taken_is;
          cells_are = ap length cells_are ∙ length-set s.cells at count ∙ f.cells_are;
          shows = subst (λ (l : List ℕ). WordsShow ring s.word (λ i. get_or l i 0) (after_put t) got s.stop) (sym cells_are)
              (put_shows ring some_ring s.word _ t got s.stop f.sound f.shows count
              (λ i. get_or (set s.cells at count) i 0) one
              (get_or-set_same s.cells at count 0 inside) (λ i l ne. get_or-set_other s.cells at i count 0 ne));
          sound = put_sound ring some_ring t got s.stop f.sound count one;
          few = (let all = length-sent_counts t in let few = f.few in omega arith);
          fewer = λ c. absurd (none-some count (sym (f.sound.quiet c) ∙ one));
        },
      ))
      (held_cases t.held)

  -- an allowed take
  taken_on : HasLists edge ring (take_on (get_or s.cells (head_cell s.head) 0) s)
  taken_on =
      let seen : ℕ = get_or s.cells (head_cell s.head) 0 in
      let at : ℕ = length got % ring in
      let cell_is : seen ≡ get_or s.cells at 0 = ap (λ (h : HeadState). get_or s.cells (head_cell h) 0) f.head_is in
      let inside : at < length s.cells = (let m = mod_below (length got) ring some_ring in let l = f.cells_are in
      omega arith) in
      let cells_are : set s.cells (head_cell s.head) 0 ≡ set s.cells at 0 =
      ap (λ (h : HeadState). set s.cells (head_cell h) 0) f.head_is in
      let shows = take_shows ring some_ring s.word _ t got s.stop f.sound f.shows (λ i. get_or (set s.cells at 0) i 0)
      (get_or-set_same s.cells at 0 0 inside) (λ i l ne. get_or-set_other s.cells at i 0 0 ne) in
      let message_is : option_to_list (message_taken seen s.head)
      ≡ option_to_list (message_taken seen (head_state edge ring got))
      = ap (λ (h : HeadState). option_to_list (message_taken seen h)) f.head_is in (
        t,
        after_take seen got,
        record {
          tail_is = f.tail_is;
          head_is = ap (head_after_take seen) f.head_is ∙ head_takes edge ring got seen;
          claimed_is = f.claimed_is;
          taken_is = let all = f.taken_is in grind (arith, nat_tests, append-nil, numbered-append edge 0 got (seen ∷ []));
          cells_are = ap length cells_are ∙ length-set s.cells at 0 ∙ f.cells_are;
          shows = subst (λ (l : List ℕ). WordsShow ring s.word (λ i. get_or l i 0) t (after_take seen got) s.stop)
              (sym cells_are)
              (subst (λ (n : ℕ). WordsShow ring s.word (λ i. get_or (set s.cells at 0) i 0) t (after_take n got) s.stop)
              (sym cell_is) shows);
          sound = take_sound ring some_ring t got s.stop f.sound seen (cell_is
              ∙ take_sees ring some_ring s.word _ t got s.stop f.sound f.shows);
          few = f.few;
          fewer = f.fewer;
        },
      )

  -- a take, whether it is allowed or not
  after_taking : HasLists edge ring (edge_step Take s)
  after_taking = ⊎_elim (λ may. rw may taken_on) (λ no. rw no (t, got, f)) (cases_Bool (ltb s.head.taken (2 ^ 62)))

  -- a seal, the first or another
  after_sealing : HasLists edge ring (edge_step Seal s)
  after_sealing = (
    t,
    got,
    (let shown = seal_shows ring some_ring s.word _ t got s.stop f.sound f.shows (let few = f.few in omega arith) in
        let kept = seal_sound ring t got s.stop s.word f.shows.word_is f.sound in search (rules, arith, nat_tests)),
  )

  -- a sealed edge accepts no claim, and stays sealed
  unclaimed : (first : ℕ) → s.stop ≡ Some first → (x : EdgeStep) → ((edge_step x s).claimed ≡ s.claimed)
      × ((edge_step x s).stop ≡ Some first)
  unclaimed first stop Clear = (refl, stop)
  unclaimed first stop Put = (refl, stop)
  unclaimed first stop Seal = (refl, ap (after_seal s.word) stop)
  unclaimed first stop Take = grind (arith, nat_tests)
  unclaimed first stop (Claim count) =
      let bit : word_of t s.stop ≡ claims_of t + 2 ^ 63 = ap (λ (o : Option ℕ). word_of t o) stop in
      let other : s.word ≢ s.tail.claims = λ same. (let w = f.shows.word_is in
      let n : s.tail.claims ≡ claims_of t = ap (λ (u : TailState). u.claims) f.tail_is in absurd (omega arith)) in
      let nothing : message_claimed s.word count s.tail ≡ None = cond-false _ _ _ (ne_eqb s.word s.tail.claims other) in
      grind (arith, nat_tests, append-nil)

get_or-zeros : (zeros : List ℕ) (n i : ℕ) → zeros ≡ replicate n 0 → get_or zeros i 0 ≡ 0
get_or-zeros zeros n i is = grind (arith, get_or-replicate, get_or_past, length-replicate)

-- a new edge has empty lists
new_edge_follows : (edge ring : ℕ) → 0 < ring → Follows edge ring (new_edge edge ring) fresh_tail []
new_edge_follows edge ring some_ring =
    let cells : length (replicate {A = ℕ} ring 0) ≡ ring = length-replicate ring 0 in
    let shown = fresh_shows ring (λ i. get_or (replicate ring 0) i 0) (λ i. get_or-zeros _ ring i refl) in
    let kept = fresh_sound ring some_ring in search (rules, arith, nat_tests)

after_step : (edge ring : ℕ) → 0 < ring → (s : LiveEdge) → HasLists edge ring s → (x : EdgeStep)
    → HasLists edge ring (edge_step x s)
after_step edge ring some_ring s h Clear = after_look edge ring some_ring s h.0 h.1 h.2
after_step edge ring some_ring s h (Claim count) = after_claiming edge ring some_ring s h.0 h.1 h.2 count
after_step edge ring some_ring s h Put = after_putting edge ring some_ring s h.0 h.1 h.2
after_step edge ring some_ring s h Take = after_taking edge ring some_ring s h.0 h.1 h.2
after_step edge ring some_ring s h Seal = after_sealing edge ring some_ring s h.0 h.1 h.2

after_steps : (edge ring : ℕ) → 0 < ring → (xs : List EdgeStep) (s : LiveEdge) → HasLists edge ring s
    → HasLists edge ring (steps xs s)
after_steps edge ring some_ring [] s h = h
after_steps edge ring some_ring (x ∷ xs) s h = after_steps edge ring some_ring xs (edge_step x s)
    (after_step edge ring some_ring s h x)

-- every running edge has lists
pub has_lists : (edge ring : ℕ) → 0 < ring → (xs : List EdgeStep) → HasLists edge ring (steps xs (new_edge edge ring))
has_lists edge ring some_ring xs = after_steps edge ring some_ring xs (new_edge edge ring)
    (fresh_tail, [], new_edge_follows edge ring some_ring)

steps-append : (xs ys : List EdgeStep) (s : LiveEdge) → steps (xs ++ ys) s ≡ steps ys (steps xs s)
steps-append [] ys s = refl
steps-append (x ∷ xs) ys s = steps-append xs ys (edge_step x s)

-- ---- the laws

pub takes_prefix : TakesPrefix
takes_prefix edge ring some_ring xs =
    let h = has_lists edge ring some_ring xs in
    let f = h.2 in
    let s : LiveEdge = steps xs (new_edge edge ring) in
    let put : List ℕ = h.0.put in let held : List ℕ = option_to_list h.0.held in let got : List ℕ = h.1 in
    let rest : List ℕ = drop (length got) put ++ held in
    let whole : got ++ rest ≡ put ++ held
    = ap (λ (g : List ℕ). g ++ rest) f.sound.prefix
    ∙ sym (append_assoc (take (length got) put) (drop (length got) put) held)
    ∙ ap (λ (l : List ℕ). l ++ held) (take-append-drop (length got) put) in
    let p = numbered_prefix edge got (put ++ held) rest whole in
    (p.0, ap (λ (ms : List Message). ms ++ p.0) f.taken_is ∙ p.1 ∙ sym f.claimed_is)

pub claims_in_order : ClaimsInOrder
claims_in_order edge ring some_ring xs =
    let h = has_lists edge ring some_ring xs in
    subst (AreInOrder edge) (sym h.2.claimed_is) (numbered_in_order edge (sent_counts h.0))

-- the lists have as many claims as there are messages
claims-claimed : (edge ring : ℕ) (s : LiveEdge) (t : Tail) (got : List ℕ) → Follows edge ring s t got
    → claims_of t ≡ length s.claimed
claims-claimed edge ring s t got f = sym (length-sent_counts t) ∙ sym (length-numbered edge 0 (sent_counts t))
    ∙ ap (λ (ms : List Message). length ms) (sym f.claimed_is)

pub word_tells : WordTells
word_tells edge ring some_ring xs =
    let h = has_lists edge ring some_ring xs in
    let f = h.2 in
    let s : LiveEdge = steps xs (new_edge edge ring) in
    let all = claims-claimed edge ring s h.0 h.1 f in (
      f.shows.word_is ∙ ap (λ (n : ℕ). edge_word n (is_some s.stop)) all,
      ap (λ (u : TailState). u.claims) f.tail_is
          ∙ all,
    )

pub seals_all_claims : SealsAllClaims
seals_all_claims edge ring some_ring xs first stop =
    let h = has_lists edge ring some_ring xs in
    let f = h.2 in
    let at : first ≡ claims_of h.0 = subst (IsSealedAt (claims_of h.0)) stop f.sound.sealed_at in
    at ∙ claims-claimed edge ring (steps xs (new_edge edge ring)) h.0 h.1 f

-- from a sealed edge on
still_unclaimed : (edge ring : ℕ) → 0 < ring → (first : ℕ) (ys : List EdgeStep) (s : LiveEdge) → HasLists edge ring s
    → s.stop ≡ Some first → (steps ys s).claimed ≡ s.claimed
still_unclaimed edge ring some_ring first [] s h stop = refl
still_unclaimed edge ring some_ring first (y ∷ ys) s h stop =
    let one = unclaimed edge ring some_ring s h.0 h.1 h.2 first stop y in
    still_unclaimed edge ring some_ring first ys (edge_step y s) (after_step edge ring some_ring s h y) one.1 ∙ one.0

-- a seal leaves some first word
sealed_first : (word : ℕ) (stop : Option ℕ) → (first : ℕ) × (after_seal word stop ≡ Some first)
sealed_first word None = (word, refl)
sealed_first word (Some first) = (first, refl)

pub nothing_after_seal : NothingAfterSeal
nothing_after_seal edge ring some_ring xs ys =
    let s : LiveEdge = steps xs (new_edge edge ring) in
    let h = after_step edge ring some_ring s (has_lists edge ring some_ring xs) Seal in
    let at = sealed_first s.word s.stop in
    ap (λ (u : LiveEdge). u.claimed) (steps-append xs (Seal ∷ ys) (new_edge edge ring))
    ∙ still_unclaimed edge ring some_ring at.0 ys (edge_step Seal s) h at.1
