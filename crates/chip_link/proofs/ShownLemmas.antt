-- Serves Link.antt.
-- One edge, by what its words show: each step sees what the lists say, and leaves words that show the lists after it.
-- The edge word and the cells are any number and any function, so that they can be a table of words.
use Rattle.std.proofs.Common.{◌≡◌, ℕ, suc, ◌+◌, ◌*◌, ◌/◌, ◌%◌, ◌<◌, ◌≤◌, sym, ap, ◌∙◌, arith, mul-le-mul_right, suc-mul}
use Rattle.std.proofs.Common.{lt_of_not-le, div-add-mod', ◌≢◌, zero, ◌^◌, true, false, List, [], ◌∷◌, ◌++◌, length}
use Rattle.std.proofs.Common.{get_or, Option, Some, None, is_some, refl, subst, length-append, bit_or, eq-eqb, ne_eqb}
use Rattle.std.proofs.Math.Nat.{add-mul-mod_self_right, zero-mod, mod-eq_of_lt}
use mathlib.Core.Logic.{dite}
use native.Mathlib.Decide.{dec_le, ℕ_discrete}
use Rattle.std.proofs.lemmas.Bool.{cond-true, cond-false}
use Rattle.std.proofs.lemmas.List.{get_or_past}
use Rattle.std.proofs.lemmas.Nat.{mod_below}
use Rattle.chip_link.specs.Words.{edge_word}
use Rattle.chip_link.specs.Link.{Tail, fresh_tail, first_tail, sent_counts, claims_of, after_clear, after_claim}
use Rattle.chip_link.specs.Link.{after_put, after_take, after_seal, cell_at_tail, cell_at_head, Sound, WordsShow}
use Rattle.chip_link.proofs.SoundsLemmas.{none_held, one_held, length-sent_counts, put_at, put_last}
use Rattle.chip_link.proofs.WordLawsLemmas.{seals_word}

-- a later turn begins at least one turn later
turn_later : (x y n : ℕ) → x < y → x * n + n ≤ y * n
turn_later x y n h = let a : suc x * n ≤ y * n = mul-le-mul_right n h in omega (arith, suc-mul x n)

-- two numbers less than n apart, with one remainder, are one number
one_turn : (a b n : ℕ) → a ≤ b → b < a + n → a % n ≡ b % n → a ≡ b
one_turn a b n le lt e =
    let p = div-add-mod' a n in let q = div-add-mod' b n in
    let x : ℕ = a / n * n in let y : ℕ = b / n * n in let r : ℕ = b % n in
    let a_is : x + r ≡ a = ap (λ (k : ℕ). x + k) (sym e) ∙ p in let b_is : y + r ≡ b = q in
    dite (dec_le (b / n) (a / n))
    (λ same. let m : y ≤ x = mul-le-mul_right n same in omega arith)
    (λ later. let m : x + n ≤ y = turn_later (a / n) (b / n) n (lt_of_not-le later) in absurd (omega arith))

-- within the places of a ring from d on, one cell is one place
pub same_place : (d ring p q : ℕ) → d ≤ p → p < d + ring → d ≤ q → q < d + ring → p % ring ≡ q % ring → p ≡ q
same_place d ring p q lp hp lq hq e = dite (dec_le p q) (λ le. one_turn p q ring le (omega arith) e)
    (λ gt. let le : q ≤ p = omega arith in sym (one_turn q p ring le (omega arith) (sym e)))

-- one turn of the ring later it is the same cell
pub next_turn : (d ring : ℕ) → (d + ring) % ring ≡ d % ring
next_turn d ring = let one : d + ring ≡ d + 1 * ring = omega arith in rw one (add-mul-mod_self_right d 1 ring)

-- a seal, whether it is the first or not, leaves the sealed word of these claims
seal_leaves : (n word : ℕ) (stop : Option ℕ) → n < 2 ^ 63 → word ≡ edge_word n (is_some stop)
    → bit_or word (2 ^ 63) ≡ edge_word n (is_some (after_seal word stop))
seal_leaves n word None l is = ap (λ (x : ℕ). bit_or x (2 ^ 63)) is ∙ seals_word n false l
seal_leaves n word (Some first) l is = ap (λ (x : ℕ). bit_or x (2 ^ 63)) is ∙ seals_word n true l

module _ (ring : ℕ) (some_ring : 0 < ring) (word : ℕ) (cell : ℕ → ℕ) (t : Tail) (got : List ℕ) (stop : Option ℕ)
    (ok : Sound ring t got stop) (is : WordsShow ring word cell t got stop) where
  pub clear_sees : t.held ≡ None → cell (claims_of t % ring) ≡ cell_at_tail ring t got
  clear_sees none =
      let all_put : claims_of t ≡ length t.put = none_held t none in
      let w = ok.within in let b = ok.behind in
      dite (ℕ_discrete (claims_of t) (length got + ring))
      (λ full. ap cell (ap (λ (n : ℕ). n % ring) full ∙ next_turn (length got) ring)
      ∙ is.ring_is (length got) (omega arith) (omega arith)
      ∙ sym (cond-true _ _ _ (eq-eqb (claims_of t) (length got + ring) full)))
      (λ free. is.ring_is (claims_of t) (omega arith) (omega arith) ∙ get_or_past t.put (claims_of t) 0 (omega arith)
      ∙ sym (cond-false _ _ _ (ne_eqb (claims_of t) (length got + ring) free)))

  pub clear_shows : (seen : ℕ) → WordsShow ring word cell (after_clear seen t) got stop
  clear_shows seen = record { word_is = is.word_is; ring_is = is.ring_is }

  -- the effect of the exchange of a claim, by its two cases
  pub claim_shows : (count word' : ℕ) → t.held ≡ None → (word ≡ claims_of t → word' ≡ claims_of t + 1)
      → (word ≢ claims_of t → word' ≡ word) → WordsShow ring word' cell (after_claim count word t) got stop
  claim_shows count word' none hit miss =
      let all_put : claims_of t ≡ length t.put = none_held t none in
      let w = is.word_is in
      dite (ℕ_discrete word (claims_of t))
      (λ same. let new = hit same in
      subst (λ (u : Tail). WordsShow ring word' cell u got stop)
      (sym (cond-true _ _ _ (eq-eqb word (claims_of t) same))) record { word_is = omega arith; ring_is = is.ring_is })
      (λ other. let kept = miss other in
      subst (λ (u : Tail). WordsShow ring word' cell u got stop)
      (sym (cond-false _ _ _ (ne_eqb word (claims_of t) other))) record { word_is = kept ∙ is.word_is; ring_is = is.ring_is })

  -- the store of a put changes only the cell of the last claim
  pub put_shows : (count : ℕ) (cell' : ℕ → ℕ) → t.held ≡ Some count → cell' (length t.put % ring) ≡ count
      → ((i : ℕ) → i < ring → i ≢ length t.put % ring → cell' i ≡ cell i)
      → WordsShow ring word cell' (after_put t) got stop
  put_shows count cell' one here others =
      let claimed_one : claims_of t ≡ length t.put + 1 = one_held t count one in
      let open_room = ok.free count one in
      let back = ok.behind in
      let longer : length (sent_counts t) ≡ claims_of t = length-sent_counts t in
      record {
        word_is = (let w = is.word_is in omega arith);
        ring_is = λ p lo hi. dite (ℕ_discrete p (length t.put))
            (λ same. ap cell' (ap (λ (n : ℕ). n % ring) same) ∙ here
            ∙ sym (put_last ring some_ring t got stop ok count one p same))
            (λ other. others (p % ring) (mod_below p ring some_ring)
            (λ e. other (same_place (length got) ring p (length t.put) lo hi back open_room e)) ∙ is.ring_is p lo hi
            ∙ sym (put_at ring some_ring t got stop ok count one p other));
      }

  pub take_sees : cell (length got % ring) ≡ cell_at_head t got
  take_sees = is.ring_is (length got) (omega arith) (omega arith)

  -- the swap of a take leaves 0 in the head's cell, and changes no other
  pub take_shows : (cell' : ℕ → ℕ) → cell' (length got % ring) ≡ 0
      → ((i : ℕ) → i < ring → i ≢ length got % ring → cell' i ≡ cell i)
      → WordsShow ring word cell' t (after_take (cell (length got % ring)) got) stop
  take_shows cell' here others = let d : ℕ = length got in let y : ℕ = cell (d % ring) in
      let back = ok.behind in let near = ok.within in
      dite (ℕ_discrete y 0)
      (λ none. subst (λ (g : List ℕ). WordsShow ring word cell' t g stop) (sym (cond-true _ _ _ (eq-eqb y 0 none))) record {
        word_is = is.word_is;
        ring_is = λ p lo hi. dite (ℕ_discrete p d)
            (λ same. ap cell' (ap (λ (n : ℕ). n % ring) same) ∙ here ∙ sym none ∙ take_sees
            ∙ ap (λ (n : ℕ). get_or t.put n 0) (sym same))
            (λ other. others (p % ring) (mod_below p ring some_ring)
            (λ e. other (same_place d ring p d lo hi (omega arith) (omega arith) e)) ∙ is.ring_is p lo hi);
      })
      (λ found.
      let longer : length (got ++ y ∷ []) ≡ d + 1 = omega (arith, length-append got (y ∷ [])) in
      subst (λ (g : List ℕ). WordsShow ring word cell' t g stop) (sym (cond-false _ _ _ (ne_eqb y 0 found))) record {
        word_is = is.word_is;
        ring_is = λ p lo hi. dite (ℕ_discrete p (d + ring))
            (λ same. ap cell' (ap (λ (n : ℕ). n % ring) same ∙ next_turn d ring) ∙ here
            ∙ sym (get_or_past t.put p 0 (omega arith)))
            (λ other. others (p % ring) (mod_below p ring some_ring)
            (λ e. let at : p ≡ d = same_place d ring p d (omega arith) (omega arith) (omega arith) (omega arith) e in
            absurd (omega arith)) ∙ is.ring_is p (omega arith) (omega arith));
      })

  -- a seal sets the top bit
  pub seal_shows : claims_of t < 2 ^ 63 → WordsShow ring (bit_or word (2 ^ 63)) cell t got (after_seal word stop)
  seal_shows few = record { word_is = seal_leaves (claims_of t) word stop few is.word_is; ring_is = is.ring_is }

-- a new edge has only zeros
pub fresh_shows : (ring : ℕ) (cell : ℕ → ℕ) → ((i : ℕ) → cell i ≡ 0) → WordsShow ring 0 cell fresh_tail [] None
fresh_shows ring cell zeros = record { word_is = refl; ring_is = λ p lo hi. zeros (p % ring) }

-- an edge that opens with one message has its count in cell 0
pub first_shows : (ring count : ℕ) (cell : ℕ → ℕ) → 0 < ring → cell 0 ≡ count
    → ((i : ℕ) → i < ring → i ≢ 0 → cell i ≡ 0) → WordsShow ring 1 cell (first_tail count) [] None
first_shows ring count cell some_ring here others = record { word_is = refl; ring_is = λ p lo hi. place p hi }
  where
    place : (p : ℕ) → p < 0 + ring → cell (p % ring) ≡ get_or (count ∷ []) p 0
    place zero hi = ap cell (zero-mod ring) ∙ here
    place (suc p) hi =
        let inside : suc p < ring = omega arith in
        let itself : suc p % ring ≡ suc p = mod-eq_of_lt inside in
        ap cell itself ∙ others (suc p) inside (λ e. absurd (omega arith))
        ∙ sym (get_or_past (count ∷ []) (suc p) 0 (omega arith))
