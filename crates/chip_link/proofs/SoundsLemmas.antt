-- Serves Link.antt.
-- One edge by its lists, without words: each allowed step keeps it sound. What a step sees is given by an equation.
use Rattle.std.proofs.Common.{◌≡◌, ◌≢◌, ℕ, ◌+◌, ◌<◌, Bool, true, false, cond, eqb, List, [], ◌∷◌, ◌++◌, length}
use Rattle.std.proofs.Common.{get_or, Option, Some, None, option_to_list, is_some, refl, sym, subst}
use Rattle.std.proofs.Common.{arith, length-append, eq-eqb, ne_eqb, rules}
use Rattle.std.proofs.lemmas.List.{get_or_past, get_or_push, get_or_append_left, take_more, take-append-le}
use Rattle.std.proofs.lemmas.Bool.{cond-true, cond-false}
use Rattle.std.proofs.lemmas.Bool.Decides.{nat_tests}
use mathlib.Core.Logic.{dite}
use native.Mathlib.Decide.{ℕ_discrete}
use Rattle.chip_link.specs.Words.{top_bit}
use Rattle.chip_link.specs.Link.{Tail, fresh_tail, first_tail, sent_counts, claims_of, after_clear, after_claim}
use Rattle.chip_link.specs.Link.{after_put, after_take, after_seal, word_of, cell_at_tail, cell_at_head, IsSealedAt}
use Rattle.chip_link.specs.Link.{Sound}

-- ---- what is held

-- nothing held counts for no claim
pub none_held : (t : Tail) → t.held ≡ None → claims_of t ≡ length t.put
none_held t none = grind arith

-- what is held counts for one
pub one_held : (t : Tail) (count : ℕ) → t.held ≡ Some count → claims_of t ≡ length t.put + 1
one_held t count one = grind arith

pub none-some : (count : ℕ) → None ≢ Some count
none-some count e = cc

some-injective : (a b : ℕ) → Some a ≡ Some b → a ≡ b
some-injective a b e = cc

-- the numbers of sent and claimed messages are equal
pub length-sent_counts : (t : Tail) → length (sent_counts t) ≡ claims_of t
length-sent_counts t = length-append t.put (option_to_list t.held)

-- an edge without the seal's bit has no seal
unsealed : (n : ℕ) (stop : Option ℕ) → top_bit (is_some stop) ≡ 0 → IsSealedAt n stop
unsealed n None e = tt
unsealed n (Some first) e = absurd (omega arith)

-- a push changes only one place
pub pushed_same : (xs : List ℕ) (x p : ℕ) → p ≢ length xs → get_or (xs ++ x ∷ []) p 0 ≡ get_or xs p 0
pushed_same xs x p ne = grind (arith, get_or_append_left, get_or_past, length-append)

-- ---- the steps

module _ (ring : ℕ) (some_ring : 0 < ring) (t : Tail) (got : List ℕ) (stop : Option ℕ)
    (ok : Sound ring t got stop) where
  -- a cell that was seen empty is free
  pub room_of : t.held ≡ None → cell_at_tail ring t got ≡ 0 → length t.put < length got + ring
  room_of none e = let counted = ok.counted (length got) in let w = ok.within in grind (arith, nat_tests)

  pub clear_sound : (seen : ℕ) → t.held ≡ None → seen ≡ cell_at_tail ring t got
      → Sound ring (after_clear seen t) got stop
  clear_sound seen none is = let free = room_of none in search (rules, arith, nat_tests)

  pub claim_sound : (count seen : ℕ) → 0 < count → t.clear ≡ true → seen ≡ word_of t stop
      → Sound ring (after_claim count seen t) got stop
  claim_sound count seen some_count is_clear is = dite (ℕ_discrete seen (claims_of t))
      (λ hit. let clear = unsealed (claims_of t + 1) stop (omega arith) in
      rw (cond-true (eqb seen (claims_of t)) (record t { held = Some count; clear = false })
      (record t { clear = false; refused = true }) (eq-eqb seen (claims_of t) hit)) (search (rules, arith, nat_tests)))
      (λ miss.
      rw (cond-false (eqb seen (claims_of t)) (record t { held = Some count; clear = false })
      (record t { clear = false; refused = true }) (ne_eqb seen (claims_of t) miss)) (search (rules, arith, nat_tests)))

  pub put_at : (count : ℕ) → t.held ≡ Some count → (p : ℕ) → p ≢ length t.put
      → get_or (sent_counts t) p 0 ≡ get_or t.put p 0
  put_at count one p ne = rw one (pushed_same t.put count p ne)

  pub put_last : (count : ℕ) → t.held ≡ Some count → (p : ℕ) → p ≡ length t.put → get_or (sent_counts t) p 0 ≡ count
  put_last count one p e = rw one (get_or_push t.put count 0 p (sym e))

  pub put_sound : (count : ℕ) → t.held ≡ Some count → Sound ring (after_put t) got stop
  put_sound count one =
      let claimed_one = one_held t count one in let open_room = ok.free count one in
      let some_count : 0 < count = ok.held_counted count one in let longer = length-sent_counts t in
      let same = take-append-le (length got) t.put (option_to_list t.held) ok.behind in
      let sealed : IsSealedAt (claims_of (after_put t)) stop = subst (λ (n : ℕ). IsSealedAt n stop) (omega arith) ok.sealed_at in
      let each : (p : ℕ) → p < length (sent_counts t) → 0 < get_or (sent_counts t) p 0 = λ p l. dite (ℕ_discrete p (length t.put))
      (λ same. let a = put_last count one p same in omega arith)
      (λ other. let a = put_at count one p other in let b = ok.counted p (omega arith) in omega arith) in
      search (rules, arith, nat_tests)

  pub take_sound : (seen : ℕ) → seen ≡ cell_at_head t got → Sound ring t (after_take seen got) stop
  take_sound seen is = dite (ℕ_discrete seen 0)
      (λ none. rw (cond-true (eqb seen 0) got (got ++ seen ∷ []) (eq-eqb seen 0 none)) ok)
      (λ found.
      let full : length got < length t.put = grind (arith, get_or_past) in
      let longer = length-append got (seen ∷ []) in let more = take_more t.put (length got) 0 full in
      rw (cond-false (eqb seen 0) got (got ++ seen ∷ []) (ne_eqb seen 0 found)) (search (rules, arith, nat_tests)))

pub seal_sound : (ring : ℕ) (t : Tail) (got : List ℕ) (stop : Option ℕ) (seen : ℕ) → seen ≡ word_of t stop
    → Sound ring t got stop → Sound ring t got (after_seal seen stop)
seal_sound ring t got None seen is ok = search (rules, arith, nat_tests)
seal_sound ring t got (Some first) seen is ok = ok

-- a new edge
pub fresh_sound : (ring : ℕ) → 0 < ring → Sound ring fresh_tail [] None
fresh_sound ring l = search (rules, arith, nat_tests)

-- an edge that opens with one message
pub first_sound : (ring count : ℕ) → 0 < ring → 0 < count → Sound ring (first_tail count) [] None
first_sound ring count l some_count =
    let looked = clear_sound ring l fresh_tail [] None (fresh_sound ring l) 0 refl (empty (eqb 0 (0 + ring))) in
    let claimed = claim_sound ring l (after_clear 0 fresh_tail) [] None looked count 0 some_count refl refl in
    put_sound ring l (after_claim count 0 (after_clear 0 fresh_tail)) [] None claimed count refl
  where
    empty : (b : Bool) → ◌≡◌ {A = ℕ} 0 (cond b 0 0)
    empty true = refl
    empty false = refl
