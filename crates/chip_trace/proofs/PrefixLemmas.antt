-- Serves TraceText.antt.
-- Lists and their prefixes.
use Rattle.chip_trace.proofs.Names.{◌≡◌, ℕ, zero, suc, ◌≤◌, List, [], ◌∷◌, ◌++◌, length, take, drop, refl, sym, ap, ◌∙◌}
use Rattle.chip_trace.proofs.Names.{add-one, slice_get, Some, take-append_seam, take-append-le, take-append-drop}
use Rattle.chip_trace.proofs.Names.{take_more, slice_get_within, get_or_from_slice_get}

module _ {A : Type 0} where
  -- a prefix is what its length takes
  pub beginning_is : (xs rest all : List A) → xs ++ rest ≡ all → xs ≡ take (length xs) all
  beginning_is xs rest all is = sym (take-append_seam xs rest) ∙ ap (take (length xs)) is

  -- two prefixes of one length are one
  pub same_beginning : (xs r ys s all : List A) → xs ++ r ≡ all → ys ++ s ≡ all → length xs ≡ length ys → xs ≡ ys
  same_beginning xs r ys s all p q e = beginning_is xs r all p ∙ ap (λ (n : ℕ). take n all) e
      ∙ sym (beginning_is ys s all q)

  -- of two prefixes the longer one extends the shorter one
  pub longer_beginning : (xs r ys s all : List A) → xs ++ r ≡ all → ys ++ s ≡ all → length xs ≤ length ys
      → (more : List A) × (xs ++ more ≡ ys)
  longer_beginning xs r ys s all p q l = (
    drop (length xs) ys,
    ap (λ (zs : List A). zs ++ drop (length xs) ys) (beginning_is xs r all p ∙ ap (take (length xs)) (sym q)
        ∙ take-append-le (length xs) ys s l)
        ∙ take-append-drop (length xs) ys,
  )

  -- what is in a prefix is in the list
  pub slice_get_keeps : (xs ys : List A) (i : ℕ) (x : A) → slice_get xs i ≡ Some x → slice_get (xs ++ ys) i ≡ Some x
  slice_get_keeps [] ys i x is = absurd (cc is)
  slice_get_keeps (z ∷ zs) ys zero x is = is
  slice_get_keeps (z ∷ zs) ys (suc i) x is = slice_get_keeps zs ys i x is

  -- what comes after a prefix
  pub slice_get_seam : (xs : List A) (y : A) (ys : List A) → slice_get (xs ++ y ∷ ys) (length xs) ≡ Some y
  slice_get_seam [] y ys = refl
  slice_get_seam (x ∷ xs) y ys = slice_get_seam xs y ys

  -- a place that holds something ends the prefix up to it
  pub take_slice_get : (xs : List A) (i : ℕ) (x : A) → slice_get xs i ≡ Some x → take (suc i) xs ≡ take i xs ++ x ∷ []
  take_slice_get xs i x is = let more = take_more xs i x (slice_get_within xs i x is) in
      let at = get_or_from_slice_get xs i x x is in let next = add-one i in cc
