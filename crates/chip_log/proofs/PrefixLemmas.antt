-- Lists and their prefixes (as in chip_trace).
use Rattle.chip_log.proofs.Names.{◌≡◌, ◌≤◌, List, ◌++◌, length, take, drop, take-append_seam}
use Rattle.chip_log.proofs.Names.{take-append-drop, take-append-le}

module _ {A : Type 0} where
  pub beginning_is : (xs rest all : List A) → xs ++ rest ≡ all → xs ≡ take (length xs) all
  beginning_is xs rest all is = let a = take-append_seam xs rest in cc

  -- of two prefixes the longer one extends the shorter one
  pub longer_beginning : (xs r ys s all : List A) → xs ++ r ≡ all → ys ++ s ≡ all → length xs ≤ length ys
      → (more : List A) × (xs ++ more ≡ ys)
  longer_beginning xs r ys s all p q l = (
    drop (length xs) ys,
    let a = beginning_is xs r all p in let b = take-append-le (length xs) ys s l in
        let c = take-append-drop (length xs) ys in cc,
  )

  -- two prefixes of one length are one
  pub same_beginning : (xs r ys s all : List A) → xs ++ r ≡ all → ys ++ s ≡ all → length xs ≡ length ys → xs ≡ ys
  same_beginning xs r ys s all p q e = let a = beginning_is xs r all p in let b = beginning_is ys s all q in cc
