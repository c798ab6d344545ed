-- Serves Laws.antt.
-- Counts as messages of one edge, with consecutive places.
use Rattle.std.proofs.Common.{◌≡◌, ℕ, zero, suc, ◌+◌, List, [], ◌∷◌, ◌++◌, length, Some, refl, sym, ap, ◌∙◌, arith}
use Rattle.std.specs.List.{slice_get}
use Rattle.std.proofs.lemmas.Option.{get_or_from_slice_get}
use Rattle.chip_link.specs.declared.message.Message.{Message}
use Rattle.chip_link.specs.Laws.{IsPrefix, AreInOrder}

-- with the places from n on
abbrev pub numbered : ℕ → ℕ → List ℕ → List Message
numbered edge n [] = []
numbered edge n (c ∷ cs) = record { edge = edge; place = n; count = c } ∷ numbered edge (n + 1) cs

pub numbered-append : (edge n : ℕ) (xs ys : List ℕ)
    → numbered edge n (xs ++ ys) ≡ numbered edge n xs ++ numbered edge (n + length xs) ys
numbered-append edge n [] ys = ap (λ (k : ℕ). numbered edge k ys) (omega arith)
numbered-append edge n (x ∷ xs) ys =
    let m : Message = record { edge = edge; place = n; count = x } in
    ap (λ (ms : List Message). m ∷ ms) (numbered-append edge (n + 1) xs ys
    ∙ ap (λ (k : ℕ). numbered edge (n + 1) xs ++ numbered edge k ys) (omega arith))

pub length-numbered : (edge n : ℕ) (xs : List ℕ) → length (numbered edge n xs) ≡ length xs
length-numbered edge n [] = refl
length-numbered edge n (x ∷ xs) = ap suc (length-numbered edge (n + 1) xs)

-- the message at p has the place that is p further
pub numbered_at : (edge n : ℕ) (xs : List ℕ) (p : ℕ) (m : Message) → slice_get (numbered edge n xs) p ≡ Some m
    → (m.edge ≡ edge) × (m.place ≡ n + p)
numbered_at edge n [] p m e = absurd (cc)
numbered_at edge n (x ∷ xs) zero m e =
    let is : record { edge = edge; place = n; count = x } ≡ m = get_or_from_slice_get (numbered edge n (x ∷ xs)) 0 m m e
    in (
      sym (ap (λ (k : Message). k.edge) is),
      sym (ap (λ (k : Message). k.place) is)
          ∙ (let same : n ≡ n + 0 = omega arith in same),
    )
numbered_at edge n (x ∷ xs) (suc p) m e = let rest = numbered_at edge (n + 1) xs p m e in (rest.0, omega arith)

pub numbered_in_order : (edge : ℕ) (xs : List ℕ) → AreInOrder edge (numbered edge 0 xs)
numbered_in_order edge xs p m e = let at = numbered_at edge 0 xs p m e in (at.0, omega arith)

-- a prefix as counts is a prefix as messages
pub numbered_prefix : (edge : ℕ) (xs ys rest : List ℕ) → xs ++ rest ≡ ys
    → IsPrefix (numbered edge 0 xs) (numbered edge 0 ys)
numbered_prefix edge xs ys rest e = (
  numbered edge (0 + length xs) rest,
  sym (numbered-append edge 0 xs rest)
      ∙ ap (numbered edge 0) e,
)
