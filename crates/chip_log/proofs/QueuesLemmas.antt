-- Serves Queues.antt.
-- One queue changes.
use Rattle.chip_log.proofs.Names.{◌≡◌, ℕ, ◌+◌, ◌≤◌, ◌<◌, eqb, List, [], ◌∷◌, length, get_or, refl, ap, ◌∙◌, arith}
use Rattle.chip_log.proofs.Names.{cond, suc, zero, map, set, replicate, get_or-set_other, get_or_past, get_or-map}
use Rattle.chip_log.proofs.Names.{length-map, map-set, get_or-replicate, length-replicate, dite, ℕ_discrete, dec_lt}
use Rattle.chip_log.proofs.Names.{nat_tests, get_or-set_at, queue_of, total, Step}

-- the elements after one of a list is set
pub set_at : {A : Type 0} (xs : List A) (i j : ℕ) (x d : A) → i < length xs
    → get_or (set xs i x) j d ≡ cond (eqb i j) x (get_or xs j d)
set_at xs i j x d l = dite (ℕ_discrete j i)
    (λ e. let a = get_or-set_at xs i j x d e l in grind (arith, nat_tests))
    (λ ne. let a = get_or-set_other xs i j x d ne in grind (arith, nat_tests))

module _ {X : Type 0} (f : X → List Step) (xs : List X) (queues : List (List Step)) (is : map f xs ≡ queues) (p : ℕ)
    (l : p < length queues) (q : X) (here : q ≡ get_or xs p q) where
  pub own : f q ≡ queue_of queues p
  own = let a = get_or-map f xs p q [] (omega (arith, ap length is, length-map xs f)) in cc

  pub changed : (new : X) (steps : List Step) → f new ≡ steps → map f (set xs p new) ≡ set queues p steps
  changed new steps e = map-set f xs p new ∙ (λ j. set (is j) p (e j))

pub total-set : (queues : List (List Step)) (p : ℕ) (steps : List Step) → p < length queues
    → total (set queues p steps) + length (queue_of queues p) ≡ total queues + length steps
total-set [] p steps l = absurd (omega arith)
total-set (mine ∷ queues) zero steps l = omega arith
total-set (mine ∷ queues) (suc p) steps l = let a = total-set queues p steps (omega arith) in omega arith

pub total_le : (queues : List (List Step)) (p : ℕ) → length (queue_of queues p) ≤ total queues
total_le [] p = omega (arith, ap length (get_or_past {X = List Step} [] p [] (omega arith)))
total_le (mine ∷ queues) zero = omega arith
total_le (mine ∷ queues) (suc p) = let a = total_le queues p in omega arith

-- each element of such a list, and what is read after it
pub all_same : {X : Type 0} (n p : ℕ) (x : X) → get_or (replicate n x) p x ≡ x
all_same n p x = dite (dec_lt p n) (λ l. get_or-replicate n p x x l)
    (λ no. let many = length-replicate n x in get_or_past (replicate n x) p x (omega arith))

pub none_in_total : (n : ℕ) → total (replicate n []) ≡ 0
none_in_total zero = refl
none_in_total (suc n) = let a = none_in_total n in omega arith
