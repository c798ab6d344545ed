-- Serves Views.antt.
-- Views as finite maps: what a step and a split change.
use Rattle.chip_net.proofs.Names.{nat_tests, ◌≡◌, ◌≢◌, ℕ, zero, suc, ◌+◌, ◌<◌, true, List, [], ◌∷◌, ◌++◌, length}
use Rattle.chip_net.proofs.Names.{length-append, set, Option, Some, None, refl, sym, ap, ◌∙◌, arith, slice_get}
use Rattle.chip_net.proofs.Names.{slice_get_read, get_or_from_slice_get, get_or_push, get_or_append_left, dite, some}
use Rattle.chip_net.proofs.Names.{some-ne-none, ℕ_discrete, get_elem?, Setting, stays_ended, Step}
use Rattle.chip_net.proofs.Names.{Part, does, part_by, part-append, History, View, find, grow, grow_view}
use Rattle.chip_net.proofs.Names.{did_in, HasPart, drop_part, one_part, view_of_one, parts_below, IsAlone, join_views}
use Rattle.chip_net.proofs.Names.{eq-eqb, ne_eqb, Log, done_by, part_of}

pub some_is : {A : Type 0} (a b : A) → Some a ≡ Some b → a ≡ b
some_is a b e = cc

pub none_some : (d : List Step) → None ≡ Some d → ⊥
none_some d e = cc

pub set_there : {A : Type 0} (l : List A) (i : ℕ) (a b : A) → get_elem? l i ≡ some a → get_elem? (set l i b) i ≡ some b
set_there [] i a b e = absurd (some-ne-none a (sym e))
set_there (x ∷ xs) zero a b e = refl
set_there (x ∷ xs) (suc i) a b e = set_there xs i a b e

-- the part itself is longer by the event
pub find_here : (p : ℕ) (x : Step) (ys : List History) (did : List Step) → find p ys ≡ Some did
    → find p (grow p x ys) ≡ Some (did ++ x ∷ [])
find_here p x [] did e = absurd (cc)
find_here p x (y ∷ ys) did e = let rest = find_here p x ys did in grind (arith, nat_tests)

-- and another part is unchanged
pub find_else : (p q : ℕ) (x : Step) (ys : List History) → p ≢ q → find q (grow p x ys) ≡ find q ys
find_else p q x [] ne = refl
find_else p q x (y ∷ ys) ne = let rest = find_else p q x ys ne in grind (arith, nat_tests)

-- the steps that a view has of the part that acted
pub grown_has : (p : ℕ) (x : Step) (v w : View) → HasPart p v → w ≡ grow_view p x v → (did_in p w ≡ did_in p v ++ x ∷ [])
    × HasPart p w
grown_has p x v w has is = rw (is, find_here p x v.parts (did_in p v) has) (refl, refl)

-- a part after more events of its own
pub part_append : (g : Setting) (s : Part) (xs ys : List Step) → part_by g s (xs ++ ys) ≡ part_by g (part_by g s xs) ys
part_append g s xs ys = part-append g xs ys s

-- without feeding the end of feeding is noted, whatever a part did
pub ended_by : (g : Setting) (xs : List Step) (s : Part) → s.ended ≡ true → (part_by g s xs).ended ≡ true
ended_by g [] s on = on
ended_by g (x ∷ xs) s on = ended_by g xs (does g x s) (stays_ended g x.event s.ended on)

-- the steps of a part in a log extended by a step of its own, or of another
pub done_more : (g : Setting) (p : ℕ) (x : Step) (log : Log) → part_of g x.event ≡ p
    → done_by g p (x ∷ log) ≡ done_by g p log ++ x ∷ []
done_more g p x log mine = rw (eq-eqb (part_of g x.event) p mine)

pub done_else : (g : Setting) (p : ℕ) (x : Step) (log : Log) → part_of g x.event ≢ p
    → done_by g p (x ∷ log) ≡ done_by g p log
done_else g p x log other = rw (ne_eqb (part_of g x.event) p other)

-- ---- taking out

pub dropped_here : (p : ℕ) (ys : List History) → find p (drop_part p ys) ≡ None
dropped_here p [] = refl
dropped_here p (y ∷ ys) = let rest = dropped_here p ys in grind (arith, nat_tests)

pub dropped_else : (p q : ℕ) (ys : List History) → p ≢ q → find q (drop_part p ys) ≡ find q ys
dropped_else p q [] ne = refl
dropped_else p q (y ∷ ys) ne = let rest = dropped_else p q ys ne in grind (arith, nat_tests)

-- the new view has no other part than the one that was taken out
pub one_else : (p q : ℕ) (found : Option (List Step)) → p ≢ q → find q (one_part p found) ≡ None
one_else p q found other = grind (arith, nat_tests)

pub alone_has : (p : ℕ) (v : View) (did : List Step) → find p v.parts ≡ Some did
    → find p (view_of_one p v).parts ≡ Some did
alone_has p v did has = rw (has, eq-eqb p p refl)

-- ---- the view of one part alone

pub alone_there : (p : ℕ) (v : View) → IsAlone p v → HasPart p v
alone_there p v is = rw (is, eq-eqb p p refl)

pub alone_else : (p q : ℕ) (v : View) → IsAlone p v → p ≢ q → find q v.parts ≡ None
alone_else p q v is other = rw (is, ne_eqb p q other)

pub did_alone : (p : ℕ) (v : View) (did : List Step) → v.parts ≡ record { part = p; did = did } ∷ [] → did ≡ did_in p v
did_alone p v did is = rw (is, eq-eqb p p refl)

pub alone_by : (p : ℕ) (v : View) (did : List Step) → v.parts ≡ record { part = p; did = did } ∷ [] → IsAlone p v
alone_by p v did is = rw (← did_alone p v did is) is

pub taken_alone : (p : ℕ) (v : View) (did : List Step) → find p v.parts ≡ Some did → IsAlone p (view_of_one p v)
taken_alone p v did has = alone_by p (view_of_one p v) did (ap (one_part p) has)

pub grown_alone : (p : ℕ) (x : Step) (v w : View) → IsAlone p v → w ≡ grow_view p x v → IsAlone p w
grown_alone p x v w alone is = alone_by p w (did_in p v ++ x ∷ []) (rw (is, alone, eq-eqb p p refl))

-- what a view has after it took in such a part
pub joined_here : (p : ℕ) (v w : View) → IsAlone p w → find p (join_views v w).parts ≡ Some (did_in p w)
joined_here p v w is = rw (is, eq-eqb p p refl)

pub joined_else : (p q : ℕ) (v w : View) → IsAlone p w → p ≢ q → find q (join_views v w).parts ≡ find q v.parts
joined_else p q v w is other = rw (is, ne_eqb p q other)

-- ---- the opening

pub part_there : (n p : ℕ) → p < n → find p (parts_below n) ≡ Some []
part_there zero p l = absurd (omega arith)
part_there (suc n) p l = let rest = part_there n p in grind (arith, nat_tests)

pub part_empty : (n p : ℕ) (did : List Step) → find p (parts_below n) ≡ Some did → did ≡ []
part_empty zero p did e = absurd (none_some did e)
part_empty (suc n) p did e = let rest = part_empty n p did in grind (arith, nat_tests)

-- one more element of a list with a property of each
pub pushed_each : {X : Type 0} (at : ℕ → X) (xs : List X) (y : X) (n : ℕ) → length xs ≡ n
    → ((p : ℕ) → p < n → slice_get xs p ≡ Some (at p)) → y ≡ at n → (p : ℕ) → p < n + 1
    → slice_get (xs ++ y ∷ []) p ≡ Some (at p)
pushed_each at xs y n count each here p l = slice_get_read (xs ++ y ∷ []) (n + 1) p (at p)
    (let a = length-append xs (y ∷ []) in omega arith) l (sym (dite (ℕ_discrete p n)
    (λ same. rw (get_or_push xs y (at p) p (omega arith), same) here)
    (λ other. get_or_append_left xs (y ∷ []) (at p) p (omega arith)
    ∙ get_or_from_slice_get xs p (at p) (at p) (each p (omega arith)))))
