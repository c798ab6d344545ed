-- Serves Judged.antt.
-- The judgment of a log is unique.
use Rattle.chip_log.proofs.Names.{◌≡◌, ℕ, ◌<◌, Bool, true, false, List, [], ◌∷◌, get_or, refl, sym, ap, ◌∙◌}
use Rattle.chip_log.proofs.Names.{Option, Some, None, subst, arith, cond, suc, inl, inr, map, All-head, All-tail, All-cons, sum_by-le}
use Rattle.chip_log.proofs.Names.{sum_by-cons, ◌&&◌, All, ◌⊎◌, AllPairs, ◌==◌, sum_by, dite, dec_lt, AreRowsOf}
use Rattle.chip_log.proofs.Names.{IsOpenEnd, RowPlace, is_at, IsNoLater, is_early, IsJudged, NoneRight, IsEnd, claim_place}
use Rattle.chip_log.proofs.Names.{AreClaims, IsJudgedLog, rows_for, told_of, AreShown, steps_of, HasEnds, nat_tests}
use Rattle.chip_log.proofs.Names.{IsSooner, IsFirst, IsFirstEarly, option_map}
use Rattle.chip_log.proofs.Names.{ClaimVerdict, JudgedLog, LogEnd, PastRows, LogRow, Verdict}
use Rattle.chip_log.proofs.MetLemmas.{count_yes}
use Rattle.chip_log.proofs.LeftLemmas.{one_number, IsLeftAfter, one_left}
use Rattle.chip_log.proofs.VerdictLemmas.{same_steps, one_verdict}
use Rattle.chip_log.proofs.PlacesLemmas.{one_at, at_itself}
use Rattle.chip_log.proofs.RightLemmas.{IsJudgedAs}
use Rattle.chip_log.specs.declared.verdict.Verdict.TheVariants as verdict
use Rattle.chip_log.specs.declared.judged.LogEnd.TheVariants as end

-- ---- lists in order with the same elements are one

module _ {X : Type 0} (weight : X → X → ℕ) (S : X → X → Type 0) (none : (x y : X) → S x y → weight x y ≡ 0) where
  none_of : (x : X) (ys : List X) → All (S x) ys → sum_by (weight x) ys ≡ 0
  none_of x ys all = let a = sum_by-le (weight x) 0 ys (λ k d inside.
      let b = none x (get_or ys k d) (all k d inside) in omega arith) in omega arith

  module _ (R : X → X → Type 0) (later : (x y z : X) → S x y → R y z → S x z)
      (one : (x y : X) (xs ys : List X) → (S x y → ⊥) → (S y x → ⊥) → All (R x) xs → All (R y) ys
      → sum_by (weight x) (x ∷ xs) ≡ sum_by (weight x) (y ∷ ys) → x ≡ y) where
    behind : (x : X) (xs : List X) → AllPairs R (x ∷ xs) → All (R x) xs × AllPairs R xs
    behind x xs sorted = (
      λ k d inside. sorted 0 (suc k) d (omega arith) (omega arith),
      λ i j d less inside. sorted (suc i) (suc j) d (omega arith) (omega arith),
    )

    not_first : (x y : X) (xs ys : List X) → All (R y) ys → 0 < weight x x
        → sum_by (weight x) (x ∷ xs) ≡ sum_by (weight x) (y ∷ ys) → S x y → ⊥
    not_first x y xs ys after some same first =
        let a = sum_by-cons (weight x) x xs in
        let b = none_of x (y ∷ ys) (All-cons (S x) y ys first
        (λ k d inside. later x y (get_or ys k d) first (after k d inside))) in
        omega arith

    same_list : (xs ys : List X) → AllPairs R xs → AllPairs R ys → All (λ x. 0 < weight x x) xs
        → All (λ x. 0 < weight x x) ys → ((x : X) → sum_by (weight x) xs ≡ sum_by (weight x) ys) → xs ≡ ys
    same_list [] [] sorted others some more same = refl
    same_list [] (y ∷ ys) sorted others some more same =
        let a = same y in let b = sum_by-cons (weight y) y ys in let c = more 0 y (omega arith) in absurd (omega arith)
    same_list (x ∷ xs) [] sorted others some more same =
        let a = same x in let b = sum_by-cons (weight x) x xs in let c = some 0 x (omega arith) in absurd (omega arith)
    same_list (x ∷ xs) (y ∷ ys) sorted others some more same =
        let m = behind x xs sorted in let n = behind y ys others in
        let e : x ≡ y = one x y xs ys (not_first x y xs ys n.0 (some 0 x (omega arith)) (same x))
        (not_first y x ys xs m.0 (more 0 y (omega arith)) (sym (same y))) m.0 n.0 (same x) in
        let rest = same_list xs ys m.1 n.1 (All-tail (λ x. 0 < weight x x) x xs some)
        (All-tail (λ x. 0 < weight x x) y ys more) (λ z.
        let a = sum_by-cons (weight z) x xs in let b = sum_by-cons (weight z) y ys in
        let c = same z in let d = ap (weight z) e in omega arith) in
        λ j. e j ∷ rest j

-- ---- the rows of a causal past

abbrev rows_if : PastRows → PastRows → ℕ
rows_if x y = cond (y.process == x.process) y.rows 0

own_rows : (x : PastRows) → rows_if x x ≡ x.rows
own_rows x = grind (arith, nat_tests)

abbrev IsEarlier : PastRows → PastRows → Type 0
IsEarlier x y = x.process < y.process

no_rows : (x y : PastRows) → IsEarlier x y → rows_if x y ≡ 0
no_rows x y less = grind (arith, nat_tests)

one_row : (x y : PastRows) (xs ys : List PastRows) → (IsEarlier x y → ⊥) → (IsEarlier y x → ⊥)
    → All (IsEarlier x) xs → All (IsEarlier y) ys → rows_for x.process (x ∷ xs) ≡ rows_for x.process (y ∷ ys) → x ≡ y
one_row x y xs ys not_less not_more later others same = λ j. record { process = e j; rows = rows j }
  where
    e : x.process ≡ y.process
    e = one_number x.process y.process not_less not_more

    rows : x.rows ≡ y.rows
    rows =
        let a = sum_by-cons (rows_if x) x xs in let b = sum_by-cons (rows_if y) y ys in
        let c = none_of rows_if IsEarlier no_rows x xs later in let d = none_of rows_if IsEarlier no_rows y ys others in
        let g = own_rows x in let h = own_rows y in let i = ap (λ (q : ℕ). rows_for q (y ∷ ys)) e in
        omega arith

one_past : (m n : List LogRow) (xs ys : List PastRows) → ((q : ℕ) → steps_of q m ≡ steps_of q n) → AreRowsOf m xs
    → AreRowsOf n ys → xs ≡ ys
one_past m n xs ys same are other = same_list rows_if IsEarlier no_rows IsEarlier (λ x y z first second. omega arith)
    one_row xs ys are.sorted other.sorted (some xs are.some) (some ys other.some)
    (λ x. rw (are.each x.process, same x.process, other.each x.process))
  where
    some : (zs : List PastRows) → All (λ z. 0 < z.rows) zs → All (λ z. 0 < rows_if z z) zs
    some zs all k d inside = let a = own_rows (get_or zs k d) in let b = all k d inside in omega arith

-- ---- the places of claims

later_place : (x y z : RowPlace) → IsSooner x y → IsNoLater y z → IsSooner x z
later_place x y z (inl less) next = let a = next.process in inl (omega arith)
later_place x y z (inr (e, less)) next = dite (dec_lt x.process z.process) (λ l. inl l) (λ no.
    let a = next.process in let b = next.row (omega arith) in inr (omega arith, omega arith))

not_there : (x y : RowPlace) → IsSooner x y → one_at x.process x.row y ≡ 0
not_there x y (inl less) = grind (arith, nat_tests)
not_there x y (inr (e, less)) = grind (arith, nat_tests)

one_place : (x y : RowPlace) (xs ys : List RowPlace) → (IsSooner x y → ⊥) → (IsSooner y x → ⊥)
    → All (IsNoLater x) xs → All (IsNoLater y) ys
    → sum_by (one_at x.process x.row) (x ∷ xs) ≡ sum_by (one_at x.process x.row) (y ∷ ys) → x ≡ y
one_place x y xs ys not_less not_more later others same = λ j. record { process = e j; row = row j }
  where
    e : x.process ≡ y.process
    e = one_number x.process y.process (λ l. not_less (inl l)) (λ l. not_more (inl l))

    row : x.row ≡ y.row
    row = one_number x.row y.row (λ l. not_less (inr (e, l))) (λ l. not_more (inr (sym e, l)))

one_order : (log : List LogRow) (xs ys : List RowPlace) → AreClaims log xs → AreClaims log ys → xs ≡ ys
one_order log xs ys are other = same_list (λ x y. one_at x.process x.row y) IsSooner not_there IsNoLater later_place
    one_place xs ys are.sorted other.sorted (here xs) (here ys)
    (λ x. rw (are.once x.process x.row, other.once x.process x.row))
  where
    here : (zs : List RowPlace) → All (λ z. 0 < one_at z.process z.row z) zs
    here zs k d inside = let z = get_or zs k d in let a = count_yes (is_at z.process z.row z) (at_itself z) in omega arith

-- ---- the judgment

module _ (log : List LogRow) (ends : HasEnds log) (w : Bool) where
  one_told : (c d : ClaimVerdict) → claim_place c ≡ claim_place d → IsJudged w log c → IsJudged w log d → told_of c ≡ told_of d
  one_told c d e a b = λ j. (e j, verdict_is j, past_is (w && is_early c.verdict) a.past shown j)
    where
      there : IsJudgedAs w log d.verdict d.past.items (claim_place c)
      there = subst (IsJudgedAs w log d.verdict d.past.items) (sym e) (b.verdict, b.past)

      verdict_is : c.verdict ≡ d.verdict
      verdict_is = one_verdict log ends c.process c.row c.verdict d.verdict a.verdict there.0

      shown : AreShown (w && is_early c.verdict) log c.process c.row d.past.items
      shown = rw verdict_is there.1

      past_is : (b : Bool) → AreShown b log c.process c.row c.past.items → AreShown b log c.process c.row d.past.items
          → c.past.items ≡ d.past.items
      past_is true m n = one_past m.0 n.0 c.past.items d.past.items (same_steps log ends c.process c.row m.0 n.0 m.1 n.1) m.2 n.2
      past_is false m n = m ∙ sym n

  all_told : (xs ys : List ClaimVerdict) → map claim_place xs ≡ map claim_place ys → All (IsJudged w log) xs
      → All (IsJudged w log) ys → map told_of xs ≡ map told_of ys
  all_told [] [] same each more = refl
  all_told [] (y ∷ ys) same each more = absurd (cc same)
  all_told (x ∷ xs) [] same each more = absurd (cc same)
  all_told (x ∷ xs) (y ∷ ys) same each more =
      let first : claim_place x ≡ claim_place y = cc same in
      let others : map claim_place xs ≡ map claim_place ys = cc same in
      let e = one_told x y first (All-head (IsJudged w log) x xs each) (All-head (IsJudged w log) y ys more) in
      let rest = all_told xs ys others (All-tail (IsJudged w log) x xs each) (All-tail (IsJudged w log) y ys more) in
      λ j. e j ∷ rest j

-- ---- the end

module _ (log : List LogRow) where
  abbrev left_at : LogEnd → Verdict
  left_at (end.OnItsWay c k) = verdict.OnItsWay c k
  left_at (end.Active q) = verdict.Active q
  left_at _ = verdict.Right

  left_open : (e : LogEnd) → IsOpenEnd log e → IsLeftAfter log log (left_at e)
  left_open end.Claimed is = absurd is
  left_open end.Missed is = is.0
  left_open end.Unclaimed is = is.0
  left_open (end.OnItsWay c k) is = is
  left_open (end.Active q) is = is

  one_open : (e f : LogEnd) → IsOpenEnd log e → IsOpenEnd log f → left_at e ≡ left_at f → e ≡ f
  one_open end.Claimed f a b same = absurd a
  one_open e end.Claimed a b same = absurd b
  one_open end.Missed end.Missed a b same = refl
  one_open end.Unclaimed end.Unclaimed a b same = refl
  one_open end.Missed end.Unclaimed a b same = let c = a.1 b.1.0 in let d = b.1.1 in absurd (omega arith)
  one_open end.Unclaimed end.Missed a b same = let c = b.1 a.1.0 in let d = a.1.1 in absurd (omega arith)
  one_open _ _ a b same = cc same

  open_end : (e : LogEnd) → IsEnd log e → ((e ≡ end.Claimed) × IsEnd log end.Claimed) ⊎ (NoneRight log × IsOpenEnd log e)
  open_end end.Claimed is = inl (refl, is)
  open_end _ is = inr is

  pub one_end : (e f : LogEnd) → IsEnd log e → IsEnd log f → e ≡ f
  one_end e f a b = elim (open_end e a) as (λ _. e ≡ f) [
    | inl claimed ↦ elim (open_end f b) as (λ _. e ≡ f) [
      | inl other ↦ claimed.0 ∙ sym other.0
      | inr none ↦ absurd (none.0 claimed.1.0 claimed.1.1 claimed.1.2 claimed.1.3)
    ]
    | inr open' ↦ elim (open_end f b) as (λ _. e ≡ f) [
      | inl claimed ↦ absurd (open'.0 claimed.1.0 claimed.1.1 claimed.1.2 claimed.1.3)
      | inr other ↦ one_open e f open'.1 other.1 (one_left log log (left_at e) (left_at f)
          (left_open e open'.1) (left_open f other.1))
    ]
  ]

pub one_judgment : (w : Bool) (log : List LogRow) (one two : JudgedLog) → HasEnds log → IsJudgedLog w log one
    → IsJudgedLog w log two → (map told_of one.claims.items ≡ map told_of two.claims.items) × (one.end ≡ two.end)
one_judgment w log one two ends a b = (
  all_told log ends w one.claims.items two.claims.items
      (one_order log (map claim_place one.claims.items) (map claim_place two.claims.items) a.claims.all b.claims.all)
      a.claims.each b.claims.each,
  one_end log one.end two.end a.end b.end,
)

-- ---- the first early claim

module _ (w : Bool) (log : List LogRow) (ends : HasEnds log) where
  -- the first early claim is not after another one
  not_behind : (c d : ClaimVerdict) → IsFirst w log c → IsFirst w log d → IsSooner (claim_place d) (claim_place c) → ⊥
  not_behind c d first other sooner =
      let right = first.before d.process d.row other.claim sooner in
      let e = one_verdict log ends d.process d.row d.verdict verdict.Right other.judged.verdict right in
      let f = other.early in cc

  one_early : (c d : ClaimVerdict) → IsFirst w log c → IsFirst w log d → claim_place c ≡ claim_place d
  one_early c d first other = λ j. record { process = e j; row = row j }
    where
      e : c.process ≡ d.process
      e = one_number c.process d.process (λ l. not_behind d c other first (inl l)) (λ l. not_behind c d first other (inl l))

      row : c.row ≡ d.row
      row = one_number c.row d.row (λ l. not_behind d c other first (inr (e, l)))
          (λ l. not_behind c d first other (inr (sym e, l)))

  none_early : (c : ClaimVerdict) → IsFirst w log c → IsFirstEarly w log None → ⊥
  none_early c first all =
      let e = one_verdict log ends c.process c.row c.verdict verdict.Right first.judged.verdict
      (all c.process c.row first.claim) in
      let f = first.early in cc

pub one_first : (w : Bool) (log : List LogRow) (one two : Option ClaimVerdict) → HasEnds log → IsFirstEarly w log one
    → IsFirstEarly w log two → option_map told_of one ≡ option_map told_of two
one_first w log None None ends a b = refl
one_first w log None (Some d) ends a b = absurd (none_early w log ends d b a)
one_first w log (Some c) None ends a b = absurd (none_early w log ends c a b)
one_first w log (Some c) (Some d) ends a b =
    ap Some (one_told log ends w c d (one_early w log ends c d a b) a.judged b.judged)
