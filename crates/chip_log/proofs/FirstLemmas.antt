-- Serves First.antt.
-- The first early claim among all, and the first process without a row.
use Rattle.chip_log.proofs.Names.{◌≡◌, ℕ, ◌+◌, ◌≤◌, ◌<◌, Bool, true, false, List, [], length, get_or, refl, ap, sym, subst}
use Rattle.chip_log.proofs.Names.{◌∷◌, get_or_default, IsLog}
use Rattle.chip_log.proofs.Names.{arith, map, length-map, get_or-map, Any-from_list_any, list_any_at, sum_by-le}
use Rattle.chip_log.proofs.Names.{list_any, Option, Some, None, dite, dec_lt, inl, inr, IsRight, place_at, ArePlaces}
use Rattle.chip_log.proofs.Names.{begins_with, has_row_at, AreBeginners, is_claim, RowPlace, is_at, IsNoLater, is_some}
use Rattle.chip_log.proofs.Names.{IsSooner, IsFirst, IsFirstAbsent, is_early, Judges, first_step}
use Rattle.chip_log.proofs.Names.{steps_of, ClaimPlace, ClaimVerdict, LogRow, Step, Sizes, Active}
use Rattle.chip_log.proofs.MetLemmas.{count_yes}
use Rattle.chip_log.proofs.LeftLemmas.{one_number}
use Rattle.chip_log.proofs.RightLemmas.{place_claim}
use Rattle.chip_log.proofs.PlacesLemmas.{one_at, at_is, in_order}

-- ---- claims among their places

-- the first n claims are right
abbrev pub AreRight : List LogRow → List ClaimPlace → ℕ → Type 0
AreRight log places n = (k : ℕ) (d : ClaimPlace) → k < n → IsRight log (get_or places k d).process (get_or places k d).row

abbrev no_place : RowPlace
no_place = record { process = 0; row = 0 }

module _ (log : List LogRow) (places : List ClaimPlace) (are : ArePlaces log places) where
  -- the place of a claim among the places
  abbrev IsThere : ℕ → ℕ → ℕ → ClaimPlace → Type 0
  IsThere p i k d = (k < length places) × ((get_or places k d).process ≡ p) × ((get_or places k d).row ≡ i)

  is_there : (p i : ℕ) (d : ClaimPlace) → is_claim log p i ≡ true → (k : ℕ) × IsThere p i k d
  is_there p i d is = found (list_any (is_at p i) (map place_at places)) refl
    where
      found : (b : Bool) → list_any (is_at p i) (map place_at places) ≡ b → (k : ℕ) × IsThere p i k d
      found false none =
          let a = are.all.once p i in
          let b = count_yes (is_claim log p i) is in
          let c = sum_by-le (one_at p i) 0 (map place_at places) (λ k e inside.
          let f = list_any_at (is_at p i) (map place_at places) k e inside in grind arith) in
          absurd (omega arith)
      found true some =
          let any = Any-from_list_any (is_at p i) (map place_at places) some in
          let e = length-map places place_at in
          let within : any.0 < length places = (let a = any.2 in omega arith) in
          let here = at_is p i any.1 any.4 in
          let same = get_or-map place_at places any.0 d any.1 within in
          let g = any.3 in
          (any.0, (within, (let h = here.0 in cc), (let h = here.1 in cc)))

  -- a claim before place n, by process and row, is one of the first n
  pub sooner_right : (n : ℕ) (d : ClaimPlace) → n < length places → AreRight log places n → (p i : ℕ)
      → is_claim log p i ≡ true → IsSooner (record { process = p; row = i }) (place_at (get_or places n d)) → IsRight log p i
  sooner_right n d inside right p i is sooner =
      let there = is_there p i d is in
      let k = there.0 in
      dite (dec_lt k n)
      (λ less. rw (there.1.1, there.1.2) at (right k d less))
      (λ no. absurd (behind k there.1.0 (omega arith) there.1.1 there.1.2))
    where
      behind : (k : ℕ) → k < length places → n ≤ k → (get_or places k d).process ≡ p → (get_or places k d).row ≡ i → ⊥
      behind k within le same row = dite (dec_lt n k)
          (λ less. not_both sooner (in_order places are.all.sorted n k d less within))
          (λ no. let e : n ≡ k = omega arith in itself e sooner)
        where
          not_both : IsSooner (record { process = p; row = i }) (place_at (get_or places n d))
              → IsNoLater (place_at (get_or places n d)) (place_at (get_or places k d)) → ⊥
          not_both (inl less) later = let a = later.process in omega arith
          not_both (inr (e, less)) later = let a = later.row (omega arith) in omega arith

          itself : n ≡ k → IsSooner (record { process = p; row = i }) (place_at (get_or places n d)) → ⊥
          itself e (inl less) = let a = rw (← e) at same in omega arith
          itself e (inr (f, less)) = let a = rw (← e) at row in omega arith

  pub all_right : (n : ℕ) → length places ≤ n → AreRight log places n → (p i : ℕ) → is_claim log p i ≡ true → IsRight log p i
  all_right n past right p i is =
      let d : ClaimPlace = record { process = 0; row = 0; at = 0 } in
      let there = is_there p i d is in
      rw (there.1.1, there.1.2) at (right there.0 d (let a = there.1.0 in omega arith))

  -- the first claim that is early
  pub is_first : (w : Bool) (n : ℕ) (d : ClaimPlace) (c : ClaimVerdict) → IsLog log → n < length places
      → Judges w log (get_or places n d) c → is_early c.verdict ≡ true → AreRight log places n → IsFirst w log c
  is_first w n d c is inside judges early right = record {
    claim = subst (λ (x : RowPlace). is_claim log x.process x.row ≡ true) (sym judges.place)
        (place_claim log is (get_or places n d) (are.each n d inside));
    judged = judges.judged;
    early = early;
    before = λ p i claim sooner. sooner_right n d inside right p i claim
        (subst (λ (x : RowPlace). IsSooner (record { process = p; row = i }) x) judges.place sooner);
  }

-- one more right claim
pub right_next : (log : List LogRow) (places : List ClaimPlace) (n : ℕ) (d earlier : ClaimPlace) → n < length places
    → get_or places n d ≡ earlier → IsRight log earlier.process earlier.row → AreRight log places n
    → AreRight log places (n + 1)
right_next log places n d earlier inside is right were k e less = dite (dec_lt k n) (λ l. were k e l)
    (λ no. let same : k ≡ n = omega arith in rw (same, get_or_default places n e d inside, is) right)

-- ---- processes without a row

begins_some : (begins : Option Bool) (steps : List Step) → is_some begins ≡ true → is_some (begins_with begins steps) ≡ true
begins_some None steps some = absurd (cc some)
begins_some (Some begins) [] some = refl
begins_some (Some begins) (step ∷ steps) some = begins_some (Some begins) steps refl

first_some : (step : Step) → is_some (first_step None step) ≡ true
first_some Active = refl
first_some _ = refl

row_begins : (step : Step) (steps : List Step) → is_some (begins_with None (step ∷ steps)) ≡ true
row_begins step steps = begins_some (first_step None step) steps (first_some step)

no_row_is : (steps : List Step) → is_some (begins_with None steps) ≡ false → steps ≡ []
no_row_is [] is = refl
no_row_is (step ∷ steps) is = absurd (let a = row_begins step steps in cc)

row_is : (steps : List Step) → is_some (begins_with None steps) ≡ true → 0 < length steps
row_is [] is = absurd (cc is)
row_is (step ∷ steps) is = omega arith

module _ (sizes : Sizes) (log : List LogRow) (beginners : List (Option Bool)) (are : AreBeginners sizes log beginners) where
  pub has_row : (p : ℕ) → has_row_at beginners p ≡ true → 0 < length (steps_of p log)
  has_row p is = row_is (steps_of p log) (rw (are.begins p) at is)

  pub has_none : (p : ℕ) → has_row_at beginners p ≡ false → steps_of p log ≡ []
  has_none p is = no_row_is (steps_of p log) (rw (are.begins p) at is)

pub one_absent : (log other : List LogRow) (n : ℕ) (one two : Option ℕ) → ((p : ℕ) → steps_of p log ≡ steps_of p other)
    → IsFirstAbsent log n one → IsFirstAbsent other n two → one ≡ two
one_absent log other n None None same a b = refl
one_absent log other n None (Some q) same a b =
    absurd (let c = rw (same q, b.1) at (a q b.0) in omega arith)
one_absent log other n (Some p) None same a b =
    absurd (let c = rw (← same p, a.1) at (b p a.0) in omega arith)
one_absent log other n (Some p) (Some q) same a b = ap Some (one_number p q
    (λ less. let c = rw (← same p, a.1) at (b.2 p less) in omega arith)
    (λ less. let c = rw (same q, b.1) at (a.2 q less) in omega arith))
