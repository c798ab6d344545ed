-- Serves Judged.antt, Judge.antt.
-- Right claims among all.
use Rattle.chip_log.proofs.Names.{◌≡◌, ℕ, ◌+◌, ◌≤◌, ◌<◌, Bool, true, false, List, [], ◌∷◌, ◌++◌, length, get_or, refl}
use Rattle.chip_log.proofs.Names.{sym, subst, arith, append-nil, append_assoc, take, drop, suc, zero, map}
use Rattle.chip_log.proofs.Names.{take_more, get_or-map, length-map, map-append, take_all, get_or_default, All-map}
use Rattle.chip_log.proofs.Names.{Any-from_list_any, list_any_at, sum_by-le, get_or-le-sum_by, list_any, ◌&&◌, not, All}
use Rattle.chip_log.proofs.Names.{dite, ℕ_discrete, dec_lt, IsVerdict, IsQuiescentAfter, IsRight, place_at, ArePlaces}
use Rattle.chip_log.proofs.Names.{IsKnown}
use Rattle.chip_log.proofs.Names.{Judges, IsOpenEnd, is_over, is_over_at, is_claim, RowPlace, is_at}
use Rattle.chip_log.proofs.Names.{is_early, IsJudged, NoneRight, IsEnd, claim_place, AreJudged, AreShown}
use Rattle.chip_log.proofs.Names.{steps_of, HasEnds, IsInterleaving, IsLog, IsPlace, ClaimVerdict, LogEnd, PastRows}
use Rattle.chip_log.proofs.Names.{ClaimPlace, LogRow, Step, Over, Verdict}
use Rattle.chip_log.proofs.CountLemmas.{steps_of-append, steps_own, steps_other}
use Rattle.chip_log.proofs.MetLemmas.{count_yes}
use Rattle.chip_log.proofs.PastLemmas.{rest_of}
use Rattle.chip_log.proofs.VerdictLemmas.{one_verdict}
use Rattle.chip_log.proofs.LoopLemmas.{at_place}
use Rattle.chip_log.proofs.PlacesLemmas.{one_at, at_itself, at_is, IsRightBefore, known, in_order}
use Rattle.chip_log.specs.declared.verdict.Verdict.TheVariants as verdict
use Rattle.chip_log.specs.declared.judged.LogEnd.TheVariants as end

-- ---- after a right claim each claim of its process is right

over_is : (step : Step) → is_over step ≡ true → step ≡ Over
over_is step is = grind arith

over_first : (xs ys : List Step) (i : ℕ) → i < length xs → is_over_at (xs ++ ys) i ≡ is_over_at xs i
over_first [] ys i less = absurd (omega arith)
over_first (x ∷ xs) ys zero less = refl
over_first (x ∷ xs) ys (suc i) less = over_first xs ys i (omega arith)

-- a list with a claim, and the number of rows of its process before it
abbrev pub HasOver : ℕ → List LogRow → ℕ → Type 0
HasOver p xs i = (before : List LogRow) × (after : List LogRow) × (xs ≡ before ++ record { process = p; step = Over } ∷ after)
    × (length (steps_of p before) ≡ i)

own_over : (p : ℕ) (x : LogRow) (xs : List LogRow) → x.process ≡ p
    → ((j : ℕ) → is_over_at (steps_of p xs) j ≡ true → HasOver p xs j)
    → (i : ℕ) → is_over_at (x.step ∷ steps_of p xs) i ≡ true → HasOver p (x ∷ xs) i
own_over p x xs e later zero over = ([], xs, (λ k. record { process = e k; step = over_is x.step over k } ∷ xs), refl)
own_over p x xs e later (suc i) over =
    let found = later i over in (
      x ∷ found.0,
      found.1,
      λ k. x ∷ found.2 k,
      rw (steps_own p x found.0 e) (omega (arith, found.3)),
    )

pub find_over : (p : ℕ) (xs : List LogRow) (i : ℕ) → is_over_at (steps_of p xs) i ≡ true → HasOver p xs i
find_over p [] i is = absurd (cc is)
find_over p (x ∷ xs) i is = dite (ℕ_discrete x.process p)
    (λ e. own_over p x xs e (λ j over. find_over p xs j over) i
    (rw (steps_own p x xs e) at is))
    (λ ne.
    let found = find_over p xs i (rw (steps_other p x xs ne) at is) in
    (x ∷ found.0, found.1, λ k. x ∷ found.2 k, rw (steps_other p x found.0 ne) found.3))

module _ (log : List LogRow) (ends : HasEnds log) (p i j : ℕ) (is : is_claim log p i ≡ true) (less : i < j)
    (right : IsRight log p i) where
  abbrev claim : LogRow
  claim = record { process = p; step = Over }

  quiescent_later : (before between after : List LogRow) → length (steps_of p before) ≡ j
      → IsInterleaving log ((before ++ between) ++ after) → IsQuiescentAfter log (before ++ between)
  quiescent_later before between after place whole =
      rw all (right.later found.0 (found.1 ++ between) after (rw all at whole) found.3)
    where
      rest : steps_of p before ++ steps_of p (between ++ after) ≡ steps_of p log
      rest = rest_of log ends before (between ++ after) (rw append_assoc at whole) p

      here : is_over_at (steps_of p before) i ≡ true
      here = rw (← over_first (steps_of p before) (steps_of p (between ++ after)) i (omega arith), rest) is

      found : HasOver p before i
      found = find_over p before i here

      all : before ++ between ≡ found.0 ++ claim ∷ (found.1 ++ between)
      all = let a = found.2 in let b = append_assoc found.0 (claim ∷ found.1) between in cc

  pub right_stays : IsRight log p j
  right_stays = record {
    at = λ before here. rw append-nil at
        (quiescent_later before [] (claim ∷ here.after) here.place (rw append-nil here.whole));
    later = λ before between after whole place. quiescent_later before (claim ∷ between) after place whole;
  }

pub over_at : (xs ys : List Step) → is_over_at (xs ++ Over ∷ ys) (length xs) ≡ true
over_at [] ys = refl
over_at (x ∷ xs) ys = over_at xs ys

-- a claim at a place is one
pub place_claim : (log : List LogRow) → IsLog log → (claim : ClaimPlace) → IsPlace log claim
    → is_claim log claim.process claim.row ≡ true
place_claim log is claim place =
    let row : LogRow = record { process = claim.process; step = Over } in
    let a = at_place log is claim place in
    let b = steps_of-append claim.process (take claim.at log) (row ∷ drop (claim.at + 1) log) in
    let c = steps_own claim.process row (drop (claim.at + 1) log) refl in
    let d = over_at (steps_of claim.process (take claim.at log)) (steps_of claim.process (drop (claim.at + 1) log)) in
    let e = place.row in cc

pub right_known : (log : List LogRow) → IsLog log → (claim earlier : ClaimPlace) → IsKnown log claim earlier
    → earlier.process ≡ claim.process → IsRight log claim.process claim.row
right_known log is claim earlier known same = rw (← same) (dite (dec_lt earlier.row claim.row)
    (λ less. right_stays log is.ends earlier.process earlier.row claim.row (place_claim log is earlier known.place) less
    known.right)
    (λ no. let e : earlier.row ≡ claim.row = omega (arith, known.before same) in rw e at known.right))

-- ---- whether a claim is right

early_is : (v : Verdict) → is_early v ≡ false → v ≡ verdict.Right
early_is v is = grind arith

module _ (log : List LogRow) (ends : HasEnds log) (w : Bool) where
  abbrev is_right : ClaimVerdict → Bool
  is_right claim = not (is_early claim.verdict)

  -- a right claim has no other verdict
  right_here : (c : ClaimVerdict) → IsJudged w log c → (p i : ℕ) → IsRight log p i → is_at p i (claim_place c) ≡ true
      → is_early c.verdict ≡ false
  right_here c judged p i right at =
      let place = at_is p i (claim_place c) at in
      rw (one_verdict log ends p i c.verdict verdict.Right (rw (place.0, place.1) at judged.verdict) right)

  pub none_right : (claims : List ClaimVerdict) → AreJudged w log claims → list_any is_right claims ≡ false → NoneRight log
  none_right claims judged none p i is right =
      let a = judged.all.once p i in
      let b = sum_by-le (one_at p i) 0 (map claim_place claims) (All-map (λ x. one_at p i x ≤ 0) claim_place claims (λ k d inside.
      let e = right_here (get_or claims k d) (judged.each k d inside) p i right in
      let f = list_any_at is_right claims k d inside in
      grind arith)) in
      let d = count_yes (is_claim log p i) is in
      absurd (omega arith)

  -- a claim that was judged is one
  is_one : (claims : List ClaimVerdict) → AreJudged w log claims → (c : ClaimVerdict) (k : ℕ) → k < length claims
      → get_or claims k c ≡ c → is_claim log c.process c.row ≡ true
  is_one claims judged c k inside here =
      let a = get_or-le-sum_by (one_at c.process c.row) (map claim_place claims) k (claim_place c)
      (let e = length-map claims claim_place in omega arith) in
      let b = get_or-map claim_place claims k c (claim_place c) inside in
      let e = count_yes (is_at c.process c.row (claim_place c)) (at_itself (claim_place c)) in
      let f = judged.all.once c.process c.row in
      grind arith

  pub one_right : (claims : List ClaimVerdict) → AreJudged w log claims → list_any is_right claims ≡ true
      → IsEnd log end.Claimed
  one_right claims judged some =
      let found = Any-from_list_any is_right claims some in
      let c = found.1 in
      let right = found.4 in (
        c.process,
        c.row,
        is_one claims judged c found.0 found.2 found.3,
        rw (early_is c.verdict (grind arith)) at (rw found.3 at (judged.each found.0 c found.2)).verdict,
      )

pub open_is_end : (log : List LogRow) (e : LogEnd) → NoneRight log → IsOpenEnd log e → IsEnd log e
open_is_end log end.Claimed none is = absurd is
open_is_end log _ none is = (none, is)

-- ---- the judgment of a claim at a place

abbrev pub IsJudgedAs : Bool → List LogRow → Verdict → List PastRows → RowPlace → Type 0
IsJudgedAs w log v past x = IsVerdict log x.process x.row v × AreShown (w && is_early v) log x.process x.row past

pub judges : (w : Bool) (log : List LogRow) (place : ClaimPlace) (c : ClaimVerdict) → claim_place c ≡ place_at place
    → IsJudgedAs w log c.verdict c.past.items (place_at place) → Judges w log place c
judges w log place c same is = let here = subst (IsJudgedAs w log c.verdict c.past.items) (sym same) is in
    record { place = same; judged = record { verdict = here.0; past = here.1 } }

pub none_shown : (w : Bool) (log : List LogRow) (p i : ℕ) (past : List PastRows) → past ≡ []
    → AreShown (w && false) log p i past
none_shown true log p i past none = none
none_shown false log p i past none = none

-- ---- one more claim is judged

module _ (w : Bool) (log : List LogRow) (places : List ClaimPlace) (n : ℕ) (d : ClaimPlace) (inside : n < length places)
    (claims : List ClaimVerdict) (claim : ClaimVerdict) (judges : Judges w log (get_or places n d) claim) where
  pub one_judged : map claim_place claims ≡ map place_at (take n places)
      → map claim_place (claims ++ claim ∷ []) ≡ map place_at (take (n + 1) places)
  one_judged same = rw (take_more places n d inside) (simp map-append (λ k. same k ++ judges.place k ∷ []))

  pub right_now : ArePlaces log places → is_early claim.verdict ≡ false → (earlier : ClaimPlace) → get_or places n d ≡ earlier
      → IsRightBefore log places (n + 1) earlier
  right_now are early earlier is = rw (← is) (record {
    place = are.each n d inside;
    right = subst (λ (x : RowPlace). IsRight log x.process x.row) judges.place
        (rw (early_is claim.verdict early) at judges.judged.verdict);
    before = λ k e less within.
        rw (get_or_default places n e d inside) at (in_order places are.all.sorted n k e (omega arith) within);
  })

pub right_more : (log : List LogRow) (places : List ClaimPlace) (n : ℕ) (earlier : ClaimPlace)
    → IsRightBefore log places n earlier → IsRightBefore log places (n + 1) earlier
right_more log places n earlier is = record {
  place = is.place;
  right = is.right;
  before = λ k d less. is.before k d (omega arith);
}

pub all_judged : (w : Bool) (log : List LogRow) (places : List ClaimPlace) (n : ℕ) (claims : List ClaimVerdict)
    → ArePlaces log places → length places ≤ n → map claim_place claims ≡ map place_at (take n places)
    → All (IsJudged w log) claims → AreJudged w log claims
all_judged w log places n claims are past same each =
    record { all = rw (same, take_all n places past) are.all; each = each }
