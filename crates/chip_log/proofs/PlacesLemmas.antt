-- Serves Places.antt, Judge.antt.
-- Claims as they are found, and in order.
use Rattle.chip_log.proofs.Names.{◌≡◌, ℕ, ◌+◌, ◌≤◌, ◌<◌, Bool, true, false, eqb, List, [], ◌∷◌, ◌++◌, length, get_or}
use Rattle.chip_log.proofs.Names.{refl, sym, ap, arith, cond, append-nil, ◌^◌, take, suc, length-append, zero, ◌*◌}
use Rattle.chip_log.proofs.Names.{map, set, length-take, take_more, get_or-map, length-map, map-append}
use Rattle.chip_log.proofs.Names.{take_all, All-push, All-nil, IsPermutation-map, All-permutation}
use Rattle.chip_log.proofs.Names.{sum_by-IsPermutation, sum_by_push, IsNonDecreasingBy, ◌&&◌, Some, All, AllPairs, ◌==◌}
use Rattle.chip_log.proofs.Names.{count_by, slice_get, IsPermutation, IsRight, place_at, ArePlaces, IsKnown, is_over}
use Rattle.chip_log.proofs.Names.{is_over_at, is_claim, RowPlace, is_at, IsNoLater, steps_of, nat_tests, IsPlace}
use Rattle.chip_log.proofs.Names.{AreFound, ClaimPlace, LogRow, Step, Over}
use Rattle.chip_log.proofs.CountLemmas.{steps_of-append}
use Rattle.chip_log.proofs.LoopLemmas.{steps_few}
use Rattle.chip_log.proofs.QueuesLemmas.{set_at}

-- ---- one more step

over_none : (xs : List Step) → is_over_at xs (length xs) ≡ false
over_none [] = refl
over_none (x ∷ xs) = over_none xs

over_next : (xs : List Step) (x : Step) (i : ℕ)
    → is_over_at (xs ++ x ∷ []) i ≡ cond (eqb i (length xs)) (is_over x) (is_over_at xs i)
over_next [] x zero = refl
over_next [] x (suc i) = grind (arith, nat_tests)
over_next (y ∷ xs) x zero = grind (arith, nat_tests)
over_next (y ∷ xs) x (suc i) = let a = over_next xs x i in grind (arith, nat_tests)

-- ---- one more row

abbrev pub one_at : ℕ → ℕ → RowPlace → ℕ
one_at p i x = cond (is_at p i x) 1 0

pub at_itself : (x : RowPlace) → is_at x.process x.row x ≡ true
at_itself x = grind (arith, nat_tests)

pub at_is : (p i : ℕ) (x : RowPlace) → is_at p i x ≡ true → (x.process ≡ p) × (x.row ≡ i)
at_is p i x is = (grind (arith, nat_tests), grind (arith, nat_tests))

count_more : (b over was now : Bool) → now ≡ cond b over was → (b ≡ true → was ≡ false)
    → cond was 1 0 + cond (b && over) 1 0 ≡ cond now 1 0
count_more b over was now is none = grind arith

-- the claims of the first n rows, and how many rows each process has there
pub record AreFoundIn (log : List LogRow) (n : ℕ) (claims : List ClaimPlace) (counts : List ℕ) : Type 0 where
  pub each : All (IsPlace log) claims
  pub few : All (λ claim. claim.row < 2 ^ 32) claims
  pub once : (p i : ℕ) → count_by (is_at p i) (map place_at claims) ≡ cond (is_claim (take n log) p i) 1 0
  pub rows : (q : ℕ) → get_or counts q 0 ≡ length (steps_of q (take n log))

pub found_nothing : (log : List LogRow) (claims : List ClaimPlace) (counts : List ℕ) → claims ≡ []
    → ((q : ℕ) → get_or counts q 0 ≡ 0) → AreFoundIn log 0 claims counts
found_nothing log claims counts none zeros = record {
  each = rw none (All-nil (IsPlace log));
  few = rw none (All-nil (λ (claim : ClaimPlace). claim.row < 2 ^ 32));
  once = λ p i. rw none;
  rows = zeros;
}

pub found_all : (log : List LogRow) (n : ℕ) (claims : List ClaimPlace) (counts : List ℕ) → length log ≤ n
    → AreFoundIn log n claims counts → AreFound log claims
found_all log n claims counts past is = record {
  each = is.each;
  few = is.few;
  once = rw (take_all n log past) at is.once;
}

pub few_rows : (log : List LogRow) (n : ℕ) (claims : List ClaimPlace) (counts : List ℕ) → AreFoundIn log n claims counts
    → n < length log → length log < 2 ^ 32 → (q : ℕ) → get_or counts q 0 + 1 < 2 ^ 32
few_rows log n claims counts was l short q =
    let a = was.rows q in let b = steps_few q (take n log) in let d = length-take n log in omega arith

pub no_over : (step : Step) → (step ≡ Over → ⊥) → is_over step ≡ false
no_over Over differs = absurd (differs refl)
no_over _ differs = refl

module _ (log : List LogRow) (n : ℕ) (d : LogRow) (l : n < length log) (claims : List ClaimPlace) (counts : List ℕ)
    (was : AreFoundIn log n claims counts) where
  abbrev x : LogRow
  x = get_or log n d

  abbrev row : ℕ
  row = get_or counts x.process 0

  more : (q : ℕ) → steps_of q (take (n + 1) log) ≡ steps_of q (take n log) ++ steps_of q (x ∷ [])
  more q = rw (take_more log n d l) (steps_of-append q (take n log) (x ∷ []))

  counted : x.process < length counts → (q : ℕ) → get_or (set counts x.process (row + 1)) q 0
      ≡ length (steps_of q (take (n + 1) log))
  counted within q =
      let a = set_at counts x.process q (row + 1) 0 within in let e = was.rows q in
      rw (more q, length-append) (grind (arith, nat_tests))

  abbrev place : RowPlace
  place = record { process = x.process; row = row }

  place_is : (p i : ℕ) → is_at p i place ≡ true → i ≡ length (steps_of p (take n log))
  place_is p i at = let a = was.rows x.process in grind (arith, nat_tests)

  claim_next : (p i : ℕ)
      → is_claim (take (n + 1) log) p i ≡ cond (is_at p i place) (is_over x.step) (is_claim (take n log) p i)
  claim_next p i = rw (more p) (by (eqb x.process p) refl)
    where
      by : (b : Bool) → eqb x.process p ≡ b → is_over_at (steps_of p (take n log) ++ cond b (x.step ∷ []) []) i
          ≡ cond (b && (row == i)) (is_over x.step) (is_claim (take n log) p i)
      by false other = rw append-nil
      by true own =
          let a = over_next (steps_of p (take n log)) x.step i in
          let b = was.rows x.process in
          grind (arith, nat_tests)

  one_more : (p i : ℕ) → cond (is_claim (take n log) p i) 1 0 + cond (is_at p i place && is_over x.step) 1 0
      ≡ cond (is_claim (take (n + 1) log) p i) 1 0
  one_more p i = count_more (is_at p i place) (is_over x.step) (is_claim (take n log) p i)
      (is_claim (take (n + 1) log) p i) (claim_next p i)
      (λ at. rw (place_is p i at) (over_none (steps_of p (take n log))))

  -- a row that is no claim
  pub found_none : x.process < length counts → is_over x.step ≡ false
      → AreFoundIn log (n + 1) claims (set counts x.process (row + 1))
  found_none within plain = record {
    each = was.each;
    few = was.few;
    once = λ p i. let a = was.once p i in let b = one_more p i in grind (arith, nat_tests);
    rows = counted within;
  }

  -- a claim
  module _ (within : x.process < length counts) (over : x.step ≡ Over) (few : row < 2 ^ 32) where
    abbrev here : ClaimPlace
    here = record { process = x.process; row = row; at = n }

    pub found_one : slice_get log n ≡ Some x → AreFoundIn log (n + 1) (claims ++ here ∷ []) (set counts x.process (row + 1))
    found_one is = record {
      each = All-push (IsPlace log) claims here was.each (record {
        over = rw (← over) is;
        row = sym (was.rows x.process);
      });
      few = All-push (λ (claim : ClaimPlace). claim.row < 2 ^ 32) claims here was.few few;
      once = λ p i.
          let a = map-append place_at claims (here ∷ []) in
          let b = sum_by_push (one_at p i) (map place_at claims) (place_at here) in
          let c = was.once p i in
          let e = one_more p i in
          let f = ap is_over over in
          grind (arith, nat_tests);
      rows = counted within;
    }

-- ---- in order

pub sorted_places : (log : List LogRow) (old new : List ClaimPlace) → AreFound log old → IsPermutation old new
    → IsNonDecreasingBy (λ claim. claim.process * 4294967296 + claim.row) new → ArePlaces log new
sorted_places log old new was moves sorted = record {
  each = All-permutation (IsPlace log) old new moves was.each;
  all = record {
    once = λ p i. rw (sum_by-IsPermutation (one_at p i) (map place_at old) (map place_at new)
        (IsPermutation-map place_at old new moves)) (was.once p i);
    sorted = λ i j d less inside.
        let many : j < length new = (let a = length-map new place_at in omega arith) in
        let first : i < length new = omega arith in
        let e : ClaimPlace = record { process = 0; row = 0; at = 0 } in
        rw (get_or-map place_at new i e d first, get_or-map place_at new j e d many)
        (no_later (get_or new i e) (get_or new j e) (few i e first) (few j e many) (sorted i j e (omega arith) many));
  };
}
  where
    few : All (λ (claim : ClaimPlace). claim.row < 2 ^ 32) new
    few = All-permutation (λ (claim : ClaimPlace). claim.row < 2 ^ 32) old new moves was.few

    no_later : (x y : ClaimPlace) → x.row < 2 ^ 32 → y.row < 2 ^ 32
        → x.process * 4294967296 + x.row ≤ y.process * 4294967296 + y.row → IsNoLater (place_at x) (place_at y)
    no_later x y few_x few_y le = record { process = omega arith; row = λ e. omega arith }

-- ---- the right one before a claim

pub record IsRightBefore (log : List LogRow) (places : List ClaimPlace) (n : ℕ) (earlier : ClaimPlace) : Type 0 where
  pub place : IsPlace log earlier
  pub right : IsRight log earlier.process earlier.row
  pub before : (k : ℕ) (d : ClaimPlace) → n ≤ k → k < length places → IsNoLater (place_at earlier) (place_at (get_or places k d))

pub known : (log : List LogRow) (places : List ClaimPlace) (n : ℕ) (d earlier : ClaimPlace) → n < length places
    → IsRightBefore log places n earlier → IsKnown log (get_or places n d) earlier
known log places n d earlier inside is = record {
  place = is.place;
  right = is.right;
  before = λ same. (is.before n d (omega arith) inside).row same;
}

pub in_order : (places : List ClaimPlace) → AllPairs IsNoLater (map place_at places) → (i j : ℕ) (d : ClaimPlace) → i < j
    → j < length places → IsNoLater (place_at (get_or places i d)) (place_at (get_or places j d))
in_order places sorted i j d less inside =
    let first : i < length places = omega arith in
    rw (get_or-map place_at places i d (place_at d) first, get_or-map place_at places j d (place_at d) inside)
    at (sorted i j (place_at d) less (let a = length-map places place_at in omega arith))
