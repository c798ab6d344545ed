-- Serves Numbers.antt.
-- A field as a number.
use Rattle.chip_file.proofs.Names.{◌≡◌, ℕ, ◌+◌, ◌*◌, ◌<◌, ◌≤◌, ◌^◌, zero, suc, Bool, true, false, List, [], ◌∷◌, length}
use Rattle.chip_file.proofs.Names.{take, Option, None, Some, refl, ap, ◌∙◌, arith, get_or, inl, inr, ◌&&◌, digit_value}
use Rattle.chip_file.proofs.Names.{is_ascii_digit, SomeIff, all_ascii_digits, AllDigits, digits_value, pow-le-pow_right}
use Rattle.chip_file.proofs.Names.{take_all, digits_more, digits_value-lt, digits_value_more, IsNumeralModel}
use Rattle.chip_file.proofs.Names.{numerals_by_value, tells_all_ascii_digits, leb_tells, nat_tests, number_of}

pub decimal_numeral : IsNumeralModel (λ field. all_ascii_digits field ≡ true) (digits_value 10)
decimal_numeral = numerals_by_value _ tells_all_ascii_digits

-- too many digits, and something that is no digit
number_of-long : (field : List ℕ) → 20 < length field → number_of field ≡ None
number_of-long field h = grind (arith, nat_tests)

number_of-other : (field : List ℕ) (i : ℕ) → i < length field → is_ascii_digit (get_or field i 0) ≡ false
    → number_of field ≡ None
number_of-other field i below other = let none = not_all field i below other in grind (arith, nat_tests)
  where
    and_false : (b : Bool) → (b && false) ≡ false
    and_false true = refl
    and_false false = refl

    not_all : (field : List ℕ) (i : ℕ) → i < length field → is_ascii_digit (get_or field i 0) ≡ false
        → all_ascii_digits field ≡ false
    not_all [] i below other = absurd (omega arith)
    not_all (c ∷ cs) zero below other = rw other refl
    not_all (c ∷ cs) (suc i) below other = rw (not_all cs i (omega arith) other) (and_false (is_ascii_digit c))

-- the first digits are not all, and no digit ends the most that there may be
pub number_of-none : (field : List ℕ) (count : ℕ) → (count ≤ 19) × (count ≤ length field)
    → (count < 19 → count < length field → is_ascii_digit (get_or field count 0) ≡ false)
    → (count ≡ length field → count ≡ 0) → (length field ≡ 20 → is_ascii_digit (get_or field count 0) ≡ false)
    → number_of field ≡ None
number_of-none [] count few most whole last = refl
number_of-none (c ∷ cs) count few most whole last =
    let below : count < length (c ∷ cs) = grind (arith, few, whole) in
    elim (leb_tells (length (c ∷ cs)) 20) [
      | inl short ↦ number_of-other (c ∷ cs) count below (elim (leb_tells 19 count) [
        | inl all ↦ last (omega (arith, few.0, all.1, short.1))
        | inr fewer ↦ most fewer.1 below
      ])
      | inr long ↦ number_of-long (c ∷ cs) long.1
    ]

-- 1 to 20 digits
number_of-digits : (field : List ℕ) (r : Option ℕ) → 0 < length field → length field ≤ 20 → AllDigits 10 field
    → SomeIff r (digits_value 10 field < 2 ^ 64) (digits_value 10 field)
    → r ≡ number_of field
number_of-digits field None some few digits h =
    let all = decimal_numeral.from field digits in grind (arith, nat_tests)
number_of-digits field (Some n) some few digits h =
    let all = decimal_numeral.from field digits in grind (arith, nat_tests)

-- the first digits are all
pub number_of-few : (field : List ℕ) (count value : ℕ) → 0 < count → count ≤ 19 → count ≡ length field
    → AllDigits 10 (take count field) → value ≡ digits_value 10 (take count field)
    → Some value ≡ number_of field
number_of-few field count value some few all digits is =
    let whole : take count field ≡ field = take_all count field (omega arith) in
    let written : AllDigits 10 field = rw whole at digits in
    let below = digits_value-lt 10 field written in
    let least = pow-le-pow_right {n = 10} (omega arith) {i = length field} {j = 19} (omega arith) in
    number_of-digits field (Some value) (omega arith) (omega arith) written (omega arith, is ∙ ap (digits_value 10) whole)

-- a digit ends the most that there may be
pub number_of-most : (field : List ℕ) (count value : ℕ) (r : Option ℕ) → count ≤ 19
    → (count < 19 → count < length field → is_ascii_digit (get_or field count 0) ≡ false)
    → length field ≡ 20 → is_ascii_digit (get_or field count 0) ≡ true → digit_value (get_or field count 0) < 10
    → AllDigits 10 (take count field) → value ≡ digits_value 10 (take count field)
    → SomeIff r (value * 10 + digit_value (get_or field count 0) < 2 ^ 64) (value * 10 + digit_value (get_or field count 0))
    → r ≡ number_of field
number_of-most field count value r few most long digit small digits is h =
    let all : count ≡ 19 = elim (leb_tells 19 count) [
      | inl all ↦ omega (arith, all.1)
      | inr fewer ↦ absurd (cc (most fewer.1 (omega (arith, fewer.1))))
    ] in
    let whole : take (count + 1) field ≡ field = take_all (count + 1) field (omega arith) in
    let written : AllDigits 10 field = rw whole at (digits_more 10 field count (omega arith) digits small) in
    let more : digits_value 10 field ≡ value * 10 + digit_value (get_or field count 0) =
    rw is (rw whole at (digits_value_more 10 field count (omega arith))) in
    number_of-digits field r (omega arith) (omega arith) written (rw more h)
