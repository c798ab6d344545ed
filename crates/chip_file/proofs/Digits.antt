-- Serves GraphFile.antt.
-- A number of digits alone is the integer that they spell.
use Rattle.chip_file.proofs.JsonNames.{◌≡◌, ℕ, ◌+◌, ◌^◌, ◌<◌, ◌≤◌, List, [], ◌∷◌, ◌++◌, length, take, get_or, false, Some}
use Rattle.chip_file.proofs.JsonNames.{refl, sym, ap, ◌∙◌, arith, append-nil, lt-ltb, ne_eqb, pow-le-pow_right, length-take}
use Rattle.chip_file.proofs.JsonNames.{take_all, digits_value-lt, digit_from_value, digit_value, AllDigits, digits_value}
use Rattle.chip_file.proofs.JsonNames.{Parts, digits_of, IsWellFormed, scan-text_of, unsigned, number_of, number_from}
use Rattle.std.proofs.lemmas.Str.{digit_value_digit}

no_minus : (ds rest : List ℕ) → AllDigits 10 ds → 0 < length ds → get_or (ds ++ rest) 0 0 ≡ 45 → ⊥
no_minus [] rest h some e = omega arith
no_minus (d ∷ ds) rest h some e = let digit : digit_value d < 10 = h.0 in let is : d ≡ 45 = e in grind arith

abbrev digits : List ℕ → Parts
digits ds = record {
  whole = ds;
  point = false;
  fraction = [];
  exponent_negative = false;
  exponent = [];
  len = length (ds ++ []);
}

formed : (ds : List ℕ) → AllDigits 10 ds → IsWellFormed (digits ds)
formed ds h = record {
  whole_digits = h;
  fraction_digits = tt;
  exponent_digits = tt;
  no_point = λ _. refl;
  no_exponent = λ _. refl;
  len_is = refl;
}

with_nothing : (ds : List ℕ) → AllDigits 10 ds → 0 < length ds → number_of (ds ++ []) ≡ number_from false (digits ds)
unfolding number_of
with_nothing ds h some = rw (ne_eqb (get_or (ds ++ []) 0 0) 45 (no_minus ds [] h some))
    (ap (number_from false) (scan-text_of (digits ds) (formed ds h)))

pub number_of-digits : (ds : List ℕ) → AllDigits 10 ds → 0 < length ds → digits_value 10 ds < 2 ^ 64
    → number_of ds ≡ Some (unsigned (digits_value 10 ds))
number_of-digits ds h some fits =
    let same : digits_of (digits ds) ≡ digits_value 10 ds = ap (digits_value 10) (append-nil ds) in
    let fewer : digits_of (digits ds) < 2 ^ 64 = rw same fits in
    ap number_of (sym (append-nil ds)) ∙ with_nothing ds h some ∙ rw (lt-ltb _ _ some, lt-ltb _ _ fewer, same) refl

-- what up to 18 digits write leaves room for one more
pub value_fits : (bytes : List ℕ) (i value : ℕ) → AllDigits 10 (take i bytes) → value ≡ digits_value 10 (take i bytes)
    → i < 19 → value < 10 ^ 18
value_fits bytes i value digits is few =
    let below = digits_value-lt 10 (take i bytes) digits in
    let short = length-take i bytes in
    let least = pow-le-pow_right {n = 10} (omega arith) {i = length (take i bytes)} {j = 18} (omega arith) in
    omega arith

-- what a digit writes, by its byte
pub digit_is : (byte : ℕ) → digit_value byte < 10 → (digit_value byte + 48 ≡ byte) × (digit_value byte < 10)
digit_is byte small = (digit_value_digit byte (digit_from_value byte small), small)

-- what few digits write, all of them read
pub integer_read : (text bytes : List ℕ) (i value : ℕ) → bytes ≡ text → 0 < length bytes → length bytes ≤ 19
    → length bytes ≤ i → AllDigits 10 (take i bytes) → value ≡ digits_value 10 (take i bytes)
    → number_of text ≡ Some (unsigned value)
integer_read text bytes i value same some few over digits is =
    let all : take i bytes ≡ bytes = take_all i bytes over in
    let written = rw all at digits in
    let below = digits_value-lt 10 bytes written in
    let least = pow-le-pow_right {n = 10} (omega arith) {i = length bytes} {j = 19} few in
    ap number_of (sym same) ∙ number_of-digits bytes written some (omega arith)
    ∙ ap (λ m. Some (unsigned m)) (sym (is ∙ ap (digits_value 10) all))
