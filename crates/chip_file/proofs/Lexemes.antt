-- Serves JsonPlain.antt.
-- What bytes are as lexemes.
use Rattle.chip_file.proofs.JsonNames.{◌≡◌, ◌≢◌, ℕ, ◌+◌, ◌<◌, ◌≤◌, Bool, true, false, cond, ◌==◌, List, [], ◌∷◌, ◌++◌}
use Rattle.chip_file.proofs.JsonNames.{length, take, drop, get_or, Some, length-drop, refl, sym, ap, ◌∙◌, arith, eqb-true}
use Rattle.chip_file.proofs.JsonNames.{le-leb, pow-le-pow_right, digits_value-lt, drop_more, take-append-drop, length-take}
use Rattle.chip_file.proofs.JsonNames.{drop_all, drop-drop, get_or-take, nat_tests, is_ascii_digit, digit_value, prefix_len}
use Rattle.chip_file.proofs.JsonNames.{AllDigits, digits_value, token, class, operator, space, operator_lexeme, lex}
use Rattle.chip_file.proofs.JsonNames.{lex_byte, between, is_space, ends_word, after_number, after_digits, IsNumber}
use Rattle.chip_file.proofs.JsonNames.{lex-number, unsigned, IsOperator, lexemes_at, IsNumberAt}
use Rattle.std.proofs.lemmas.Bool.{ne_eqb}
use Rattle.json.specs.Token.{number}
use Rattle.chip_file.proofs.Digits.{number_of-digits, digit_is}

-- ---- a blank

blank_class : (x : ℕ) → is_space x ≡ true → class x ≡ space
blank_class x e = grind (arith, nat_tests)

lex-blank : (x : ℕ) (xs : List ℕ) → class x ≡ space → lex between (x ∷ xs) ≡ lex between xs
unfolding lex
lex-blank x xs e = ap (λ c. lex_byte between c x xs (λ m. lex m xs)) e

pub blank_skipped : (text : List ℕ) (at : ℕ) → at < length text → is_space (get_or text at 0) ≡ true
    → lexemes_at text (at + 1) ≡ lexemes_at text at
blank_skipped text at h e = sym (ap (lex between) (drop_more text at 0 h)
    ∙ lex-blank (get_or text at 0) (drop (at + 1) text) (blank_class (get_or text at 0) e))

-- ---- an operator

lex-operator : (x : ℕ) (xs : List ℕ) → class x ≡ operator → lex between (x ∷ xs) ≡ operator_lexeme x ∷ lex between xs
unfolding lex
lex-operator x xs e = ap (λ c. lex_byte between c x xs (λ m. lex m xs)) e

pub operator_at : (text : List ℕ) (at byte : ℕ) → at < length text → get_or text at 0 ≡ byte → IsOperator byte
    → lexemes_at text at ≡ operator_lexeme byte ∷ lexemes_at text (at + 1)
operator_at text at byte h is (k, o) = ap (lex between) (drop_more text at 0 h)
    ∙ ap (λ x. lex between (x ∷ drop (at + 1) text)) is
    ∙ lex-operator byte (drop (at + 1) text) k

-- ---- a number

digit_is_ascii : (d : ℕ) → digit_value d < 10 → is_ascii_digit d ≡ true
digit_is_ascii d small =
    let is = digit_is d small in
    rw (le-leb 48 d (omega arith), le-leb d 57 (omega arith)) refl

digit_run : (ds : List ℕ) → AllDigits 10 ds → prefix_len is_ascii_digit ds ≡ length ds
digit_run [] h = refl
digit_run (d ∷ ds) (small, more) =
    rw (digit_is_ascii d small) (let run = digit_run ds more in omega arith)

no_sign : (d : ℕ) → digit_value d < 10 → (d == 45) ≡ false
no_sign d small = ne_eqb d 45 (λ e. let is = digit_is d small in omega arith)

all_digits : (ds : List ℕ) → AllDigits 10 ds → 0 < length ds → after_digits ds ≡ Some []
all_digits ds h some =
    rw (digit_run ds h, ne_eqb (length ds) 0 (λ e. omega arith)) (ap Some (drop_all (length ds) ds (omega arith)))

whole_by : (b : Bool) (d : ℕ) (ds : List ℕ) → (d == 48) ≡ b → AllDigits 10 (d ∷ ds)
    → (1 < length (d ∷ ds) → d ≢ 48) → cond b (Some ds) (after_digits (d ∷ ds)) ≡ Some []
whole_by true d [] e h first = refl
whole_by true d (x ∷ ds) e h first = absurd (first (omega arith) (eqb-true d 48 e))
whole_by false d ds e h first = all_digits (d ∷ ds) h (omega arith)

is_number : (ds : List ℕ) → AllDigits 10 ds → 0 < length ds → ((1 < length ds) → get_or ds 0 0 ≢ 48)
    → IsNumber ds
unfolding after_number
is_number [] h some first = let never : ⊥ = omega arith in absurd never
is_number (d ∷ ds) h some first =
    rw (no_sign d h.0) (rw (whole_by (d == 48) d ds refl h first) refl)

behind : (t : List ℕ) (count end : ℕ) → count < length t → get_or t count 0 ≡ end
    → t ≡ take count t ++ end ∷ drop (count + 1) t
behind t count end more is = sym (take-append-drop count t)
    ∙ ap (λ r. take count t ++ r) (drop_more t count 0 more ∙ ap (λ x. x ∷ drop (count + 1) t) is)

number_lexeme : (t : List ℕ) (count end : ℕ) → IsNumber (take count t) → count < length t
    → get_or t count 0 ≡ end → IsOperator end
    → lex between t ≡ token (number (take count t)) ∷ operator_lexeme end ∷ lex between (drop (count + 1) t)
number_lexeme t count end h more is (k, o) =
    let r = drop (count + 1) t in
    let ended : ends_word (end ∷ r) ≡ true = rw o refl in
    ap (lex between) (behind t count end more is) ∙ lex-number (take count t) (end ∷ r) h ended
    ∙ ap (λ l. token (number (take count t)) ∷ l) (lex-operator end r k)

pub number_at : (text t : List ℕ) (from start count n end : ℕ) → t ≡ drop start text
    → lexemes_at text start ≡ lexemes_at text from → from ≤ start → start ≤ length text
    → AllDigits 10 (take count t) → n ≡ digits_value 10 (take count t)
    → 0 < count → count ≤ 19 → count < length t → get_or t count 0 ≡ end
    → IsOperator end → ((1 < count) → get_or t 0 0 ≢ 48)
    → IsNumberAt text from end n (start + count + 1)
number_at text t from start count n end rest same after inside digits is some few more ends op first =
    let ds = take count t in
    let size : length ds ≡ count = omega (arith, length-take count t) in
    let long : length t + start ≡ length text = omega (arith, ap length rest, length-drop start text) in
    let below = digits_value-lt 10 ds digits in
    let least = pow-le-pow_right {n = 10} (omega arith) {i = length ds} {j = 19} (omega arith) in
    let place : start + (count + 1) ≡ start + count + 1 = omega arith in
    let on : drop (count + 1) t ≡ drop (start + count + 1) text =
    ap (drop (count + 1)) rest ∙ drop-drop (count + 1) start text
    ∙ ap (λ k. drop k text) place in
    let formed = is_number ds digits (omega arith) (λ h. rw (get_or-take count t 0 0 some) (first (omega arith))) in
    record {
      digits = ds;
      written = number_of-digits ds digits (omega arith) (omega arith) ∙ ap (λ m. Some (unsigned m)) (sym is);
      read = sym same ∙ ap (lex between) (sym rest) ∙ number_lexeme t count end formed more ends op
          ∙ ap (λ l. token (number ds) ∷ operator_lexeme end ∷ lex between l) on;
      on = (omega arith, omega arith);
    }
