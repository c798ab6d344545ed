-- Serves ReportLists.antt.
-- The lists of numbers in a text that is made of parts, each a prefix and a list in brackets.
use Rattle.chip_report.proofs.Names.{◌≡◌, ◌≢◌, ℕ, zero, suc, ◌+◌, ◌^◌, ◌<◌, ◌≤◌, Bool, true, false, ◌&&◌, not, nat_lt}
use Rattle.chip_report.proofs.Names.{eqb, List, [], ◌∷◌, ◌++◌, length, map, take, drop, get_or, codes, Option, None}
use Rattle.chip_report.proofs.Names.{Some, Vec, Global, Result, Ok, Err, inl, inr, refl, ap, ◌∙◌, arith, append_assoc}
use Rattle.chip_report.proofs.Names.{length-append, ◌⊎◌, All, IsAscii, MatchOption, ok_or, IsInRange, AllByRecursion}
use Rattle.chip_report.proofs.Names.{before_first, after_first, position_or_len, slice_split, join_with_byte, result_ok}
use Rattle.chip_report.proofs.Names.{AllDigits, digits_value, ParsesUnsigned, Bor, drop-append-add, and_parts, eq-eqb}
use Rattle.chip_report.proofs.Names.{ne_eqb, nat_tests, take_at, get_or_at, get_or_append_left, get_or-map, map-append}
use Rattle.chip_report.proofs.Names.{length-map, All-nil, All-cons, All-append, All-from_get_or, slice_split_none}
use Rattle.chip_report.proofs.Names.{slice_split_at, position_or_len_is, IsAscii-append, IsAscii-nil, IsAscii-cons}
use Rattle.chip_report.proofs.Names.{comma, array_text, GivesReport, opening_bracket, closing_bracket, first_list}
use Rattle.chip_report.proofs.Names.{text_after_list, text_after_lists, spelled_number, numbers_spelled, list_at}
use Rattle.chip_report.proofs.Names.{AreReportNumbers, IsNoNumber, IsNoList, HasNoList, ReportFault}
use Rattle.std.proofs.Common.{decimal}
use Rattle.std.proofs.lemmas.Fmt.{decimal_is_IsNumeral, decimal_nonempty, digits_decimal, parse-decimal}
use Rattle.std.proofs.lemmas.Fmt.{IsAscii-decimal}
use Rattle.std.proofs.lemmas.Str.Parse.{IsNumeralModel, numerals_by_value, tells_digits, not_in_digits}
use Rattle.std.proofs.lemmas.Str.Parse.{without_leading_plus_none}
use Rattle.chip_report.specs.declared.fault.ReportFault.TheVariants as fault

-- ---- what ends at a byte

position-cut : (c : ℕ) (xs ys : List ℕ) → All (λ b. b ≢ c) xs
    → position_or_len (λ b. eqb b c) (xs ++ (c ∷ ys)) ≡ length xs
position-cut c xs ys none =
    position_or_len_is (λ b. eqb b c) (xs ++ (c ∷ ys)) (length xs) 0
    (omega (arith, length-append xs (c ∷ ys)))
    (λ k l. ap (λ b. eqb b c) (get_or_append_left xs (c ∷ ys) 0 k l) ∙ ne_eqb _ _ (none k 0 l))
    (λ _. ap (λ b. eqb b c) (get_or_at xs c ys 0 (length xs) refl) ∙ eq-eqb c c refl)

before-cut : (c : ℕ) (xs ys : List ℕ) → All (λ b. b ≢ c) xs → before_first (λ b. eqb b c) (xs ++ (c ∷ ys)) ≡ xs
before-cut c xs ys none = ap (λ n. take n (xs ++ (c ∷ ys))) (position-cut c xs ys none) ∙ take_at xs (c ∷ ys) _ refl

after-cut : (c : ℕ) (xs ys : List ℕ) → All (λ b. b ≢ c) xs → after_first (λ b. eqb b c) (xs ++ (c ∷ ys)) ≡ ys
after-cut c xs ys none = ap (λ n. drop (n + 1) (xs ++ (c ∷ ys))) (position-cut c xs ys none)
    ∙ drop-append-add xs (c ∷ ys) 1

-- ---- a number

own : IsNumeralModel (AllDigits 10) (digits_value 10)
own = numerals_by_value (AllDigits 10) tells_digits

-- what is no digit is not in a number
no_digit : (n c : ℕ) → n < 2 ^ 64 → (IsInRange 48 57 c → ⊥) → All (λ b. b ≢ c) (decimal n)
no_digit n c fits other = All-from_get_or (λ b. b ≢ c) (decimal n) 0
    (not_in_digits own (decimal n) c (digits_decimal own n fits) other)

spelled_number-decimal : (n : ℕ) → n < 2 ^ 64 → spelled_number (decimal n) ≡ n
spelled_number-decimal n fits =
    ap (digits_value 10)
    (without_leading_plus_none (decimal n)
    (no_digit n 43 fits (λ r. absurd (omega (arith, r))) 0 0 (decimal_nonempty n fits)))
    ∙ (decimal_is_IsNumeral n fits).1

-- ---- a list

abbrev pub AreShort : List ℕ → Type 0
AreShort = All (λ n. n < 2 ^ 64)

head_fits : (n : ℕ) (ns : List ℕ) → AreShort (n ∷ ns) → n < 2 ^ 64
head_fits n ns fit = fit 0 0 (omega arith)

tail_fits : (n : ℕ) (ns : List ℕ) → AreShort (n ∷ ns) → AreShort ns
tail_fits n ns fit = λ k d l. fit (suc k) d (omega arith)

abbrev pub joined : List ℕ → List ℕ
joined numbers = join_with_byte comma (map decimal numbers)

no_closing_in : (n : ℕ) → n < 2 ^ 64 → All (λ b. b ≢ closing_bracket) (decimal n)
no_closing_in n fits =
    no_digit n closing_bracket fits (λ r. absurd (omega (arith, r)))

no_closing : (ns : List ℕ) → AreShort ns → All (λ b. b ≢ closing_bracket) (joined ns)
no_closing [] fit = All-nil (λ b. b ≢ closing_bracket)
no_closing (n ∷ []) fit = no_closing_in n (head_fits n [] fit)
no_closing (n ∷ m ∷ ms) fit =
    All-append (λ b. b ≢ closing_bracket) (decimal n) (comma ∷ joined (m ∷ ms))
    (no_closing_in n (head_fits n (m ∷ ms) fit))
    (All-cons (λ b. b ≢ closing_bracket) comma (joined (m ∷ ms)) (λ e. absurd (omega (arith, e)))
    (no_closing (m ∷ ms) (tail_fits n (m ∷ ms) fit)))

no_comma : (n : ℕ) → n < 2 ^ 64 → All (λ b. eqb b comma ≡ false) (decimal n)
no_comma n fits = λ k d l. ne_eqb _ comma (no_digit n comma fits (λ r. absurd (omega (arith, r))) k d l)

pieces-joined : (n : ℕ) (ns : List ℕ) → AreShort (n ∷ ns)
    → slice_split (λ b. eqb b comma) (joined (n ∷ ns)) ≡ map decimal (n ∷ ns)
pieces-joined n [] fit = slice_split_none (λ b. eqb b comma) (decimal n) (no_comma n (head_fits n [] fit))
pieces-joined n (m ∷ ms) fit =
    slice_split_at (λ b. eqb b comma) (decimal n) comma (joined (m ∷ ms)) (no_comma n (head_fits n (m ∷ ms) fit)) refl
    ∙ ap (λ (more : List (List ℕ)). decimal n ∷ more) (pieces-joined m ms (tail_fits n (m ∷ ms) fit))

numbers-decimals : (ns : List ℕ) → AreShort ns → map spelled_number (map decimal ns) ≡ ns
numbers-decimals [] fit = refl
numbers-decimals (n ∷ ns) fit =
    ap (λ (m : ℕ). m ∷ map spelled_number (map decimal ns)) (spelled_number-decimal n (head_fits n ns fit))
    ∙ ap (λ (more : List ℕ). n ∷ more) (numbers-decimals ns (tail_fits n ns fit))

numbers_of-some : (list : List ℕ) → 0 < length list
    → numbers_spelled list ≡ map spelled_number (slice_split (λ b. eqb b comma) list)
numbers_of-some [] some = absurd (omega arith)
numbers_of-some (b ∷ bs) some = refl

joined-some : (n : ℕ) (ns : List ℕ) → n < 2 ^ 64 → 0 < length (joined (n ∷ ns))
joined-some n [] fits = decimal_nonempty n fits
joined-some n (m ∷ ms) fits =
    let some = decimal_nonempty n fits in omega (arith, length-append (decimal n) (comma ∷ joined (m ∷ ms)))

numbers_of-joined : (ns : List ℕ) → AreShort ns → numbers_spelled (joined ns) ≡ ns
numbers_of-joined [] fit = refl
numbers_of-joined (n ∷ ns) fit =
    numbers_of-some (joined (n ∷ ns)) (joined-some n ns (head_fits n ns fit))
    ∙ ap (map spelled_number) (pieces-joined n ns fit)
    ∙ numbers-decimals (n ∷ ns) fit

-- ---- the pieces of a list, as a program takes them

abbrev pub pieces : List ℕ → List (List ℕ)
pieces list = slice_split (λ b. eqb b comma) list

-- the pieces that references show
abbrev pub shown : List (Bor (List ℕ)) → List (List ℕ)
shown xs = map (λ (x : Bor (List ℕ)). x.now) xs

pieces_of_some : (list ns : List ℕ) → 0 < length list → AreShort ns → list ≡ joined ns → pieces list ≡ map decimal ns
pieces_of_some list [] some fit e = absurd (omega (arith, ap length e))
pieces_of_some list (n ∷ ns) some fit e = ap pieces e ∙ pieces-joined n ns fit

pub none_of_many : (most : ℕ) (list : List ℕ) (i : ℕ) → 0 < length list → i < length (pieces list) → most ≤ i
    → IsNoList most list
none_of_many most list i some within high ns listed e =
    let same = ap length (pieces_of_some list ns some listed.1 e) in
    absurd (omega (arith, listed.0, length-map ns decimal))

pub none_with : (most : ℕ) (list piece : List ℕ) (i : ℕ) → 0 < length list → i < length (pieces list)
    → piece ≡ get_or (pieces list) i piece → IsNoNumber piece → IsNoList most list
none_with most list piece i some within at none ns listed e =
    let same : pieces list ≡ map decimal ns = pieces_of_some list ns some listed.1 e in
    let below : i < length ns = omega (arith, ap length same, length-map ns decimal) in
    none (get_or ns i 0) (listed.1 i 0 below) (let of = get_or-map decimal ns i 0 piece below in cc)

pub number_more : (xs : List (Bor (List ℕ))) (x : Bor (List ℕ)) (numbers : List ℕ) (n : ℕ)
    → numbers ≡ map spelled_number (shown xs) → n ≡ spelled_number x.now
    → numbers ++ n ∷ [] ≡ map spelled_number (shown (xs ++ x ∷ []))
number_more xs x numbers n before is =
    rw (before, is) (simp map-append)

pub numbers_of-shown : (list : List ℕ) (xs : List (Bor (List ℕ))) (numbers : List ℕ) → 0 < length list
    → shown xs ≡ pieces list → numbers ≡ map spelled_number (shown xs) → numbers ≡ numbers_spelled list
numbers_of-shown list xs numbers some all is = let spelled = numbers_of-some list some in cc

-- no more numbers than pieces
pub few_numbers : (xs : List (Bor (List ℕ))) (numbers : List ℕ) (most : ℕ) → numbers ≡ map spelled_number (shown xs)
    → length xs ≤ most → length numbers ≤ most
few_numbers xs numbers most is few =
    omega (arith, ap length is, length-map (shown xs) spelled_number, length-map xs (λ (x : Bor (List ℕ)). x.now))

-- what `parse` reads of digits
pub read_number : {E : Type 0} (digits : List ℕ) (r : Result ℕ E) → ParsesUnsigned 64 10 digits r
    → MatchOption (result_ok r) (IsNoNumber digits) (λ n. n ≡ spelled_number digits)
read_number digits (Ok n) parsed = parsed.1
read_number digits (Err e) parsed = λ n fits spelled.
    let other : Err e ≡ Ok n = parse-decimal 64 n digits (Err e) fits fits spelled parsed in absurd cc

pub no_number : (digits : List ℕ) (read : Option ℕ) (f : ReportFault)
    → MatchOption read (IsNoNumber digits) (λ n. n ≡ spelled_number digits) → Err f ≡ ok_or read fault.NotReport
    → (f ≡ fault.NoMemory) ⊎ ((f ≡ fault.NotReport) × IsNoNumber digits)
no_number digits None f is e = inr (cc, is)
no_number digits (Some n) f is e = absurd cc

-- ---- a text in parts

-- a prefix and the numbers in the brackets after it
abbrev pub Part : Type 0
Part = List ℕ × List ℕ

abbrev pub text_of : List Part → List ℕ → List ℕ
text_of [] end = end
text_of (part ∷ parts) end = part.0 ++ (array_text part.1 ++ text_of parts end)

-- ASCII without a bracket before a list
abbrev pub is_plain : List ℕ → Bool
is_plain [] = true
is_plain (b ∷ bs) = (nat_lt b 128 && not (eqb b opening_bracket)) && is_plain bs

-- a part whose list has at most `most` numbers
pub record IsPart (most : ℕ) (part : Part) : Type 0 where
  pub plain : is_plain part.0 ≡ true
  pub listed : AreReportNumbers most part.1

no_opening : (bs : List ℕ) → is_plain bs ≡ true → All (λ b. b ≢ opening_bracket) bs
no_opening [] e = All-nil (λ b. b ≢ opening_bracket)
no_opening (b ∷ bs) e =
    All-cons (λ c. c ≢ opening_bracket) b bs (λ is. grind (arith, nat_tests)) (no_opening bs (and_parts _ _ e).1)

opened : (front ns rest : List ℕ) → All (λ b. b ≢ opening_bracket) front
    → after_first (λ b. eqb b opening_bracket) (front ++ (array_text ns ++ rest))
    ≡ joined ns ++ (closing_bracket ∷ rest)
opened front ns rest plain =
    after-cut opening_bracket front ((joined ns ++ (closing_bracket ∷ [])) ++ rest) plain
    ∙ append_assoc (joined ns) (closing_bracket ∷ []) rest

first_list-part : (front ns rest : List ℕ) → All (λ b. b ≢ opening_bracket) front → AreShort ns
    → first_list (front ++ (array_text ns ++ rest)) ≡ joined ns
first_list-part front ns rest plain fit =
    rw (opened front ns rest plain) (before-cut closing_bracket (joined ns) rest (no_closing ns fit))

after_list-part : (front ns rest : List ℕ) → All (λ b. b ≢ opening_bracket) front → AreShort ns
    → text_after_list (front ++ (array_text ns ++ rest)) ≡ rest
after_list-part front ns rest plain fit = ap (after_first (λ b. eqb b closing_bracket)) (opened front ns rest plain)
    ∙ after-cut closing_bracket (joined ns) rest (no_closing ns fit)

-- ---- where a program finds no list

pub none_opened : (most : ℕ) (text : List ℕ) → position_or_len (λ b. eqb b opening_bracket) text ≡ length text
    → HasNoList most text
none_opened most text none front ns rest plain listed e =
    let at = position-cut opening_bracket front ((joined ns ++ (closing_bracket ∷ [])) ++ rest) plain in
    let same = ap (position_or_len (λ b. eqb b opening_bracket)) e in
    absurd (omega (arith, ap length e, length-append front (array_text ns ++ rest)))

pub none_closed : (most : ℕ) (text list : List ℕ) → list ≡ after_first (λ b. eqb b opening_bracket) text
    → position_or_len (λ b. eqb b closing_bracket) list ≡ length list → HasNoList most text
none_closed most text list begun none front ns rest plain listed e =
    let is : list ≡ joined ns ++ (closing_bracket ∷ rest) =
    begun ∙ ap (after_first (λ b. eqb b opening_bracket)) e ∙ opened front ns rest plain in
    let at = position-cut closing_bracket (joined ns) rest (no_closing ns listed.1) in
    let same = ap (position_or_len (λ b. eqb b closing_bracket)) is in
    absurd (omega (arith, ap length is, length-append (joined ns) (closing_bracket ∷ rest)))

pub none_listed : (most : ℕ) (text : List ℕ) → IsNoList most (first_list text) → HasNoList most text
none_listed most text none front ns rest plain listed e =
    none ns listed (ap first_list e ∙ first_list-part front ns rest plain listed.1)

-- the numbers of the first list, as they are taken
pub taken : (most : ℕ) (text rest list : List ℕ) (result : Result (Vec ℕ Global) ReportFault) → list ≡ first_list text
    → rest ≡ text_after_list text
    → GivesReport (λ numbers. (numbers.items ≡ numbers_spelled list) × (length numbers.items ≤ most)) (IsNoList most list) result
    → GivesReport (λ numbers. (numbers.items ≡ numbers_spelled (first_list text)) × (rest ≡ text_after_list text)
    × (length numbers.items ≤ most)) (HasNoList most text) result
taken most text rest list (Ok numbers) first left is = (is.0 ∙ ap numbers_spelled first, left, is.1)
taken most text rest list (Err f) first left (inl memory) = inl memory
taken most text rest list (Err f) first left (inr none) =
    inr (none.0, none_listed most text (rw first at none.1))

-- ---- the lists of a text in parts

pub list_at-text_of : (most : ℕ) (parts : List Part) (end : List ℕ) → AllByRecursion (IsPart most) parts → (k : ℕ)
    → k < length parts → list_at k (text_of parts end) ≡ (get_or parts k ([], [])).1
list_at-text_of most [] end are k l = absurd (omega arith)
list_at-text_of most (part ∷ parts) end are zero l =
    ap numbers_spelled (first_list-part part.0 part.1 (text_of parts end) (no_opening part.0 are.0.plain) are.0.listed.1)
    ∙ numbers_of-joined part.1 are.0.listed.1
list_at-text_of most (part ∷ parts) end are (suc k) l =
    ap (list_at k) (after_list-part part.0 part.1 (text_of parts end) (no_opening part.0 are.0.plain) are.0.listed.1)
    ∙ list_at-text_of most parts end are.1 k (omega arith)

pub not_HasNoList : (most : ℕ) (parts : List Part) (end : List ℕ) → AllByRecursion (IsPart most) parts → (k : ℕ)
    → k < length parts → HasNoList most (text_after_lists k (text_of parts end)) → ⊥
not_HasNoList most [] end are k l none = absurd (omega arith)
not_HasNoList most (part ∷ parts) end are zero l none =
    none part.0 part.1 (text_of parts end) (no_opening part.0 are.0.plain) are.0.listed refl
not_HasNoList most (part ∷ parts) end are (suc k) l none =
    not_HasNoList most parts end are.1 k (omega arith)
    (rw (after_list-part part.0 part.1 (text_of parts end) (no_opening part.0 are.0.plain) are.0.listed.1) at none)

-- ---- such a text is ASCII

pub ascii_plain : (bs : List ℕ) → is_plain bs ≡ true → IsAscii bs
ascii_plain [] e = IsAscii-nil
ascii_plain (b ∷ bs) e =
    IsAscii-cons b bs (grind (arith, nat_tests)) (ascii_plain bs (and_parts _ _ e).1)

ascii_joined : (ns : List ℕ) → AreShort ns → IsAscii (joined ns)
ascii_joined [] fit = IsAscii-nil
ascii_joined (n ∷ []) fit = IsAscii-decimal n (head_fits n [] fit)
ascii_joined (n ∷ m ∷ ms) fit =
    IsAscii-append (decimal n) (comma ∷ joined (m ∷ ms)) (IsAscii-decimal n (head_fits n (m ∷ ms) fit))
    (IsAscii-cons comma (joined (m ∷ ms)) (omega arith) (ascii_joined (m ∷ ms) (tail_fits n (m ∷ ms) fit)))

pub ascii_text_of : (most : ℕ) (parts : List Part) (end : List ℕ) → AllByRecursion (IsPart most) parts → IsAscii end
    → IsAscii (text_of parts end)
ascii_text_of most [] end are plain = plain
ascii_text_of most (part ∷ parts) end are plain =
    IsAscii-append part.0 _ (ascii_plain part.0 are.0.plain)
    (IsAscii-append (array_text part.1) _
    (IsAscii-append (codes "[" ++ joined part.1) (closing_bracket ∷ [])
    (IsAscii-cons opening_bracket (joined part.1) (omega arith) (ascii_joined part.1 are.0.listed.1))
    (IsAscii-cons closing_bracket [] (omega arith) IsAscii-nil))
    (ascii_text_of most parts end are.1 plain))
