-- The lists of numbers in a text, each between the next brackets, whatever else the text has.
use Rattle.std.specs.Prelude.{◌≢◌, ℕ, zero, suc, ◌^◌, ◌<◌, ◌≤◌, ◌==◌, List, [], ◌∷◌, ◌++◌, length, map, All}
use Rattle.std.specs.List.{before_first, after_first, slice_split, join_with_byte}
use Rattle.std.specs.Fmt.{decimal}
use Rattle.std.specs.Str.Parse.{digits_value, without_leading_plus}
use Rattle.chip_report.specs.ReportText.{comma, array_text}

-- the code of the bracket before a list
abbrev pub opening_bracket : ℕ
opening_bracket = 91

-- the code of the bracket after it
abbrev pub closing_bracket : ℕ
closing_bracket = 93

-- the text in the first brackets
abbrev pub first_list : List ℕ → List ℕ
first_list text = before_first (λ b. b == closing_bracket) (after_first (λ b. b == opening_bracket) text)

-- the text after them
abbrev pub text_after_list : List ℕ → List ℕ
text_after_list text = after_first (λ b. b == closing_bracket) (after_first (λ b. b == opening_bracket) text)

-- the text after the first `lists` lists
abbrev pub text_after_lists : ℕ → List ℕ → List ℕ
text_after_lists zero text = text
text_after_lists (suc lists) text = text_after_lists lists (text_after_list text)

-- the number that digits spell
abbrev pub spelled_number : List ℕ → ℕ
spelled_number digits = digits_value 10 (without_leading_plus digits)

-- the numbers that a list spells
abbrev pub numbers_spelled : List ℕ → List ℕ
numbers_spelled [] = []
numbers_spelled (b ∷ bs) = map spelled_number (slice_split (λ c. c == comma) (b ∷ bs))

-- the numbers of the list after the first `lists` lists
abbrev pub list_at : ℕ → List ℕ → List ℕ
list_at lists text = numbers_spelled (first_list (text_after_lists lists text))

-- ---- what no report has

-- numbers that a list of a report may have: each fits, and there are at most `most`
abbrev pub AreReportNumbers : ℕ → List ℕ → Type 0
AreReportNumbers most numbers = (length numbers ≤ most) × All (λ n. n < 2 ^ 64) numbers

-- no number is written so
abbrev pub IsNoNumber : List ℕ → Type 0
IsNoNumber digits = (n : ℕ) → n < 2 ^ 64 → digits ≢ decimal n

-- no such numbers are written so
abbrev pub IsNoList : ℕ → List ℕ → Type 0
IsNoList most list = (numbers : List ℕ) → AreReportNumbers most numbers → list ≢ join_with_byte comma (map decimal numbers)

-- in the first brackets no such numbers are written
abbrev pub HasNoList : ℕ → List ℕ → Type 0
HasNoList most text = (front numbers rest : List ℕ) → All (λ b. b ≢ opening_bracket) front → AreReportNumbers most numbers
    → text ≢ front ++ (array_text numbers ++ rest)
