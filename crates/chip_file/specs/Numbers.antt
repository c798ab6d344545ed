-- Numbers in the rows of a file.
use Rattle.std.specs.Prelude.{ℕ, ◌^◌, nat_lt, nat_le, ◌&&◌, if◌then◌else◌, List, length, Option, None, Some}
use Rattle.std.specs.Prelude.{option_and_then, unwrap_or}
use Rattle.std.specs.Str.{all_ascii_digits}
use Rattle.std.specs.Str.Parse.{digits_value}
use Rattle.csv.specs.Records.{field_at}

-- the number that a field is: 1 to 20 ASCII digits of a value below 2 ^ 64, with or without leading zeros
abbrev pub number_of : List ℕ → Option ℕ
number_of field =
    if nat_lt 0 (length field) && nat_le (length field) 20 && all_ascii_digits field
    && nat_lt (digits_value 10 field) (2 ^ 64)
    then Some (digits_value 10 field)
    else None

-- the number in the field at a column of a row
abbrev pub number_at : ℕ → List (List ℕ) → Option ℕ
number_at column row = option_and_then number_of (field_at row column)

-- the same, 0 if the field is no number
abbrev pub number_in : ℕ → List (List ℕ) → ℕ
number_in column row = unwrap_or (number_at column row) 0
