-- The places of arguments, as the command-line library counts them.
use Rattle.std.specs.Prelude.{◌≡◌, ◌⊎◌, ℕ, zero, suc, ◌<◌, ◌≤◌, ◌==◌, ◌&&◌, ◌||◌, Bool, if◌then◌else◌, nat_eq, List, []}
use Rattle.std.specs.Prelude.{◌∷◌, sum, take, codes}
use Rattle.std.specs.List.{starts_with, list_any}
use Rattle.std.specs.Str.{bytes_eq}

-- whether an argument is an option with its value after `=`
abbrev pub has_value : List ℕ → Bool
has_value argument = starts_with nat_eq argument (codes "--") && list_any (λ byte. byte == 61) argument

-- the number of places of an argument, by whether only operands are left: the first `--` none, an option with its value
-- two
abbrev pub places_of : Bool → List ℕ → ℕ
places_of only_operands argument =
    if only_operands then 1
    else if bytes_eq argument (codes "--") then 0
    else if has_value argument then 2 else 1

-- the number of places of each argument
abbrev pub argument_places : Bool → List (List ℕ) → List ℕ
argument_places only_operands [] = []
argument_places only_operands (argument ∷ more) =
    places_of only_operands argument ∷ argument_places (only_operands || bytes_eq argument (codes "--")) more

-- the argument with this number, from 1, has the place; 0 if none has it
abbrev pub HasPlace : List ℕ → ℕ → ℕ → Type 0
HasPlace taken place zero = (place ≡ 0) ⊎ (sum taken < place)
HasPlace taken place (suc before) = (sum (take before taken) < place) × (place ≤ sum (take (suc before) taken))
