-- What tokens mean: the value that `serde_json` gives for them, and what follows it.
use Rattle.std.specs.Prelude.{◌≡◌, ℕ, ◌≤◌, List, length, Option, Some, None, Result, Ok, Err}
use Rattle.json.specs.Token.{Token}
use Rattle.json.specs.Json.{value, items, members}
use Rattle.serde_json.specs.Data.{Data, Items, Members, no_members}
use Rattle.serde_json.specs.Read.{of_json, of_items, of_members, converted}

-- the next value and the tokens after it, nested at most this deep
abbrev pub next_value : ℕ → List Token → Option (Data × List Token)
next_value depth tokens = converted of_json (value depth tokens)

-- the items that are left of an array are these, with any sufficient number of turns
abbrev pub ItemsAre : ℕ → List Token → Option (Items × List Token) → Type 0
ItemsAre depth tokens what =
    (n : ℕ) → length tokens ≤ n → converted of_items (items (value depth) n tokens) ≡ what

-- the members that are left of an object, after those that were found, make these
abbrev pub MembersAre : ℕ → List Token → Members → Option (Members × List Token) → Type 0
MembersAre depth tokens found what =
    (n : ℕ) → length tokens ≤ n → converted (λ ms. of_members ms found) (members (value depth) n tokens) ≡ what

-- the results of reading a value: what it is, or that there is none
abbrev pub ReadsValue : {T E : Type 0} → ℕ → List Token → List Token → (Data → T → Type 0) → Result T E → Type 0
ReadsValue depth old new Is (Ok x) = (d : Data) × (next_value depth old ≡ Some (d, new)) × Is d x
ReadsValue depth old new Is (Err e) = next_value depth old ≡ None

-- the same for the items that are left of an array
abbrev pub ReadsItems : {T E : Type 0} → ℕ → List Token → List Token → (Items → T → Type 0) → Result T E → Type 0
ReadsItems depth old new Is (Ok x) = (ds : Items) × ItemsAre depth old (Some (ds, new)) × Is ds x
ReadsItems depth old new Is (Err e) = ItemsAre depth old None

-- the same for the members of an object
abbrev pub ReadsMembers : {T E : Type 0} → ℕ → List Token → List Token → (Members → T → Type 0) → Result T E → Type 0
ReadsMembers depth old new Is (Ok x) = (ms : Members) × MembersAre depth old no_members (Some (ms, new)) × Is ms x
ReadsMembers depth old new Is (Err e) = MembersAre depth old no_members None
