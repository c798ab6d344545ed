-- The view of the fields of a running tail.
use Rattle.std.specs.Prelude.{ℕ, ◌^◌, ◌<◌, ◌≤◌, Bool, true, false, Option, Some, None}
use Rattle.chip_link.specs.declared.tail.Stage.{Stage}
use Rattle.chip_link.specs.declared.tail.Stage.TheVariants as At

-- the count that is claimed and not put
abbrev pub held_count : Stage → ℕ → Option ℕ
held_count At.Held count = Some count
held_count At.Idle count = None
held_count At.Clear count = None
held_count At.Refused count = None

-- the next cell was seen empty
abbrev pub is_clear : Stage → Bool
is_clear At.Clear = true
is_clear At.Idle = false
is_clear At.Held = false
is_clear At.Refused = false

-- a claim was refused by a seal
abbrev pub is_refused : Stage → Bool
is_refused At.Refused = true
is_refused At.Idle = false
is_refused At.Clear = false
is_refused At.Held = false

-- the numbers of claims for a stage: a place is left if the cell was seen empty, and what is held was claimed
abbrev pub HasClaims : Stage → ℕ → Type 0
HasClaims At.Clear claims = claims < 2 ^ 62
HasClaims At.Held claims = (0 < claims) × (claims ≤ 2 ^ 62)
HasClaims At.Idle claims = claims ≤ 2 ^ 62
HasClaims At.Refused claims = claims ≤ 2 ^ 62
