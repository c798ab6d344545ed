-- A worked log: process 0 sends a message and is passive, and process 1 gets it.
use Rattle.std.specs.Prelude.{◌≡◌, true, false, List, [], ◌∷◌}
use Rattle.chip_log.specs.Log.{AreEnabled, steps_of, begins_active, is_active}
use Rattle.chip_log.specs.Claims.{basic}
use Rattle.chip_log.specs.declared.row.LogRow.{LogRow}
use Rattle.chip_log.specs.declared.row.Step.TheVariants.{Out, In, Passive, Active}

abbrev pub begins : List LogRow
begins =
    record { process = 0; step = Active } ∷ record { process = 0; step = Out (basic 0) }
    ∷ record { process = 0; step = Passive } ∷ record { process = 1; step = In (basic 0) } ∷ []

pub record WorkedLog : Type 0 where
  pub met : AreEnabled begins [] begins
  pub busy : is_active begins begins 1 ≡ true
  pub idle : is_active begins begins 0 ≡ false

-- a log that is cut after its first row says that process 0 begins active, and one without that row does not
pub record WorkedCut : Type 0 where
  pub whole : begins_active (steps_of 0 begins) ≡ true
  pub first : begins_active (steps_of 0 (record { process = 0; step = Active } ∷ [])) ≡ true
  pub none : begins_active (steps_of 0 []) ≡ false
