-- Serves Asking.antt.
-- Requests that a part may get, with what they may see: the tests of them compute.
use Rattle.std.proofs.Common.{◌≡◌, ℕ, true, Option, Some, None, Ok, Err, refl, ⊎_elim, eqb-true, leb-true, ltb-true}
use Rattle.std.proofs.lemmas.Bool.{and_parts, or_cases}
use Rattle.chip_part.specs.declared.act.Act.{Act}
use Rattle.chip_part.specs.Part.{Part}
use Rattle.chip_part.specs.declared.rule.Rule.{Rule}
use Rattle.chip_part.specs.Rules.{Event, Take, Ack, Fire, Clear, Claim, Put, Halt, Settle, Seal, Read, Feed, End}
use Rattle.chip_part.specs.Acting.{verdict, FitsSeen}
use Rattle.chip_core_tests.specs.Asking.{fits_seen}

pub verdict_ok : (u : Option Rule) (a act : Act) → verdict u a ≡ Ok act → (u ≡ None) × (act ≡ a)
verdict_ok None a act is = (refl, cc)
verdict_ok (Some rule) a act is = absurd (cc)

pub verdict_err : (u : Option Rule) (a : Act) (rule : Rule) → verdict u a ≡ Err rule → u ≡ Some rule
verdict_err None a rule is = absurd (cc)
verdict_err (Some r) a rule is = cc

-- what the test computes
pub fits_from_test : (s : Part) (x : Event) (seen : ℕ) → fits_seen s x seen ≡ true → FitsSeen s x seen
fits_from_test s (Take e) seen is = λ some. ⊎_elim (λ none. absurd (some (eqb-true _ _ none)))
    (λ few. let both = and_parts _ _ few in (leb-true _ _ both.0, ltb-true _ _ both.1)) (or_cases _ _ is)
fits_from_test s (Claim e) seen is = eqb-true _ _ is
fits_from_test s (Settle e) seen is = let both = and_parts _ _ is in (leb-true _ _ both.0, leb-true _ _ both.1)
fits_from_test s _ seen is = tt
