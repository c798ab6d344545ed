use Rattle.std.proofs.Common.{◌≡◌, ℕ, List, [], ◌∷◌, ◌++◌, length, true, false, refl, ap, arith, rules}
use Rattle.std.proofs.lemmas.Bool.Decides.{nat_tests}
use Rattle.chip_diffusing.proofs.WorkedLemmas.{leads_to_work, whole_run}
use Rattle.chip_diffusing.specs.Worked.{pair, whole, closed}
use Rattle.chip_log.specs.Log.{steps_of, is_out, is_in, sends, gets}
use Rattle.chip_log.specs.Claims.{IsBefore, basic}
use Rattle.chip_log.specs.Judged.{control}
use Rattle.chip_log.specs.declared.row.LogRow.{LogRow}
use Rattle.chip_log.specs.declared.row.Stream.{Stream}
use Rattle.chip_log.proofs.CountLemmas.{count-append}
use Rattle.chip_log.specs.declared.row.Step.{Step}
use Rattle.chip_log.specs.declared.row.Step.TheVariants.{Out, In, Passive, Active, Over}
use Rattle.chip_judged.specs.Rows.{log_row, rows_of_run}
use Rattle.chip_judged.specs.Worked.{mixed, early, all_but, none_told}
use Rattle.chip_judged.proofs.laws.worked.Goals as goal

-- the rows of each process are those of the run
same : (p : ℕ) → steps_of p mixed ≡ steps_of p (rows_of_run pair whole closed whole_run)
unfolding whole_run leads_to_work
same p = grind (arith, nat_tests)

-- the claim comes after three rows of the root
claims : IsBefore early 1 3 (log_row 1 Active ∷ log_row 1 (Out (basic 0)) ∷ log_row 1 Passive ∷ [])
claims = record {
  after = log_row 0 (In (basic 0)) ∷ log_row 0 Passive ∷ [];
  whole = record { whole = λ p. refl; met = search rules };
  place = refl;
}

-- a process that tells and then claims
abbrev tell : List LogRow
tell = log_row 0 (Out (control 0)) ∷ log_row 0 Over ∷ []

-- the one step that sends is missing, and its message is not told
tells : (p : ℕ) (s : Stream) (before : List Step) (step : Step) (after : List Step) → before ++ step ∷ after ≡ steps_of p tell
    → is_out s step ≡ true → all_but 0 0 p (length before) ≡ none_told s (sends s before)
tells p s [] step after is out = grind (arith, nat_tests)
tells p s (x ∷ []) step after is out = grind (arith, nat_tests)
tells p s (x ∷ y ∷ []) step after is out = grind (arith, nat_tests)
tells p s (x ∷ y ∷ z ∷ before) step after is out = grind (arith, nat_tests)

pub returns-clause-whole : goal.returns-clause-whole
unfolding whole_run leads_to_work
returns-clause-whole c = (whole_run, refl)

pub returns-clause-judged : goal.returns-clause-judged
returns-clause-judged c = (
  c.every_log_is_judged_right.ensures.rows pair (search (rules, arith)) whole closed whole_run (search rules) mixed same,
  λ are. let a = ((are.none_early false 1 3 refl).at _ claims).quiet 0 in absurd (cc a),
)

pub returns-clause-missing : goal.returns-clause-missing
returns-clause-missing c = record {
  without_tell = record {
    rows = λ p. grind (arith, nat_tests);
    begins = λ p. grind (arith, nat_tests);
    tells = tells;
    hears = λ p s before step after is got.
        grind (arith, nat_tests, count-append (is_in s) before (step ∷ after), ap (gets s) is);
    basic = λ channel n. refl;
    sent = λ p. grind (arith, nat_tests);
  };
  without_active = λ told is. absurd (cc (is.begins 0 refl));
  without_heard = λ told is.
      let a = is.tells 0 (control 0) [] (Out (control 0)) [] refl refl in
      let b = is.hears 1 (control 0) [] (In (control 0)) [] refl refl refl in absurd (cc (a, b));
}
