use Rattle.std.proofs.Common.{◌≡◌, ℕ, ◌++◌, ◌∙◌, ◌||◌, if◌then◌else◌, Bool, List, [], ◌∷◌, refl, sym, ap, map, codes}
use Rattle.std.proofs.Common.{flat_map, true, false, inl, inr, Option, Some, None}
use Rattle.std.specs.Fmt.{decimal}
use Rattle.std.specs.List.{list_any}
use Rattle.chip_log.specs.declared.row.LogRow.{LogRow}
use Rattle.chip_log.specs.declared.judged.ClaimVerdict.{ClaimVerdict}
use Rattle.chip_log.specs.declared.judged.LogEnd.{LogEnd}
use Rattle.chip_log.specs.declared.judged.PastRows.{PastRows}
use Rattle.chip_log.specs.declared.verdict.Verdict.{Verdict}
use Rattle.chip_log.specs.Judged.{RowPlace, is_early, told_of}
use Rattle.chip_log.specs.Log.{gets, sends, steps_of, HasEnds}
use Rattle.chip_log.specs.First.{IsFirstEarly}
use Rattle.chip_log.specs.Laws.{SameJudgment, OneJudgment, SameFirst, OneFirst}
use Rattle.chip_command.specs.Statuses.{number_of_status}
use Rattle.chip_command.specs.declared.status.Status.TheVariants.{Halted}
use Rattle.chip_engine.specs.JudgeCommand.{JudgesAll, JudgesBy, JudgesFirst, claim_text, end_text, past_text, status_of_end, verdict_text}
use Rattle.chip_engine.proofs.laws.one_answer.Goals as goal

abbrev Told : Type 0
Told = RowPlace × Verdict × List PastRows

-- the lines of the judgment of a claim, and all lines
abbrev claim_lines : Told → List ℕ
claim_lines (place, verdict, past) = codes "over " ++ decimal place.process ++ codes " " ++ decimal place.row
    ++ verdict_text verdict ++ flat_map past_text past

abbrev all_lines : List Told → LogEnd → List ℕ
all_lines told end = flat_map claim_lines told ++ end_text end

abbrev status_told : List Told → LogEnd → ℕ
status_told told end = number_of_status (if list_any (λ t. is_early t.1) told then Halted else status_of_end end)

lines_told : (claims : List ClaimVerdict) → flat_map claim_text claims ≡ flat_map claim_lines (map told_of claims)
lines_told [] = refl
lines_told (claim ∷ claims) = ap (λ (rest : List ℕ). claim_text claim ++ rest) (lines_told claims)

early_told : (claims : List ClaimVerdict)
    → list_any (λ claim. is_early claim.verdict) claims ≡ list_any (λ t. is_early t.1) (map told_of claims)
early_told [] = refl
early_told (claim ∷ claims) = ap (λ (rest : Bool). is_early claim.verdict || rest) (early_told claims)

module _ (past : Bool) (log : List LogRow) (text : List ℕ) (status : ℕ) (is : JudgesAll past log text status) where
  abbrev told : List Told
  told = map told_of is.judged.claims.items

  text_told : text ≡ all_lines told is.judged.end
  text_told = is.lines ∙ ap (λ (lines : List ℕ). lines ++ end_text is.judged.end) (lines_told is.judged.claims.items)

  answer_told : status ≡ status_told told is.judged.end
  answer_told = is.status_is
      ∙ ap (λ (b : Bool). number_of_status (if b then Halted else status_of_end is.judged.end))
      (early_told is.judged.claims.items)

module _ (same_judgment : SameJudgment) (one_judgment : OneJudgment) (same_first : SameFirst) (one_first : OneFirst)
    (past : Bool) (log other : List LogRow) (text again : List ℕ) (status exit : ℕ) (ends : HasEnds log)
    (same : (p : ℕ) → steps_of p log ≡ steps_of p other) where
  abbrev IsOne : Type 0
  IsOne = (text ≡ again) × (status ≡ exit)

  ends_too : HasEnds other
  ends_too = record {
    sender = ends.sender;
    receiver = ends.receiver;
    sends = λ s p far. ap (sends s) (sym (same p)) ∙ ends.sends s p far;
    gets = λ s p far. ap (gets s) (sym (same p)) ∙ ends.gets s p far;
  }

  all_claims : JudgesAll past log text status → JudgesAll past other again exit → IsOne
  all_claims one two =
      let mixed = same_judgment past log other one.judged ends same one.is_judged in
      let (claims, end) = one_judgment past other one.judged two.judged ends_too mixed two.is_judged in (
        text_told past log text status one ∙ ap (λ (ts : List Told). all_lines ts one.judged.end) claims
            ∙ ap (all_lines (map told_of two.judged.claims.items)) end ∙ sym (text_told past other again exit two),
        answer_told past log text status one ∙ ap (λ (ts : List Told). status_told ts one.judged.end) claims
            ∙ ap (status_told (map told_of two.judged.claims.items)) end ∙ sym (answer_told past other again exit two),
      )

  first_as : (found : Option ClaimVerdict) → IsFirstEarly past log found → IsFirstEarly past other found
  first_as found is = same_first past log other found same is

  first_claim : JudgesFirst past log text status → JudgesFirst past other again exit → IsOne
  first_claim one two =
      let found = one_first past other (Some one.claim) (Some two.claim) ends_too (first_as (Some one.claim) one.is_first)
      two.is_first in
      let told : told_of one.claim ≡ told_of two.claim = cc found in (
        one.lines ∙ ap (λ (t : Told). claim_lines t ++ codes "end early\n") told ∙ sym two.lines,
        one.status_is ∙ sym two.status_is,
      )

  by_first : (first : Bool) → JudgesBy first past log text status → JudgesBy first past other again exit → IsOne
  by_first false one two = all_claims one two
  by_first true (inl one) (inl two) = first_claim one two
  by_first true (inl one) (inr two) = absurd (cc (one_first past other (Some one.claim) None ends_too
      (first_as (Some one.claim) one.is_first) two.0))
  by_first true (inr one) (inl two) = absurd (cc (one_first past other None (Some two.claim) ends_too
      (first_as None one.0) two.is_first))
  by_first true (inr one) (inr two) = all_claims one.1 two.1

pub returns : goal.returns
returns c = λ first past log other text again status exit ends same one two.
    by_first c.same_judgment.ensures c.one_judgment.ensures c.same_first.ensures c.one_first.ensures past log other text
    again status exit ends same first one two
