-- Serves ReportTwo.antt, Versions.antt.
-- The ends of the reports tell the versions apart.
use Rattle.chip_report.proofs.Names.{◌≡◌, ◌≢◌, ℕ, Bool, true, false, List, [], ◌∷◌, ◌++◌, codes, Result, Ok, Err, inl}
use Rattle.chip_report.proofs.Names.{inr, refl, sym, ap, ◌∙◌, arith, append_assoc, append_cancel_right, same_from_push}
use Rattle.chip_report.proofs.Names.{SizeLimits, Outcome, Resumed, IsResumed, RoundTripTwo, IsReportOf}
use Rattle.chip_report.proofs.Names.{IsNoReportWithin, GivesReport, IsReportIn, IsNoReportIn, ReportFault}
use Rattle.chip_report.specs.ReportTwo.{report_two_text, IsReportTwoOf, IsNoReportTwoWithin, IsAnyReportWithin}
use Rattle.chip_report.specs.ReportTwo.{IsNoReportAtAllWithin, stage_content}
use Rattle.chip_report.proofs.ReportLemmas.{version, by_outcome, by_stage, first_content, report_ends, one_content}

ends_differ : (one two : List ℕ) → one ++ version false ≢ two ++ version true
ends_differ one two e =
    let key : List ℕ = codes ",\"version\":" in
    let cut : (one ++ key) ++ 49 ∷ [] ≡ (two ++ key) ++ 50 ∷ [] =
    append_cancel_right _ _ (codes "}\n")
    (append_assoc (one ++ key) (49 ∷ []) (codes "}\n") ∙ append_assoc one key (codes "1}\n") ∙ e
    ∙ sym (append_assoc two key (codes "2}\n")) ∙ sym (append_assoc (two ++ key) (50 ∷ []) (codes "}\n"))) in
    absurd (omega (arith, (same_from_push (one ++ key) (two ++ key) 49 50 cut).1))

none_before_end : (bytes front : List ℕ) → bytes ≡ front ++ version true → (o : Outcome) → IsReportOf bytes o → ⊥
none_before_end bytes front e o is =
    let end = report_ends false bytes (first_content o) (by_outcome bytes o is) in
    ends_differ end.0 front (sym end.1 ∙ e)

none_without_end : (bytes : List ℕ) → ((front : List ℕ) → bytes ≢ front ++ version true) → (r : Resumed)
    → IsReportTwoOf bytes r → ⊥
none_without_end bytes none r is =
    let end = report_ends true bytes (stage_content r) (by_stage bytes r is) in none end.0 end.1

-- neither the one nor the other
none_at_all : (limits : SizeLimits) (bytes : List ℕ) → IsNoReportWithin limits bytes
    → IsNoReportTwoWithin limits bytes → IsNoReportAtAllWithin limits bytes
none_at_all limits bytes none none_two r (inl first, fits) = none r.outcome (first.0, fits)
none_at_all limits bytes none none_two r (inr went_on, fits) = none_two r (went_on, fits)

-- what was read as a report of the version that its end shows
pub read_by_end : (went_on : Bool) (limits : SizeLimits) (bytes : List ℕ)
    → (went_on ≡ true → (front : List ℕ) × (bytes ≡ front ++ version true))
    → (went_on ≡ false → (front : List ℕ) → bytes ≢ front ++ version true) → (result : Result Resumed ReportFault)
    → GivesReport (IsReportIn went_on limits bytes) (IsNoReportIn went_on limits bytes) result
    → GivesReport (IsAnyReportWithin limits bytes) (IsNoReportAtAllWithin limits bytes) result
read_by_end true limits bytes ends none (Ok r) is = (inr is.0, is.1)
read_by_end false limits bytes ends none (Ok r) is = (inl (is.0.0, is.1), is.0.1)
read_by_end went_on limits bytes ends none (Err f) (inl memory) = inl memory
read_by_end true limits bytes ends none (Err f) (inr (same, none_two)) =
    let end = ends refl in
    inr (same, none_at_all limits bytes (λ o is. none_before_end bytes end.0 end.1 o is.0) none_two)
read_by_end false limits bytes ends none (Err f) (inr (same, none_one)) =
    inr (same, none_at_all limits bytes none_one (λ r is. none_without_end bytes (none refl) r is.0))

-- ---- the laws

pub one_stage : (r s : Resumed) → IsResumed r → IsResumed s → report_two_text r ≡ report_two_text s
    → stage_content r ≡ stage_content s
one_stage r s h k e =
    one_content true _ _ _ (by_stage (report_two_text r) r (record { reportable = h; spelled = refl }))
    (by_stage _ s (record { reportable = k; spelled = e }))

pub not_both : (bytes : List ℕ) (o : Outcome) (r : Resumed) → IsReportOf bytes o → IsReportTwoOf bytes r → ⊥
not_both bytes o r first went_on =
    let two = report_ends true bytes (stage_content r) (by_stage bytes r went_on) in
    none_before_end bytes two.0 two.1 o first

pub round_trip_two : RoundTripTwo
round_trip_two limits r h fits (Ok read) (inl first, few) =
    absurd (not_both (report_two_text r) read.outcome r first.0 (record { reportable = h; spelled = refl }))
round_trip_two limits r h fits (Ok read) (inr went_on, few) =
    inl (read, refl, sym (one_stage r read h went_on.reportable went_on.spelled))
round_trip_two limits r h fits (Err f) gives = elim gives [
  | inl memory ↦ inr (ap (λ (f : ReportFault). Err f) memory)
  | inr none ↦ absurd (none.1 r (inr (record { reportable = h; spelled = refl }), fits))
]
