-- Serves Answers.antt, Rows.antt.
-- What callers ask of texts, from what the commands return.
use Rattle.std.proofs.Common.{◌≡◌, ℕ, List, [], ◌++◌, Option, Some, None, Result, Ok, Err, MatchResult}
use Rattle.std.proofs.Common.{refl, sym, ap, ◌∙◌, subst, inl, inr, ◌↔◌, ◌==◌, true}
use Rattle.chip_graph.specs.Limits.{standard}
use Rattle.chip_graph.specs.ChipGame.{ChipGame}
use Rattle.chip_sequence.specs.Outcomes.{IsOutcome}
use Rattle.chip_sequence.specs.declared.outcome.Outcome.{Outcome}
use Rattle.chip_report.specs.ReportText.{report_text}
use Rattle.chip_report.specs.Reportable.{content, FitsIn, IsReportWithin, IsNoReportWithin, GivesReport}
use Rattle.chip_report.specs.declared.fault.ReportFault.{ReportFault}
use Rattle.chip_report.specs.declared.fault.ReportFault.TheVariants.{NoMemory}
use Rattle.chip_report.proofs.ReportLemmas.{one_outcome}
use Rattle.chip_command.specs.PlainCommand.{PlainWrites}
use Rattle.chip_command.specs.Reports.{Reports}
use Rattle.chip_command.specs.declared.ended.Ended.{Ended}
use Rattle.chip_command.proofs.OneReportLemmas.{one_game, one_report}
use Rattle.chip_engine.specs.AvalanchesCommand.{AvalanchesAnswers, ReportAnswer, ended_of}
use Rattle.chip_engine.specs.GuessCommand.{GuessAnswers}
use Rattle.chip_engine.specs.RecurrentCommand.{RecurrentAnswers, IdentityAnswers, TellsWhether}
use Rattle.chip_engine.specs.VerifyCommand.{VerifyAnswers}
use Rattle.examples.specs.Answers.{IsGameReport, IsToldEnd, IsRecurrentOf, IsIdentityOf}
use Rattle.examples.specs.Rows.{AreDropRows, AreRowsBy}
use Rattle.examples.proofs.EndLemmas.{every_end}
use Rattle.examples.proofs.RowLemmas.{rows_by}

-- the report of an outcome reads back as the outcome
pub read_again : (outcome : Outcome) → IsOutcome outcome → FitsIn standard outcome → (bytes : List ℕ)
    → bytes ≡ report_text outcome → (r : Result Outcome ReportFault)
    → GivesReport (IsReportWithin standard bytes) (IsNoReportWithin standard bytes) r
    → MatchResult r (λ read. content read ≡ content outcome) (λ f. f ≡ NoMemory)
read_again outcome ok fits bytes is (Ok read) gives =
    one_outcome read outcome gives.0.reportable ok (sym gives.0.spelled ∙ is)
read_again outcome ok fits bytes is (Err f) (inl memory) = memory
read_again outcome ok fits bytes is (Err f) (inr none) =
    absurd (none.1 outcome (record { reportable = ok; spelled = is }, fits))

module _ (graph chips : List ℕ) (limit : ℕ) (start report : List ℕ) (ended : Ended) (empty : start ≡ [])
    (writes : PlainWrites standard graph chips limit (Some start) (Some report) ended) where
  -- what is written after nothing is the report
  pub is_report : IsGameReport graph chips limit report
  is_report =
      let (g, means, text, (o, played, is, status), out) = writes in
      (g, means, o, every_end g o played, out ∙ ap (λ (before : List ℕ). before ++ text) empty ∙ is)

  -- and with a guess it is the same
  pub same_report : (guess : Option (List ℕ)) (start' report' : List ℕ) (ended' : Ended) → start' ≡ []
      → GuessAnswers standard (Some graph) (Some chips) guess limit (Some start') (Some report') (Ok ended')
      → report' ≡ report
  same_report guess start' report' ended' empty' answers =
      let (g, means, text, reports, out) = writes in
      let (text', (h, gave, (counts, read, told)), out', cut) = answers.answer in
      let same = one_game standard standard graph chips limit h g (gave.means graph refl chips refl) means in
      let texts = one_report g text' text ended'.status ended.status
      (subst (λ (k : ChipGame). Reports k text' ended'.status) same told) reports in
      out' ∙ ap (λ (before : List ℕ). before ++ text') empty' ∙ texts.0
      ∙ sym (out ∙ ap (λ (before : List ℕ). before ++ text) empty)

-- a verified report gives every end
pub told_end : (graph chips report : List ℕ) (limit : ℕ) (old new : Option (List ℕ)) (ended : Ended)
    → VerifyAnswers standard (Some graph) (Some chips) (Some report) limit old new (Ok ended)
    → IsToldEnd graph chips limit report
told_end graph chips report limit old new ended answers =
    let (text, (g, gave, (told, reads, (o, played, many, agrees, is, status))), out, cut) = answers.answer in (
      g,
      gave.means graph refl chips refl,
      told,
      (reads.0 report refl).1,
      λ vs whole v below. let a = agrees v below in
          (a.fired ∙ played.counted vs whole v, a.chips ∙ played.position vs whole v),
    )

-- how a command ended that dropped chips
drops_ended : (old new : Option (Option (List ℕ))) (o : Outcome) (ended : Ended) → ReportAnswer old new o (Ok ended)
    → ended ≡ ended_of o
drops_ended None None o ended is = cc
drops_ended None (Some new) o ended is = absurd is
drops_ended (Some old) None o ended is = absurd is
drops_ended (Some old) (Some new) o ended is = is.0

-- the rows that it writes after nothing
pub are_rows : (graph chips drops : List ℕ) (limit : ℕ) (start text : List ℕ) (old new : Option (Option (List ℕ)))
    (ended : Ended) → start ≡ []
    → AvalanchesAnswers standard (Some graph) (Some chips) (Some drops) limit
    (record { rows = Some start; report = old }) (record { rows = Some text; report = new }) (Ok ended)
    → AreDropRows graph chips drops limit text ended.status
are_rows graph chips drops limit start text old new ended empty (inl refused) = absurd refused
are_rows graph chips drops limit start text old new ended empty (inr (g, gave, ds, gives, inr refused)) = absurd refused
are_rows graph chips drops limit start text old new ended empty
    (inr (g, gave, ds, gives, inl (o, (rows, g', comes, played, out), written))) =
    let is : text ≡ rows = out ∙ ap (λ (before : List ℕ). before ++ rows) empty in
    let status = ap (λ (e : Ended). e.status) (drops_ended old new o ended written) in (
      g,
      gave.means graph refl chips refl,
      ds,
      (gives.0 drops refl).1,
      subst (λ (t : List ℕ). AreRowsBy g ds t ended.status) (sym is)
          (rows_by g ds rows g' o ended.status played status comes),
    )

-- what is written after nothing is the recurrent representative
pub is_recurrent_of : (graph chips start text : List ℕ) (ended : Ended) → start ≡ []
    → RecurrentAnswers standard (Some graph) (Some chips) (Some start) (Some text) (Ok ended)
    → IsRecurrentOf graph chips text (ended.status == 0)
is_recurrent_of graph chips start text ended empty answers =
    let (text', (g, gave, (c, each, (t, zero, is), spelled, status)), out, cut) = answers.answer in (
      g,
      gave.means graph refl chips refl,
      c,
      out ∙ ap (λ (before : List ℕ). before ++ text') empty ∙ spelled,
      is.is.0,
      is.is.1,
      says ended.status status,
    )
  where
    says : {P : Type 0} (n : ℕ) → TellsWhether P n → ((n == 0) ≡ true) ↔ P
    says n (inl (done, p)) = (λ _. p, λ _. rw done refl)
    says n (inr (other, refuted)) = (λ e. absurd (cc (rw other at e)), λ p. absurd (refuted p))

-- and the identity
pub is_identity_of : (graph start text : List ℕ) (ended : Ended) → start ≡ []
    → IdentityAnswers standard (Some graph) (Some start) (Some text) (Ok ended) → IsIdentityOf graph text
is_identity_of graph start text ended empty answers =
    let (text', (G, means, (c, found, spelled, status)), out, cut) = answers.answer in
    (G, (means graph refl).1, c, out ∙ ap (λ (before : List ℕ). before ++ text') empty ∙ spelled, found.is)
