use Rattle.chip_report.proofs.Names.{[], ◌∷◌, inr, refl, sym, ◌∙◌, false≢true, Decides-eqb, ends_is, bytes_eq-Decides}
use Rattle.chip_report.proofs.Names.{IsReportIn}
use Rattle.chip_report.proofs.ReportLemmas.{none_without_newline, not_that_stage, of_a_line, passed_on}
use Rattle.chip_report.proofs.read.read_version.Goals as goal
use Rattle.chip_report.proofs.read.read_version.Goals.{else-is_resumed-via-then-is_resumed+in_ok-text_of+else-eq}
use Rattle.chip_report.proofs.read.read_version.Goals.{else-is_resumed-via-else-is_resumed}

pub returns-then-not-ends_with-clause-stage : goal.returns-then-not-ends_with-clause-stage
returns-then-not-ends_with-clause-stage c =
    let ends = ends_is Decides-eqb c.args.bytes.now (10 ∷ []) c.ends_with.result c.ends_with.ensures.value in
    inr (
      refl,
      none_without_newline c.args.went_on c.args.limits c.args.bytes.now
          (λ front e. false≢true (sym c.if-not-ends_with.true ∙ ends.1 front e)),
    )

pub returns-in_err-resumed-clause-stage : goal.returns-in_err-resumed-clause-stage
returns-in_err-resumed-clause-stage c =
    passed_on (IsReportIn c.args.went_on c.args.limits c.args.bytes.now) c.from_residual.result
    c.in_err-resumed.field-0.0 c.from_residual.ensures.1 c.in_err-resumed.ensures (λ none. none)

pub returns-else-is_resumed-clause-stage : goal.returns-else-is_resumed-clause-stage
returns-else-is_resumed-clause-stage c =
    inr (
      refl,
      not_that_stage c.args.went_on c.args.limits c.args.bytes.now c.in_ok-resumed.resumed
          c.in_ok-resumed.ensures.0
          (elim c.else-is_resumed.branch [
            | else-is_resumed-via-then-is_resumed+in_ok-text_of+else-eq w ↦
                λ h e. false≢true (sym w.if-eq.false
                ∙ (w.eq.ensures ∙ (bytes_eq-Decides _ _).1
                (w.as_slice.ensures.value ∙ (w.in_ok-text_of.ensures ∙ sym e))))
            | else-is_resumed-via-else-is_resumed w ↦
                λ h e. false≢true (sym w.if-is_resumed.false ∙ c.is_resumed.ensures.1 h)
          ]),
    )

pub returns-in_err-resumed-clause-memory : goal.returns-in_err-resumed-clause-memory
returns-in_err-resumed-clause-memory c =
    let ends = ends_is Decides-eqb c.args.bytes.now (10 ∷ []) c.ends_with.result c.ends_with.ensures.value in
    of_a_line c.args.bytes.now _ (ends.0 c.if-not-ends_with.false) c.from_residual.result

pub returns-in_err-text_of-clause-memory : goal.returns-in_err-text_of-clause-memory
returns-in_err-text_of-clause-memory c =
    let ends = ends_is Decides-eqb c.args.bytes.now (10 ∷ []) c.ends_with.result c.ends_with.ensures.value in
    of_a_line c.args.bytes.now _ (ends.0 c.if-not-ends_with.false) c.from_residual-in_err-text_of.result
