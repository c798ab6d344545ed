use Rattle.chip_report.proofs.Names.{true, sym, ◌∙◌, false≢true, Decides-eqb, ends_is}
use Rattle.chip_report.proofs.ReportLemmas.{version}
use Rattle.chip_report.proofs.ReportTwoLemmas.{read_by_end}
use Rattle.chip_report.proofs.read.read_any_within.Goals as goal

pub returns-clause-stage : goal.returns-clause-stage
returns-clause-stage c =
    let ends = ends_is Decides-eqb c.args.bytes.now (version true) c.ends_with-went_on.result
    c.ends_with-went_on.ensures.value in
    read_by_end c.ends_with-went_on.result c.args.limits c.args.bytes.now (λ is. (_, ends.0 is))
    (λ is front e. false≢true (sym is ∙ ends.1 front e)) c.read_version.result c.read_version.ensures.stage
