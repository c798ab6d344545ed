use Rattle.chip_report.proofs.Names.{sym, ◌∙◌}
use Rattle.chip_report.proofs.ListLemmas.{found_if, found_then}
use Rattle.chip_report.proofs.reportable.is_in.Goals as goal

pub returns : goal.returns
returns c =
    let found = c.binary_search.ensures.position in (
      λ e. found_if c.args.list.now c.args.vertex c.binary_search.result found c.requires (sym c.is_ok.ensures.value
          ∙ e),
      λ stands. c.is_ok.ensures.value
          ∙ found_then c.args.list.now c.args.vertex c.binary_search.result found c.requires stands,
    )
