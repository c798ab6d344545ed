use Rattle.chip_file.proofs.Names.{◌∙◌, inr, sym, ap, option_and_then, graph_of_file}
use Rattle.chip_file.proofs.KeptLemmas.{refused, json_fault, text_file, first_version}
use Rattle.chip_file.proofs.graph.file_of_text.Goals as goal

pub returns-in_err-file : goal.returns-in_err-file
returns-in_err-file c =
    refused _ _ c.from_residual.result _ c.from_residual.ensures.1
    (json_fault c.args.limits c.edges.result c.args.text.now _ c.in_err-file.ensures)

pub returns-then-file-ne-VERSION : goal.returns-then-file-ne-VERSION
returns-then-file-ne-VERSION c =
    let found = text_file c.edges.result c.args.text.now _ c.in_ok-file.ensures in
    inr (found.0, found.1, λ is. c.if-file-ne-VERSION.true (sym found.2 ∙ is))

pub returns : goal.returns
returns c =
    let found = text_file c.edges.result c.args.text.now _ c.in_ok-file.ensures in (
      found.0.graph,
      ap (option_and_then graph_of_file) found.1 ∙ first_version found.0 (found.2 ∙ c.if-file-ne-VERSION.false),
      rw (← c.edges.ensures.value) found.3,
    )
