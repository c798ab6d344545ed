use Rattle.chip_file.proofs.KeptLemmas.{refused, means_graph, text_fault}
use Rattle.chip_file.proofs.graph.graph_of_file.Goals as goal

pub returns-in_err-within : goal.returns-in_err-within
returns-in_err-within c = λ text kept.
    refused _ _ _ _ c.from_residual.ensures.1
    (text_fault c.args.limits text c.args.file c.in_err-within.field-0.0 kept c.in_err-within.ensures)

pub returns : goal.returns
returns c = λ text kept. means_graph c.args.limits text c.args.file c.in_ok-within.field-0 kept c.in_ok-within.ensures
