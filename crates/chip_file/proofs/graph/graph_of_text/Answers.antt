use Rattle.chip_file.proofs.KeptLemmas.{refused}
use Rattle.chip_file.proofs.graph.graph_of_text.Goals as goal

pub returns-in_err-file : goal.returns-in_err-file
returns-in_err-file c = refused _ _ _ _ c.from_residual.ensures.1 c.in_err-file.ensures

pub returns : goal.returns
returns c = c.graph_of_file.ensures c.args.text.now c.in_ok-file.ensures
