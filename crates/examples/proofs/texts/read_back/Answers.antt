use Rattle.std.proofs.Common.{rules}
use Rattle.examples.proofs.TextLemmas.{read_again}
use Rattle.examples.proofs.texts.read_back.Goals as goal

pub returns : goal.returns
returns c = read_again c.args.outcome.now c.requires.outcome c.requires.few_vertices c.deref.result.now (search rules)
    c.read_report.result c.read_report.ensures.outcome
