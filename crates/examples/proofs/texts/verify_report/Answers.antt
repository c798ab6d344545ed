use Rattle.examples.proofs.TextLemmas.{told_end}
use Rattle.examples.proofs.texts.verify_report.Goals as goal

pub returns : goal.returns
returns c = told_end c.args.graph.now c.args.chips.now c.args.report.now c.args.limit _ _ c.in_ok-verify_engine.field-0
    c.in_ok-verify_engine.ensures
