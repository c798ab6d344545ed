use Rattle.std.proofs.Common.{Some, None, option_map}
use Rattle.examples.proofs.TextLemmas.{are_rows}
use Rattle.examples.proofs.texts.rows_of_drops.Goals as goal

pub returns : goal.returns
returns c = are_rows c.args.graph.now c.args.chips.now c.args.drops.now c.args.limit c.new-text.result.items
    c.avalanches_engine.new.output.items None (option_map (λ w. Some w.items) c.avalanches_engine.new.report)
    c.in_ok-ended.ended c.new-text.ensures.items c.in_ok-ended.ensures
