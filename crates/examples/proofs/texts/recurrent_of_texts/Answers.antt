use Rattle.examples.proofs.TextLemmas.{is_recurrent_of}
use Rattle.examples.proofs.texts.recurrent_of_texts.Goals as goal

pub returns : goal.returns
returns c = is_recurrent_of c.args.graph.now c.args.chips.now c.new-text.result.items c.recurrent_engine.new.output.items
    c.in_ok-ended.ended c.new-text.ensures.items (rw c.standard.ensures at c.in_ok-ended.ensures)
