use Rattle.examples.proofs.TextLemmas.{is_identity_of}
use Rattle.examples.proofs.texts.identity_of_text.Goals as goal

pub returns : goal.returns
returns c = is_identity_of c.args.graph.now c.new-text.result.items c.identity_engine.new.output.items
    c.in_ok-identity_engine.field-0 c.new-text.ensures.items (rw c.standard.ensures at c.in_ok-identity_engine.ensures)
