use Rattle.std.proofs.Common.{Some, refl}
use Rattle.examples.proofs.TextLemmas.{is_report, same_report}
use Rattle.examples.proofs.texts.with_guess.Goals as goal

pub returns-clause-report : goal.returns-clause-report
returns-clause-report c = is_report c.args.graph.now c.args.chips.now c.args.limit c.new-without.result.items
    c.plain_engine.new.output.items c.in_ok-plain_engine.field-0 c.new-without.ensures.items
    (c.in_ok-plain_engine.ensures.report c.args.graph.now refl c.args.chips.now refl)

pub returns-clause-same : goal.returns-clause-same
returns-clause-same c = same_report c.args.graph.now c.args.chips.now c.args.limit c.new-without.result.items
    c.plain_engine.new.output.items c.in_ok-plain_engine.field-0 c.new-without.ensures.items
    (c.in_ok-plain_engine.ensures.report c.args.graph.now refl c.args.chips.now refl)
    (Some c.args.guess.now) c.new-with.result.items c.plain_guess_engine_with.new.output.items
    c.in_ok-plain_guess_engine_with.field-0 c.new-with.ensures.items
    (rw c.standard.ensures at c.in_ok-plain_guess_engine_with.ensures.known)
