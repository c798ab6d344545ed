use Rattle.std.proofs.Common.{refl, sym, ◌∙◌}
use Rattle.chip_library.proofs.BooksLemmas.{all_possible, told_elsewhere, told_on_parent}
use Rattle.chip_library.proofs.detector.may_ack.Goals as goal

pub returns-then-owed-eq0-clause-told : goal.returns-then-owed-eq0-clause-told
returns-then-owed-eq0-clause-told c sound = told_elsewhere c.args.ins.now c.args.outs.now c.args.parent c.args.edge c.args.passive
    c.in-Some.field-0-0 c.in-Some.tally c.in-Some.ensures sound 0 (sym c.if-owed-eq0.true ∙ c.open-owed.ensures)
    (λ some. absurd (some refl))

pub returns-then-parent-edge-clause-told : goal.returns-then-parent-edge-clause-told
returns-then-parent-edge-clause-told c sound = told_elsewhere c.args.ins.now c.args.outs.now c.args.parent c.args.edge c.args.passive
    c.in-Some.field-0-0 c.in-Some.tally c.in-Some.ensures sound _ c.open-owed.ensures (λ some. c.if-parent-edge.true)

pub returns-in_default-all_open-clause-told : goal.returns-in_default-all_open-clause-told
returns-in_default-all_open-clause-told c = (refl, λ sound has. c.in_default-all_open.ensures (all_possible c.args.ins.now sound.ins))

pub returns-in_default-all_open-2-clause-told : goal.returns-in_default-all_open-2-clause-told
returns-in_default-all_open-2-clause-told c =
    (refl, λ sound has. c.in_default-all_open-2.ensures (all_possible c.args.outs.now sound.outs))

pub returns-clause-told : goal.returns-clause-told
returns-clause-told c sound = told_on_parent c.args.ins.now c.args.outs.now c.args.parent c.args.edge c.args.passive
    c.in-Some.field-0-0 c.in-Some.tally c.in-Some.ensures sound c.may_ack_on_parent.result _ _ _ c.if-parent-edge.false
    c.open-owed.ensures c.in-Some-all_open.ensures.1 c.in-Some-all_open-2.ensures.1 c.may_ack_on_parent.ensures
