use Rattle.std.proofs.Common.{refl, arith}
use Rattle.chip_library.proofs.BooksLemmas.{reads, engages, got_noted}
use Rattle.chip_library.proofs.detector.got.Goals as goal

pub returns-then-tally-eq-MESSAGE_LIMIT : goal.returns-then-tally-eq-MESSAGE_LIMIT
returns-then-tally-eq-MESSAGE_LIMIT c outs = (
  refl,
  λ sound room. omega (
    arith,
    room.1,
    c.if-tally-eq-MESSAGE_LIMIT.true,
    reads c.args.ins.now c.args.edge c.in-Some.slot c.in-Some.tally c.in-Some.ensures sound.ins
        (λ t. t.messages),
  ),
)

pub returns-then-parent-eq-NEUTRAL : goal.returns-then-parent-eq-NEUTRAL
returns-then-parent-eq-NEUTRAL c outs = got_noted c.args.ins.now _ outs c.args.parent.now c.args.edge c.args.edge
    c.in-Some.slot c.in-Some.tally c.in-Some.ensures
    (omega (arith, c.in-Some.ensures.possible.within, c.if-tally-eq-MESSAGE_LIMIT.false)) c.add_message_at.ensures.adds
    (engages c.args.parent.now c.args.edge c.args.edge c.in-Some.ensures.is_edge (λ none. refl)
    (λ some. absurd (some c.if-parent-eq-NEUTRAL.true)))

pub returns-else-parent-eq-NEUTRAL : goal.returns-else-parent-eq-NEUTRAL
returns-else-parent-eq-NEUTRAL c outs = got_noted c.args.ins.now _ outs c.args.parent.now c.args.parent.now c.args.edge
    c.in-Some.slot c.in-Some.tally c.in-Some.ensures
    (omega (arith, c.in-Some.ensures.possible.within, c.if-tally-eq-MESSAGE_LIMIT.false)) c.add_message_at.ensures.adds
    (engages c.args.parent.now c.args.parent.now c.args.edge c.in-Some.ensures.is_edge
    (λ none. absurd (c.if-parent-eq-NEUTRAL.false none)) (λ some. refl))
