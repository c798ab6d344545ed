use Rattle.std.proofs.Common.{refl, arith}
use Rattle.chip_library.proofs.BooksLemmas.{reads, sent_noted}
use Rattle.chip_library.proofs.detector.sent.Goals as goal

pub returns-then-tally-eq-MESSAGE_LIMIT : goal.returns-then-tally-eq-MESSAGE_LIMIT
returns-then-tally-eq-MESSAGE_LIMIT c ins parent = (
  refl,
  λ sound room. omega (
    arith,
    room.1,
    c.if-tally-eq-MESSAGE_LIMIT.true,
    reads c.args.outs.now c.args.edge c.in-Some.slot c.in-Some.tally c.in-Some.ensures sound.outs
        (λ t. t.messages),
  ),
)

pub returns : goal.returns
returns c ins parent = sent_noted ins c.args.outs.now _ parent c.args.edge c.in-Some.slot c.in-Some.tally
    c.in-Some.ensures (omega (arith, c.in-Some.ensures.possible.within, c.if-tally-eq-MESSAGE_LIMIT.false))
    c.add_message_at.ensures.adds
