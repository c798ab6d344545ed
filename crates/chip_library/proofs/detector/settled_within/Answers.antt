use Rattle.std.proofs.Common.{refl, arith}
use Rattle.chip_library.proofs.BooksLemmas.{reads, settled_noted}
use Rattle.chip_library.proofs.detector.settled_within.Goals as goal

pub returns-then-word-tally-clause-settles : goal.returns-then-word-tally-clause-settles
returns-then-word-tally-clause-settles c below = record {
  notes = λ ins parent. (
    refl,
    λ sound room. omega (
      arith,
      room.1,
      c.if-word-tally.true,
      reads c.args.outs.now c.args.edge c.in-Some.slot c.in-Some.tally c.in-Some.ensures sound.outs
          (λ t. t.messages),
    ),
  );
  more = tt;
}

pub returns-then-more-most-clause-settles : goal.returns-then-more-most-clause-settles
returns-then-more-most-clause-settles c below = record {
  notes = λ ins parent. (
    refl,
    λ sound room. omega (
      arith,
      room.1,
      c.saturating_sub-more.ensures,
      c.if-more-most.true,
      below sound.outs,
      reads c.args.outs.now c.args.edge c.in-Some.slot c.in-Some.tally c.in-Some.ensures sound.outs
          (λ t. t.answered),
    ),
  );
  more = tt;
}

pub returns-clause-settles : goal.returns-clause-settles
returns-clause-settles c below = record {
  notes = λ ins parent. settled_noted ins c.args.outs.now _ parent c.args.edge c.args.word _ c.in-Some.slot
      c.in-Some.tally c.in-Some.ensures (omega (arith, c.if-word-tally.false)) c.saturating_sub-more.ensures c.add_answers_at.ensures.adds;
  more = λ are. omega (
    arith,
    c.saturating_sub-more.ensures,
    reads c.args.outs.now c.args.edge c.in-Some.slot c.in-Some.tally c.in-Some.ensures are
        (λ t. t.answered),
  );
}
