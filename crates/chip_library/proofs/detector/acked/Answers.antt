use Rattle.std.proofs.Common.{refl, arith}
use Rattle.chip_library.proofs.BooksLemmas.{among, open_is, acked_noted}
use Rattle.chip_library.proofs.detector.acked.Goals as goal
use Rattle.chip_library.proofs.detector.acked.Goals.{else-parent-edge-via-then-parent-edge+else-count-open-2}
use Rattle.chip_library.proofs.detector.acked.Goals.{else-parent-edge-via-else-parent-edge}

pub returns-then-count-open-clause-notes : goal.returns-then-count-open-clause-notes
returns-then-count-open-clause-notes c = (
  refl,
  λ sound room. omega (
    arith,
    room.1,
    c.if-count-open.true,
    c.open.ensures,
    open_is c.args.ins.now c.args.edge c.in-Some.slot c.in-Some.tally c.in-Some.ensures sound.ins,
  ),
)

pub returns-then-count-most-clause-notes : goal.returns-then-count-most-clause-notes
returns-then-count-most-clause-notes c = (
  refl,
  λ sound. (
    (
      among c.args.ins.now c.args.edge c.in-Some.slot c.in-Some.tally c.in-Some.ensures,
      omega (
        arith,
        c.if-count-open.false,
        c.open.ensures,
        open_is c.args.ins.now c.args.edge c.in-Some.slot c.in-Some.tally c.in-Some.ensures sound.ins,
      ),
    ),
    λ due. omega (arith, c.if-count-most.true, (c.in-Ok.ensures.told sound).1, due),
  ),
)

pub returns-then-count-open-2-clause-notes : goal.returns-then-count-open-2-clause-notes
returns-then-count-open-2-clause-notes c = acked_noted c.args.ins.now _ c.args.outs.now c.args.parent.now _ c.args.edge c.args.count c.args.passive
    c.in-Some.slot c.in-Some.tally c.in-Some.ensures (omega (arith, c.if-count-open.false, c.open.ensures))
    (λ sound. omega (arith, c.if-count-most.false, (c.in-Ok.ensures.told sound).1)) c.add_answers_at.ensures.adds
    (λ here all. refl) (λ other. absurd (other c.if-parent-edge.true (omega (arith, c.if-count-open-2.true, c.open-then-parent-edge.ensures))))

pub returns-else-parent-edge-clause-notes : goal.returns-else-parent-edge-clause-notes
returns-else-parent-edge-clause-notes c = acked_noted c.args.ins.now _ c.args.outs.now c.args.parent.now c.args.parent.now c.args.edge c.args.count
    c.args.passive c.in-Some.slot c.in-Some.tally c.in-Some.ensures (omega (arith, c.if-count-open.false, c.open.ensures))
    (λ sound. omega (arith, c.if-count-most.false, (c.in-Ok.ensures.told sound).1)) c.add_answers_at.ensures.adds
    (λ here all. absurd (elim c.else-parent-edge.branch [
      | else-parent-edge-via-then-parent-edge+else-count-open-2 w ↦ w.if-count-open-2.false
          (omega (arith, all, w.open-then-parent-edge.ensures))
      | else-parent-edge-via-else-parent-edge w ↦ w.if-parent-edge.false here
    ])) (λ other. refl)
