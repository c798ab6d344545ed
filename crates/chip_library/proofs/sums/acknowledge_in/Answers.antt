use Rattle.std.proofs.Common.{refl, arith}
use Rattle.chip_library.proofs.SumsLemmas.{open_within_sum, acknowledged_all}
use Rattle.chip_library.proofs.sums.acknowledge_in.Goals as goal
use Rattle.chip_library.proofs.sums.acknowledge_in.Goals.{else-parent-edge-via-then-parent-edge+else-count-open}
use Rattle.chip_library.proofs.sums.acknowledge_in.Goals.{else-parent-edge-via-else-parent-edge}

pub returns-in_default : goal.returns-in_default
returns-in_default c outs = record {
  all = λ sums. (refl, λ sound has. c.in_default.ensures sound.ins has);
  notes = (refl, λ sums. (refl, λ sound room. c.in_default.ensures sound.ins room.0));
  so_far = tt;
}

pub returns-in_default-checked_sub : goal.returns-in_default-checked_sub
returns-in_default-checked_sub c outs =
    let enough = open_within_sum c.args.ins.now outs c.args.parent.now c.args.owed.now c.args.deficit c.args.edge
    c.in-Some.slot c.in-Some.tally c.in-Some.ensures in
    record {
      all = λ sums. (
        refl,
        λ sound has. omega
            (arith, c.in_default-checked_sub.ensures, c.may_ack_by-count.ensures.within, enough sums sound),
      );
      notes = (
        refl,
        λ sums. (
          refl,
          λ sound room. omega
              (arith, c.in_default-checked_sub.ensures, c.may_ack_by-count.ensures.within, enough sums sound),
        ),
      );
      so_far = tt;
    }

pub returns-then-count-open : goal.returns-then-count-open
returns-then-count-open c outs = acknowledged_all c.args.ins.now _ outs c.args.parent.now _ c.args.owed.now _ c.args.deficit
    c.args.edge c.args.passive c.in-Some.slot c.in-Some.tally _ c.in-Some.ensures c.may_ack_by-count.ensures.value
    c.may_ack_by-count.ensures.within (omega (arith, c.in-Some-checked_sub.ensures)) refl c.add_answers_at.ensures.adds
    (λ here all. refl)
    (λ other. absurd (other c.if-parent-edge.true (omega (arith, c.if-count-open.true, c.open.ensures))))

pub returns-else-parent-edge : goal.returns-else-parent-edge
returns-else-parent-edge c outs = acknowledged_all c.args.ins.now _ outs c.args.parent.now c.args.parent.now c.args.owed.now _
    c.args.deficit c.args.edge c.args.passive c.in-Some.slot c.in-Some.tally _ c.in-Some.ensures
    c.may_ack_by-count.ensures.value c.may_ack_by-count.ensures.within (omega (arith, c.in-Some-checked_sub.ensures)) refl
    c.add_answers_at.ensures.adds
    (λ here all. absurd (elim c.else-parent-edge.branch [
      | else-parent-edge-via-then-parent-edge+else-count-open w ↦ w.if-count-open.false
          (omega (arith, all, w.open.ensures))
      | else-parent-edge-via-else-parent-edge w ↦ w.if-parent-edge.false here
    ]))
    (λ other. refl)
