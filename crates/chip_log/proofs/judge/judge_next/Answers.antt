use Rattle.chip_log.proofs.RightLemmas.{right_known, judges, none_shown}
use Rattle.chip_log.specs.declared.verdict.Verdict.TheVariants as verdict
use Rattle.chip_log.proofs.judge.judge_next.Goals as goal

pub returns-in-Some : goal.returns-in-Some
returns-in-Some c = judges c.args.with_past c.args.rows.now c.args.place (record {
  process = c.args.place.process;
  row = c.from.result;
  verdict = verdict.Right;
  past = c.new.result;
}) (λ k. record { process = c.args.place.process; row = c.from.ensures k }) (
  right_known c.args.rows.now c.requires.order.log c.args.place c.in-Some.earlier (c.requires.right c.in-Some.earlier c.in-Some.is)
      c.if-earlier-place.true,
  none_shown c.args.with_past c.args.rows.now c.args.place.process c.args.place.row c.new.result.items c.new.ensures.items,
)
