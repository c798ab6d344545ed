use Rattle.std.proofs.Common.{◌≡◌, length, rules, arith, inl, inr, refl, ◌∙◌}
use Rattle.chip_sequence.specs.Stages.{IsResumed}
use Rattle.chip_command.proofs.CommandLemmas.{handed_on}
use Rattle.chip_engine.proofs.GuessLemmas.{no_report}
use Rattle.chip_engine.proofs.StageLemmas.{resumed_of_report}
use Rattle.chip_engine.proofs.guess.counts_of_report.Goals as goal

pub returns-in_err-told : goal.returns-in_err-told
returns-in_err-told c = rw (handed_on _ c.from_residual.ensures.1)
    (no_report c.args.limits c.args.vertices c.args.text.now _ c.in_err-told.ensures.stage)

pub returns-then-len-vertices : goal.returns-then-len-vertices
returns-then-len-vertices c = inl (inr ((c.in_ok-told.told, c.in_ok-told.ensures.stage, search rules), refl))

pub counts_in_all-requires : goal.counts_in_all-requires
counts_in_all-requires c = resumed_of_report c.args.text.now c.in_ok-told.told c.in_ok-told.ensures.stage.0

pub returns : goal.returns
returns c =
    let told = c.in_ok-told.told in
    let resumed : IsResumed told = resumed_of_report c.args.text.now told c.in_ok-told.ensures.stage.0 in
    let as_many : length told.outcome.fired.items ≡ c.args.vertices = search rules in
    let each : length c.in_ok-counts_in_all.field-0.items ≡ c.args.vertices =
    c.in_ok-counts_in_all.ensures.0 ∙ resumed.prior_each ∙ as_many in
    record {
      told = told;
      report = c.in_ok-told.ensures.stage;
      as_many = as_many;
      counts_each = each;
      counted = λ v below. c.in_ok-counts_in_all.ensures.1 v (omega arith);
    }
