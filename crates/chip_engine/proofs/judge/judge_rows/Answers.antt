use Rattle.std.proofs.Common.{◌∙◌, ℕ, inl, inr, refl, ap, rules, Vec, Global}
use Rattle.chip_command.specs.Statuses.{number_of_status}
use Rattle.chip_engine.specs.JudgeCommand.{JudgesAll}
use Rattle.chip_engine.proofs.judge.judge_rows.Goals.{then-options+in_ok-claim+in_default-2, else-options}
use Rattle.chip_engine.proofs.judge.judge_rows.Goals as goal

pub returns-in-Some : goal.returns-in-Some
returns-in-Some g c =
    let absent = c.first_absent.ensures c.args.sizes c.args.rows.now c.requires.beginners in
    inl (inl (c.in-Some.process, refl, rw c.in-Some.is at absent))

pub returns-in_err-claim : goal.returns-in_err-claim
returns-in_err-claim g c =
    let absent = c.first_absent.ensures c.args.sizes c.args.rows.now c.requires.beginners in
    let none = rw c.in_default.is at absent in search rules

pub returns-in_err-judged : goal.returns-in_err-judged
returns-in_err-judged g c =
    let absent = c.first_absent.ensures c.args.sizes c.args.rows.now c.requires.beginners in
    let none = rw c.in_default.is at absent in search rules

pub returns-in-Some-2 : goal.returns-in-Some-2
returns-in-Some-2 g c =
    let absent = c.first_absent.ensures c.args.sizes c.args.rows.now c.requires.beginners in (
      rw c.in_default.is at absent,
      rw c.if-options.true (inl (record {
        claim = c.in-Some-2.claim;
        is_first = rw c.in-Some-2.is at c.in_ok-claim.ensures;
        lines = ap (λ (bytes : Vec ℕ Global). bytes.items) c.into_bytes.ensures.value ∙ c.in_ok-text_of_early.ensures;
        status_is = refl;
      })),
    )

pub returns : goal.returns
returns g c =
    let absent = c.first_absent.ensures c.args.sizes c.args.rows.now c.requires.beginners in
    let all : JudgesAll c.args.options.past c.args.rows.now c.into_bytes-2.result.items
    (number_of_status c.status_of_judged.result) = record {
      judged = c.in_ok-judged.judged;
      is_judged = c.in_ok-judged.ensures;
      lines = ap (λ (bytes : Vec ℕ Global). bytes.items) c.into_bytes-2.ensures.value ∙ c.in_ok-text.ensures;
      status_is = ap number_of_status c.status_of_judged.ensures;
    } in (
      rw c.in_default.is at absent,
      elim c.if-options.branch [
        | then-options+in_ok-claim+in_default-2 w ↦ rw w.if-options.true (inr (
          rw w.in_default-2.is at w.in_ok-claim.ensures,
          all,
        ))
        | else-options w ↦ rw w.if-options.false all
      ],
    )
