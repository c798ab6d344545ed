use Rattle.std.proofs.Common.{◌≡◌, ℕ, Bool, true, false, List, [], Option, Some, None, Result, Ok, Err}
use Rattle.std.proofs.Common.{refl, sym, ap, ◌∙◌, inl, inr, subst, unwrap_or}
use Rattle.chip_graph.specs.Limits.{SizeLimits}
use Rattle.chip_log.specs.Claims.{IsVerdict}
use Rattle.chip_log.specs.First.{IsFirstAbsent}
use Rattle.chip_log.specs.Judged.{is_early}
use Rattle.chip_log.specs.Laws.{OneAbsent, OnePlace, SameStuck, StuckOrder}
use Rattle.chip_log.specs.Log.{steps_of, HasEnds, IsInterleaving}
use Rattle.chip_log.specs.declared.past.Sizes.{Sizes}
use Rattle.chip_log.specs.declared.row.LogRow.{LogRow}
use Rattle.chip_log.specs.declared.verdict.Verdict.{Verdict}
use Rattle.chip_log.specs.declared.verdict.Verdict.TheVariants as verdict
use Rattle.chip_file.specs.LogText.{log_of_text}
use Rattle.chip_file.specs.declared.fault.FileFault.{FileFault}
use Rattle.chip_file.specs.declared.fault.FileFault.TheVariants as file
use Rattle.chip_command.specs.CommandAnswers.{AnswersBy}
use Rattle.chip_command.specs.Faults.{fault_of_file}
use Rattle.chip_command.specs.declared.ended.Ended.{Ended}
use Rattle.chip_command.specs.declared.fault.Fault.{Fault}
use Rattle.chip_command.specs.declared.fault.Fault.TheVariants.{Absent, Stuck}
use Rattle.chip_engine.specs.JudgeCommand.{JudgeAnswers, JudgesBy, judging, judging_from}
use Rattle.chip_engine.specs.JudgeLaws.{OneAnswer, is_of_log}
use Rattle.chip_engine.specs.declared.judge.JudgeOptions.{JudgeOptions}
use Rattle.chip_engine.proofs.laws.same_texts.Goals as goal

-- what the log decides: the judgment that was written; or a fault, and nothing was written
abbrev Decides : JudgeOptions → List LogRow → List ℕ → Result Ended Fault → Type 0
Decides options log out (Ok ended) = (judging options log).gives (out, ended.status) × (ended.cut ≡ false)
Decides options log out (Err fault) = (out ≡ []) × (judging options log).refuses fault

-- ---- from texts to logs

-- a text means one log
one_log : (limits : SizeLimits) (text : List ℕ) (log rows : List LogRow) (sizes more : Sizes)
    → log_of_text limits text ≡ Some (log, sizes) → log_of_text limits text ≡ Some (rows, more) → rows ≡ log
one_log limits text log rows sizes more one two =
    ap (λ (o : Option (List LogRow × Sizes)). (unwrap_or o (log, sizes)).0) (sym two ∙ one)

-- the log decides no fault of a file
not_of_file : (f : FileFault) (fault : Fault) → fault ≡ fault_of_file f → is_of_log (Err fault) ≡ true → ⊥
not_of_file file.NoMemory fault why is = cc (rw why at is)
not_of_file f fault why is = cc (rw why at is)

module _ (options : JudgeOptions) (text : List ℕ) (log : List LogRow) (sizes : Sizes)
    (means : log_of_text options.limits text ≡ Some (log, sizes)) (out : List ℕ) where
  decided : (result : Result Ended Fault) → JudgeAnswers (Some text) options (Some []) (Some out) result
      → is_of_log result ≡ true → HasEnds log × Decides options log out result
  decided (Ok ended) answers is =
      let (written, (value, read, gives), wrote, whole) = answers.answer in
      let same = one_log options.limits text log value.0 sizes value.1 means (read.0 text refl).1 in
      let text_is : out ≡ written = wrote in (
        subst HasEnds same read.1.ends,
        (
          subst (λ (rows : List LogRow). (judging options rows).gives (out, ended.status)) same
              (subst (λ (w : List ℕ). (judging options value.0).gives (w, ended.status)) (sym text_is) gives),
          whole,
        ),
      )
  decided (Err fault) answers is = by answers.answer
    where
      by : AnswersBy (judging_from options (Some text)) (Some []) (Some out) (Err fault)
          → HasEnds log × Decides options log out (Err fault)
      by (inl (inl reads, keeps)) = let (f, why, cause) = reads text refl in absurd (not_of_file f fault why is)
      by (inl (inr (value, read, refuses), keeps)) =
          let same = one_log options.limits text log value.0 sizes value.1 means (read.0 text refl).1 in (
            subst HasEnds same read.1.ends,
            (keeps, subst (λ (rows : List LogRow). (judging options rows).refuses fault) same refuses),
          )
      by (inr (written, status, gives, w, failed, wrote)) = absurd (cc (rw failed at is))

-- ---- logs with an interleaving

-- the past of an early claim comes first in one
early_ordered : (log : List LogRow) (p i : ℕ) (v : Verdict) → IsVerdict log p i v → is_early v ≡ true
    → (xs : List LogRow) × IsInterleaving log xs
early_ordered log p i verdict.Right is early = absurd (cc early)
early_ordered log p i (verdict.OnItsWay c k) (before, past, way) early = (_, past.here.whole)
early_ordered log p i (verdict.Active q) (before, past, busy) early = (_, past.here.whole)

-- so a log of which claims are reported has one
ordered : (first past : Bool) (log : List LogRow) (text : List ℕ) (status : ℕ) → JudgesBy first past log text status
    → (xs : List LogRow) × IsInterleaving log xs
ordered false past log text status all = all.is_judged.ordered
ordered true past log text status (inl one) =
    let claim = one.claim in
    early_ordered log claim.process claim.row claim.verdict one.is_first.judged.verdict one.is_first.early
ordered true past log text status (inr (none, all)) = all.is_judged.ordered

-- ---- two logs with the same rows of each process

module _ (one_absent : OneAbsent) (same_stuck : SameStuck) (one_place : OnePlace) (stuck_order : StuckOrder)
    (options : JudgeOptions) (log other : List LogRow) (same : (p : ℕ) → steps_of p log ≡ steps_of p other)
    (ends : HasEnds log) (others : HasEnds other) where
  absent_is : (p q : Option ℕ) → IsFirstAbsent log options.processes p → IsFirstAbsent other options.processes q → p ≡ q
  absent_is p q first second = one_absent log other options.processes p q same first second

  -- if one is reported, the other is not refused
  not_both : (text : List ℕ) (status : ℕ) (fault : Fault) → (judging options log).gives (text, status)
      → (judging options other).refuses fault → is_of_log (Err fault) ≡ true → ⊥
  not_both text status fault gives (inr memory) is = cc (rw memory at is)
  not_both text status fault gives (inl (inl (q, why, first))) is = cc (absent_is None (Some q) gives.0 first)
  not_both text status fault gives (inl (inr (none, (q, i, why, stuck)))) is =
      let (xs, whole) = ordered options.first options.past log text status gives.1 in
      stuck_order log xs q i ends (same_stuck other log q i (λ p. sym (same p)) stuck) whole

  -- both are refused for one reason
  one_fault : (fault again : Fault) → (judging options log).refuses fault → (judging options other).refuses again
      → is_of_log (Err fault) ≡ true → is_of_log (Err again) ≡ true → fault ≡ again
  one_fault fault again (inr memory) refuses is too = absurd (cc (rw memory at is))
  one_fault fault again refuses (inr memory) is too = absurd (cc (rw memory at too))
  one_fault fault again (inl (inl (p, why, first))) (inl (inl (q, because, second))) is too =
      let there : p ≡ q = cc (absent_is (Some p) (Some q) first second) in why ∙ ap Absent there ∙ sym because
  one_fault fault again (inl (inl (p, why, first))) (inl (inr (none, stuck))) is too =
      absurd (cc (absent_is (Some p) None first none))
  one_fault fault again (inl (inr (none, stuck))) (inl (inl (q, because, second))) is too =
      absurd (cc (absent_is None (Some q) none second))
  one_fault fault again (inl (inr (none, (p, i, why, stuck)))) (inl (inr (all, (q, j, because, there)))) is too =
      let (process, row) = one_place other p i q j others (same_stuck log other p i same stuck) there in
      why ∙ (λ k. Stuck (process k) (row k)) ∙ sym because

-- ---- the law

module _ (one_answer : OneAnswer) (one_absent : OneAbsent) (same_stuck : SameStuck) (one_place : OnePlace)
    (stuck_order : StuckOrder) (options : JudgeOptions) (log other : List LogRow)
    (same : (p : ℕ) → steps_of p log ≡ steps_of p other) (ends : HasEnds log) (others : HasEnds other)
    (text again : List ℕ) where
  back : (p : ℕ) → steps_of p other ≡ steps_of p log
  back p = sym (same p)

  are_one : (one two : Result Ended Fault) → Decides options log text one → Decides options other again two
      → is_of_log one ≡ true → is_of_log two ≡ true → (text ≡ again) × (one ≡ two)
  are_one (Ok one) (Ok two) a b is too =
      let written = one_answer options.first options.past log other text again one.status two.status ends same a.0.1 b.0.1 in
      let same_end : one ≡ two = (λ i. record { status = written.1 i; cut = (a.1 ∙ sym b.1) i }) in
      (written.0, ap Ok same_end)
  are_one (Ok one) (Err two) a b is too = absurd (not_both one_absent same_stuck one_place stuck_order options log other same
      ends others text one.status two a.0 b.1 too)
  are_one (Err one) (Ok two) a b is too = absurd (not_both one_absent same_stuck one_place stuck_order options other log back
      others ends again two.status one b.0 a.1 is)
  are_one (Err one) (Err two) a b is too = (
    a.0 ∙ sym b.0,
    ap Err (one_fault one_absent same_stuck one_place stuck_order options log other same ends others one two a.1 b.1 is too),
  )

pub returns : goal.returns
returns c = λ options one two text again ended other means first second is too.
    let a = decided options one means.log means.sizes means.one_is text ended first is in
    let b = decided options two means.other means.others means.two_is again other second too in
    are_one c.one_answer.ensures c.one_absent.ensures c.same_stuck.ensures c.one_place.ensures c.stuck_order.ensures options
    means.log means.other means.same a.0 b.0 text again ended other a.1 b.1 is too
