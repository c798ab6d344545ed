use Rattle.std.proofs.Common.{◌≡◌, ◌∙◌, sym, ap, subst, arith}
use Rattle.std.proofs.lemmas.Bool.Decides.{nat_tests}
use Rattle.chip_detect.specs.Books.{Books, IsSound, all_owed}
use Rattle.chip_detect.proofs.SoundnessLemmas.{last_is_kept}
use Rattle.chip_detect.proofs.detector.Detect.keeps_last.Goals as goal
use Rattle.chip_detect.proofs.detector.Detect.keeps_last.Goals.{then-passive, else-passive}

pub returns-after-passive-clause-none : goal.returns-after-passive-clause-none
returns-after-passive-clause-none c =
    let sound : IsSound c.args.self.now = subst (λ (b : Books). IsSound b) c.self.view_is c.self.invariant in
    let one : all_owed c.args.self.now ≡ 1 = sym (ap (λ (b : Books). all_owed b) c.self.view_is)
    ∙ (sym c.all_open.ensures.all_open ∙ c.if-all_open-eq1.true) in
    elim c.if-passive.branch [
      | then-passive w ↦ λ waits. last_is_kept c.args.self.now c.args.passive sound one
          (λ on zero. absurd (grind (arith, nat_tests, waits, w.result-is, w.deficit.ensures, zero)))
      | else-passive w ↦ λ waits. last_is_kept c.args.self.now c.args.passive sound one
          (λ on. absurd (cc (on, w.if-passive.false)))
    ]
