-- Serves Claims.antt.
-- A claim has one verdict.
use Rattle.chip_log.proofs.Names.{◌≡◌, ℕ, List, ◌∷◌, refl, arith, IsPast, IsVerdict, steps_of}
use Rattle.chip_log.proofs.Names.{HasEnds, LogRow, Over, Verdict}
use Rattle.chip_log.proofs.PrefixLemmas.{same_beginning}
use Rattle.chip_log.proofs.PastLemmas.{rest_of, outs_by, ins_by}
use Rattle.chip_log.proofs.LeftLemmas.{IsLeftAfter, one_left, SameAfter, left_as}
use Rattle.chip_log.specs.declared.verdict.Verdict.TheVariants as verdict

module _ (log : List LogRow) (ends : HasEnds log) (p i : ℕ) where
  abbrev behind : (m : List LogRow) → IsPast log p i m → List LogRow
  behind m is = record { process = p; step = Over } ∷ is.here.after

  module _ (m n : List LogRow) (is_m : IsPast log p i m) (is_n : IsPast log p i n) where
    pub same_steps : (q : ℕ) → steps_of q m ≡ steps_of q n
    same_steps q = same_beginning (steps_of q m) (steps_of q (behind m is_m)) (steps_of q n)
        (steps_of q (behind n is_n)) (steps_of q log)
        (rest_of log ends m (behind m is_m) is_m.here.whole q) (rest_of log ends n (behind n is_n) is_n.here.whole q)
        (let a = is_m.least n is_n.here q in let b = is_n.least m is_m.here q in omega arith)

    same_after : SameAfter log m log n
    same_after = record {
      outs = λ s.
          let a = outs_by log ends m (behind m is_m) is_m.here.whole s in
          let b = outs_by log ends n (behind n is_n) is_n.here.whole s in let c = same_steps (ends.sender s) in cc;
      ins = λ s.
          let a = ins_by log ends m (behind m is_m) is_m.here.whole s in
          let b = ins_by log ends n (behind n is_n) is_n.here.whole s in let c = same_steps (ends.receiver s) in cc;
      active = λ q. rw (same_steps q);
    }

  of_past : (v : Verdict) → IsVerdict log p i v → (m : List LogRow) → IsPast log p i m → IsLeftAfter log m v
  of_past verdict.Right is m past = is.at m past.here
  of_past v is m past = left_as log is.0 log m (same_after is.0 m is.1 past) v is.2

  pub one_verdict : (v w : Verdict) → IsVerdict log p i v → IsVerdict log p i w → v ≡ w
  one_verdict verdict.Right verdict.Right a b = refl
  one_verdict verdict.Right w a b = one_left log b.0 verdict.Right w (a.at b.0 b.1.here) b.2
  one_verdict v w a b = one_left log a.0 v w a.2 (of_past w b a.0 a.1)
