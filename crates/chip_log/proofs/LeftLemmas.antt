-- Serves Claims.antt, Judged.antt.
-- What is left after rows: it is one thing, and the same after others with the same counts and activity.
use Rattle.chip_log.proofs.Names.{◌≡◌, ℕ, ◌<◌, List, refl, ap, arith, dite, dec_lt, basic, IsQuiet}
use Rattle.chip_log.proofs.Names.{IsInTransit, IsBusy, IsQuiescentAfter, outs, ins, is_active, LogRow, Stream, Verdict}
use Rattle.chip_log.specs.declared.verdict.Verdict.TheVariants as verdict

-- two least numbers are one
pub one_number : (a b : ℕ) → (a < b → ⊥) → (b < a → ⊥) → a ≡ b
one_number a b not_less not_more = dite (dec_lt a b) (λ l. absurd (not_less l))
    (λ no. dite (dec_lt b a) (λ l. absurd (not_more l)) (λ other. omega arith))

-- a verdict on the moment after these rows
abbrev pub IsLeftAfter : List LogRow → List LogRow → Verdict → Type 0
IsLeftAfter log now verdict.Right = IsQuiescentAfter log now
IsLeftAfter log now (verdict.OnItsWay c k) = IsInTransit now c k
IsLeftAfter log now (verdict.Active q) = IsBusy log now q

no_way : (now : List LogRow) (c k : ℕ) → IsQuiet now → IsInTransit now c k → ⊥
no_way now c k quiet way = let a = quiet c in let b = way.next in let d = way.sent in omega arith

pub one_left : (log now : List LogRow) (v w : Verdict) → IsLeftAfter log now v → IsLeftAfter log now w → v ≡ w
one_left log now verdict.Right verdict.Right a b = refl
one_left log now verdict.Right (verdict.OnItsWay d l) a b = absurd (no_way now d l a.quiet b)
one_left log now verdict.Right (verdict.Active r) a b = absurd (let d = a.passive r in let e = b.active in cc)
one_left log now (verdict.OnItsWay c k) verdict.Right a b = absurd (no_way now c k b.quiet a)
one_left log now (verdict.OnItsWay c k) (verdict.OnItsWay d l) a b =
    let e : c ≡ d = one_number c d (λ less. let f = b.least c less in let g = a.next in let h = a.sent in omega arith)
    (λ less. let f = a.least d less in let g = b.next in let h = b.sent in omega arith) in
    let g = a.next in let h = b.next in cc
one_left log now (verdict.OnItsWay c k) (verdict.Active r) a b = absurd (no_way now c k b.quiet a)
one_left log now (verdict.Active q) verdict.Right a b = absurd (let d = b.passive q in let e = a.active in cc)
one_left log now (verdict.Active q) (verdict.OnItsWay d l) a b = absurd (no_way now d l a.quiet b)
one_left log now (verdict.Active q) (verdict.Active r) a b = ap verdict.Active
    (one_number q r (λ less. let f = b.least q less in let g = a.active in cc)
    (λ less. let f = a.least r less in let g = b.active in cc))

-- after rows of one log, and others of another
pub record SameAfter (log now other later : List LogRow) : Type 0 where
  pub outs : (s : Stream) → outs s now ≡ outs s later
  pub ins : (s : Stream) → ins s now ≡ ins s later
  pub active : (q : ℕ) → is_active log now q ≡ is_active other later q

module _ (log now other later : List LogRow) (same : SameAfter log now other later) where
  pub got_as : (s : Stream) → outs s now ≡ ins s now → outs s later ≡ ins s later
  got_as s is = let a = same.outs s in let b = same.ins s in cc

  pub left_as : (v : Verdict) → IsLeftAfter log now v → IsLeftAfter other later v
  left_as verdict.Right is = record {
    quiet = λ c. got_as (basic c) (is.quiet c);
    passive = λ q. rw (same.active q) at (is.passive q);
  }
  left_as (verdict.OnItsWay c k) is = record {
    next = rw (same.ins (basic c)) at is.next;
    sent = rw (same.outs (basic c)) at is.sent;
    least = λ d less. got_as (basic d) (is.least d less);
  }
  left_as (verdict.Active q) is = record {
    quiet = λ c. got_as (basic c) (is.quiet c);
    active = rw (same.active q) at is.active;
    least = λ r less. rw (same.active r) at (is.least r less);
  }
