-- Serves Log.antt, Claims.antt, Judged.antt.
-- The judgment of a log depends only on the rows of each process.
use Rattle.chip_log.proofs.Names.{◌≡◌, ℕ, Bool, true, false, List, [], ◌∷◌, ◌++◌, refl, sym, ◌∙◌, All-weaker, ◌&&◌, IsPast}
use Rattle.chip_log.proofs.Names.{IsVerdict, IsQuiescentAfter, IsBefore, IsRight, IsOpenEnd, is_claim, is_early}
use Rattle.chip_log.proofs.Names.{IsJudged, NoneRight}
use Rattle.chip_log.proofs.Names.{IsEnd, control, IsJudgedLog, AreShown, steps_of, is_out, HasEnds, IsFirstEarly, Option}
use Rattle.chip_log.proofs.Names.{Some, None, ap, begins_active, IsStuck, is_active, is_in, is_enabled, AreEnabled}
use Rattle.chip_log.proofs.Names.{IsInterleaving, IsLog, ClaimVerdict, JudgedLog, LogEnd, LogRow, Step, Out, Over}
use Rattle.chip_log.proofs.Names.{Verdict, count_rows, count_steps}
use Rattle.chip_log.proofs.CountLemmas.{all_own}
use Rattle.chip_log.proofs.LeftLemmas.{SameAfter, got_as, left_as}
use Rattle.chip_log.specs.declared.verdict.Verdict.TheVariants as verdict
use Rattle.chip_log.specs.declared.judged.LogEnd.TheVariants as end

-- each process has the same rows in both
abbrev pub SameRows : List LogRow → List LogRow → Type 0
SameRows log other = (p : ℕ) → steps_of p log ≡ steps_of p other

-- ---- interleavings

-- logs whose processes begin alike
module _ (log other : List LogRow) (begins : (p : ℕ) → begins_active (steps_of p log) ≡ begins_active (steps_of p other)) where
  pub active_as : (before : List LogRow) (p : ℕ) → is_active log before p ≡ is_active other before p
  active_as before p = rw (begins p)

  pub met_as : (before : List LogRow) (p : ℕ) (step : Step) → is_enabled log before p step ≡ is_enabled other before p step
  met_as before p (Out s) = rw (active_as before p)
  met_as before p _ = refl

  pub are_met_as : (before xs : List LogRow) → AreEnabled log before xs → AreEnabled other before xs
  are_met_as before [] met = tt
  are_met_as before (x ∷ xs) met =
      (rw (met_as before x.process x.step) at met.0, are_met_as (before ++ x ∷ []) xs met.1)

  same_after : (before : List LogRow) → SameAfter log before other before
  same_after before = record { outs = λ s. refl; ins = λ s. refl; active = active_as before }

  pub quiescent_as : (before : List LogRow) → IsQuiescentAfter log before → IsQuiescentAfter other before
  quiescent_as before is = left_as log before other before (same_after before) verdict.Right is

  -- where the causal past of a claim stays, and that it is right, so does its judgment
  module _ (w : Bool) (c : ClaimVerdict)
      (past_as : (before : List LogRow) → IsPast log c.process c.row before → IsPast other c.process c.row before)
      (right_as : IsRight log c.process c.row → IsRight other c.process c.row) where
    verdict_by : (v : Verdict) → IsVerdict log c.process c.row v → IsVerdict other c.process c.row v
    verdict_by verdict.Right is = right_as is
    verdict_by (verdict.OnItsWay d k) is = (is.0, past_as is.0 is.1, is.2)
    verdict_by (verdict.Active q) is =
        (is.0, past_as is.0 is.1, left_as log is.0 other is.0 (same_after is.0) (verdict.Active q) is.2)

    shown_by : (b : Bool) → AreShown b log c.process c.row c.past.items → AreShown b other c.process c.row c.past.items
    shown_by true is = (is.0, past_as is.0 is.1, is.2)
    shown_by false is = is

    pub judged_by : IsJudged w log c → IsJudged w other c
    judged_by is = record { verdict = verdict_by c.verdict is.verdict; past = shown_by (w && is_early c.verdict) is.past }

module _ (log other : List LogRow) (same : SameRows log other) where
  begins_as : (p : ℕ) → begins_active (steps_of p log) ≡ begins_active (steps_of p other)
  begins_as p = ap begins_active (same p)

  interleaving_as : (xs : List LogRow) → IsInterleaving log xs → IsInterleaving other xs
  interleaving_as xs is = record { whole = λ p. is.whole p ∙ same p; met = are_met_as log other begins_as [] xs is.met }

  before_as : (p i : ℕ) (before : List LogRow) → IsBefore log p i before → IsBefore other p i before
  before_as p i before is = record {
    after = is.after;
    whole = interleaving_as (before ++ record { process = p; step = Over } ∷ is.after) is.whole;
    place = is.place;
  }

  claim_as : (p i : ℕ) → is_claim log p i ≡ is_claim other p i
  claim_as p i = rw (same p)

  pub ends_as : HasEnds log → HasEnds other
  ends_as ends = record {
    sender = ends.sender;
    receiver = ends.receiver;
    sends = λ s p ne. rw (same p) at (ends.sends s p ne);
    gets = λ s p ne. rw (same p) at (ends.gets s p ne);
  }

  pub stuck_as : (p i : ℕ) → IsStuck log p i → IsStuck other p i
  stuck_as p i is = record {
    used = is.used;
    greatest = record {
      progress = record {
        left = is.greatest.progress.left;
        own = λ q. is.greatest.progress.own q ∙ same q;
        met = are_met_as log other begins_as [] is.used is.greatest.progress.met;
      };
      stuck = λ q step later next.
          sym (met_as log other begins_as is.used q step) ∙ is.greatest.stuck q step later next;
    };
    place = is.place;
    some = rw (same p) at is.some;
    least = λ q less. is.least q less ∙ same q;
  }

  -- steps that only one process has
  count_as : (test : Step → Bool) (q : ℕ) → ((p : ℕ) → (p ≡ q → ⊥) → count_steps test (steps_of p log) ≡ 0)
      → count_rows test log ≡ count_rows test other
  count_as test q only =
      let a = all_own test q log only in let b = all_own test q other (λ p ne. rw (same p) at (only p ne)) in
      let c = same q in cc

-- ---- verdicts

module _ (log other : List LogRow) (same : SameRows log other) where
  back : SameRows other log
  back p = sym (same p)

  past_as : (p i : ℕ) (before : List LogRow) → IsPast log p i before → IsPast other p i before
  past_as p i before is = record {
    here = before_as log other same p i before is.here;
    least = λ now here. is.least now (before_as other log back p i now here);
  }

  pub right_as : (p i : ℕ) → IsRight log p i → IsRight other p i
  right_as p i is =
      let quiescent = quiescent_as log other (begins_as log other same) in
      record {
        at = λ before here. quiescent before (is.at before (before_as other log back p i before here));
        later = λ before between after whole place.
            let now = before ++ record { process = p; step = Over } ∷ between in
            quiescent now (is.later before between after (interleaving_as other log back (now ++ after) whole) place);
      }

  judged_as : (w : Bool) (c : ClaimVerdict) → IsJudged w log c → IsJudged w other c
  judged_as w c is = judged_by log other (begins_as log other same) w c (past_as c.process c.row) (right_as c.process c.row) is

module _ (log other : List LogRow) (same : SameRows log other) where
  none_right_as : NoneRight log → NoneRight other
  none_right_as none p i is right =
      none p i (rw (claim_as log other same p i) is) (right_as other log (back log other same) p i right)

  module _ (ends : HasEnds log) where
    same_end : SameAfter log log other other
    same_end = record {
      outs = λ s. count_as log other same (is_out s) (ends.sender s) (ends.sends s);
      ins = λ s. count_as log other same (is_in s) (ends.receiver s) (ends.gets s);
      active = λ p. rw (same p);
    }

    open_as : (e : LogEnd) → IsOpenEnd log e → IsOpenEnd other e
    open_as end.Claimed is = is
    open_as end.Missed is = (
      left_as log log other other same_end verdict.Right is.0,
      λ c. got_as log log other other same_end (control c) (is.1 c),
    )
    open_as end.Unclaimed is = (
      left_as log log other other same_end verdict.Right is.0,
      (is.1.0, rw (same_end.outs (control is.1.0), same_end.ins (control is.1.0)) at is.1.1),
    )
    open_as (end.OnItsWay c k) is = left_as log log other other same_end (verdict.OnItsWay c k) is
    open_as (end.Active q) is = left_as log log other other same_end (verdict.Active q) is

    end_as : (e : LogEnd) → IsEnd log e → IsEnd other e
    end_as end.Claimed is =
        (is.0, is.1, rw (claim_as log other same is.0 is.1) at is.2, right_as log other same is.0 is.1 is.3)
    end_as e is = (none_right_as is.0, open_as e is.1)

    pub judged_log_as : (w : Bool) (judged : JudgedLog) → IsJudgedLog w log judged → IsJudgedLog w other judged
    judged_log_as w judged is = record {
      ordered = (is.ordered.0, interleaving_as log other same is.ordered.0 is.ordered.1);
      claims = record {
        all = record {
          once = λ p i. rw (claim_as log other same p i) at (is.claims.all.once p i);
          sorted = is.claims.all.sorted;
        };
        each = All-weaker (IsJudged w log) (IsJudged w other) (judged_as log other same w) judged.claims.items is.claims.each;
      };
      end = end_as judged.end is.end;
    }

-- ---- the first early claim

module _ (w : Bool) (log other : List LogRow) (same : SameRows log other) where
  all_right_as : (p i : ℕ) → (is_claim log p i ≡ true → IsRight log p i) → is_claim other p i ≡ true → IsRight other p i
  all_right_as p i right is = right_as log other same p i (right (rw (← claim_as log other same p i) at is))

  pub first_as : (found : Option ClaimVerdict) → IsFirstEarly w log found → IsFirstEarly w other found
  first_as None all = λ p i. all_right_as p i (all p i)
  first_as (Some c) first = record {
    claim = rw (claim_as log other same c.process c.row) at first.claim;
    judged = judged_as log other same w c first.judged;
    early = first.early;
    before = λ p i is sooner. all_right_as p i (λ claim. first.before p i claim sooner) is;
  }

-- ---- rows in order

module _ (log order : List LogRow) (is : IsInterleaving log order) where
  pub is_log : HasEnds log → IsLog order
  is_log ends = record {
    ends = ends_as log order (back order log is.whole) ends;
    met = are_met_as log order (λ p. ap begins_active (back order log is.whole p)) [] order is.met;
  }
