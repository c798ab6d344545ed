-- Serves Judge.antt.
-- What is left, by books.
use Rattle.chip_log.proofs.Names.{◌≡◌, ℕ, ◌≤◌, ◌<◌, Bool, true, false, List, [], ◌∷◌, ◌++◌, refl, ap, ◌∙◌, arith}
use Rattle.chip_log.proofs.Names.{get_or_past, All-head, All-tail, slice_index_or}
use Rattle.chip_log.proofs.Names.{Option, Some, None, MatchBool, dite, dec_lt, said_before, said_of, IsOf}
use Rattle.chip_log.proofs.Names.{said_by, basic, IsVerdict, stream_of, NoWay, IsFirstWay, first_step, begins_with}
use Rattle.chip_log.proofs.Names.{AreBeginners, busy_at, is_busy, IsLeftOver, AreCounts, AreRowsOf, IsOpenEnd, AreShown}
use Rattle.chip_log.proofs.Names.{steps_of, is_out, outs, ins, sends, nat_tests, active_after, begins_active, is_active}
use Rattle.chip_log.proofs.Names.{AreKept, IsLog, Fits, FitsRow, AreSized, IsPastOf, Books, Said, PastRows, ClaimPlace}
use Rattle.chip_log.proofs.Names.{Sizes, LogRow, Step, Out, In, Active, Over, Stream, Verdict}
use Rattle.chip_log.proofs.CountLemmas.{count-append, active_after-append, own_few}
use Rattle.chip_log.proofs.MetLemmas.{count_no}
use Rattle.chip_log.proofs.PastLemmas.{met_le, rest_of, now_le, outs_by}
use Rattle.chip_log.proofs.QuiescentLemmas.{quiescent_is_right}
use Rattle.chip_log.proofs.LeftLemmas.{IsLeftAfter}
use Rattle.chip_log.specs.declared.books.Said.TheVariants as said
use Rattle.chip_log.specs.declared.verdict.Verdict.TheVariants as verdict
use Rattle.chip_log.specs.declared.judged.LogEnd.TheVariants as end

-- ---- how processes begin

pub begins_with-append : (begins : Option Bool) (xs ys : List Step)
    → begins_with begins (xs ++ ys) ≡ begins_with (begins_with begins xs) ys
begins_with-append begins [] ys = refl
begins_with-append begins (x ∷ xs) ys = begins_with-append (first_step begins x) xs ys

-- the same rows, mixed in another way
pub beginners_as : (sizes : Sizes) (log other : List LogRow) → ((q : ℕ) → steps_of q other ≡ steps_of q log)
    → (beginners : List (Option Bool)) → AreBeginners sizes log beginners → AreBeginners sizes other beginners
beginners_as sizes log other same beginners are = record {
  each = are.each;
  begins = λ q. rw (same q) (are.begins q);
}

begun : (b : Bool) (steps : List Step) → begins_with (Some b) steps ≡ Some b
begun b [] = refl
begun b (step ∷ steps) = begun b steps

-- ---- activity by the books

abbrev activity : Bool → Said → Bool
activity was said.Unsaid = was
activity was said.Passive = false
activity was said.Active = true

by_step : (was : Bool) (step : Step) → active_after was (step ∷ []) ≡ activity was (said_by step)
by_step was (In s) = grind arith
by_step was _ = refl

earlier : (was : Bool) (step : Step) (later : Said)
    → activity (active_after was (step ∷ [])) later ≡ activity was (said_before step later)
earlier was step said.Unsaid = by_step was step
earlier was step said.Passive = refl
earlier was step said.Active = refl

active_said : (was : Bool) (steps : List Step) → active_after was steps ≡ activity was (said_of steps)
active_said was [] = refl
active_said was (step ∷ steps) =
    rw (active_after-append was (step ∷ []) steps, active_said (active_after was (step ∷ [])) steps)
    (earlier was step (said_of steps))

-- a process without rows does not begin active
busy_is : (what : Said) (steps : List Step) → busy_at what (begins_with None steps) ≡ activity (begins_active steps) what
busy_is said.Passive steps = refl
busy_is said.Active steps = refl
busy_is said.Unsaid [] = refl
busy_is said.Unsaid (Active ∷ steps) = rw (begun true steps)
busy_is said.Unsaid (_ ∷ steps) = rw (begun false steps)

-- ---- what is left

-- a channel beyond the sizes has no message
none_beyond : (sizes : Sizes) (s : Stream) → sizes.channels ≤ s.channel → (xs : List LogRow) → Fits sizes xs → outs s xs ≡ 0
none_beyond sizes s beyond [] fits = refl
none_beyond sizes s beyond (x ∷ xs) fits =
    let a = none_beyond sizes s beyond xs (All-tail (FitsRow sizes) x xs fits) in
    let b = count_no (is_out s x.step) (by x.step (All-head (FitsRow sizes) x xs fits).channel) in
    omega arith
  where
    by : (step : Step) → IsOf sizes.channels step → is_out s step ≡ false
    by (Out t) inside = grind (arith, nat_tests)
    by _ inside = refl

-- rows of a log that may stay as they are, and their books
module _ (log : List LogRow) (sizes : Sizes) (fits : Fits sizes log) (now : List LogRow) (b : Books)
    (keeps : AreKept now b) (le : (s : Stream) → ins s now ≤ outs s now) (few : (s : Stream) → outs s now ≤ outs s log) where
  pub no_way : (k : Bool) → NoWay k sizes.channels b → (c : ℕ) → outs (stream_of k c) now ≡ ins (stream_of k c) now
  no_way k none c =
      let d = le (stream_of k c) in
      dite (dec_lt c sizes.channels)
      (λ l. let a = none c l in let e = keeps.taken (stream_of k c) in let f = keeps.sent (stream_of k c) in omega arith)
      (λ beyond. let a = none_beyond sizes (stream_of k c) (omega arith) log fits in let e = few (stream_of k c) in omega arith)

  pub some_way : (k : Bool) (c : ℕ) → IsFirstWay k sizes.channels b (Some c) → ins (stream_of k c) now < outs (stream_of k c) now
  some_way k c first =
      let a = first.1 in let e = keeps.taken (stream_of k c) in let f = keeps.sent (stream_of k c) in omega arith

  module _ (sized : AreSized sizes b) (beginners : List (Option Bool)) (made : AreBeginners sizes log beginners) where
    is_busy_is : (q : ℕ) → is_busy beginners b q ≡ is_active log now q
    is_busy_is q =
        rw (keeps.said q, made.begins q, active_said (begins_active (steps_of q log)) (steps_of q now))
        (busy_is (said_of (steps_of q now)) (steps_of q log))

    pub left_is : (v : Verdict) → IsLeftOver sizes beginners b v → IsLeftAfter log now v
    left_is verdict.Right left = record {
      quiet = no_way false left.0;
      passive = λ q. rw (← is_busy_is q) (dite (dec_lt q sizes.processes) (λ l. left.1 q l) (λ beyond.
          rw (get_or_past b.said.items q said.Unsaid (omega arith), get_or_past beginners q None (omega arith))));
    }
    left_is (verdict.OnItsWay c k) left = record {
      next = omega (arith, keeps.taken (basic c), left.1);
      sent = omega (arith, some_way false c left.0, left.1, keeps.taken (basic c));
      least = λ d less. omega (arith, left.0.2 d less, keeps.taken (basic d), keeps.sent (basic d), le (basic d));
    }
    left_is (verdict.Active q) left = record {
      quiet = no_way false left.0;
      active = rw (is_busy_is q) at left.1.1;
      least = λ r less. rw (is_busy_is r) at (left.1.2 r less);
    }

-- ---- a verdict by the books of the causal past

module _ (log : List LogRow) (is : IsLog log) (sizes : Sizes) (fits : Fits sizes log) (claim : ClaimPlace) (b : Books)
    (is_past : IsPastOf log sizes claim b) (beginners : List (Option Bool)) (made : AreBeginners sizes log beginners) where
  abbrev past : List LogRow
  past = is_past.past

  abbrev behind : List LogRow
  behind = record { process = claim.process; step = Over } ∷ is_past.is_past.here.after

  le : (s : Stream) → ins s past ≤ outs s past
  le s = now_le log is.ends past behind is_past.is_past.here.whole s

  few : (s : Stream) → outs s past ≤ outs s log
  few s =
      let a = outs_by log is.ends past behind is_past.is_past.here.whole s in
      let d = ap (sends s) (rest_of log is.ends past behind is_past.is_past.here.whole (is.ends.sender s)) in
      let e = count-append (is_out s) (steps_of (is.ends.sender s) past) (steps_of (is.ends.sender s) behind) in
      omega (arith, own_few (is_out s) (is.ends.sender s) log)

  pub verdict_left : (v : Verdict) → IsLeftOver sizes beginners b v → IsVerdict log claim.process claim.row v
  verdict_left verdict.Right left = quiescent_is_right log is.ends claim.process claim.row past is_past.is_past
      (left_is log sizes fits past b is_past.keeps le few is_past.sized beginners made verdict.Right left)
  verdict_left v left =
      (past, is_past.is_past, left_is log sizes fits past b is_past.keeps le few is_past.sized beginners made v left)

  -- the rows of the past, by process
  pub rows_left : (counts : List PastRows) → AreCounts sizes.processes b counts → AreRowsOf past counts
  rows_left counts are = record {
    each = λ q. dite (dec_lt q sizes.processes)
        (λ l. are.each q l ∙ is_past.keeps.rows q)
        (λ beyond.
        let a = is_past.sized.counted in let e = get_or_past b.rows.items q 0 (omega arith) in
        omega (arith, are.none q (omega arith), is_past.keeps.rows q));
    some = are.some;
    sorted = are.sorted;
  }

  pub past_left : (asked : Bool) (counts : List PastRows)
      → MatchBool asked (AreCounts sizes.processes b counts) (counts ≡ [])
      → AreShown asked log claim.process claim.row counts
  past_left true counts are = (past, is_past.is_past, rows_left counts are)
  past_left false counts none = none

-- ---- the end of a log by the books of all its rows

module _ (log : List LogRow) (is : IsLog log) (sizes : Sizes) (fits : Fits sizes log) (b : Books) (sized : AreSized sizes b)
    (keeps : AreKept log b) (beginners : List (Option Bool)) (made : AreBeginners sizes log beginners) where
  all_le : (s : Stream) → ins s log ≤ outs s log
  all_le s = met_le s log [] log is.met (omega arith)

  pub end_left : (v : Verdict) → IsLeftOver sizes beginners b v → IsLeftAfter log log v
  end_left v left = left_is log sizes fits log b keeps all_le (λ s. omega arith) sized beginners made v left

  pub missed_end : IsLeftOver sizes beginners b verdict.Right → IsFirstWay true sizes.channels b None → IsOpenEnd log end.Missed
  missed_end left first =
      (end_left verdict.Right left, no_way log sizes fits log b keeps all_le (λ s. omega arith) true first)

  pub unclaimed_end : (c : ℕ) → IsLeftOver sizes beginners b verdict.Right → IsFirstWay true sizes.channels b (Some c)
      → IsOpenEnd log end.Unclaimed
  unclaimed_end c left first = (
    end_left verdict.Right left,
    (c, some_way log sizes fits log b keeps all_le (λ s. omega arith) true c first),
  )
