-- Serves Claims.antt.
-- Once a log is quiescent it stays so.
use Rattle.chip_log.proofs.Names.{◌≡◌, ◌≢◌, ℕ, ◌≤◌, ◌<◌, Bool, true, false, List, [], ◌∷◌, ◌++◌, length, refl}
use Rattle.chip_log.proofs.Names.{arith, cond, append-nil, append_assoc, length-append, ltb-true}
use Rattle.chip_log.proofs.Names.{nil_from_length, dite, ℕ_discrete, dec_lt, basic, IsPast, IsQuiescentAfter, IsBefore}
use Rattle.chip_log.proofs.Names.{IsRight}
use Rattle.chip_log.proofs.Names.{control, steps_of, is_out, outs, ins, HasEnds, sends, count_steps, active_after}
use Rattle.chip_log.proofs.Names.{is_active, is_in, is_enabled, AreEnabled, IsInterleaving, LogRow, Step, Out}
use Rattle.chip_log.proofs.Names.{In, Over, Stream}
use Rattle.chip_log.proofs.PrefixLemmas.{same_beginning}
use Rattle.chip_log.proofs.CountLemmas.{longer_counts, steps_of-append, active_after-append, steps_own, steps_push}
use Rattle.chip_log.proofs.CountLemmas.{steps_push_other, own_few, same_stream_is}
use Rattle.chip_log.proofs.MetLemmas.{owner_is, push_no, same_self}
use Rattle.chip_log.proofs.PastLemmas.{rest_of, now_met, now_le, outs_by, ins_by}

module _ (log : List LogRow) (ends : HasEnds log) (p i : ℕ) (past : List LogRow) (is : IsPast log p i past)
    (quiescent : IsQuiescentAfter log past) (other left : List LogRow) (whole : IsInterleaving log (other ++ left))
    (least : (q : ℕ) → length (steps_of q past) ≤ length (steps_of q other)) where
  abbrev claim : LogRow
  claim = record { process = p; step = Over }

  -- what is left of the rows of q after the causal past
  abbrev rest : ℕ → List Step
  rest q = steps_of q (claim ∷ is.here.after)

  rest_is : (q : ℕ) → steps_of q past ++ rest q ≡ steps_of q log
  rest_is q = rest_of log ends past (claim ∷ is.here.after) is.here.whole q

  -- after these rows no more is sent than in the causal past, and a process that has all its rows of that is passive
  pub record Calm (pre : List LogRow) : Type 0 where
    pub outs : (c : ℕ) → outs (basic c) pre ≤ outs (basic c) past
    pub passive : (q : ℕ) → length (steps_of q past) ≤ length (steps_of q pre) → is_active log pre q ≡ false

  module _ (pre : List LogRow) (x : LogRow) (later : List LogRow) (all : IsInterleaving log ((pre ++ x ∷ []) ++ later))
      (calm : Calm pre) where
    abbrev q : ℕ
    q = x.process

    abbrev now : List LogRow
    now = pre ++ x ∷ []

    before : IsInterleaving log (pre ++ x ∷ later)
    before = rw append_assoc at all

    owner : (test : Step → Bool) (o : ℕ) → ((r : ℕ) → r ≢ o → count_steps test (steps_of r log) ≡ 0)
        → test x.step ≡ true → q ≡ o
    owner test o only is = owner_is test o q log (steps_of q pre) x.step (steps_of q later) only
        (rw (steps_own q x later refl) at (rest_of log ends pre (x ∷ later) before q)) is

    -- not all rows of q in the causal past were used: with x they begin it
    module _ (less : length (steps_of q pre) < length (steps_of q past)) where
      within : length (steps_of q now) ≤ length (steps_of q past)
      within = rw (steps_push q pre x refl, length-append) (omega arith)

      sent_within : (s : Stream) → sends s (steps_of q now) ≤ outs s past
      sent_within s =
          let a = longer_counts (is_out s) (steps_of q now) (steps_of q later) (steps_of q past) (rest q)
          (steps_of q log) (rest_of log ends now later all q) (rest_is q) within in
          omega (arith, own_few (is_out s) q past)

      all_used : length (steps_of q past) ≤ length (steps_of q now) → is_active log now q ≡ false
      all_used enough =
          rw (same_beginning (steps_of q now) (steps_of q later) (steps_of q past) (rest q) (steps_of q log)
          (rest_of log ends now later all q) (rest_is q) (omega (arith, within))) (quiescent.passive q)

    -- all of them were used: q is passive, and no basic message is there for it
    module _ (enough : length (steps_of q past) ≤ length (steps_of q pre)) where
      none_there : (c : ℕ) → q ≡ ends.receiver (basic c) → outs (basic c) pre ≤ ins (basic c) pre
      none_there c e =
          let a = longer_counts (is_in (basic c)) (steps_of q past) (rest q) (steps_of q pre) (steps_of q (x ∷ later))
          (steps_of q log) (rest_is q) (rest_of log ends pre (x ∷ later) before q) enough in
          let f = rw (← e) at (ins_by log ends past (claim ∷ is.here.after) is.here.whole (basic c)) in
          omega (arith, own_few (is_in (basic c)) q pre, quiescent.quiet c, calm.outs c)

      stays_passive : (step : Step) → x.step ≡ step → is_enabled log pre q step ≡ true → active_after false (step ∷ []) ≡ false
      stays_passive (In s) e met = by s.is_control refl
        where
          by : (b : Bool) → s.is_control ≡ b → cond s.is_control false true ≡ false
          by true control = rw control
          by false plain =
              let same : s ≡ basic s.channel = λ j. record { channel = s.channel; is_control = plain j } in
              let l = ltb-true (ins s pre) (outs s pre) met in
              let mine = owner (is_in s) (ends.receiver s) (ends.gets s) (rw e (same_self s)) in
              let back : outs s pre ≤ ins s pre = rw same (none_there s.channel (rw same at mine)) in
              absurd (omega arith)
      stays_passive _ e met = refl

      sends_none : (c : ℕ) (step : Step) → is_out (basic c) step ≡ true → is_enabled log pre q step ≡ true → ⊥
      sends_none c (Out s) is_x met =
          let same = same_stream_is (basic c) s is_x in let passive = calm.passive q enough in cc
      sends_none c _ is_x met = cc

    module _ (met : is_enabled log pre q x.step ≡ true) where
      own_sends : (c : ℕ) → is_out (basic c) x.step ≡ true → outs (basic c) now ≡ sends (basic c) (steps_of q now)
      own_sends c it_sends = rw (← owner (is_out (basic c)) (ends.sender (basic c)) (ends.sends (basic c)) it_sends) at
          (outs_by log ends now later all (basic c))

      stays_few : (c : ℕ) → outs (basic c) now ≤ outs (basic c) past
      stays_few c = by (is_out (basic c) x.step) refl
        where
          by : (b : Bool) → is_out (basic c) x.step ≡ b → outs (basic c) now ≤ outs (basic c) past
          by false other_step = let a = push_no (is_out (basic c)) pre x other_step in let b = calm.outs c in omega arith
          by true it_sends = dite (dec_lt (length (steps_of q pre)) (length (steps_of q past)))
              (λ less. let a = own_sends c it_sends in let b = sent_within less (basic c) in omega arith)
              (λ enough. absurd (sends_none (omega arith) c x.step it_sends met))

      own_passive : length (steps_of q past) ≤ length (steps_of q now) → is_active log now q ≡ false
      own_passive enough_now = dite (dec_lt (length (steps_of q pre)) (length (steps_of q past)))
          (λ less. all_used less enough_now)
          (λ not_less.
          let enough : length (steps_of q past) ≤ length (steps_of q pre) = omega arith in
          rw (steps_push q pre x refl, active_after-append, calm.passive q enough)
          (stays_passive enough x.step refl met))

      pub stays_calm : Calm now
      stays_calm = record {
        outs = stays_few;
        passive = λ r enough. dite (ℕ_discrete q r)
            (λ e. rw (← e) (own_passive (rw (← e) at enough)))
            (λ ne. let same = steps_push_other r pre x ne in rw same (calm.passive r (rw same at enough)));
      }

  calm_through : (pre later : List LogRow) → pre ++ later ≡ other → AreEnabled log pre later → Calm pre → Calm other
  calm_through pre [] all met calm = rw (rw append-nil at all) at calm
  calm_through pre (x ∷ later) all met calm = calm_through (pre ++ x ∷ []) later (rw append_assoc all) met.1
      (stays_calm pre x (later ++ left)
      (simp append_assoc (simp append_assoc at (rw (← all) at whole))) calm met.0)

  at_start : Calm []
  at_start = record {
    outs = λ c. omega arith;
    passive = λ q none. rw (nil_from_length (steps_of q past) (omega arith)) at (quiescent.passive q);
  }

  pub quiescent_other : IsQuiescentAfter log other
  quiescent_other = record {
    quiet = λ c.
        let r = ends.receiver (basic c) in
        let a = longer_counts (is_in (basic c)) (steps_of r past) (rest r) (steps_of r other) (steps_of r left)
        (steps_of r log) (rest_is r) (rest_of log ends other left whole r) (least r) in
        let g = ins_by log ends past (claim ∷ is.here.after) is.here.whole (basic c) in
        let h = ins_by log ends other left whole (basic c) in
        omega (arith, calm.outs c, now_le log ends other left whole (basic c), quiescent.quiet c);
    passive = λ q. calm.passive q (least q);
  }
    where
      calm : Calm other
      calm = calm_through [] other refl (now_met log ends other left whole) at_start

-- so a claim with a quiescent causal past is right
module _ (log : List LogRow) (ends : HasEnds log) (p i : ℕ) (past : List LogRow) (is : IsPast log p i past)
    (quiescent : IsQuiescentAfter log past) where
  pub quiescent_is_right : IsRight log p i
  quiescent_is_right = record {
    at = λ before here. quiescent_other log ends p i past is quiescent before (record { process = p; step = Over } ∷ here.after)
        here.whole (is.least before here);
    later = λ before between after whole place.
        quiescent_other log ends p i past is quiescent (before ++ record { process = p; step = Over } ∷ between) after whole
        (λ q.
        let here : IsBefore log p i before = record {
          after = between ++ after;
          whole = rw append_assoc at whole;
          place = place;
        } in
        rw (steps_of-append, length-append) (omega (arith, is.least before here q)));
  }
