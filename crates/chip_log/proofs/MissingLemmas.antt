-- Serves Missing.antt.
-- Along an interleaving the rows that stay are enabled in what is left. Where that is quiescent, so is the log.
use Rattle.chip_log.proofs.Names.{◌≡◌, ℕ, zero, suc, ◌+◌, ◌≤◌, Bool, true, false, cond, List, [], ◌∷◌, ◌++◌, refl, eqb}
use Rattle.chip_log.proofs.Names.{◌∙◌, ap, subst, arith, append-nil, append_assoc, nat_tests}
use Rattle.chip_log.proofs.Names.{steps_of, is_out, is_in, outs, ins, active_after, begins_active, is_active, is_enabled}
use Rattle.chip_log.proofs.Names.{AreEnabled, IsInterleaving, basic, IsQuiescentAfter, IsBefore, IsRight, AreSent}
use Rattle.chip_log.proofs.Names.{IsProgress, HasEnds, LogRow, Stream, Step, Out, In, Over}
use Rattle.std.proofs.Common.{add-one}
use Rattle.chip_log.specs.Missing.{staying, stay_below, IsWithout, RightWithoutRows, SentWhileActive}
use Rattle.chip_log.proofs.CountLemmas.{rows-append, steps_of-append, active_after-append}
use Rattle.chip_log.proofs.MetLemmas.{same_self}
use Rattle.chip_log.proofs.PastLemmas.{are_met_second, are_met_both, met_le, causal_past}
use Rattle.chip_log.proofs.QuiescentLemmas.{quiescent_is_right}
use Rattle.chip_log.proofs.OrderingLemmas.{sent_at}
use Rattle.chip_log.proofs.ProgressLemmas.{rows, rows-append as own-rows, first_of, whole_progress, next_own, along, owner_of}

-- ---- how many stay

-- of one number more
below_next : (stays : ℕ → Bool) (n : ℕ) → stay_below stays (n + 1) ≡ stay_below stays n + cond (stays n) 1 0
below_next stays n = rw add-one refl

-- all of them, if each stays
below_all : (stays : ℕ → Bool) → ((n : ℕ) → stays n ≡ true) → (n : ℕ) → stay_below stays n ≡ n
below_all stays all zero = refl
below_all stays all (suc n) = grind (arith, below_all stays all n, all n)

-- of more numbers no fewer
below_more : (stays : ℕ → Bool) (m n : ℕ) → m ≤ n → stay_below stays m ≤ stay_below stays n
below_more stays m zero le = grind arith
below_more stays m (suc n) le = grind (arith, below_more stays m n, λ (e : m ≡ suc n). ap (stay_below stays) e)

-- ---- one more row, that stays or not

-- a process that is no more active without the missing rows is no more active after one more, unless that gets a message
low_step : (own b was now : Bool) (x : Step) → (now ≡ false → was ≡ false) → (b ≡ false → (c : ℕ) → is_in (basic c) x ≡ false)
    → active_after now (cond own (cond b (x ∷ []) []) []) ≡ false → active_after was (cond own (x ∷ []) []) ≡ false
low_step own b was now (In s) low none passive = grind (arith, nat_tests, same_self s, λ (off : b ≡ false). none off s.channel)
low_step own b was now _ low none passive = grind arith

module _ (stays : ℕ → ℕ → Bool) (told : Stream → ℕ → Bool) (log left : List LogRow) (ends : HasEnds log)
    (is : IsWithout stays told log left) where
  -- the rows of a moment that stay: each is enabled in what is left, and a process is active only if it is so without them
  -- or a basic message that it got is missing
  record IsKept (pre acc : List LogRow) : Type 0 where
    pub own : (q : ℕ) (ys : List Step) → steps_of q pre ++ ys ≡ steps_of q log
        → steps_of q acc ++ staying (stays q) (rows q pre) ys ≡ steps_of q left
    pub sized : (q : ℕ) → rows q acc ≡ stay_below (stays q) (rows q pre)
    pub met : AreEnabled left [] acc
    pub tells : (s : Stream) → outs s acc ≡ stay_below (told s) (outs s pre)
    pub hears : (s : Stream) → ins s acc ≤ stay_below (told s) (ins s pre)
    pub passive : (q : ℕ) → ((c : ℕ) → ins (basic c) pre ≤ ins (basic c) acc) → is_active left acc q ≡ false
        → is_active log pre q ≡ false

  module _ (pre acc : List LogRow) (x : LogRow) (now : IsProgress log (pre ++ x ∷ [])) (was : IsKept pre acc) (b : Bool)
      (on : stays x.process (rows x.process pre) ≡ b) where
    -- a row that gets a message stays only if that is told
    heard_as : (s : Stream) → is_in s x.step ≡ true → b ≡ true → told s (ins s pre) ≡ true
    heard_as s got stay = rw (owner_of log (is_in s) (ends.receiver s) (ends.gets s) pre [] x now got).1
        (is.hears x.process s (steps_of x.process pre) x.step (now.left x.process) (next_own log pre [] x now) got (on ∙ stay))

    -- if the row stays, it is enabled there
    enabled : (step : Step) → x.step ≡ step → b ≡ true → is_enabled log pre x.process step ≡ true
        → is_enabled left acc x.process step ≡ true
    enabled (Out s) e stay met =
        let p = x.process in
        let behind = staying (stays p) (rows p pre + 1) (now.left p) in
        let all : steps_of p acc ++ Out s ∷ behind ≡ steps_of p left =
        rw (on, stay, e) at (was.own p (x.step ∷ now.left p) (next_own log pre [] x now)) in
        sent_at (begins_active (steps_of p left)) (steps_of p acc) (Out s) behind (rw all (is.sent p))
    enabled (In s) e stay met =
        let a = heard_as s (rw e (same_self s)) stay in
        let c = below_more (told s) (suc (ins s pre)) (outs s pre) in
        grind (arith, nat_tests, was.tells s, was.hears s)
    enabled _ e stay met = refl

    -- so the rows that stay are
    met_next : (c : Bool) → b ≡ c → AreEnabled left [] (acc ++ cond c (x ∷ []) [])
    met_next true stay = are_met_both left [] acc (x ∷ []) was.met
        (enabled x.step refl stay (are_met_second log [] pre (x ∷ []) now.met).0, tt)
    met_next false off = rw append-nil was.met

    abbrev new : List LogRow
    new = cond b (x ∷ []) []

    -- so the rows that stay are kept
    kept_next : IsKept (pre ++ x ∷ []) (acc ++ new)
    kept_next = record {
      own = λ q ys whole.
          let a = was.own q (steps_of q (x ∷ []) ++ ys) (rw (steps_of-append, append_assoc) at whole) in
          rw (steps_of-append q acc new, append_assoc) (grind (arith, nat_tests, own-rows));
      sized = λ q. grind (arith, nat_tests, own-rows, below_next, was.sized q);
      met = met_next b refl;
      tells = λ s.
          let d = is.tells x.process s (steps_of x.process pre) x.step (now.left x.process) (next_own log pre [] x now) in
          let e = owner_of log (is_out s) (ends.sender s) (ends.sends s) pre [] x now in
          grind (arith, nat_tests, rows-append, below_next, was.tells s);
      hears = λ s. grind (arith, nat_tests, rows-append, below_next, was.hears s, heard_as s);
      passive = λ q all low.
          let got : (c : ℕ) → (ins (basic c) pre ≤ ins (basic c) acc) × (b ≡ false → is_in (basic c) x.step ≡ false) = λ c.
          grind (arith, nat_tests, rows-append, was.hears (basic c), below_all (told (basic c)) (is.basic c), all c) in
          rw (steps_of-append, active_after-append)
          (low_step (eqb x.process q) b (is_active log pre q) (is_active left acc q) x.step
          (was.passive q (λ c. (got c).0)) (λ off c. (got c).1 off)
          (grind (arith, nat_tests, steps_of-append, active_after-append, low)));
    }

  -- some rows more, for each row
  next : (pre acc : List LogRow) (x : LogRow) → IsProgress log (pre ++ x ∷ []) → IsKept pre acc
      → (new : List LogRow) × IsKept (pre ++ x ∷ []) (acc ++ new)
  next pre acc x now was = (_, kept_next pre acc x now was (stays x.process (rows x.process pre)) refl)

  -- at the start
  none_kept : IsKept [] []
  none_kept = record {
    own = λ q ys whole. rw (whole, is.rows q) refl;
    sized = λ q. refl;
    met = tt;
    tells = λ s. refl;
    hears = λ s. omega arith;
    passive = λ q all low. grind (arith, is.begins q);
  }

  -- where what is left is quiescent, so is the log
  quiescent_here : (pre acc : List LogRow) → IsProgress log pre → IsKept pre acc → IsQuiescentAfter left acc
      → IsQuiescentAfter log pre
  quiescent_here pre acc done kept quiescent =
      let got : (c : ℕ) → (outs (basic c) pre ≡ ins (basic c) pre) × (ins (basic c) pre ≤ ins (basic c) acc) = λ c.
      omega (arith, met_le (basic c) log [] pre done.met, below_all (told (basic c)) (is.basic c), quiescent.quiet c) in
      record { quiet = λ c. (got c).0; passive = λ q. kept.passive q (λ c. (got c).1) (quiescent.passive q) }

  -- the log is quiescent when the claim is made, since the rows before it that stay come before it in what is left
  quiescent_before : (p i : ℕ) → stays p i ≡ true → IsRight left p (stay_below (stays p) i)
      → (before : List LogRow) → IsBefore log p i before → IsQuiescentAfter log before
  quiescent_before p i here right before at =
      let claim : LogRow = record { process = p; step = Over } in
      let all : IsProgress log ((before ++ claim ∷ []) ++ at.after) =
      rw append_assoc (whole_progress log (before ++ claim ∷ at.after) at.whole) in
      let now = first_of log (before ++ claim ∷ []) at.after all in
      let was = first_of log before (claim ∷ []) now in
      let (acc, kept) = along log IsKept next [] before [] was none_kept in
      let on = along log IsKept next (before ++ claim ∷ []) at.after (acc ++ claim ∷ []) all
      (kept_next before acc claim now kept true (rw at.place here)) in
      let whole : IsInterleaving left ((acc ++ claim ∷ []) ++ on.0) = record {
        whole = λ q. rw append-nil at (on.1.own q [] (rw (append-nil, append_assoc) (at.whole.whole q)));
        met = on.1.met;
      } in
      quiescent_here before acc was kept
      (right.at acc (record { after = on.0; whole = rw append_assoc at whole; place = rw at.place at (kept.sized p) }))

pub right_without_rows : RightWithoutRows
right_without_rows stays told log left p i ends is stay right =
    let quiescent = quiescent_before stays told log left ends is p i stay right in
    record {
      at = quiescent;
      later = λ before between after whole place.
          let here : IsBefore log p i before = record { after = between ++ after; whole = rw append_assoc at whole; place = place } in
          let past = causal_past log ends p i before here in
          (quiescent_is_right log ends p i past.0 past.1 (quiescent past.0 past.1.here)).later before between after whole place;
    }

-- ---- the steps of each process in an interleaving

-- the steps of a process among these rows, after others
sent_by : (log : List LogRow) (p : ℕ) (pre xs : List LogRow) → AreEnabled log pre xs
    → AreSent (is_active log pre p) (steps_of p xs)
sent_by log p pre [] met = tt
sent_by log p pre (x ∷ xs) met =
    let rest = sent_by log p (pre ++ x ∷ []) xs met.1 in
    grind (arith, nat_tests, steps_of-append, active_after-append, append-nil)

pub sent_while_active : SentWhileActive
sent_while_active log xs all p =
    subst (AreSent (begins_active (steps_of p log))) (all.whole p) (sent_by log p [] xs all.met)
