-- Serves Order.antt.
-- A list is made along rows that were done; so two of them are joined.
use Rattle.chip_log.proofs.Names.{◌≡◌, ◌≢◌, ℕ, ◌+◌, ◌≤◌, true, Bool, List, [], ◌∷◌, ◌++◌, length, refl, arith, append-nil}
use Rattle.chip_log.proofs.Names.{length-take, append_assoc, take, drop, length-append, take-append-drop, dite, dec_lt}
use Rattle.chip_log.proofs.Names.{nat_tests, steps_of, is_out, HasEnds, count_steps, count_rows, is_in, is_enabled}
use Rattle.chip_log.proofs.Names.{AreEnabled, IsInterleaving, IsProgress, LogRow, Step, Out, In, begins_active}
use Rattle.std.proofs.Common.{max}
use Rattle.chip_log.proofs.PrefixLemmas.{beginning_is}
use Rattle.chip_log.proofs.CountLemmas.{longer_counts, steps_of-append, steps_own, first_own}
use Rattle.chip_log.proofs.MetLemmas.{owner_is, same_self}
use Rattle.chip_log.proofs.PastLemmas.{are_met_first, are_met_second, are_met_both}
use Rattle.chip_log.proofs.SameLemmas.{are_met_as}

-- how many rows a process has
abbrev pub rows : ℕ → List LogRow → ℕ
rows q xs = length (steps_of q xs)

-- of two lists it has the sum
pub rows-append : (q : ℕ) (xs ys : List LogRow) → rows q (xs ++ ys) ≡ rows q xs + rows q ys
rows-append q xs ys = rw (steps_of-append q xs ys) (length-append (steps_of q xs) (steps_of q ys))

module _ (log : List LogRow) where
  -- the first rows of a progress are one
  pub first_of : (pre later : List LogRow) → IsProgress log (pre ++ later) → IsProgress log pre
  first_of pre later is = record {
    left = λ q. steps_of q later ++ is.left q;
    own = λ q. rw (steps_of-append, append_assoc) at (is.own q);
    met = are_met_first log [] pre later is.met;
  }

  -- an interleaving is one
  pub whole_progress : (xs : List LogRow) → IsInterleaving log xs → IsProgress log xs
  whole_progress xs is = record { left = λ q. []; own = λ q. rw append-nil (is.whole q); met = is.met }

  -- it has the first rows of each process
  pub first_rows : (xs : List LogRow) → IsProgress log xs → (q : ℕ) → steps_of q xs ≡ take (rows q xs) (steps_of q log)
  first_rows xs is q = beginning_is (steps_of q xs) (is.left q) (steps_of q log) (is.own q)

  -- the next row of a progress is the next of its process
  pub next_own : (pre later : List LogRow) (x : LogRow) (is : IsProgress log (pre ++ x ∷ later))
      → steps_of x.process pre ++ x.step ∷ (steps_of x.process later ++ is.left x.process) ≡ steps_of x.process log
  next_own pre later x is = rw (steps_of-append, steps_own x.process x later refl, append_assoc) at (is.own x.process)

  module _ (test : Step → Bool) (owner : ℕ) (only : (p : ℕ) → p ≢ owner → count_steps test (steps_of p log) ≡ 0) where
    -- the owner of a step that passes the test, and how many do before it, by the rows of its process
    pub owner_of : (pre later : List LogRow) (x : LogRow) → IsProgress log (pre ++ x ∷ later) → test x.step ≡ true
        → (x.process ≡ owner) × (count_rows test pre ≡ count_steps test (steps_of x.process pre))
    owner_of pre later x is has =
        let a = owner_is test owner x.process log (steps_of x.process pre) x.step (steps_of x.process later ++ is.left x.process)
        only (next_own pre later x is) has in
        let was = first_of pre (x ∷ later) is in
        (a, rw a (first_own test owner log pre was.left was.own only))

    -- with no more rows of the owner there are no more of them
    fewer : (one two : List LogRow) → IsProgress log one → IsProgress log two → rows owner one ≤ rows owner two
        → count_rows test one ≤ count_rows test two
    fewer one two is other few =
        let a = first_own test owner log one is.left is.own only in
        let b = first_own test owner log two other.left other.own only in
        omega (arith, longer_counts test _ _ _ _ _ (is.own owner) (other.own owner) few)

  -- along a progress, some rows more for each row of it
  pub along : (R : List LogRow → List LogRow → Type 0)
      → ((pre acc : List LogRow) (x : LogRow) → IsProgress log (pre ++ x ∷ []) → R pre acc
      → (new : List LogRow) × R (pre ++ x ∷ []) (acc ++ new))
      → (pre later acc : List LogRow) → IsProgress log (pre ++ later) → R pre acc
      → (more : List LogRow) × R (pre ++ later) (acc ++ more)
  along R step pre [] acc is made = ([], rw (append-nil pre, append-nil acc) made)
  along R step pre (x ∷ later) acc is made =
      let now : IsProgress log ((pre ++ x ∷ []) ++ later) = rw append_assoc is in
      let next = step pre acc x (first_of (pre ++ x ∷ []) later now) made in
      let on = along R step (pre ++ x ∷ []) later (acc ++ next.0) now next.1 in
      (next.0 ++ on.0, rw (append_assoc pre (x ∷ []) later, append_assoc acc next.0 on.0) at on.1)

-- ---- one progress goes on with the rows of another

module _ (log : List LogRow) (ends : HasEnds log) (front : List LogRow) (first : IsProgress log front) where
  -- the rows of the front, and of another so far
  pub record Joins (pre acc : List LogRow) : Type 0 where
    pub own : (q : ℕ) → steps_of q acc ≡ take (max (rows q front) (rows q pre)) (steps_of q log)
    pub met : AreEnabled log [] acc

  -- they are a progress
  pub progress_of : (pre acc : List LogRow) → Joins pre acc → IsProgress log acc
  progress_of pre acc made = record {
    left = λ q. drop (max (rows q front) (rows q pre)) (steps_of q log);
    own = λ q. rw (made.own q) (take-append-drop (max (rows q front) (rows q pre)) (steps_of q log));
    met = made.met;
  }

  -- a step is still enabled after more rows of other processes
  still_met : (pre acc : List LogRow) (x : LogRow) → IsProgress log (pre ++ x ∷ []) → IsProgress log acc
      → ((q : ℕ) → rows q pre ≤ rows q acc) → steps_of x.process pre ≡ steps_of x.process acc → (step : Step)
      → x.step ≡ step → is_enabled log pre x.process step ≡ true → is_enabled log acc x.process step ≡ true
  still_met pre acc x now is few same (Out s) e met = rw same at met
  still_met pre acc x now is few same (In s) e met =
      let was = first_of log pre (x ∷ []) now in
      let a = owner_of log (is_in s) (ends.receiver s) (ends.gets s) pre [] x now (rw e (same_self s)) in
      let b = fewer log (is_in s) (ends.receiver s) (ends.gets s) acc pre is was (rw (← a.0, same) (omega arith)) in
      let c = fewer log (is_out s) (ends.sender s) (ends.sends s) pre acc was is (few (ends.sender s)) in
      grind (arith, nat_tests)
  still_met pre acc x now is few same _ e met = refl

  -- one row more, if the front lacks it
  join_next : (pre acc : List LogRow) (x : LogRow) → IsProgress log (pre ++ x ∷ []) → Joins pre acc
      → (new : List LogRow) × Joins (pre ++ x ∷ []) (acc ++ new)
  join_next pre acc x now made = dite (dec_lt (rows x.process pre) (rows x.process front))
      (λ less. (
        [],
        rw append-nil (record {
          own = λ q. grind (arith, nat_tests, rows-append, made.own q);
          met = made.met;
        }),
      ))
      (λ more.
      let same : steps_of x.process pre ≡ steps_of x.process acc = grind (arith, made.own x.process, was x.process) in
      let few : (q : ℕ) → rows q pre ≤ rows q acc = λ q. grind (arith, made.own q, was q, length-take {A = Step}) in
      let met = still_met pre acc x now (progress_of pre acc made) few same x.step refl
      (are_met_second log [] pre (x ∷ []) now.met).0 in (
        x ∷ [],
        record {
          own = λ q.
              let a = first_rows log (pre ++ x ∷ []) now q in
              grind (arith, nat_tests, steps_of-append, rows-append, append-nil {A = Step}, made.own q, was q);
          met = are_met_both log [] acc (x ∷ []) made.met (met, tt);
        },
      ))
    where
      was : (q : ℕ) → steps_of q pre ≡ take (rows q pre) (steps_of q log)
      was q = first_rows log pre (first_of log pre (x ∷ []) now) q

  -- a progress goes on with the rows of another
  pub joined : (xs : List LogRow) → IsProgress log xs → (more : List LogRow) × Joins xs (front ++ more)
  joined xs is = along log Joins join_next [] xs front is
      (record { own = λ q. grind (arith, first_rows log front first q); met = first.met })

  -- to an interleaving of a log that has the rows of the other
  pub goes_on : (other xs : List LogRow) → ((q : ℕ) → begins_active (steps_of q log) ≡ begins_active (steps_of q other))
      → IsProgress log xs → ((q : ℕ) → steps_of q xs ≡ steps_of q other) → ((q : ℕ) → rows q front ≤ rows q xs)
      → (more : List LogRow) × IsInterleaving other (front ++ more)
  goes_on other xs begins is same few =
      let on = joined xs is in (
        on.0,
        record {
          whole = λ q. grind (arith, on.1.own q, first_rows log xs is q, same q, few q);
          met = are_met_as log other begins [] (front ++ on.0) on.1.met;
        },
      )
