-- Serves Log.antt.
-- Rows that are enabled, and what comes before them.
use Rattle.chip_log.proofs.Names.{◌≡◌, ◌≢◌, ℕ, ◌+◌, ◌≤◌, ◌<◌, Bool, true, false, List, [], ◌∷◌, ◌++◌, refl, sym, ap}
use Rattle.chip_log.proofs.Names.{arith, cond, append-nil, dite, ℕ_discrete, steps_of}
use Rattle.chip_log.proofs.Names.{is_out, outs, ins, same_stream, sends, gets, count_steps, count_rows, nat_tests}
use Rattle.chip_log.proofs.Names.{is_in, is_enabled, AreEnabled, LogRow, Step, Out, In, Stream}
use Rattle.chip_log.proofs.CountLemmas.{count-append, rows-append, steps_of-append, steps_own, steps_other}
use Rattle.chip_log.proofs.CountLemmas.{steps_push_other}

-- ---- one more row

pub count_yes : (b : Bool) → b ≡ true → ◌≡◌ {A = ℕ} (cond b 1 0) 1
count_yes b is = rw is

pub count_no : (b : Bool) → b ≡ false → ◌≡◌ {A = ℕ} (cond b 1 0) 0
count_no b is = rw is

pub not_counted : (b : Bool) → ◌≡◌ {A = ℕ} (cond b 1 0) 0 → b ≡ false
not_counted true e = absurd (omega arith)
not_counted false e = refl

-- only a process that has such steps has one
pub owner_is : (test : Step → Bool) (owner q : ℕ) (log : List LogRow) (before : List Step) (step : Step) (behind : List Step)
    → ((p : ℕ) → p ≢ owner → count_steps test (steps_of p log) ≡ 0) → before ++ step ∷ behind ≡ steps_of q log
    → test step ≡ true → q ≡ owner
owner_is test owner q log before step behind only rows is = dite (ℕ_discrete q owner) (λ e. e) (λ ne.
    let a = ap (count_steps test) rows in let b = count-append test before (step ∷ behind) in
    let c = count_yes (test step) is in let d = only q ne in absurd (omega arith))

pub push_yes : (test : Step → Bool) (xs : List LogRow) (x : LogRow) → test x.step ≡ true
    → count_rows test (xs ++ x ∷ []) ≡ count_rows test xs + 1
push_yes test xs x is = let a = rows-append test xs (x ∷ []) in let b = count_yes (test x.step) is in omega arith

pub push_no : (test : Step → Bool) (xs : List LogRow) (x : LogRow) → test x.step ≡ false
    → count_rows test (xs ++ x ∷ []) ≡ count_rows test xs
push_no test xs x is = let a = rows-append test xs (x ∷ []) in let b = count_no (test x.step) is in omega arith

pub push_le : (test : Step → Bool) (xs : List LogRow) (x : LogRow) → count_rows test xs ≤ count_rows test (xs ++ x ∷ [])
push_le test xs x = let a = rows-append test xs (x ∷ []) in omega arith

-- ---- a stream is itself

pub same_self : (s : Stream) → same_stream s s ≡ true
same_self s = grind (arith, nat_tests)

-- ---- what decides whether a row is enabled

pub record SameCounts (pre later : List LogRow) : Type 0 where
  pub steps : (p : ℕ) → steps_of p pre ≡ steps_of p later
  pub counts : (test : Step → Bool) → count_rows test pre ≡ count_rows test later

pub met_same : (log pre later : List LogRow) (p : ℕ) (step : Step) → SameCounts pre later
    → is_enabled log pre p step ≡ is_enabled log later p step
met_same log pre later p (Out s) same = rw (same.steps p)
met_same log pre later p (In s) same = rw (same.counts (is_in s), same.counts (is_out s))
met_same log pre later p _ same = refl

same_push : (pre later : List LogRow) (x : LogRow) → SameCounts pre later → SameCounts (pre ++ x ∷ []) (later ++ x ∷ [])
same_push pre later x same = record {
  steps = λ p. simp (steps_of-append, same.steps);
  counts = λ test. simp (rows-append, same.counts);
}

pub are_met_same : (log pre later zs : List LogRow) → SameCounts pre later → AreEnabled log pre zs → AreEnabled log later zs
are_met_same log pre later [] same met = tt
are_met_same log pre later (z ∷ zs) same met = (
  rw (met_same log pre later z.process z.step same) at met.0,
  are_met_same log (pre ++ z ∷ []) (later ++ z ∷ []) zs (same_push pre later z same) met.1,
)

-- two rows of two processes, in either order
swapped : (pre : List LogRow) (x y : LogRow) → x.process ≢ y.process
    → SameCounts ((pre ++ x ∷ []) ++ y ∷ []) ((pre ++ y ∷ []) ++ x ∷ [])
swapped pre x y ne = record {
  steps = λ p. simp steps_of-append (grind (arith, nat_tests, append-nil));
  counts = λ test. simp rows-append (omega arith);
}

-- ---- a row stays enabled after one more row of another process, unless both get messages of one stream
pub met_later : (log pre : List LogRow) (k : LogRow) (p : ℕ) (step : Step) → k.process ≢ p
    → ((s : Stream) → is_in s step ≡ true → is_in s k.step ≡ false) → is_enabled log pre p step ≡ true
    → is_enabled log (pre ++ k ∷ []) p step ≡ true
met_later log pre k p (Out s) ne apart met = rw (steps_push_other p pre k ne) met
met_later log pre k p (In s) ne apart met =
    let b = push_no (is_in s) pre k (apart s (same_self s)) in let c = push_le (is_out s) pre k in
    grind (arith, nat_tests)
met_later log pre k p _ ne apart met = refl

-- a row is enabled without a row of another process before it, unless it needs the message of that
pub met_without : (log pre : List LogRow) (x : LogRow) (p : ℕ) (step : Step) → x.process ≢ p
    → ((s : Stream) → is_in s step ≡ true → is_out s x.step ≡ true → ins s pre < outs s pre)
    → is_enabled log (pre ++ x ∷ []) p step ≡ true → is_enabled log pre p step ≡ true
met_without log pre x p (Out s) ne there met = rw (steps_push_other p pre x ne) at met
met_without log pre x p (In s) ne there met =
    let a = there s (same_self s) in let b = rows-append (is_out s) pre (x ∷ []) in let c = push_le (is_in s) pre x in
    grind (arith, nat_tests)
met_without log pre x p _ ne there met = refl

-- ---- a row goes after others, of other processes, that do not need it

none_head : (p : ℕ) (k : LogRow) (ks : List LogRow) → steps_of p (k ∷ ks) ≡ [] → k.process ≢ p
none_head p k ks none e = let a = steps_own p k ks e in cc

pub move : (log pre ks rest : List LogRow) (x : LogRow) → steps_of x.process ks ≡ []
    → ((s : Stream) → is_in s x.step ≡ true → ins s ks ≡ 0)
    → ((s : Stream) → is_out s x.step ≡ true → ins s pre + ins s ks ≤ outs s pre)
    → AreEnabled log pre (x ∷ (ks ++ rest)) → AreEnabled log pre (ks ++ x ∷ rest)
move log pre [] rest x none gets sends met = met
move log pre (k ∷ ks) rest x none gets sends met = (
  met_without log pre x k.process k.step (λ e. ne (sym e))
      (λ s is_k is_x. let b = count_yes (is_in s k.step) is_k in omega (arith, sends s is_x)) met.1.0,
  move log (pre ++ k ∷ []) ks rest x none_later
      (λ s is_x. omega (arith, gets s is_x))
      (λ s is_x. let b = rows-append (is_in s) pre (k ∷ []) in omega (arith, sends s is_x, push_le (is_out s) pre k)) (
        met_later log pre k x.process x.step ne (λ s is_x. not_counted (is_in s k.step) (let a = gets s is_x in omega arith)) met.0,
        are_met_same log ((pre ++ x ∷ []) ++ k ∷ []) ((pre ++ k ∷ []) ++ x ∷ []) (ks ++ rest)
            (swapped pre x k (λ e. ne (sym e))) met.1.1,
      ),
)
  where
    ne : k.process ≢ x.process
    ne = none_head x.process k ks none

    none_later : steps_of x.process ks ≡ []
    none_later = rw (steps_other x.process k ks ne) at none
