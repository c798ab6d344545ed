-- Serves LogLaws.antt.
-- How the rows of a log without a fault are mixed again.
use Rattle.chip_file.proofs.Names.{◌≡◌, ℕ, ◌<◌, Bool, true, false, List, [], ◌∷◌, ◌++◌, length, map}
use Rattle.chip_file.proofs.Names.{Option, None, Some, refl, ap, sym, ◌∙◌, subst, arith, append-nil, append_assoc}
use Rattle.chip_file.proofs.Names.{eq-eqb, ◌==◌, ◌&&◌, nat_lt, nat_le, is_some, if◌then◌else◌, All, filter, eqb-true}
use Rattle.chip_file.proofs.Names.{eqb-false, map_push, map-append, All-nil, All-cons, All-head, All-tail, All-same}
use Rattle.chip_file.proofs.Names.{All-filter, SizeLimits, first_of_faults, fault_unless, LogRow, Step, Out, In}
use Rattle.chip_file.proofs.Names.{steps_of, steps_of-append}
use Rattle.chip_file.proofs.Names.{count_yes, same_self, FileFault, kind_at, number_at, number_in, Row, first_row_fault}
use Rattle.chip_file.proofs.Names.{IsFaultless, MayMake, AreAllowed, IsSoundLog, uses, MixedLogs}
use Rattle.chip_file.specs.LogText.{same_end, holder, may_hold, lone_row_fault, placed_fault, log_row_fault}
use Rattle.chip_file.specs.LogText.{log_row_in, log_kinds, most_processes, most_channels, channels_to}
use Rattle.chip_file.specs.declared.fault.FileFault.TheVariants as fault
use Rattle.chip_file.proofs.LogLemmas.{first_none, first_of, is_placed, no_holder, sound_none, sound_push, uses-append}

-- ---- what is wrong with a row alone does not depend on its index

again : (b : Bool) (f g : FileFault) → fault_unless b f ≡ None → fault_unless b g ≡ None
again true f g e = refl
again false f g e = cc e

again_first : (a b c d : Option FileFault) → (a ≡ None → b ≡ None) → (c ≡ None → d ≡ None)
    → first_of_faults a c ≡ None → first_of_faults b d ≡ None
again_first None b c d f g e = first_of b d (f refl) (g e)
again_first (Some x) b c d f g e = cc e

abbrev IsLone : SizeLimits → Row → Type 0
IsLone limits row = (index : ℕ) → lone_row_fault limits index row ≡ None

lone_anywhere : (limits : SizeLimits) (i : ℕ) (row : Row) → lone_row_fault limits i row ≡ None → IsLone limits row
lone_anywhere limits i row e j =
    again_first _ _ _ _ (again (length row == 3) (fault.Row i) (fault.Row j))
    (again_first _ _ _ _ (again (is_some (kind_at log_kinds 1 row)) (fault.Kind i) (fault.Kind j))
    (again_first _ _ _ _
    (again (is_some (number_at 0 row) && is_some (number_at 2 row)) (fault.Number i) (fault.Number j))
    (again (nat_lt (number_in 0 row) (most_processes limits)
    && nat_le (channels_to (log_row_in row).step) (most_channels limits)) (fault.Vertex i) (fault.Vertex j)))) e

-- ---- what each process did, by its own steps

made_at : (before steps later : List Step) (step : Step) → AreAllowed before (steps ++ step ∷ later)
    → MayMake (before ++ steps) step
made_at before [] later step made = rw append-nil made.0
made_at before (first ∷ steps) later step made =
    subst (λ (xs : List Step). MayMake xs step) (append_assoc before (first ∷ []) steps)
    (made_at (before ++ first ∷ []) steps later step made.1)

-- one process is at each end, and each makes its steps where it may
record IsWhole (log : List LogRow) : Type 0 where
  one : (end : Step) (p q : ℕ) → 0 < uses end (steps_of p log) → 0 < uses end (steps_of q log) → p ≡ q
  made : (p : ℕ) → AreAllowed [] (steps_of p log)

-- ---- from the rows to the processes

forth : (limits : SizeLimits) (before rows : List Row) → IsSoundLog (map log_row_in before)
    → first_row_fault (log_row_fault limits) before rows ≡ None
    → IsSoundLog (map log_row_in (before ++ rows)) × All (IsLone limits) rows
forth limits before [] held e = (rw append-nil held, All-nil (IsLone limits))
forth limits before (row ∷ rows) held e =
    let all = first_none (log_row_fault limits before row) (first_row_fault (log_row_fault limits) (before ++ row ∷ []) rows) e in
    let this = first_none (lone_row_fault limits (length before) row)
    (placed_fault (length before) (map log_row_in before) (log_row_in row)) all.0 in
    let more : IsSoundLog (map log_row_in (before ++ row ∷ [])) = rw (map_push log_row_in before row)
    (sound_push _ _ held (is_placed (length before) _ _ this.1)) in
    let rest = forth limits (before ++ row ∷ []) rows more all.1 in (
      subst (λ (xs : List Row). IsSoundLog (map log_row_in xs)) (append_assoc before (row ∷ []) rows) rest.0,
      All-cons (IsLone limits) row rows (lone_anywhere limits (length before) row this.0) rest.1,
    )

one_by : (h : Option ℕ) (p q m n : ℕ) → ((h ≡ Some p → ⊥) → m ≡ 0) → ((h ≡ Some q → ⊥) → n ≡ 0) → 0 < m → 0 < n → p ≡ q
one_by None p q m n a b some other = let none : m ≡ 0 = a (λ e. cc e) in absurd (omega arith)
one_by (Some r) p q m n a b some other = sym (is_it p m a some) ∙ is_it q n b other
  where
    is_it : (p m : ℕ) → ((Some r ≡ Some p → ⊥) → m ≡ 0) → 0 < m → r ≡ p
    is_it p m a some = by (r == p) refl
      where
        by : (b : Bool) → (r == p) ≡ b → r ≡ p
        by true e = eqb-true r p e
        by false e =
            let none : m ≡ 0 = a (λ is. eqb-false r p e (cc is)) in absurd (omega arith)

whole_of : (log : List LogRow) → IsSoundLog log → IsWhole log
whole_of log held = record {
  one = λ end p q. one_by (holder end log) p q (uses end (steps_of p log)) (uses end (steps_of q log)) (held.unused end p)
      (held.unused end q);
  made = held.made;
}

-- ---- from the processes to the rows

used_by : (same own : Bool) (end step : Step) (p q : ℕ) (steps : List Step) (h : Option ℕ) → same ≡ same_end end step
    → own ≡ (p == q) → (if same then Some p else h) ≡ Some q → (h ≡ Some q → 0 < uses end steps)
    → 0 < uses end (if own then step ∷ steps else steps)
used_by true true end step p q steps h s o e more =
    let one = count_yes (same_end end step) (sym s) in omega arith
used_by true false end step p q steps h s o e more = absurd (eqb-false p q (sym o) (cc e))
used_by false true end step p q steps h s o e more = let some : 0 < uses end steps = more e in omega arith
used_by false false end step p q steps h s o e more = more e

holder_uses : (end : Step) (log : List LogRow) (q : ℕ) → holder end log ≡ Some q → 0 < uses end (steps_of q log)
holder_uses end [] q e = cc e
holder_uses end (x ∷ log) q e =
    used_by (same_end end x.step) (x.process == q) end x.step x.process q (steps_of q log) (holder end log) refl refl e
    (holder_uses end log q)

-- a step is at its own end, if it is at one
own_end : (step : Step) (log : List LogRow) (q : ℕ) → holder step log ≡ Some q → same_end step step ≡ true
own_end (Out s) log q e = same_self s
own_end (In s) log q e = same_self s
own_end step log q e = let none = no_holder step log refl in cc (none, e)

used_here : (step : Step) (xs ys : List Step) → same_end step step ≡ true → 0 < uses step (xs ++ step ∷ ys)
used_here step xs ys same =
    let all = uses-append step xs (step ∷ ys) in
    let one = count_yes (same_end step step) same in omega arith

holds_by : (end : Step) (p : ℕ) (h : Option ℕ) → ((q : ℕ) → h ≡ Some q → q ≡ p) → may_hold h p ≡ true
holds_by end p None same = refl
holds_by end p (Some q) same = eq-eqb q p (same q refl)

placed_at : (above later : List LogRow) (x : LogRow) → IsWhole (above ++ x ∷ later) → IsFaultless above x
placed_at above later x whole =
    let own : steps_of x.process (above ++ x ∷ later) ≡ steps_of x.process above ++ x.step ∷ steps_of x.process later =
    steps_of-append x.process above (x ∷ later) ∙ ap (λ b. steps_of x.process above
    ++ (if b then x.step ∷ steps_of x.process later else steps_of x.process later)) (eq-eqb x.process x.process refl) in
    let may = made_at [] (steps_of x.process above) (steps_of x.process later) x.step
    (subst (λ (xs : List Step). AreAllowed [] xs) own (whole.made x.process)) in record {
      holds = holds_by x.step x.process (holder x.step above) (λ q e.
          let here = holder_uses x.step above q e in
          let all = uses-append x.step (steps_of q above) (steps_of q (x ∷ later)) in
          let before : 0 < uses x.step (steps_of q (above ++ x ∷ later)) =
          rw (steps_of-append q above (x ∷ later)) (omega arith) in
          whole.one x.step q x.process before (rw own (used_here x.step (steps_of x.process above) (steps_of x.process later) (own_end x.step above q e))));
      sends = may.0;
      begins = may.1;
    }

placed_none : (index : ℕ) (log : List LogRow) (x : LogRow) → IsFaultless log x → placed_fault index log x ≡ None
placed_none index log x placed = rw (placed.holds, placed.sends, placed.begins) refl

back : (limits : SizeLimits) (before rows : List Row) → IsWhole (map log_row_in (before ++ rows))
    → All (IsLone limits) rows → first_row_fault (log_row_fault limits) before rows ≡ None
back limits before [] whole lone = refl
back limits before (row ∷ rows) whole lone =
    first_of (log_row_fault limits before row) (first_row_fault (log_row_fault limits) (before ++ row ∷ []) rows)
    (first_of (lone_row_fault limits (length before) row)
    (placed_fault (length before) (map log_row_in before) (log_row_in row))
    (All-head (IsLone limits) row rows lone (length before))
    (placed_none (length before) _ _ (placed_at (map log_row_in before) (map log_row_in rows) (log_row_in row)
    (subst IsWhole (map-append log_row_in before (row ∷ rows)) whole))))
    (back limits (before ++ row ∷ []) rows
    (subst (λ (xs : List Row). IsWhole (map log_row_in xs)) (sym (append_assoc before (row ∷ []) rows)) whole)
    (All-tail (IsLone limits) row rows lone))

-- ---- rows in another mix

by_own : (b : Bool) (row : Row) (rest : List Row) (steps : List Step) → steps ≡ map (λ row. (log_row_in row).step) rest
    → (if b then (log_row_in row).step ∷ steps else steps)
    ≡ map (λ row. (log_row_in row).step) (if b then row ∷ rest else rest)
by_own true row rest steps e = rw e refl
by_own false row rest steps e = e

steps_of_rows : (p : ℕ) (rows : List Row)
    → steps_of p (map log_row_in rows) ≡ map (λ row. (log_row_in row).step) (filter (λ row. number_in 0 row == p) rows)
steps_of_rows p [] = refl
steps_of_rows p (row ∷ rows) =
    by_own (number_in 0 row == p) row (filter (λ row. number_in 0 row == p) rows) (steps_of p (map log_row_in rows))
    (steps_of_rows p rows)

tail_by : (P : Row → Type 0) (b : Bool) (row : Row) (rest : List Row) → All P (if b then row ∷ rest else rest) → All P rest
tail_by P true row rest all = All-tail P row rest all
tail_by P false row rest all = all

from_filters : (P : Row → Type 0) (rows : List Row) → ((p : ℕ) → All P (filter (λ row. number_in 0 row == p) rows))
    → All P rows
from_filters P [] all = All-nil P
from_filters P (row ∷ rows) all =
    All-cons P row rows (All-head P row _ (rw (eq-eqb (number_in 0 row) (number_in 0 row) refl) at (all (number_in 0 row))))
    (from_filters P rows (λ p. tail_by P (number_in 0 row == p) row (filter (λ row. number_in 0 row == p) rows) (all p)))

whole_again : (log other : List LogRow) → ((p : ℕ) → steps_of p other ≡ steps_of p log) → IsWhole log → IsWhole other
whole_again log other same whole = record {
  one = λ end p q. rw (same p, same q) (whole.one end p q);
  made = λ p. rw (same p) (whole.made p);
}

pub mixed_logs : MixedLogs
mixed_logs limits rows others mixed e =
    let there = forth limits [] rows sound_none e in
    let steps : (p : ℕ) → steps_of p (map log_row_in others) ≡ steps_of p (map log_row_in rows) = λ p.
    steps_of_rows p others ∙ ap (map (λ row. (log_row_in row).step)) (sym (mixed p)) ∙ sym (steps_of_rows p rows) in
    let alone : All (IsLone limits) others = from_filters (IsLone limits) others (λ p. All-same (IsLone limits) _ _
    (sym (mixed p)) (All-filter (λ row. number_in 0 row == p) (IsLone limits) rows there.1)) in (
      back limits [] others (whole_again (map log_row_in rows) (map log_row_in others) steps
          (whole_of (map log_row_in rows) there.0)) alone,
      steps,
    )
