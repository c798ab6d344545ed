-- Serves Claims.antt.
-- The causal past of a claim: rows before it that it does not need go after it, from the last to the first.
use Rattle.chip_log.proofs.Names.{◌≡◌, ◌≢◌, ℕ, ◌+◌, ◌≤◌, ◌<◌, Bool, true, List, [], ◌∷◌, ◌++◌, length, refl, sym}
use Rattle.chip_log.proofs.Names.{ap, arith, append-nil, append_assoc, length-append, inl, inr}
use Rattle.chip_log.proofs.Names.{◌⊎◌, dite, ℕ_discrete, dec_lt, IsPast, IsBefore, steps_of, is_out, outs, ins, HasEnds}
use Rattle.chip_log.proofs.Names.{sends, gets, count_steps, is_in, is_enabled, AreEnabled, IsInterleaving, LogRow, Step, Out}
use Rattle.chip_log.proofs.Names.{In, Over, Stream, cond, nat_tests}
use Rattle.chip_log.proofs.CountLemmas.{count-append, rows-append, steps_of-append, steps_own, steps_other, own_few}
use Rattle.chip_log.proofs.CountLemmas.{all_own, own-append, longer_counts, first_own, same_stream_is, without}
use Rattle.chip_log.proofs.CountLemmas.{steps_moved}
use Rattle.chip_log.proofs.MetLemmas.{owner_is, push_le, same_self, move}

-- ---- lists in which each row is enabled

pub are_met_first : (log pre xs ys : List LogRow) → AreEnabled log pre (xs ++ ys) → AreEnabled log pre xs
are_met_first log pre [] ys met = tt
are_met_first log pre (x ∷ xs) ys met = (met.0, are_met_first log (pre ++ x ∷ []) xs ys met.1)

pub are_met_second : (log pre xs ys : List LogRow) → AreEnabled log pre (xs ++ ys) → AreEnabled log (pre ++ xs) ys
are_met_second log pre [] ys met = rw append-nil met
are_met_second log pre (x ∷ xs) ys met = rw append_assoc at (are_met_second log (pre ++ x ∷ []) xs ys met.1)

pub are_met_both : (log pre xs ys : List LogRow) → AreEnabled log pre xs → AreEnabled log (pre ++ xs) ys → AreEnabled log pre (xs ++ ys)
are_met_both log pre [] ys first second = rw append-nil at second
are_met_both log pre (x ∷ xs) ys first second =
    (first.0, are_met_both log (pre ++ x ∷ []) xs ys first.1 (rw append_assoc second))

-- a row that is enabled gets no message that was not sent
met_in : (s : Stream) (log pre : List LogRow) (p : ℕ) (step : Step) → is_enabled log pre p step ≡ true
    → ins s pre ≤ outs s pre → ins s pre + cond (is_in s step) 1 0 ≤ outs s pre
met_in s log pre p (In t) met le = grind (arith, nat_tests, same_stream_is)
met_in s log pre p _ met le = omega arith

-- no more messages are got than sent
pub met_le : (s : Stream) (log pre xs : List LogRow) → AreEnabled log pre xs → ins s pre ≤ outs s pre
    → ins s (pre ++ xs) ≤ outs s (pre ++ xs)
met_le s log pre [] met le = rw append-nil le
met_le s log pre (x ∷ xs) met le = rw append_assoc at (met_le s log (pre ++ x ∷ []) xs met.1
    (let a = met_in s log pre x.process x.step met.0 le in
    omega (arith, rows-append (is_in s) pre (x ∷ []), push_le (is_out s) pre x)))

-- ---- what a step needs of those before it

pub needs : (pre kept : List LogRow) (step : Step) → ((s : Stream) × (is_out s step ≡ true) × (outs s pre < ins s pre + ins s kept))
    ⊎ ((s : Stream) → is_out s step ≡ true → ins s pre + ins s kept ≤ outs s pre)
needs pre kept (Out t) = dite (dec_lt (outs t pre) (ins t pre + ins t kept))
    (λ l. inl (t, same_self t, l))
    (λ no. inr (λ s is. rw (same_stream_is s t is) (omega arith)))
needs pre kept _ = inr (λ s is. absurd (cc is))

-- ---- a moment of an interleaving, and what is left after it
module _ (log : List LogRow) (ends : HasEnds log) (now rest : List LogRow) (is : IsInterleaving log (now ++ rest)) where
  pub rest_of : (q : ℕ) → steps_of q now ++ steps_of q rest ≡ steps_of q log
  rest_of q = rw steps_of-append at (is.whole q)

  pub now_met : AreEnabled log [] now
  now_met = are_met_first log [] now rest is.met

  pub now_le : (s : Stream) → ins s now ≤ outs s now
  now_le s = met_le s log [] now now_met (omega arith)

  pub outs_by : (s : Stream) → outs s now ≡ sends s (steps_of (ends.sender s) now)
  outs_by s = first_own (is_out s) (ends.sender s) log now (λ q. steps_of q rest) rest_of (ends.sends s)

  pub ins_by : (s : Stream) → ins s now ≡ gets s (steps_of (ends.receiver s) now)
  ins_by s = first_own (is_in s) (ends.receiver s) log now (λ q. steps_of q rest) rest_of (ends.gets s)

module _ (log : List LogRow) (ends : HasEnds log) (p i : ℕ) where
  abbrev claim : LogRow
  claim = record { process = p; step = Over }

  -- ---- a split: rows that may stand before the claim, and those of them that it needs

  pub record IsSplit (pre kept : List LogRow) : Type 0 where
    pub before : IsBefore log p i (pre ++ kept)
    pub least : (other : List LogRow) → IsBefore log p i other → (q : ℕ) → (steps_of q kept ≢ [])
        → length (steps_of q (pre ++ kept)) ≤ length (steps_of q other)

  -- a row that is needed stays before the claim
  keep : (pre kept : List LogRow) (x : LogRow) → IsSplit (pre ++ x ∷ []) kept
      → ((other : List LogRow) → IsBefore log p i other
      → length (steps_of x.process (pre ++ x ∷ kept)) ≤ length (steps_of x.process other))
      → IsSplit pre (x ∷ kept)
  keep pre kept x split needed = record {
    before = rw append_assoc at split.before;
    least = λ other is q some. dite (ℕ_discrete x.process q)
        (λ e. rw (← e) (needed other is))
        (λ ne. rw append_assoc at (split.least other is q (λ none. some (rw (steps_other q x kept ne) none))));
  }

  -- ---- a row that is not needed

  module _ (pre kept : List LogRow) (x : LogRow) (split : IsSplit (pre ++ x ∷ []) kept) where
    abbrev after : List LogRow
    after = split.before.after

    abbrev through : List LogRow
    through = kept ++ claim ∷ []

    all_rows : ((pre ++ x ∷ []) ++ kept) ++ claim ∷ after ≡ pre ++ (x ∷ (through ++ after))
    all_rows = simp append_assoc

    whole : (q : ℕ) → steps_of q pre ++ steps_of q (x ∷ (through ++ after)) ≡ steps_of q log
    whole q = rw (all_rows, steps_of-append) at (split.before.whole.whole q)

    met : AreEnabled log [] (pre ++ (x ∷ (through ++ after)))
    met = rw all_rows at split.before.whole.met

    counted_part : (test : Step → Bool) (q : ℕ)
        → count_steps test (steps_of q (x ∷ [])) + count_steps test (steps_of q through) ≤ count_steps test (steps_of q log)
    counted_part test q =
        let a = ap (count_steps test) (whole q) in
        let b = count-append test (steps_of q pre) (steps_of q (x ∷ (through ++ after))) in
        let c = own-append test q (x ∷ []) (through ++ after) in let d = own-append test q through after in omega arith

    -- x is of the one process that has such steps
    is_owner : (test : Step → Bool) (owner : ℕ) → ((q : ℕ) → q ≢ owner → count_steps test (steps_of q log) ≡ 0)
        → test x.step ≡ true → x.process ≡ owner
    is_owner test owner only is = owner_is test owner x.process log (steps_of x.process pre) x.step
        (steps_of x.process (through ++ after)) only
        (rw (steps_own x.process x (through ++ after) refl) at (whole x.process)) is

    module _ (none : steps_of x.process kept ≡ []) where
      module _ (ne : x.process ≢ p) (spares : (s : Stream) → is_out s x.step ≡ true → ins s pre + ins s kept ≤ outs s pre) where
        none_through : steps_of x.process through ≡ []
        none_through = rw (steps_of-append, none) (steps_other x.process claim [] (λ e. ne (sym e)))

        none_got : (s : Stream) → is_in s x.step ≡ true → ins s through ≡ 0
        none_got s is =
            let a = all_own (is_in s) x.process through (λ q other.
            let b = ends.gets s q (λ e. other (rw (is_owner (is_in s) (ends.receiver s) (ends.gets s) is) e)) in
            omega (arith, counted_part (is_in s) q)) in rw (a, none_through)

        spared : (s : Stream) → is_out s x.step ≡ true → ins s pre + ins s through ≤ outs s pre
        spared s is = let a = spares s is in let b = rows-append (is_in s) kept (claim ∷ []) in omega arith

        moved : AreEnabled log pre (through ++ x ∷ after)
        moved = move log pre through after x none_through none_got spared (are_met_second log [] pre (x ∷ (through ++ after)) met)

        now : (pre ++ kept) ++ claim ∷ (x ∷ after) ≡ pre ++ (through ++ x ∷ after)
        now = simp append_assoc

        whole_now : (q : ℕ) → steps_of q ((pre ++ kept) ++ claim ∷ (x ∷ after)) ≡ steps_of q log
        whole_now q = rw (now, steps_of-append q pre (through ++ x ∷ after), steps_moved q x through after none_through)
            (whole q)

        met_now : AreEnabled log [] ((pre ++ kept) ++ claim ∷ (x ∷ after))
        met_now = rw now
            (are_met_both log [] pre (through ++ x ∷ after) (are_met_first log [] pre (x ∷ (through ++ after)) met) moved)

        -- a row that is not needed goes after the claim
        pub put_behind : IsSplit pre kept
        put_behind = record {
          before = record {
            after = x ∷ after;
            whole = record { whole = whole_now; met = met_now };
            place = rw (without p pre kept x ne) at split.before.place;
          };
          least = λ other is q some.
              rw (without q pre kept x (λ e. some (rw e at none))) at (split.least other is q some);
        }

      -- a row whose message is needed
      module _ (s : Stream) (is : is_out s x.step ≡ true) (less : outs s pre < ins s pre + ins s kept)
          (other : List LogRow) (here : IsBefore log p i other) where
        abbrev full : List LogRow
        full = (pre ++ x ∷ []) ++ kept

        abbrev receiver : ℕ
        receiver = ends.receiver s

        pre_le : ins s pre ≤ outs s pre
        pre_le = met_le s log [] pre (are_met_first log [] pre (x ∷ (through ++ after)) met) (omega arith)

        kept_by : ins s kept ≡ gets s (steps_of receiver kept)
        kept_by = all_own (is_in s) receiver kept (λ q apart. let c = own-append (is_in s) q kept (claim ∷ []) in
            omega (arith, counted_part (is_in s) q, ends.gets s q apart))

        some : steps_of receiver kept ≢ []
        some empty = let a = ap (gets s) empty in absurd (omega (arith, kept_by, pre_le))

        got : ins s full ≤ ins s other
        got =
            let a = ins_by log ends full (claim ∷ after) split.before.whole s in
            let b = ins_by log ends other (claim ∷ here.after) here.whole s in rw (a, b)
            (longer_counts (is_in s) (steps_of receiver full) (steps_of receiver (claim ∷ after))
            (steps_of receiver other) (steps_of receiver (claim ∷ here.after)) (steps_of receiver log)
            (rest_of log ends full (claim ∷ after) split.before.whole receiver)
            (rest_of log ends other (claim ∷ here.after) here.whole receiver) (split.least other here receiver some))

        pub needed_by : length (steps_of x.process (pre ++ x ∷ kept)) ≤ length (steps_of x.process other)
        needed_by = dite (dec_lt (length (steps_of x.process pre)) (length (steps_of x.process other)))
            (λ l. rw (steps_of-append, steps_own x.process x kept refl, none, length-append) (omega arith))
            (λ no.
            let b = longer_counts (is_out s) (steps_of x.process other) (steps_of x.process (claim ∷ here.after))
            (steps_of x.process pre) (steps_of x.process (x ∷ (through ++ after))) (steps_of x.process log)
            (rest_of log ends other (claim ∷ here.after) here.whole x.process) (whole x.process) (omega arith) in
            let e = rw (← is_owner (is_out s) (ends.sender s) (ends.sends s) is) at
            (outs_by log ends other (claim ∷ here.after) here.whole s) in
            let g = now_le log ends other (claim ∷ here.after) here.whole s in
            let j = rows-append (is_in s) (pre ++ x ∷ []) kept in let k = rows-append (is_in s) pre (x ∷ []) in
            absurd (omega (arith, own_few (is_out s) x.process pre, got)))

  -- ---- all rows, from the last to the first

  -- a row of the claimer
  pub keep_claimer : (pre kept : List LogRow) (x : LogRow) → IsSplit (pre ++ x ∷ []) kept → x.process ≡ p
      → IsSplit pre (x ∷ kept)
  keep_claimer pre kept x split e = keep pre kept x split (λ other is.
      let a = rw (append_assoc, ← e) at split.before.place in let b = rw (← e) at is.place in omega arith)

  -- a row before one that is needed
  pub keep_other : (pre kept : List LogRow) (x : LogRow) → IsSplit (pre ++ x ∷ []) kept → (steps_of x.process kept ≢ [])
      → IsSplit pre (x ∷ kept)
  keep_other pre kept x split some =
      keep pre kept x split (λ other is. rw append_assoc at (split.least other is x.process some))

  -- a row with a message that is needed
  pub keep_message : (pre kept : List LogRow) (x : LogRow) → IsSplit (pre ++ x ∷ []) kept → steps_of x.process kept ≡ []
      → (s : Stream) → is_out s x.step ≡ true → outs s pre < ins s pre + ins s kept → IsSplit pre (x ∷ kept)
  keep_message pre kept x split none s is less = keep pre kept x split (needed_by pre kept x split none s is less)

  one : (pre kept : List LogRow) (x : LogRow) → IsSplit (pre ++ x ∷ []) kept → (later : List LogRow) × IsSplit pre later
  one pre kept x split = dite (ℕ_discrete x.process p)
      (λ e. (x ∷ kept, keep_claimer pre kept x split e)) (λ ne. by ne (steps_of x.process kept) refl)
    where
      by : x.process ≢ p → (own : List Step) → steps_of x.process kept ≡ own → (later : List LogRow) × IsSplit pre later
      by ne (step ∷ steps) has = (x ∷ kept, keep_other pre kept x split (λ none. cc))
      by ne [] none = elim (needs pre kept x.step) as (λ _. (later : List LogRow) × IsSplit pre later) [
        | inl found ↦ (x ∷ kept, keep_message pre kept x split none found.0 found.1 found.2)
        | inr spares ↦ (kept, put_behind pre kept x split none ne spares)
      ]

  pub split : (pre rest : List LogRow) → IsBefore log p i (pre ++ rest) → (kept : List LogRow) × IsSplit pre kept
  split pre [] is = ([], record { before = is; least = λ other here q some. absurd (some refl) })
  split pre (x ∷ xs) is =
      let later = split (pre ++ x ∷ []) xs (rw append_assoc is) in one pre later.0 x later.1

  -- a process with no rows has no more than another
  none_or_some : (q : ℕ) (kept other : List LogRow)
      → ((steps_of q kept ≢ []) → length (steps_of q kept) ≤ length (steps_of q other))
      → length (steps_of q kept) ≤ length (steps_of q other)
  none_or_some q kept other some = dite (dec_lt 0 (length (steps_of q kept)))
      (λ l. some (λ none. let a = ap length none in absurd (omega arith))) (λ no. omega arith)

  pub past_of_split : (kept : List LogRow) → IsSplit [] kept → IsPast log p i kept
  past_of_split kept split = record {
    here = split.before;
    least = λ other there q. none_or_some q kept other (split.least other there q);
  }

  pub causal_past : (before : List LogRow) → IsBefore log p i before → (past : List LogRow) × IsPast log p i past
  causal_past before is = let found = split [] before is in (found.0, past_of_split found.0 found.1)
