-- Serves Cut.antt.
-- A claim has the same causal past in rows that were done as in the whole log.
use Rattle.chip_log.proofs.Names.{◌≡◌, ℕ, true, List, [], ◌∷◌, ◌++◌, refl, sym, ◌∙◌, arith, subst, append_assoc}
use Rattle.chip_log.proofs.Names.{steps_of, begins_active, HasEnds, IsInterleaving, IsProgress, IsBefore, IsPast, IsRight}
use Rattle.chip_log.proofs.Names.{is_claim, length-append, nat_tests, LogRow, Step, Active, Over}
use Rattle.chip_log.specs.Cut.{CutKeepsVerdicts}
use Rattle.chip_log.proofs.PastLemmas.{causal_past}
use Rattle.chip_log.proofs.QuiescentLemmas.{quiescent_is_right}
use Rattle.chip_log.proofs.ProgressLemmas.{rows-append, first_of, whole_progress, goes_on}
use Rattle.chip_log.proofs.SameLemmas.{are_met_as, quiescent_as, judged_by}
use Rattle.chip_log.proofs.RightLemmas.{find_over}

-- rows of a log that were done
module _ (log : List LogRow) (ends : HasEnds log) (xs : List LogRow) (all : IsInterleaving log xs) (part : List LogRow)
    (done : IsProgress log part)
    (begins : (p : ℕ) → begins_active (steps_of p log) ≡ begins_active (steps_of p part)) (p i : ℕ) where
  abbrev claim : LogRow
  claim = record { process = p; step = Over }

  -- rows that come before a claim there come before it in the log
  to_log : (before : List LogRow) → IsBefore part p i before → IsBefore log p i before
  to_log before is =
      let front = before ++ claim ∷ is.after in
      let first : IsProgress log front = record {
        left = done.left;
        own = λ q. rw (is.whole.whole q) (done.own q);
        met = are_met_as part log (λ q. sym (begins q)) [] front is.whole.met;
      } in
      let on = goes_on log ends front first log xs (λ q. refl) (whole_progress log xs all) all.whole (λ q.
      grind (arith, length-append, first.own q, all.whole q)) in
      record { after = is.after ++ on.0; whole = rw append_assoc at on.1; place = is.place }

  -- the causal past in the log comes before it there
  to_part : (before past : List LogRow) → IsBefore part p i before → IsPast log p i past → IsBefore part p i past
  to_part before past is least =
      let front = past ++ claim ∷ [] in
      let whole = whole_progress log (past ++ claim ∷ least.here.after) least.here.whole in
      let first = first_of log front least.here.after (rw append_assoc whole) in
      let on = goes_on log ends front first part part begins done (λ q. refl) (λ q.
      grind (arith, nat_tests, rows-append, least.least before (to_log before is) q, is.whole.whole q)) in
      record { after = on.0; whole = rw append_assoc at on.1; place = least.here.place }

  -- a causal past there is one in the log
  past_stays : (past : List LogRow) → IsPast part p i past → IsPast log p i past
  past_stays past is =
      let here = to_log past is.here in
      let least = causal_past log ends p i past here in
      record {
        here = here;
        least = λ other there q.
            omega (arith, is.least least.0 (to_part past least.0 is.here least.1) q, least.1.least other there q);
      }

  -- a claim that is right there is so in the log
  right_stays : is_claim part p i ≡ true → IsRight part p i → IsRight log p i
  right_stays claimed right =
      let found = find_over p part i claimed in
      let whole : IsInterleaving part part = record { whole = λ q. refl; met = are_met_as log part begins [] part done.met } in
      let here : IsBefore part p i found.0 =
      record { after = found.1; whole = subst (IsInterleaving part) found.2 whole; place = found.3 } in
      let least = causal_past log ends p i found.0 (to_log found.0 here) in
      quiescent_is_right log ends p i least.0 least.1 (quiescent_as part log (λ q. sym (begins q)) least.0
      (right.at least.0 (to_part found.0 least.0 here least.1)))

-- what is left does not say how a process begins, since a step that does is made
begins_from : (xs left all : List Step) → xs ++ left ≡ all → ((later : List Step) → left ≡ Active ∷ later → ⊥)
    → begins_active all ≡ begins_active xs
begins_from xs left all same never = grind (arith, never)

pub cut_keeps_verdicts : CutKeepsVerdicts
cut_keeps_verdicts with_past log cut used xs c ends is most all claimed judged =
    judged_by used log (λ q. sym (begins q)) with_past c (past_stays log ends xs all used done begins c.process c.row)
    (right_stays log ends xs all used done begins c.process c.row claimed) judged
  where
    begins : (p : ℕ) → begins_active (steps_of p log) ≡ begins_active (steps_of p used)
    begins p = sym (is.begins p) ∙ begins_from (steps_of p used) (most.progress.left p) (steps_of p cut) (most.progress.own p)
        (λ later next. let a = most.stuck p Active later next in cc a)

    done : IsProgress log used
    done = record {
      left = λ p. most.progress.left p ++ is.missing p;
      own = λ p. rw (← append_assoc, most.progress.own p) (is.own p);
      met = are_met_as cut log is.begins [] used most.progress.met;
    }
