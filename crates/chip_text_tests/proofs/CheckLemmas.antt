-- Serves Checks.antt.
-- What the tests of a log compute.
use Rattle.std.proofs.Common.{◌≡◌, ◌≢◌, ℕ, ◌<◌, Bool, true, false, cond, All, List, [], ◌∷◌, ◌++◌, length, get_or, Some, Result}
use Rattle.std.proofs.Common.{Ok, Err}
use Rattle.std.proofs.Common.{refl, sym, ap, ◌∙◌, subst, arith, eqb-true, ltb-true, length-set}
use Rattle.std.proofs.lemmas.Bool.Decides.{nat_tests}
use Rattle.std.specs.Prelude.{Option, None, slice_index_or, slice_set}
use Rattle.std.proofs.lemmas.Bool.{and_parts}
use Rattle.std.proofs.lemmas.List.Elements.{All-nil, All-cons, All-head, All-tail}
use Rattle.std.proofs.lemmas.Option.{slice_get-get_or}
use Rattle.std.proofs.lemmas.List.{get_or_default}
use Rattle.std.specs.Result.{MatchResult, result_ok}
use mathlib.Core.Logic.{dite}
use native.Mathlib.Decide.{ℕ_discrete}
use Rattle.chip_log.specs.declared.row.LogRow.{LogRow}
use Rattle.chip_log.specs.declared.row.Stream.{Stream}
use Rattle.chip_log.specs.declared.row.Step.{Step}
use Rattle.chip_log.specs.declared.row.Step.TheVariants.{Out, In, Passive, Active, Over}
use Rattle.chip_log.specs.declared.past.Sizes.{Sizes}
use Rattle.chip_log.specs.Log.{steps_of, is_out, is_in, sends, gets, active_after, begins_active, is_enabled, AreEnabled}
use Rattle.chip_log.specs.Judge.{AreBeginners, first_step}
use Rattle.chip_log.specs.Log.{HasEnds, IsInterleaving}
use Rattle.chip_log.specs.Books.{IsOf}
use Rattle.chip_log.specs.Past.{IsLog, Fits, FitsRow}
use Rattle.chip_log.specs.Order.{may_send, AreSent, IsWellFormed}
use Rattle.chip_log.proofs.CountLemmas.{steps_of-append, same_stream_is, steps_own, steps_other, steps_push, steps_push_other, active_after-append}
use Rattle.chip_log.proofs.JudgeLemmas.{begins_with-append}
use Rattle.chip_log.proofs.MetLemmas.{count_no}
use Rattle.chip_log.proofs.QueuesLemmas.{set_at}
use Rattle.chip_text_tests.specs.Checks.{sender_in, receiver_in, is_at_end, have_ends, are_sent, has_channel, fit, may_order}

-- ---- the ends of streams

not_true : (b : Bool) → (b ≡ true → ⊥) → b ≡ false
not_true true never = absurd (never refl)
not_true false never = refl

at_sender : (log : List LogRow) (p : ℕ) (s : Stream) (step : Step) → is_at_end log p step ≡ true → is_out s step ≡ true
    → p ≡ sender_in log s
at_sender log p s (Out t) ends is = eqb-true p (sender_in log t) ends ∙ ap (sender_in log) (sym (same_stream_is s t is))
at_sender log p s _ ends is = absurd (cc is)

at_receiver : (log : List LogRow) (p : ℕ) (s : Stream) (step : Step) → is_at_end log p step ≡ true → is_in s step ≡ true
    → p ≡ receiver_in log s
at_receiver log p s (In t) ends is = eqb-true p (receiver_in log t) ends ∙ ap (receiver_in log) (sym (same_stream_is s t is))
at_receiver log p s _ ends is = absurd (cc is)

one_sender : (log : List LogRow) (s : Stream) (p : ℕ) → p ≢ sender_in log s → (xs : List LogRow)
    → have_ends log xs ≡ true → sends s (steps_of p xs) ≡ 0
one_sender log s p other [] ends = refl
one_sender log s p other (x ∷ xs) ends =
    let both = and_parts _ _ ends in
    let rest = one_sender log s p other xs both.1 in
    dite (ℕ_discrete x.process p)
    (λ same.
    let none = count_no (is_out s x.step) (not_true (is_out s x.step)
    (λ is. other (sym same ∙ at_sender log x.process s x.step both.0 is))) in
    let own = ap (sends s) (steps_own p x xs same) in
    omega arith)
    (λ differs. ap (sends s) (steps_other p x xs differs) ∙ rest)

one_receiver : (log : List LogRow) (s : Stream) (p : ℕ) → p ≢ receiver_in log s → (xs : List LogRow)
    → have_ends log xs ≡ true → gets s (steps_of p xs) ≡ 0
one_receiver log s p other [] ends = refl
one_receiver log s p other (x ∷ xs) ends =
    let both = and_parts _ _ ends in
    let rest = one_receiver log s p other xs both.1 in
    dite (ℕ_discrete x.process p)
    (λ same.
    let none = count_no (is_in s x.step) (not_true (is_in s x.step)
    (λ is. other (sym same ∙ at_receiver log x.process s x.step both.0 is))) in
    let own = ap (gets s) (steps_own p x xs same) in
    omega arith)
    (λ differs. ap (gets s) (steps_other p x xs differs) ∙ rest)

-- ---- who sends

sent_from : (log before : List LogRow) (p : ℕ) (xs : List LogRow) → are_sent log before xs ≡ true
    → AreSent (active_after (begins_active (steps_of p log)) (steps_of p before)) (steps_of p xs)
sent_from log before p [] sent = tt
sent_from log before p (x ∷ xs) sent =
    let begins = begins_active (steps_of p log) in
    let active = active_after begins (steps_of p before) in
    let both = and_parts _ _ sent in
    let rest = sent_from log (before ++ x ∷ []) p xs both.1 in
    dite (ℕ_discrete x.process p)
    (λ same. subst (AreSent active) (sym (steps_own p x xs same)) (
      subst (λ (q : ℕ). may_send (active_after (begins_active (steps_of q log)) (steps_of q before)) x.step ≡ true) same both.0,
      subst (λ (b : Bool). AreSent b (steps_of p xs))
          (ap (active_after begins) (steps_push p before x same) ∙ active_after-append begins (steps_of p before) (x.step ∷ []))
          rest,
    ))
    (λ differs. subst (AreSent active) (sym (steps_other p x xs differs))
    (subst (λ (b : Bool). AreSent b (steps_of p xs)) (ap (active_after begins) (steps_push_other p before x differs)) rest))

-- ---- sizes

of_channel : (n : ℕ) (step : Step) → has_channel n step ≡ true → IsOf n step
of_channel n (Out s) is = ltb-true s.channel n is
of_channel n (In s) is = ltb-true s.channel n is
of_channel n _ is = tt

fits_from : (sizes : Sizes) (xs : List LogRow) → fit sizes xs ≡ true → Fits sizes xs
fits_from sizes [] is = All-nil (FitsRow sizes)
fits_from sizes (x ∷ xs) is =
    let both = and_parts _ _ is in
    let rest = and_parts _ _ both.1 in
    All-cons (FitsRow sizes) x xs
    (record { process = ltb-true _ _ both.0; channel = of_channel sizes.channels x.step rest.0 })
    (fits_from sizes xs rest.1)

pub well_formed : (sizes : Sizes) (log : List LogRow) → may_order sizes log ≡ true → IsWellFormed sizes log
well_formed sizes log may =
    let both = and_parts _ _ may in
    let rest = and_parts _ _ both.1 in
    record {
      ends = record {
        sender = sender_in log;
        receiver = receiver_in log;
        sends = λ s p other. one_sender log s p other log both.0;
        gets = λ s p other. one_receiver log s p other log both.0;
      };
      sent = λ p. sent_from log [] p log rest.0;
      fits = fits_from sizes log rest.1;
    }

-- ---- how processes begin, after one more row

pub more_beginners : (sizes : Sizes) (pre : List LogRow) (x : LogRow) (beginners : List (Option Bool))
    → AreBeginners sizes pre beginners → x.process < sizes.processes
    → AreBeginners sizes (pre ++ x ∷ [])
    (slice_set beginners x.process (first_step (slice_index_or beginners x.process None) x.step))
more_beginners sizes pre x beginners was within = record {
  each = rw length-set was.each;
  begins = λ q.
      let a = set_at beginners x.process q (first_step (slice_index_or beginners x.process None) x.step) None
      (let b = was.each in omega arith) in
      let b = steps_of-append q pre (x ∷ []) in
      let c = begins_with-append None (steps_of q pre) (steps_of q (x ∷ [])) in
      let d = was.begins q in
      grind (arith, nat_tests);
}
