-- Serves Books.antt, Steps.antt, Tally.antt.
-- The steps keep the books sound, and only a last acknowledgement makes an engaged vertex neutral.
use Rattle.std.proofs.Common.{◌≡◌, ℕ, ◌+◌, ◌<◌, ◌≤◌, ◌≢◌, eqb, if◌then◌else◌, ◌&&◌, Bool, true, false, List, nat_eq}
use Rattle.std.proofs.Common.{Option, Some, None, is_some, refl, sym, ap, ◌∙◌, subst, inl, inr, arith}
use Rattle.std.specs.List.{Contains}
use Rattle.std.proofs.lemmas.Bool.Decides.{nat_tests, eqb_tells}
use Rattle.chip_detect.specs.Tally.{Tally, AreTallies, open_on, all_open, message_limit}
use Rattle.chip_detect.specs.Books.{Books, IsSound, in_edges, owed, all_owed, deficit, outstanding, got_of, sent_of}
use Rattle.chip_detect.specs.Acknowledging.{is_parent, or_else, parent_while_owed, acknowledgeable_count, may_ack}
use Rattle.chip_detect.specs.Steps.{Got, Acked, Sent, Settled, Gets, Acknowledges, Sends, Settles}
use Rattle.chip_detect.specs.Change.{AddsAnswers}
use Rattle.std.specs.Option.{option_eq}
use Rattle.chip_detect.specs.Laws.{StepsKeepSoundness, NeutralOnlyWhenDone, ParentGoesWithAll, IsLastAcknowledgement}
use Rattle.chip_detect.proofs.ChangesLemmas.{open_within_total, message_opens, message_tallies, answers_close}
use Rattle.chip_detect.proofs.ChangesLemmas.{answers_tallies, answers_total}
use Rattle.chip_detect.proofs.AllowedLemmas.{within_owed, all_when_done, active_keeps_one, one_is_kept, stays_owed}
use Rattle.chip_detect.proofs.AllowedLemmas.{goes_unowed}
use Rattle.chip_detect.proofs.ListLemmas.{not_some}

module _ (old new : Books) (e count : ℕ) (sound : IsSound old) (on : Contains (in_edges old) e)
    (allowed : count ≤ may_ack old e true) (change : Acknowledges old new e count) where
  were_owed : count ≤ owed old e
  were_owed = omega (arith, allowed, within_owed e old.parent (owed old e) (all_owed old) (deficit old) true)

  less_owed : (i : ℕ) → (if eqb e i then owed new i + count else owed new i) ≡ owed old i
  less_owed i = sym (answers_close old.ins new.ins e count sound.ins change.ins were_owed i)

  total : all_owed old ≡ all_owed new + count
  total = answers_total old.ins new.ins e count sound.ins change.ins were_owed on

  -- if the parent goes, it is the edge of the step, all that was owed was owed on it, and the deficit is 0
  parent_goes : (p : ℕ) → old.parent ≡ Some p → new.parent ≡ None
      → record { here : p ≡ e; whole : count ≡ owed old e; alone : all_owed old ≡ count; waiting : deficit old ≡ 0 }
  parent_goes p was gone =
      let unowed = goes_unowed p (owed new)
      (subst (λ (q : Option ℕ). parent_while_owed q (owed new) ≡ None) was (sym change.parent ∙ gone)) in
      let owing = sound.engaged p was in
      let here : p ≡ e = grind (arith, nat_tests, less_owed p) in
      let whole : count ≡ owed old e = grind (arith, nat_tests, less_owed e, ap (owed new) here, were_owed) in
      let parent_is : old.parent ≡ Some e = was ∙ ap Some here in
      let enough : owed old e ≤ acknowledgeable_count e (Some e) (owed old e) (all_owed old) (deficit old) true =
      subst (λ (q : Option ℕ). owed old e ≤ acknowledgeable_count e q (owed old e) (all_owed old) (deficit old) true)
      parent_is (omega (arith, whole, allowed)) in
      let done = all_when_done e (owed old e) (all_owed old) (deficit old) true
      (omega (arith, owing, ap (owed old) here)) enough in
      record { here = here; whole = whole; alone = omega (arith, done.0, whole); waiting = done.2 }

  nothing_left : (parent : Option ℕ) → old.parent ≡ parent → new.parent ≡ None → all_owed new ≡ 0
  nothing_left None was gone = omega (arith, total, sound.neutral was)
  nothing_left (Some p) was gone = omega (arith, total, (parent_goes p was gone).alone)

  pub acknowledging_keeps : IsSound new
  acknowledging_keeps = record {
    ins = answers_tallies old.ins new.ins e count sound.ins change.ins were_owed;
    outs = rw change.outs sound.outs;
    engaged = λ p is. (stays_owed old.parent (owed new) p (sym change.parent ∙ is)).1;
    neutral = nothing_left old.parent refl;
  }

  pub last_acknowledgement : (parent : Option ℕ) → old.parent ≡ parent → is_some parent ≡ true → new.parent ≡ None
      → IsLastAcknowledgement old new (Acked e count)
  last_acknowledgement None was engaged gone = cc
  last_acknowledgement (Some p) was engaged gone =
      let last = parent_goes p was gone in
      let parent_is : old.parent ≡ Some e = was ∙ ap Some last.here in
      let owing = sound.engaged e parent_is in
      let none : all_owed new ≡ 0 = omega (arith, total, last.alone) in
      record {
        edge = e;
        count = count;
        step = refl;
        on_parent = parent_is;
        allowed_passive = allowed;
        refused_active = rw parent_is
            (omega (arith, active_keeps_one e (owed old e) (all_owed old) (deficit old), last.whole, owing));
        owes_nothing = λ i. omega (arith, none, open_within_total new.ins i);
        nothing_owed = none;
        no_deficit = ap deficit_of change.outs ∙ last.waiting;
      }
    where
      deficit_of : List Tally → ℕ
      deficit_of ts = all_open ts

module _ (old new : Books) (e : ℕ) (sound : IsSound old) (on : Contains (in_edges old) e)
    (room : got_of old e < message_limit) (change : Gets old new e) where
  more_owed : (i : ℕ) → owed new i ≡ (if eqb e i then owed old i + 1 else owed old i)
  more_owed = message_opens old.ins new.ins e sound.ins change.ins

  -- the parent is unchanged, or the edge of the message
  owes : (parent : Option ℕ) → old.parent ≡ parent → (p : ℕ) → or_else parent e ≡ Some p → 0 < owed new p
  owes None was p is = let same : e ≡ p = cc in grind (arith, nat_tests, more_owed p)
  owes (Some q) was p is = let same : q ≡ p = cc in grind (arith, nat_tests, more_owed p, sound.engaged p (was ∙ is))

  never_neutral : (parent : Option ℕ) → or_else parent e ≡ None → ⊥
  never_neutral None is = cc
  never_neutral (Some q) is = cc

  pub getting_keeps : IsSound new
  getting_keeps = record {
    ins = message_tallies old.ins new.ins e sound.ins change.ins room;
    outs = rw change.outs sound.outs;
    engaged = λ p is. owes old.parent refl p (sym change.parent ∙ is);
    neutral = λ is. absurd (never_neutral old.parent (sym change.parent ∙ is));
  }

-- a step that leaves the edges into the vertex and its parent
out_step_keeps : (old new : Books) → IsSound old → AreTallies new.outs → new.ins ≡ old.ins → new.parent ≡ old.parent
    → IsSound new
out_step_keeps old new sound outs ins parent = record {
  ins = rw ins sound.ins;
  outs = outs;
  engaged = λ p is. subst (λ (ts : List Tally). 0 < open_on ts p) (sym ins) (sound.engaged p (sym parent ∙ is));
  neutral = λ is. subst (λ (ts : List Tally). all_open ts ≡ 0) (sym ins) (sound.neutral (sym parent ∙ is));
}

pub sending_keeps : (old new : Books) (e : ℕ) → IsSound old → sent_of old e < message_limit → Sends old new e
    → IsSound new
sending_keeps old new e sound room change = out_step_keeps old new sound
    (message_tallies old.outs new.outs e sound.outs change.outs room) change.ins change.parent

pub settling_keeps : (old new : Books) (e count : ℕ) → IsSound old → count ≤ outstanding old e → Settles old new e count
    → IsSound new
settling_keeps old new e count sound waited change = out_step_keeps old new sound
    (answers_tallies old.outs new.outs e count sound.outs change.outs waited) change.ins change.parent

pub steps_keep_soundness : StepsKeepSoundness
steps_keep_soundness old new (Got e) sound may made = getting_keeps old new e sound may.0 may.1 made
steps_keep_soundness old new (Acked e n) sound may made = acknowledging_keeps old new e n sound may.0 may.1 made
steps_keep_soundness old new (Sent e) sound may made = sending_keeps old new e sound may.1 made
steps_keep_soundness old new (Settled e word) sound may made =
    settling_keeps old new e _ sound (omega (arith, may.1, may.2)) made

still_engaged : (old new : Option ℕ) → new ≡ old → is_some old ≡ true → is_some new ≡ false → ⊥
still_engaged old new same was is = cc

got_engaged : (e : ℕ) (old new : Option ℕ) → new ≡ or_else old e → is_some new ≡ false → ⊥
got_engaged e None new same is = cc
got_engaged e (Some p) new same is = cc

pub neutral_only_when_done : NeutralOnlyWhenDone
neutral_only_when_done old new (Got e) sound may made was is =
    absurd (got_engaged e old.parent new.parent made.parent is)
neutral_only_when_done old new (Acked e n) sound may made was is =
    last_acknowledgement old new e n sound may.0 may.1 made old.parent refl was (not_some new.parent is)
neutral_only_when_done old new (Sent e) sound may made was is =
    absurd (still_engaged old.parent new.parent made.parent was is)
neutral_only_when_done old new (Settled e word) sound may made was is =
    absurd (still_engaged old.parent new.parent made.parent was is)

pub fresh_is_sound : (b : Books) → AreTallies b.ins → AreTallies b.outs → all_owed b ≡ 0 → b.parent ≡ None → IsSound b
fresh_is_sound b ins outs nothing parent =
    record {
      ins = ins;
      outs = outs;
      engaged = λ p is. absurd (none_is_some p (sym parent ∙ is));
      neutral = λ is. nothing;
    }
  where
    none_is_some : (p : ℕ) → None ≡ Some p → ⊥
    none_is_some p same = cc

-- the same, as the two branches of the code have it
module _ (old : Books) (ins : List Tally) (e count : ℕ) (sound : IsSound old) (on : Contains (in_edges old) e)
    (allowed : count ≤ may_ack old e true) (adds : AddsAnswers old.ins ins e count) where
  pub freed : option_eq nat_eq old.parent (Some e) ≡ true → open_on ins e ≡ 0
      → IsSound (record { ins = ins; outs = old.outs; parent = None })
  freed on_parent unowed =
      acknowledging_keeps old (record { ins = ins; outs = old.outs; parent = None }) e count sound on allowed
      (record { ins = adds; outs = refl; parent = gone old.parent on_parent })
    where
      gone : (parent : Option ℕ) → option_eq nat_eq parent (Some e) ≡ true
          → None ≡ parent_while_owed parent (open_on ins)
      gone None same = cc
      gone (Some p) same = let here : p ≡ e = grind (arith, nat_tests) in
          grind (arith, nat_tests, ap (open_on ins) here)

  pub kept : (option_eq nat_eq old.parent (Some e) ≡ true → open_on ins e ≢ 0)
      → IsSound (record { ins = ins; outs = old.outs; parent = old.parent })
  kept owing =
      acknowledging_keeps old (record { ins = ins; outs = old.outs; parent = old.parent }) e count sound on allowed
      (record { ins = adds; outs = refl; parent = stays old.parent refl owing })
    where
      stays : (parent : Option ℕ) → old.parent ≡ parent → (option_eq nat_eq parent (Some e) ≡ true → open_on ins e ≢ 0)
          → parent ≡ parent_while_owed parent (open_on ins)
      stays None was owing = refl
      stays (Some p) was owing =
          let were_owed : count ≤ owed old e = omega
          (arith, allowed, within_owed e old.parent (owed old e) (all_owed old) (deficit old) true) in
          let still : open_on ins p ≢ 0 = elim (eqb_tells p e) [
            | inl (test, here) ↦ λ unowed. owing test (sym (ap (open_on ins) here) ∙ unowed)
            | inr (test, other) ↦ λ unowed. grind
                (arith, nat_tests, answers_close old.ins ins e count sound.ins adds were_owed p, sound.engaged p was)
          ] in
          grind (arith, nat_tests)

pub parent_goes_with_all : ParentGoesWithAll
parent_goes_with_all old new e count sound were_owed change = change.parent ∙ by_parent old.parent refl
  where
    by_parent : (parent : Option ℕ) → old.parent ≡ parent
        → parent_while_owed parent (owed new) ≡ (if is_parent e parent && eqb count (owed old e) then None else parent)
    by_parent None was = refl
    by_parent (Some p) was =
        grind (
          arith,
          nat_tests,
          answers_close old.ins new.ins e count sound.ins change.ins were_owed p,
          sound.engaged p was,
          λ (same : p ≡ e). ap (owed old) same,
        )

-- if one message is all that is owed, and the vertex isn't done, nothing may be acknowledged on the parent edge
pub last_is_kept : (b : Books) (passive : Bool) → IsSound b → all_owed b ≡ 1 → (passive ≡ true → deficit b ≢ 0)
    → (p : ℕ) → b.parent ≡ Some p → may_ack b p passive ≡ 0
last_is_kept b passive sound one undone p is =
    let here : owed b p ≡ 1 = omega (arith, one, sound.engaged p is, open_within_total b.ins p) in
    ap (λ (q : Option ℕ). acknowledgeable_count p q (owed b p) (all_owed b) (deficit b) passive) is
    ∙ one_is_kept p (owed b p) (all_owed b) (deficit b) passive here undone
