-- Serves Actor.antt, Ends.antt, Medium.antt. Each phase of a turn over a medium: which operation is due, and when the
-- turn passes on without one.
use Rattle.chip_actor.proofs.Names.{nat_tests, ◌≡◌, ◌≢◌, ℕ, ◌+◌, ◌-◌, ◌%◌, ◌<◌, ◌≤◌, Bool, true, false, not, ◌&&◌}
use Rattle.chip_actor.proofs.Names.{eqb, [], length, sum, slice_index, Option, Some, None, is_some, is_none}
use Rattle.chip_actor.proofs.Names.{option_map, option_to_list, refl, sym, ap, ◌∙◌, arith, sum_by-cons, Contains}
use Rattle.chip_actor.proofs.Names.{Setting, claims_of, head_cell, tail_cell, claim_words, put_of, Slot, IsSlotOf}
use Rattle.chip_actor.proofs.Names.{tail_of, head_of, out_on, in_on, Part, cause, is_by_limit, may_ack_on, refusals}
use Rattle.chip_actor.proofs.Names.{may_fire, batch_of, is_at_limit, out_at, Actor, StandsFor, WhateverPart}
use Rattle.chip_actor.proofs.Names.{is_passive_now, Holding, Moves, may_le, take_due, takes_over, settle_due}
use Rattle.chip_actor.proofs.Names.{settles_over, in_enters, out_leaves, fire_due, no_fire_due, puts_over, puts_fit}
use Rattle.chip_actor.proofs.Names.{refusal_none, sends_begin, send_due, sends_to, sends_over, claim_due, claim_over}
use Rattle.chip_actor.proofs.Names.{store_due, stop_due, no_limit_due, ack_due, acks_to, acks_over, no_parent}
use Rattle.chip_actor.proofs.Names.{parent_due, no_parent_due, not_some}
use Rattle.chip_part.specs.Turn.{ins_of, outs_of}
use Rattle.chip_actor.proofs.StandingLemmas.{may_ack_is, books_in}
use Rattle.chip_actor.proofs.TurnActorLemmas.{pending_is, held_at_place, clear_at_place, none_held}
use Rattle.chip_actor.proofs.MediumLemmas.{Stands, DueBy, moves_past, then_over, turn_ends}
use Rattle.chip_detect.specs.Acknowledging as detector
use Rattle.chip_part.specs.declared.act.Act.TheVariants as Do
use Rattle.chip_part.specs.declared.cursor.Cursor.TheVariants as At

-- the edge at a slot of the actor's edges is the vertex's there
module _ {g : Setting} {s : Part} {a : Actor} (stands : StandsFor g s a) {slot : Slot} where
  in_there : IsSlotOf a.ins.edges slot → slice_index (ins_of g a.vertex) slot.index ≡ slot.edge
  in_there is = rw (← stands.knows.ins) is.edge

  in_within : IsSlotOf a.ins.edges slot → slot.index < length (ins_of g a.vertex)
  in_within is = rw (← stands.knows.ins) is.within

  pub in_mine : IsSlotOf a.ins.edges slot → head_of g slot.edge ≡ a.vertex
  in_mine is = rw (← in_there is) (in_enters g a.vertex slot.index (in_within is))

  out_there : IsSlotOf a.outs.edges slot → out_at g a.vertex slot.index ≡ slot.edge
  out_there is = rw (← stands.knows.outs) is.edge

  out_within : IsSlotOf a.outs.edges slot → slot.index < length (outs_of g a.vertex)
  out_within is = rw (← stands.knows.outs) is.within

  pub out_mine : IsSlotOf a.outs.edges slot → tail_of g slot.edge ≡ a.vertex
  out_mine is = rw (← out_there is) (out_leaves g a.vertex slot.index (out_within is))

-- ---- takes

pub take_by : {a : Actor} {slot : Slot} {cell : ℕ} → IsSlotOf a.ins.edges slot → cell ≡ head_cell (in_on a.ins slot.edge)
    → DueBy a (At.Take slot.index) (Do.Take slot.edge cell) (At.Take (slot.index + 1))
take_by {a} {slot} is at-cell = record {
  here = λ g s stands at. (
    rw (← in_there stands is) (take_due g a.vertex stands.knows.vertex s slot.index (in_within stands is)),
    (let end = stands.ins slot.edge (in_mine stands is) in cc),
  );
}

pub takes_end : {H : Holding} {a : Actor} {index : ℕ} → length a.ins.edges ≤ index
    → Moves H a (At.Take index) H a (At.Settle 0) 0
takes_end {H} {a} {index} over = moves_past (λ g s stands at. (
  tt,
  takes_over g a.vertex stands.knows.vertex s index (rw (← stands.knows.ins) over),
))

-- ---- settles

pub settle_by : {a : Actor} {slot : Slot} → IsSlotOf a.outs.edges slot
    → DueBy a (At.Settle slot.index) (Do.Settle slot.edge) (At.Settle (slot.index + 1))
settle_by {a} {slot} is = record {
  here = λ g s stands at. (
    rw (← out_there stands is) (settle_due g a.vertex stands.knows.vertex s slot.index (out_within stands is)),
    refl,
  );
}

pub settles_end : {H : Holding} {a : Actor} {index : ℕ} → length a.outs.edges ≤ index
    → Moves H a (At.Settle index) H a At.Fire 0
settles_end {H} {a} {index} over = moves_past (λ g s stands at. (
  tt,
  settles_over g a.vertex stands.knows.vertex s index (rw (← stands.knows.outs) over),
))

-- ---- the firing

pub fire_by : {a : Actor} {k : ℕ} → WhateverPart a (λ g s. true ≡ may_fire g a.vertex s)
    → WhateverPart a (λ g s. k ≡ batch_of g a.vertex s) → DueBy a At.Fire (Do.Fire k) (At.Put 0)
fire_by {a} {k} may batch = record {
  here = λ g s stands at. (
    rw (batch g s stands) (fire_due g a.vertex stands.knows.vertex s stands.knows.setting.game (sym (may g s stands))),
    refl,
  );
}

pub no_fire : {H : Holding} {a : Actor} → WhateverPart a (λ g s. false ≡ may_fire g a.vertex s)
    → Moves H a At.Fire H a (At.Put 0) 0
no_fire {H} {a} may = moves_past (λ g s stands at. (
  (λ k l. absurd (omega arith)),
  no_fire_due g a.vertex stands.knows.vertex s (sym (may g s stands)),
))

-- ---- sends

-- nothing is left from before the turn, and the edges are visited
pub nothing_before : {H : Holding} {a : Actor} → (is_none a.halt && eqb a.unput 0 && eqb a.refused 0) ≡ true
    → Moves H a (At.Put 0) H a (At.Send 0) 0
nothing_before {H} {a} may =
    let none-held : a.unput ≡ 0 = grind (arith, nat_tests) in
    let none-refused : a.refused ≡ 0 = grind (arith, nat_tests) in
    let runs : a.halt ≡ None = grind (arith, nat_tests) in
    then_over {y = At.Refusal}
    (moves_past (λ g s stands at. let none = none_held g s a stands none-held in (
      puts_fit g a.vertex stands.knows.vertex s 0 at (λ k le within. none k within),
      puts_over g a.vertex stands.knows.vertex s 0 (λ k le within. none k within),
    )))
    (moves_past (λ g s stands at.
    let running : s.halt ≡ None = cc in let none : refusals g a.vertex s ≡ 0 = cc in (
      sends_begin g a.vertex stands.knows.vertex s at running none,
      refusal_none g a.vertex stands.knows.vertex s running none,
    )))

stored_act : (edge n : ℕ) (h : Option ℕ) (w : ℕ × ℕ) → Some w ≡ option_map (λ (c : ℕ). (n, c)) h
    → Do.Put edge w.0 w.1 ≡ Do.Put edge n (sum (option_to_list h))
stored_act edge n None w none = absurd (grind (arith, nat_tests))
stored_act edge n (Some c) w some =
    let one : w ≡ (n, c) = cc in let value = sum_by-cons (λ (x : ℕ). x) c [] in
    rw one (ap (Do.Put edge n) (omega arith))

module _ {a : Actor} {slot : Slot} (is : IsSlotOf a.outs.edges slot) where
  pub clear_by : {cell : ℕ} → (out_on a.outs slot.edge).pending ≢ 0 → cell ≡ tail_cell (out_on a.outs slot.edge).link
      → DueBy a (At.Send slot.index) (Do.Clear slot.edge cell) (At.Claim slot.index)
  clear_by {cell} pends at-cell = record {
    here = λ g s stands at.
        let v : ℕ = a.vertex in
        let mine = out_mine stands is in
        let some : not (eqb (s.out (out_at g v slot.index)).pending 0) ≡ true = rw (out_there stands is)
        (let p = pending_is g s a stands slot.edge mine in grind (arith, nat_tests)) in (
          rw (← out_there stands is) (send_due g v stands.knows.vertex s slot.index slot.index at (omega arith)
              (out_within stands is) some (λ k le lt. absurd (omega arith))),
          (let end = stands.outs slot.edge mine in cc),
        );
  }

  pub send_none : {H : Holding} → (out_on a.outs slot.edge).pending ≡ 0
      → Moves H a (At.Send slot.index) H a (At.Send (slot.index + 1)) 0
  send_none none = moves_past (λ g s stands at.
      let v : ℕ = a.vertex in
      let inside = out_within stands is in
      let p = pending_is g s a stands slot.edge (out_mine stands is) in (
        at,
        sends_to g v stands.knows.vertex s slot.index (slot.index + 1) (omega arith) (omega arith) (λ k le lt.
            let same : k ≡ slot.index = omega arith in rw (same, out_there stands is) (grind (arith, nat_tests))),
      ))

  pub claim_by : {w : ℕ × ℕ} → Some w ≡ claim_words (out_on a.outs slot.edge).link
      → DueBy a (At.Claim slot.index) (Do.Claim slot.edge w.0 w.1) (At.Store slot.index)
  claim_by {w} words = record {
    here = λ g s stands at.
        let v : ℕ = a.vertex in
        let there = rw (is.edge, ← words) at (clear_at_place g s a stands a refl slot.index at.0) in
        let told = rw (stands.outs slot.edge (out_mine stands is)) at words in
        let clear = rw (out_there stands is) at there in
        let n : ℕ = claims_of (s.out slot.edge).link in
        let one : w ≡ (n, n + 1) = grind (arith, nat_tests) in (
          rw (← out_there stands is) (claim_due g v stands.knows.vertex s slot.index at (sym there)),
          rw one refl,
        );
  }

  pub claim_none : {H : Holding} → None ≡ claim_words (out_on a.outs slot.edge).link
      → Moves H a (At.Claim slot.index) H a (At.Send (slot.index + 1)) 0
  claim_none words = moves_past (λ g s stands at.
      let full = rw (is.edge, ← words) at (clear_at_place g s a stands a refl slot.index at.0) in
      (at.1, claim_over g a.vertex stands.knows.vertex s slot.index at (sym full)))

  pub store_by : {w : ℕ × ℕ} → Some w ≡ put_of (out_on a.outs slot.edge).link
      → DueBy a (At.Store slot.index) (Do.Put slot.edge w.0 w.1) (At.Send (slot.index + 1))
  store_by {w} stored = record {
    here = λ g s stands at.
        let v : ℕ = a.vertex in
        let held = rw (is.edge, ← stored) at (held_at_place g s a stands a refl slot.index at.0) in
        let told = rw (stands.outs slot.edge (out_mine stands is)) at stored in (
          rw (← out_there stands is) (store_due g v stands.knows.vertex s slot.index at (sym held)),
          stored_act slot.edge ((claims_of (s.out slot.edge).link - 1) % g.ring) (s.out slot.edge).link.held w told,
        );
  }

  pub stop_by : {by_limit : Bool} → None ≡ put_of (out_on a.outs slot.edge).link
      → WhateverPart a (λ g s. by_limit ≡ is_by_limit (cause g a.vertex s))
      → DueBy a (At.Store slot.index) (Do.Halt by_limit) At.Limit
  stop_by {by_limit} stored why = record {
    here = λ g s stands at.
        let none = rw (is.edge, ← stored) at (held_at_place g s a stands a refl slot.index at.0) in (
          stop_due g a.vertex stands.knows.vertex s stands.knows.setting.game slot.index at (sym none),
          ap Do.Halt (why g s stands),
        );
  }

pub sends_end : {H : Holding} {a : Actor} {index : ℕ} → length a.outs.edges ≤ index
    → Moves H a (At.Send index) H a At.Limit 0
sends_end {H} {a} {index} over = moves_past (λ g s stands at.
    let past = rw stands.knows.outs at over in
    (at.held, sends_over g a.vertex stands.knows.vertex s index (λ k le within. absurd (omega arith))))

pub no_limit : {H : Holding} {a : Actor} → WhateverPart a (λ g s. false ≡ is_at_limit g a.vertex s)
    → Moves H a At.Limit H a (At.Ack 0) 0
no_limit {H} {a} off = moves_past
    (λ g s stands at. (tt, no_limit_due g a.vertex stands.knows.vertex s (sym (off g s stands))))

-- ---- acknowledgements

module _ {a : Actor} {slot : Slot} {count : ℕ} (is : IsSlotOf a.ins.edges slot)
    (count-is : count ≡ detector.may_ack a.detect slot.edge (is_passive_now a)) where
  -- the count is the part's
  part_count : (g : Setting) (s : Part) (stands : StandsFor g s a) → count ≡ may_ack_on g (head_of g slot.edge) s slot.edge
  part_count g s stands = count-is ∙ may_ack_is g s a stands slot.edge (in_mine stands is)

  here_count : (g : Setting) (s : Part) (stands : StandsFor g s a)
      → (let e : ℕ = slice_index (ins_of g a.vertex) slot.index in count ≡ may_ack_on g (head_of g e) s e)
  here_count g s stands = rw (in_there stands is) (part_count g s stands)

  pub ack_by : count ≢ 0 → DueBy a (At.Ack slot.index) (Do.Ack slot.edge count) (At.Ack (slot.index + 1))
  ack_by some = record {
    here = λ g s stands at. (
      rw (← in_there stands is) (ack_due g a.vertex stands.knows.vertex s slot.index slot.index (omega arith)
          (in_within stands is) (rw (← here_count g s stands) (grind (arith, nat_tests)))
          (λ k le lt. absurd (omega arith))),
      ap (Do.Ack slot.edge) (part_count g s stands),
    );
  }

  pub ack_none : {H : Holding} → count ≡ 0 → Moves H a (At.Ack slot.index) H a (At.Ack (slot.index + 1)) 0
  ack_none none = moves_past (λ g s stands at.
      let v : ℕ = a.vertex in
      let inside = in_within stands is in (
        tt,
        acks_to g v stands.knows.vertex s slot.index (slot.index + 1) (omega arith) (omega arith) (λ k le lt.
            let same : k ≡ slot.index = omega arith in rw (same, ← here_count g s stands, none) refl),
      ))

pub acks_end : {H : Holding} {a : Actor} {index : ℕ} → length a.ins.edges ≤ index
    → Moves H a (At.Ack index) H a At.Parent 0
acks_end {H} {a} {index} over = moves_past (λ g s stands at.
    let past = rw stands.knows.ins at over in
    (tt, acks_over g a.vertex stands.knows.vertex s index (λ k le within. absurd (omega arith))))

pub no_parent_left : {H : Holding} {a : Actor} → a.detect.parent ≡ None → Moves H a At.Parent H a At.Over 0
no_parent_left {H} {a} none = turn_ends (λ g s stands at.
    no_parent g a.vertex stands.knows.vertex s (rw (← stands.books.parent) none))

module _ {a : Actor} {edge : ℕ} (parent : a.detect.parent ≡ Some edge) where
  -- it is the part's parent edge, and one into the vertex
  is_parent : {g : Setting} {s : Part} → StandsFor g s a → s.parent ≡ Some edge
  is_parent stands = rw (← stands.books.parent) parent

  parent_mine : {g : Setting} {s : Part} → StandsFor g s a → head_of g edge ≡ a.vertex
  parent_mine stands = (stands.kept.parents edge (is_parent stands)).1

  pub parent_among : Stands a → Contains a.ins.edges edge
  parent_among (g, s, stands) =
      rw (stands.knows.ins, ← stands.knows.detect_ins) (books_in g s a stands edge (parent_mine stands))

  module _ {count : ℕ} (count-is : count ≡ detector.may_ack a.detect edge (is_passive_now a)) where
    parent_count : (g : Setting) (s : Part) (stands : StandsFor g s a) → count ≡ may_ack_on g (head_of g edge) s edge
    parent_count g s stands = count-is ∙ may_ack_is g s a stands edge (parent_mine stands)

    pub parent_by : count ≢ 0 → DueBy a At.Parent (Do.Ack edge count) At.Over
    parent_by some = record {
      here = λ g s stands at. (
        parent_due g a.vertex stands.knows.vertex s edge (is_parent stands) (parent_mine stands)
            (rw (← parent_count g s stands) (grind (arith, nat_tests))),
        ap (Do.Ack edge) (parent_count g s stands),
      );
    }

    pub parent_none : {H : Holding} → count ≡ 0 → Moves H a At.Parent H a At.Over 0
    parent_none none = turn_ends (λ g s stands at.
        no_parent_due g a.vertex stands.knows.vertex s edge (is_parent stands) (rw (← parent_count g s stands) none))

-- a vertex that is not engaged owes nothing
pub nothing_owed : {H : Holding} {a : Actor} → is_some a.detect.parent ≡ false → Moves H a (At.Ack 0) H a At.Over 0
nothing_owed {H} {a} off = then_over {y = At.Parent}
    (moves_past (λ g s stands at.
    let v : ℕ = a.vertex in (
      tt,
      acks_over g v stands.knows.vertex s 0
          (λ k le within. let parent : s.parent ≡ None = grind (arith, nat_tests) in
          rw (owes_none g s a stands parent (slice_index (ins_of g v) k) (in_enters g v k within)) refl),
    )))
    (no_parent_left (not_some a.detect.parent off))
  where
    owes_none : (g : Setting) (s : Part) (a : Actor) (stands : StandsFor g s a) → s.parent ≡ None → (e : ℕ)
        → head_of g e ≡ a.vertex → may_ack_on g (head_of g e) s e ≡ 0
    owes_none g s a stands none e mine =
        let idle = (stands.kept.neutral stands.knows.vertex none).nothing_owed in
        let one = Rattle.chip_part.proofs.PartLemmas.in_zero g a.vertex
        (λ i. Rattle.chip_part.specs.Part.owed_on (s.into i)) idle e
        (Rattle.chip_actor.proofs.StandingLemmas.in_inside g s a stands e mine) mine in
        let most = may_le g (head_of g e) e s in
        omega arith
