-- Serves Medium.antt, Actor.antt, Ends.antt.
-- A send over a medium at one edge: what its calls require, and how the turn goes on from each to the next.
use Rattle.chip_actor.proofs.Names.{nat_tests, ◌≡◌, ◌≢◌, ℕ, ◌+◌, ◌-◌, ◌^◌, ◌<◌, ◌≤◌, Bool, true, ◌&&◌, eqb}
use Rattle.chip_actor.proofs.Names.{Option, length, slice_index, Some, None, refl, sym, subst, arith}
use Rattle.chip_actor.proofs.Names.{length-set, get_or-set_same, set-set, Message, claims_in, TailState, tail_cell}
use Rattle.chip_actor.proofs.Names.{may_clear, tail_after_clear, claim_words, tail_after_claim, message_claimed, put_of}
use Rattle.chip_actor.proofs.Names.{tail_after_put, place_for, message_limit, Books, IsSound, out_edges, sent_of, Sends}
use Rattle.chip_actor.proofs.Names.{IsSlotOf, OutEnd, out_on, with_end, AreApart, ChangesOut, out_after_clear}
use Rattle.chip_actor.proofs.Names.{out_after_claim, out_after_put, Actor, WhateverPart, with_sent, cause}
use Rattle.chip_actor.proofs.Names.{is_by_limit, Holding, MayServe, Serves, Meets, Moves, MayBeAt}
use Rattle.chip_actor.proofs.SteppingLemmas.{may_look}
use Rattle.chip_actor.proofs.MakingLemmas.{clear_made, MayClaim, may_claim, message_count, claim_made, claim_sealed}
use Rattle.chip_actor.proofs.MakingLemmas.{put_made}
use Rattle.chip_actor.proofs.MediumLemmas.{Stands, DueBy, may_serve, can_do, moves_one, moves_on, meets_after}
use Rattle.chip_actor.proofs.MediumLemmas.{then_over}
use Rattle.chip_actor.proofs.TurnOverLemmas.{send_none, clear_by, claim_by, claim_none, store_by, stop_by}
use Rattle.chip_actor.proofs.LoopLemmas.{FoundOut, out_at, out_in_books}
use Rattle.chip_part.specs.declared.act.Act.TheVariants as Do
use Rattle.chip_part.specs.declared.cursor.Cursor.TheVariants as At
use Rattle.chip_actor.proofs.EndLemmas as ends

-- the actor with another end at an index
abbrev pub sending : Actor → ℕ → OutEnd → ℕ → ℕ → Books → Actor
sending a index end pending refused b = with_sent a (with_end a.outs index end) pending refused b

-- it stands for some part, and the edge is the one of the end
record SendsOn (a : Actor) (index edge : ℕ) (end : OutEnd) (pending refused : ℕ) (b : Books) : Type 0 where
  pub stands : Stands (sending a index end pending refused b)
  pub apart : AreApart a.outs.edges a.outs.ends
  pub below : index < length a.outs.edges
  pub tells : edge ≡ end.link.edge

module _ {a : Actor} {index edge : ℕ} {end : OutEnd} {pending refused : ℕ} {b : Books}
    (on : SendsOn a index edge end pending refused b) where
  abbrev here : Actor
  here = sending a index end pending refused b

  found : FoundOut here (with_end a.outs index end) index edge end
  found = record {
    stands = on.stands;
    same = refl;
    apart = record {
      ascending = on.apart.ascending;
      one_each = rw length-set on.apart.one_each;
    };
    below = rw length-set (omega (arith, on.below, on.apart.one_each));
    was = sym (get_or-set_same a.outs.ends index end end (omega (arith, on.below, on.apart.one_each)));
    tells = on.tells;
  }

  at_end : IsSlotOf a.outs.edges (record { index = index; edge = edge }) × (end ≡ out_on here.outs edge)
  at_end = out_at found

  -- another end there
  changes : {new : OutEnd} (f : OutEnd → OutEnd) → new ≡ f end → ChangesOut here.outs (with_end a.outs index new) edge f
  changes {new} f is = rw (← set-set a.outs.ends index end new)
      (ends.changes_out {os = here.outs} {now = here.outs} refl found.apart at_end.0 found.was f is)

  send_past : {H : Holding} → end.pending ≡ 0 → Moves H here (At.Send index) H here (At.Send (index + 1)) 0
  send_past none = send_none at_end.0 (rw (← at_end.1) none)

  clear_due : {cell : ℕ} → end.pending ≢ 0 → cell ≡ tail_cell end.link
      → DueBy here (At.Send index) (Do.Clear edge cell) (At.Claim index)
  clear_due pends at-cell = clear_by at_end.0 (rw (← at_end.1) pends) (rw (← at_end.1) at-cell)

  -- the look counts
  look_counts : MayBeAt here (At.Send index) → end.pending ≢ 0 → may_clear end.link ≡ true
  look_counts (g, s, stands, at) pends =
      let goes = ((clear_due pends refl).here g s stands at).0 in
      rw (at_end.1, stands.outs edge goes.mine) (may_look g s here stands edge goes.mine goes.met)

  claim_past : {H : Holding} → None ≡ claim_words end.link → Moves H here (At.Claim index) H here (At.Send (index + 1)) 0
  claim_past none = claim_none at_end.0 (rw (← at_end.1) none)

  claim_due : {w : ℕ × ℕ} → Some w ≡ claim_words end.link
      → DueBy here (At.Claim index) (Do.Claim edge w.0 w.1) (At.Store index)
  claim_due words = claim_by at_end.0 (rw (← at_end.1) words)

  put_due : {w : ℕ × ℕ} → put_of end.link ≡ Some w
      → DueBy here (At.Store index) (Do.Put edge w.0 w.1) (At.Send (index + 1))
  put_due stored = store_by at_end.0 (rw (← at_end.1, stored) refl)

-- ---- the tail's own

-- a place that may be claimed: the look counts, and found the cell empty
place_told : (t : TailState) (looked place : ℕ) → Some place ≡ place_for looked t
    → ((may_clear t && eqb looked 0) ≡ true) × (place ≡ t.claims)
place_told t looked place is-place = grind (arith, nat_tests)

-- a look that counts and finds no place leaves no words of a claim
no_words : (t : TailState) (looked : ℕ) → may_clear t ≡ true → None ≡ place_for looked t
    → None ≡ claim_words (tail_after_clear looked t)
no_words t looked may none = grind (arith, nat_tests)

-- after such a look it is clear
place_clear : (t : TailState) (looked place : ℕ) → Some place ≡ place_for looked t
    → tail_after_clear looked t ≡ record t { clear = true }
place_clear t looked place is-place = grind (arith, nat_tests)

-- then the words of a claim follow
place_words : (t : TailState) (looked place : ℕ) → Some place ≡ place_for looked t
    → Some (place, place + 1) ≡ claim_words (tail_after_clear looked t)
place_words t looked place is-place = let told = place_told t looked place is-place in grind (arith, nat_tests)

-- a claim that saw this place sends a message
place_message : (t : TailState) (looked place word count : ℕ) → Some place ≡ place_for looked t → word ≡ place
    → (m : Message) × (Some m ≡ message_claimed word count (tail_after_clear looked t))
place_message t looked place word count is-place same =
    let told = place_told t looked place is-place in
    (record { edge = t.edge; place = t.claims; count = count }, grind (arith, nat_tests))

-- a claim that saw another word is refused
place_refused : (t : TailState) (looked place word count : ℕ) → Some place ≡ place_for looked t → word ≢ place
    → None ≡ message_claimed word count (tail_after_clear looked t)
place_refused t looked place word count is-place other =
    let told = place_told t looked place is-place in grind (arith, nat_tests)

-- what was claimed is put into the cell of the look
stored_where_looked : (t : TailState) (looked place word count : ℕ) → Some place ≡ place_for looked t → word ≡ place
    → put_of (tail_after_claim word count (tail_after_clear looked t)) ≡ Some (tail_cell t, count)
stored_where_looked t looked place word count is-place same =
    let told = place_told t looked place is-place in let z : (t.claims + 1) - 1 ≡ t.claims = omega arith in
    grind (arith, nat_tests)

-- a whole send at once is the result of its three steps
sent_is : (t v : TailState) (looked place word count : ℕ) → Some place ≡ place_for looked t → word ≡ place
    → ((k : ℕ) → v ≡ tail_after_put (tail_after_claim t.claims k (tail_after_clear 0 t)))
    → v ≡ tail_after_put (tail_after_claim word count (tail_after_clear looked t))
sent_is t v looked place word count is-place same after =
    let told = place_told t looked place is-place in let all = after count in grind (arith, nat_tests)

-- ---- a whole send

-- an actor is before the look at the cell of an edge on which something is pending
pub record Looks (a : Actor) (index edge cell : ℕ) (end : OutEnd) (pending refused : ℕ) (b : Books)
    (H : Holding) : Type 0 where
  pub apart : AreApart a.outs.edges a.outs.ends
  pub below : index < length a.outs.edges
  pub tells : edge ≡ end.link.edge
  pub at_cell : cell ≡ tail_cell end.link
  pub pends : end.pending ≢ 0
  pub meets : Meets H (sending a index end pending refused b) (At.Send index)

pub sends_nothing : (a : Actor) {index : ℕ} (end : OutEnd) {pending refused : ℕ} {b : Books} {H : Holding}
    → AreApart a.outs.edges a.outs.ends → index < length a.outs.edges
    → Meets H (sending a index end pending refused b) (At.Send index) → end.pending ≡ 0
    → Moves H (sending a index end pending refused b) (At.Send index) H (sending a index end pending refused b)
    (At.Send (index + 1)) 0
sends_nothing a {index} end {pending} {refused} {b} apart below meets none =
    let on : SendsOn a index end.link.edge end pending refused b =
    record { stands = (meets.0, meets.2, meets.4); apart = apart; below = below; tells = refl } in
    send_past on none

module _ {a : Actor} {index edge cell : ℕ} {end : OutEnd} {pending refused : ℕ} {b : Books} {H : Holding}
    (looks : Looks a index edge cell end pending refused b H) where
  abbrev first : Actor
  first = sending a index end pending refused b

  on : SendsOn a index edge end pending refused b
  on =
      let m = looks.meets in
      record { stands = (m.0, m.2, m.4); apart = looks.apart; below = looks.below; tells = looks.tells }

  look_due : DueBy first (At.Send index) (Do.Clear edge cell) (At.Claim index)
  look_due = clear_due on looks.pends looks.at_cell

  pub asks_clear : MayServe H (Do.Clear edge cell)
  asks_clear = may_serve looks.meets look_due

  module _ {K : Holding} {looked : ℕ} (serves : Serves H K (Do.Clear edge cell) looked) where
    abbrev t : TailState
    t = tail_after_clear looked end.link

    abbrev second : Actor
    second = sending a index (record end { link = t }) pending refused b

    looks_on : Moves H first (At.Send index) K second (At.Claim index) 0
    looks_on = moves_one look_due serves
        (clear_made first edge looked second.outs _ refl (changes on (out_after_clear looked) refl)) refl

    meets_looked : Meets K second (At.Claim index)
    meets_looked = meets_after looks.meets looks_on

    on_looked : SendsOn a index edge (record end { link = t }) pending refused b
    on_looked = let m = meets_looked in record {
      stands = (m.0, m.2, m.4);
      apart = looks.apart;
      below = looks.below;
      tells = rw (ends.clear_keeps looked end.link) looks.tells;
    }

    pub sees_full : None ≡ place_for looked end.link → {new : TailState} → new ≡ t
        → Moves H first (At.Send index) K (sending a index (record end { link = new }) pending refused b)
        (At.Send (index + 1)) 0
    sees_full none {new} after =
        let m = looks.meets in
        let may = look_counts on (m.0, m.2, m.4, m.5) looks.pends in
        rw after (then_over looks_on (claim_past on_looked (no_words end.link looked may none)))

    pub slot_in_books : IsSlotOf (out_edges b) (record { index = index; edge = edge })
    slot_in_books = out_in_books (found on_looked)

    module _ {place : ℕ} (is-place : Some place ≡ place_for looked end.link) where
      try_due : DueBy second (At.Claim index) (Do.Claim edge place (place + 1)) (At.Store index)
      try_due = claim_due on_looked (place_words end.link looked place is-place)

      pub asks_claim : MayServe K (Do.Claim edge place (place + 1))
      asks_claim = may_serve meets_looked try_due

      module _ {L : Holding} {seen : ℕ} (claims : Serves K L (Do.Claim edge place (place + 1)) seen) where
        may_try : MayClaim second edge seen
        may_try = may_claim second edge seen (can_do meets_looked try_due claims)

        pub fits_claim : (claims_in seen ≡ t.claims) × (1 ≤ end.pending) × (end.pending ≤ 2 ^ 40)
            × (end.pending ≤ pending)
        fits_claim = let end_is = (at_end on_looked).1 in (
          rw (← end_is) at may_try.word,
          rw (← end_is) at may_try.some_chips,
          rw (← end_is) at may_try.few_chips,
          rw (← end_is) at may_try.pending,
        )

        pub has_room : (refused < 2 ^ 32) × (sent_of b edge < message_limit)
        has_room = (may_try.few_refused, may_try.room)

        abbrev u : TailState
        u = tail_after_claim seen end.pending t

        told : (o : Option Message) → o ≡ message_claimed seen end.pending t
            → o ≡ message_claimed seen (out_on second.outs edge).pending (out_on second.outs edge).link
        told o is = rw (← (at_end on_looked).1) is

        pub is_refused : seen ≢ place → {new : TailState} → new ≡ u
            → Moves H first (At.Send index) L (sending a index (record end { link = new }) pending (refused + 1) b)
            (At.Store index) 0
        is_refused other {new} after =
            let none = place_refused end.link looked place seen end.pending is-place other in
            let left : OutEnd = record end { link = new } in
            moves_on {m = 0} looks_on (moves_one try_due claims (claim_sealed second edge seen (with_end a.outs index left)
            (changes on_looked (out_after_claim seen)
            (rw after (ends.claim_refused seen (record end { link = t }) none))) (told None none)) refl)

        module _ (same : seen ≡ place) {books : Books} (sends : Sends b books edge) (sound : IsSound books) where
          abbrev left : OutEnd
          left = record end { pending = 0; link = u }

          abbrev third : Actor
          third = sending (record a { unput = a.unput + 1 }) index left (pending - end.pending) refused books

          claims_on : Moves H first (At.Send index) L third (At.Store index) 1
          claims_on =
              let sent = place_message end.link looked place seen end.pending is-place same in
              moves_on {m = 1} looks_on (moves_one try_due claims
              (rw (message_count seen end.pending t sent.0 sent.1) at
              (claim_made second edge seen third.outs books sent.0
              (changes on_looked (out_after_claim seen) (ends.claim_taken seen (record end { link = t }) sent.0 sent.1))
              (told (Some sent.0) sent.1) sends sound)) refl)

          on_claimed : SendsOn (record a { unput = a.unput + 1 }) index edge left (pending - end.pending) refused books
          on_claimed = let m = meets_after looks.meets claims_on in record {
            stands = (m.0, m.2, m.4);
            apart = looks.apart;
            below = looks.below;
            tells = rw (ends.claim_keeps seen end.pending t) on_looked.tells;
          }

          stored : put_of u ≡ Some (cell, end.pending)
          stored = rw looks.at_cell (stored_where_looked end.link looked place seen end.pending is-place same)

          store_due : DueBy third (At.Store index) (Do.Put edge cell end.pending) (At.Send (index + 1))
          store_due = put_due on_claimed stored

          pub asks_put : MayServe L (Do.Put edge cell end.pending)
          asks_put = may_serve (meets_after looks.meets claims_on) store_due

          pub is_sent : {N : Holding} {word : ℕ} → Serves L N (Do.Put edge cell end.pending) word → {new : TailState}
              → ((k : ℕ) → new ≡ tail_after_put (tail_after_claim end.link.claims k (tail_after_clear 0 end.link)))
              → Moves H first (At.Send index) N
              (sending a index (record end { pending = 0; link = new }) (pending - end.pending) refused books)
              (At.Send (index + 1)) 2
          is_sent {N} {word} puts {new} after =
              let last : Actor =
              sending a index (record end { pending = 0; link = new }) (pending - end.pending) refused books in
              moves_on {n = 1} {m = 1} claims_on (subst (λ (n : ℕ). Moves L third (At.Store index) N
              (record last { unput = n }) (At.Send (index + 1)) 1) (let z : (a.unput + 1) - 1 ≡ a.unput = omega
              arith in z) (moves_one store_due puts (put_made third edge word last.outs (cell, end.pending)
              (rw (← (at_end on_claimed).1) stored) (changes on_claimed out_after_put
              (rw (sent_is end.link new looked place seen end.pending is-place same after) refl))) refl))

-- ---- the halt after a refusal

pub stop_due : {a : Actor} {index : ℕ} {by_limit : Bool}
    → (index < length a.outs.edges) × (put_of (out_on a.outs (slice_index a.outs.edges index)).link ≡ None)
    → WhateverPart a (λ g s. by_limit ≡ is_by_limit (cause g a.vertex s))
    → DueBy a (At.Store index) (Do.Halt by_limit) At.Limit
stop_due {a} {index} refusal why =
    let slot : IsSlotOf a.outs.edges (record { index = index; edge = slice_index a.outs.edges index }) =
    record { within = refusal.0; edge = refl } in
    stop_by slot (sym refusal.1) why
