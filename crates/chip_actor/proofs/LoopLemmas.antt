-- Serves Medium.antt, Actor.antt, Ends.antt.
-- What the loops of a turn do at one edge: what the calls there require, and how the turn goes on.
use Rattle.chip_actor.proofs.Names.{◌≡◌, ◌≢◌, ℕ, ◌+◌, ◌-◌, ◌^◌, ◌<◌, ◌≤◌, ltb}
use Rattle.chip_actor.proofs.Names.{length, get_or, set, Some, None, refl, arith, Message}
use Rattle.chip_actor.proofs.Names.{HeadState, head_cell, head_after_take, message_taken, message_limit, Books, IsSound}
use Rattle.chip_actor.proofs.Names.{in_edges, out_edges, got_of, sent_of, settled_of, Gets, Acknowledges, Settles}
use Rattle.chip_actor.proofs.Names.{IsSlotOf, OutEnd, OutEnds, InEnds, out_on, in_on, AreApart, ChangesIn, Actor}
use Rattle.chip_actor.proofs.Names.{is_passive_now, Holding, MayServe, Serves, Meets, Moves, nat_tests}
use Rattle.chip_actor.proofs.StandingLemmas.{books_ins, books_outs, few_got}
use Rattle.chip_actor.proofs.MakingLemmas.{settle_made, ack_made, message_seen, take_made, take_empty}
use Rattle.chip_actor.proofs.MediumLemmas.{Stands, DueBy, may_serve, can_do, moves_one, one_if}
use Rattle.chip_actor.proofs.TurnOverLemmas.{in_mine, out_mine, settle_by, ack_by, ack_none, take_by}
use Rattle.chip_detect.specs.Acknowledging as detector
use Rattle.chip_part.specs.declared.act.Act.TheVariants as Do
use Rattle.chip_part.specs.declared.cursor.Cursor.TheVariants as At
use Rattle.chip_actor.proofs.EndLemmas as ends

-- an end out of the vertex as a loop over the ends finds it, and the number that it has
pub record FoundOut (a : Actor) (os : OutEnds) (index edge : ℕ) (end : OutEnd) : Type 0 where
  pub stands : Stands a
  pub same : os ≡ a.outs
  pub apart : AreApart os.edges os.ends
  pub below : index < length os.ends
  pub was : end ≡ get_or os.ends index end
  pub tells : edge ≡ end.link.edge

-- an end into it
pub record FoundIn (a : Actor) (is : InEnds) (index edge : ℕ) (end : HeadState) : Type 0 where
  pub stands : Stands a
  pub same : is ≡ a.ins
  pub apart : AreApart is.edges is.ends
  pub below : index < length is.ends
  pub was : end ≡ get_or is.ends index end
  pub tells : edge ≡ end.edge

-- it is the edge's
pub out_at : {a : Actor} {os : OutEnds} {index edge : ℕ} {end : OutEnd} → FoundOut a os index edge end
    → IsSlotOf a.outs.edges (record { index = index; edge = edge }) × (end ≡ out_on a.outs edge)
out_at {a} {os} {index} {edge} {end} here =
    let within : index < length a.outs.edges =
    rw (← here.same) (let one = here.apart.one_each in let l = here.below in omega arith) in
    let e : ℕ = get_or a.outs.edges index 0 in
    let there : end ≡ out_on a.outs e = ends.out_there here.same here.apart index within here.was in
    let slot : IsSlotOf a.outs.edges (record { index = index; edge = e }) = record { within = within; edge = refl } in
    let is : e ≡ edge = rw (here.tells, there, here.stands.2.outs e (out_mine here.stands.2 slot)) refl in
    (record { within = within; edge = is }, rw (← is) there)

in_at : {a : Actor} {is : InEnds} {index edge : ℕ} {end : HeadState} → FoundIn a is index edge end
    → IsSlotOf a.ins.edges (record { index = index; edge = edge }) × (end ≡ in_on a.ins edge)
in_at {a} {is} {index} {edge} {end} here =
    let within : index < length a.ins.edges =
    rw (← here.same) (let one = here.apart.one_each in let l = here.below in omega arith) in
    let e : ℕ = get_or a.ins.edges index 0 in
    let there : end ≡ in_on a.ins e = ends.in_there here.same here.apart index within here.was in
    let slot : IsSlotOf a.ins.edges (record { index = index; edge = e }) = record { within = within; edge = refl } in
    let same : e ≡ edge = rw (here.tells, there, here.stands.2.ins e (in_mine here.stands.2 slot)) refl in
    (record { within = within; edge = same }, rw (← same) there)

-- a slot of its edges is one of its books
pub out_in_books : {a : Actor} {os : OutEnds} {index edge : ℕ} {end : OutEnd} → FoundOut a os index edge end
    → IsSlotOf (out_edges a.detect) (record { index = index; edge = edge })
out_in_books {a} here = rw (books_outs here.stands.0 here.stands.1 a here.stands.2) (out_at here).0

pub in_in_books : {a : Actor} {is : InEnds} {index edge : ℕ} {end : HeadState} → FoundIn a is index edge end
    → IsSlotOf (in_edges a.detect) (record { index = index; edge = edge })
in_in_books {a} here = rw (books_ins here.stands.0 here.stands.1 a here.stands.2) (in_at here).0

-- ---- settles

-- if nothing is new the books are as they were
settles_none : (b : Books) (e : ℕ) → Settles b b e 0
settles_none b e = record {
  ins = refl;
  outs = record { edges = refl; messages = λ i. refl; answered = λ i. grind (arith, nat_tests) };
  parent = refl;
}

module _ {a : Actor} {os : OutEnds} {index edge : ℕ} {end : OutEnd} (here : FoundOut a os index edge end) where
  settle_due : DueBy a (At.Settle index) (Do.Settle edge) (At.Settle (index + 1))
  settle_due = settle_by (out_at here).0

  pub settle_asks : {H : Holding} → Meets H a (At.Settle index) → MayServe H (Do.Settle edge)
  settle_asks meets = may_serve meets settle_due

  -- acknowledgements never outnumber messages, as the actor's books have them
  pub settle_fits : {H K : Holding} {seen : ℕ} → Meets H a (At.Settle index) → Serves H K (Do.Settle edge) seen
      → (settled_of a.detect edge ≤ seen) × (seen ≤ sent_of a.detect edge)
  settle_fits meets serves =
      let can = can_do meets settle_due serves in
      let settled = can.2.books.settled edge can.3.0 in
      let sent = can.2.books.sent edge can.3.0 in
      let low = can.3.2.0 in let high = can.3.2.1 in
      (omega arith, omega arith)

  module _ {H K : Holding} {seen : ℕ} (serves : Serves H K (Do.Settle edge) seen) where
    pub settle_past : seen ≡ settled_of a.detect edge → IsSound a.detect
        → Moves H a (At.Settle index) K a (At.Settle (index + 1)) 0
    settle_past same sound = moves_one settle_due serves
        (settle_made a edge seen 0 a.detect (let z : 0 ≡ seen - settled_of a.detect edge = omega arith in z)
        (settles_none a.detect edge) sound) refl

    pub settle_moves : {more : ℕ} {b : Books} → more ≡ seen - settled_of a.detect edge
        → Settles a.detect b edge more → IsSound b
        → Moves H a (At.Settle index) K (record a { detect = b }) (At.Settle (index + 1)) (one_if (ltb 0 more))
    settle_moves {more} {b} is change sound =
        moves_one settle_due serves (settle_made a edge seen more b is change sound) refl

-- what is settled counts if it is something new
pub counts_more : (n work : ℕ) → 0 < n → work + 1 ≡ work + one_if (ltb 0 n)
counts_more n work some = grind (arith, nat_tests)

-- ---- acknowledgements

module _ {a : Actor} {is : InEnds} {index edge : ℕ} {end : HeadState} (here : FoundIn a is index edge end) {count : ℕ}
    (counted : count ≡ detector.may_ack a.detect edge (is_passive_now a)) where
  pub ack_past : {H : Holding} → count ≡ 0 → Moves H a (At.Ack index) H a (At.Ack (index + 1)) 0
  ack_past none = ack_none (in_at here).0 counted none

  module _ (some : count ≢ 0) where
    ack_due : DueBy a (At.Ack index) (Do.Ack edge count) (At.Ack (index + 1))
    ack_due = ack_by (in_at here).0 counted some

    pub ack_asks : {H : Holding} → Meets H a (At.Ack index) → MayServe H (Do.Ack edge count)
    ack_asks meets = may_serve meets ack_due

    pub ack_moves : {H K : Holding} {seen : ℕ} {b : Books} → Serves H K (Do.Ack edge count) seen
        → Acknowledges a.detect b edge count → IsSound b
        → Moves H a (At.Ack index) K (record a { detect = b }) (At.Ack (index + 1)) 1
    ack_moves {H} {K} {seen} {b} serves change sound =
        moves_one ack_due serves (ack_made a edge seen count b counted change sound) refl

-- ---- takes

module _ {a : Actor} {is : InEnds} {index edge : ℕ} {end : HeadState} (here : FoundIn a is index edge end) {cell : ℕ}
    (at-cell : cell ≡ head_cell end) where
  take_due : DueBy a (At.Take index) (Do.Take edge cell) (At.Take (index + 1))
  take_due = take_by (in_at here).0 (rw (← (in_at here).1) at-cell)

  pub take_asks : {H : Holding} → Meets H a (At.Take index) → MayServe H (Do.Take edge cell)
  take_asks meets = may_serve meets take_due

  -- the ends with a new one there
  abbrev ins_with : HeadState → InEnds
  ins_with new = record { edges = a.ins.edges; ends = set is.ends index new }

  take_changes : (seen : ℕ) (new : HeadState) → new ≡ head_after_take seen end
      → ChangesIn a.ins (ins_with new) edge (head_after_take seen)
  take_changes seen new after = rw (← here.same)
      (ends.changes_in refl here.apart (rw here.same (in_at here).0) here.was (head_after_take seen) after)

  module _ {H K : Holding} {seen : ℕ} (meets : Meets H a (At.Take index)) (serves : Serves H K (Do.Take edge cell) seen)
    where
      -- no more messages came on an edge than there may be
      pub take_few : end.taken < 2 ^ 62
      take_few =
          let can = can_do meets take_due serves in
          let few = few_got can.0 can.1 a can.2 edge can.3.0 in
          rw ((in_at here).1, can.2.ins edge can.3.0) (omega arith)

      -- a message is one that fits: the chips are few, and so are the messages
      pub take_fits : {m : Message} → Some m ≡ message_taken seen end
          → (a.chips + seen < 2 ^ 64) × (got_of a.detect edge < message_limit)
      take_fits {m} got =
          let can = can_do meets take_due serves in
          let fits = can.3.2 (message_seen seen end m got) in
          let chips = can.2.chips in
          let messages = can.2.books.got edge can.3.0 in
          (let few = fits.0 in omega arith, let room = fits.1 in omega arith)

  module _ {H K : Holding} {seen : ℕ} (serves : Serves H K (Do.Take edge cell) seen) {new : HeadState}
      (after : new ≡ head_after_take seen end) where
    pub take_nothing : None ≡ message_taken seen end
        → Moves H a (At.Take index) K (record a { ins = ins_with new }) (At.Take (index + 1)) 0
    take_nothing none = moves_one take_due serves (take_empty a edge seen (ins_with new) (take_changes seen new after)
        (rw (← (in_at here).1) none)) refl

    pub take_moves : {m : Message} → Some m ≡ message_taken seen end → {b : Books} → Gets a.detect b edge → IsSound b
        → Moves H a (At.Take index) K (record a { ins = ins_with new; chips = a.chips + seen; detect = b })
        (At.Take (index + 1)) 1
    take_moves {m} got {b} gets sound = moves_one take_due serves
        (take_made a edge seen (ins_with new) b m (take_changes seen new after)
        (rw (← (in_at here).1) got) gets sound) refl
