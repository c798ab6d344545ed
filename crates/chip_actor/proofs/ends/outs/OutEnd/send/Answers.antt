use Rattle.chip_actor.proofs.Names.{◌≡◌, ◌<◌, ◌∙◌, Some, length, sym, arith, TailState, place_for, tail_after_clear}
use Rattle.chip_actor.proofs.Names.{AreApart, Actor, Meets}
use Rattle.chip_actor.proofs.SendLemmas.{sending, Looks, sends_nothing, asks_clear, sees_full, asks_claim}
use Rattle.chip_actor.proofs.SendLemmas.{slot_in_books, fits_claim, has_room, is_refused, asks_put, is_sent}
use Rattle.chip_actor.proofs.EndLemmas.{clear_keeps, claim_keeps}
use Rattle.chip_actor.proofs.ends.outs.OutEnd.send.Goals.{After-cell-cell, In-Some}
use Rattle.chip_actor.proofs.ends.outs.OutEnd.send.Given.{Over}
use Rattle.chip_part.specs.declared.cursor.Cursor.TheVariants as At
use Rattle.chip_actor.proofs.ends.outs.OutEnd.send.Goals as goal

pub returns-then-self-eq0-clause-moves : goal.returns-then-self-eq0-clause-moves
returns-then-self-eq0-clause-moves g c = λ a apart below meets.
    sends_nothing a c.args.self.now apart below meets c.if-self-eq0.true

-- an actor with this end is before the look
looks : (g : Over) (c : After-cell-cell g) (a : Actor) → AreApart a.outs.edges a.outs.ends
    → c.args.index < length a.outs.edges
    → Meets (g.M.Medium.holds c.args.medium.now)
    (sending a c.args.index c.args.self.now c.args.pending.now c.args.refused.now c.args.detect.now)
    (At.Send c.args.index)
    → Looks a c.args.index c.edge-edge.result c.cell-cell.result c.args.self.now c.args.pending.now c.args.refused.now
    c.args.detect.now (g.M.Medium.holds c.args.medium.now)
looks g c a apart below meets = record {
  apart = apart;
  below = below;
  tells = c.edge-edge.ensures;
  at_cell = c.cell-cell.ensures.cell;
  pends = c.if-self-eq0.false;
  meets = meets;
}

-- the same for the actor that there is
some : (g : Over) (c : After-cell-cell g) → Looks c.requires.0 c.args.index c.edge-edge.result c.cell-cell.result
    c.args.self.now c.args.pending.now c.args.refused.now c.args.detect.now (g.M.Medium.holds c.args.medium.now)
some g c = looks g c c.requires.0 c.requires.1 c.requires.2 c.requires.3

-- the place that may be claimed
place : (g : Over) (c : In-Some g) → Some c.in-Some.place ≡ place_for c.clear-looked.result c.args.self.now.link
place g c = sym c.in-Some.is ∙ c.place_for.ensures.place

pub clear-looked-requires : goal.clear-looked-requires
clear-looked-requires g c = asks_clear (some g (goal.at.clear-looked-requires g c).After-cell-cell)

pub returns-in_default-clause-moves : goal.returns-in_default-clause-moves
returns-in_default-clause-moves g c = λ a apart below meets.
    sees_full (looks g (goal.at.returns-in_default-clause-moves g c).After-cell-cell a apart below meets)
    c.clear-looked.ensures (sym c.in_default.is ∙ c.place_for.ensures.place) c.cleared-is_clear.ensures.after

pub claim-seen-requires : goal.claim-seen-requires
claim-seen-requires g c =
    let at = goal.at.claim-seen-requires g c in
    asks_claim (some g at.After-cell-cell) c.clear-looked.ensures (place g at.In-Some)

pub claimed-message-requires-clause-word : goal.claimed-message-requires-clause-word
claimed-message-requires-clause-word g c =
    let at = goal.at.claimed-message-requires-clause-word g c in
    rw c.cleared-is_clear-then-seen-place.ensures.after
    (fits_claim (some g at.After-cell-cell) c.clear-looked.ensures (place g at.In-Some) c.claim-seen.ensures).0

pub claimed-message-requires-clause-count : goal.claimed-message-requires-clause-count
claimed-message-requires-clause-count g c =
    let at = goal.at.claimed-message-requires-clause-count g c in
    let fits = fits_claim (some g at.After-cell-cell) c.clear-looked.ensures (place g at.In-Some) c.claim-seen.ensures in
    (fits.1, fits.2)

pub overflow_add-refused : goal.overflow_add-refused
overflow_add-refused g c =
    let at = goal.at.overflow_add-refused g c in
    let few = (has_room (some g at.After-cell-cell) c.clear-looked.ensures (place g at.In-Some) c.claim-seen.ensures).0 in
    omega arith

pub returns-then-seen-place-clause-moves : goal.returns-then-seen-place-clause-moves
returns-then-seen-place-clause-moves g c = λ a apart below meets.
    let at = goal.at.returns-then-seen-place-clause-moves g c in
    is_refused (looks g at.After-cell-cell a apart below meets) c.clear-looked.ensures (place g at.In-Some)
    c.claim-seen.ensures c.if-seen-place.true
    (rw c.cleared-is_clear-then-seen-place.ensures.after at c.claimed-message.ensures.after)

pub overflow_sub-pending : goal.overflow_sub-pending
overflow_sub-pending g c =
    let at = goal.at.overflow_sub-pending g c in
    let enough = (fits_claim (some g at.After-cell-cell) c.clear-looked.ensures (place g at.In-Some)
    c.claim-seen.ensures).3 in
    omega arith

pub sent_at-requires-clause-slot : goal.sent_at-requires-clause-slot
sent_at-requires-clause-slot g c =
    slot_in_books (some g (goal.at.sent_at-requires-clause-slot g c).After-cell-cell) c.clear-looked.ensures

pub sent_at-requires-clause-room : goal.sent_at-requires-clause-room
sent_at-requires-clause-room g c =
    let at = goal.at.sent_at-requires-clause-room g c in
    (has_room (some g at.After-cell-cell) c.clear-looked.ensures (place g at.In-Some) c.claim-seen.ensures).1

pub put-stored-requires : goal.put-stored-requires
put-stored-requires g c =
    let at = goal.at.put-stored-requires g c in
    asks_put (some g at.After-cell-cell) c.clear-looked.ensures (place g at.In-Some) c.claim-seen.ensures
    c.if-seen-place.false c.sent_at.ensures.sends c.sent_at.ensures.sound

pub returns-clause-moves : goal.returns-clause-moves
returns-clause-moves g c = λ a apart below meets.
    let at = goal.at.returns-clause-moves g c in
    is_sent (looks g at.After-cell-cell a apart below meets) c.clear-looked.ensures (place g at.In-Some)
    c.claim-seen.ensures c.if-seen-place.false c.sent_at.ensures.sends c.sent_at.ensures.sound c.put-stored.ensures
    c.sent.ensures

pub returns-clause-edge : goal.returns-clause-edge
returns-clause-edge g c =
    let link : TailState = c.args.self.now.link in
    rw (c.sent.ensures 0, claim_keeps link.claims 0 (tail_after_clear 0 link)) (clear_keeps 0 link)
