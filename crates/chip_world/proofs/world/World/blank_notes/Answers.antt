use Rattle.chip_world.proofs.Names.{◌≡◌, ℕ, List, [], ◌∷◌, ◌++◌, length, get_or, ap, arith}
use Rattle.chip_world.proofs.Names.{length-append, vec_capacity, get_or_read, in_flight, Lane, WhateverLog, IsOpenedLane}
use Rattle.chip_world.proofs.OpeningLemmas.{pushed}
use Rattle.chip_world.proofs.world.World.blank_notes.Goals as goal

pub loop-edge-preserved : goal.loop-edge-preserved
loop-edge-preserved c =
    let inv = c.loop-edge.invariant in
    let n : ℕ = c.loop-edge.edge in
    let below = c.loop-edge-test.true in
    let first : Lane = record {
      messages = c.in_ok-in_flight.field-0.items;
      capacity = vec_capacity c.in_ok-in_flight.field-0;
    } in
    let second : Lane = record {
      messages = c.in_ok-with_capacity.field-0.items;
      capacity = vec_capacity c.in_ok-with_capacity.field-0;
    } in
    let sent : c.add.new.self ≡ c.loop-edge.sent ++ first ∷ [] = c.in_ok-add.ensures in
    let delivered : c.add-in-loop-edge.new.self ≡ c.loop-edge.delivered ++ second ∷ [] = c.in_ok-add-2.ensures in
    let many = inv.sent_each in let many_too = inv.delivered_each in
    let claims = get_or_read c.in_ok-tally.tally.claims.items n c.index.result.now
    (let all = c.in_ok-tally.ensures.claims.count_is in omega arith) c.index.ensures 0 in
    let takes = get_or_read c.in_ok-tally.tally.takes.items n c.index-in-loop-edge.result.now
    (let all = c.in_ok-tally.ensures.takes.count_is in omega arith) c.index-in-loop-edge.ensures 0 in
    record {
      sent_each = rw (sent, length-append) (omega arith);
      sent = λ e l d. rw sent
          (pushed (λ i lane. IsOpenedLane (λ ms. WhateverLog c.args.self.now (λ g log. ms ≡ in_flight g log i))
          (get_or c.in_ok-tally.tally.claims.items i 0) lane) c.loop-edge.sent first n many inv.sent (
            c.in_ok-in_flight.ensures.messages,
            (let room = c.in_ok-in_flight.ensures.room in let len = c.in_ok-in_flight.field-0.ok.0 in omega arith),
          ) e l d);
      delivered_each = rw (delivered, length-append) (omega arith);
      delivered = λ e l d. rw delivered
          (pushed (λ i lane. IsOpenedLane (λ ms. ms ≡ []) (get_or c.in_ok-tally.tally.takes.items i 0) lane)
          c.loop-edge.delivered second n many_too inv.delivered (
            c.in_ok-with_capacity.ensures.items,
            (let room = c.in_ok-with_capacity.ensures.exact in
                let none = ap (λ (ms : List _). length ms) c.in_ok-with_capacity.ensures.items in omega arith),
          ) e l d);
    }
