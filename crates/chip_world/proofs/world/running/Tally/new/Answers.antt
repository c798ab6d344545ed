use Rattle.chip_world.proofs.Names.{ℕ, List, Event, Take}
use Rattle.chip_world.proofs.Names.{is_claim_of, is_take_of}
use Rattle.chip_world.proofs.RunLemmas.{counted}
use Rattle.chip_world.proofs.world.running.Tally.new.Goals as goal

pub loop-event-preserved : goal.loop-event-preserved
loop-event-preserved c =
    let xs : List Event = c.args.events.now in let i : ℕ = c.loop-event.event-index in let l = c.loop-event-test.true in
    let claims = c.loop-event.invariant.0 in let takes = c.loop-event.invariant.1 in (
      counted is_claim_of c.args.all_edges xs i (Take 0) c.loop-event.claims.items c.count_one.new.counts.items l claims
          c.count_one.ensures.0
          (λ e m. rw (← c.claimed_edge.ensures) (c.count_one.ensures.1 e (rw claims.count_is m))),
      counted is_take_of c.args.all_edges xs i (Take 0) c.loop-event.takes.items c.count_one-in-loop-event.new.counts.items
          l takes c.count_one-in-loop-event.ensures.0
          (λ e m. rw (← c.taken_edge.ensures) (c.count_one-in-loop-event.ensures.1 e (rw takes.count_is m))),
    )
