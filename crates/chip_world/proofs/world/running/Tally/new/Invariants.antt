use Rattle.chip_world.proofs.Names.{take, is_claim_of, is_take_of, Counts}
use Rattle.chip_world.proofs.world.running.Tally.new.Given as goal

abbrev pub invariant-loop-event : goal.invariant-loop-event
invariant-loop-event l = Counts is_claim_of l.all_edges (take l.event-index l.events) l.claims.items
    × Counts is_take_of l.all_edges (take l.event-index l.events) l.takes.items
