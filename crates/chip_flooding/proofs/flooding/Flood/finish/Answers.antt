use Rattle.chip_flooding.proofs.Names.{ℕ, Option, is_some, ap, ⊎_elim, cases_option}
use Rattle.chip_flooding.proofs.FloodLemmas.{idle_is_closed, marks_reached}
use Rattle.chip_flooding.proofs.flooding.Flood.finish.Goals as goal

pub unwrap-edge-requires : goal.unwrap-edge-requires
unwrap-edge-requires c = ⊎_elim (λ none. let told = c.is_over.ensures.closed.1 (idle_is_closed c.loop-marking.marking
    c.is_over.ensures.run c.loop-marking.invariant.flooded (c.due_edge.ensures.none none)) in
    let not = c.loop-marking-test.true in absurd (cc))
    (λ some. ap (λ (o : Option ℕ). is_some o) some.1) (cases_option c.due_edge.result)

pub returns : goal.returns
returns c = rw (← c.loop-marking.invariant.topology) (marks_reached c.loop-marking.marking c.loop-marking.invariant.flooded
    (c.is_over.ensures.quiescent c.loop-marking-test.false))
