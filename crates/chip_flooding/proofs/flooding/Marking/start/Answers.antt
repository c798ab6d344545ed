use Rattle.chip_flooding.proofs.Names.{◌<◌, length, sym, arith, rules, ◌∙◌, get_or_read}
use Rattle.chip_flooding.proofs.FloodLemmas.{sends, passes, rests}
use Rattle.chip_flooding.proofs.flooding.Marking.start.Goals as goal

pub loop-edge-preserved : goal.loop-edge-preserved
loop-edge-preserved c = let tails = c.args.self.now.run.topology.tails.items in let was = c.loop-edge.invariant in
    let e = c.loop-edge.edge in let all = rw c.topology.ensures.same at c.len-edge-end.ensures in
    let inside : e < length tails = omega arith in
    let tail = get_or_read tails e _ inside (rw (c.topology-in-loop-edge.ensures.same, was.topology) at c.index.ensures) 0 in
    elim c.if-index-part.branch [
      | goal.then-index-part w ↦ let sent = w.send.ensures in let here = sym tail ∙ w.if-index-part.true in
          let runs = rw was.topology at sent.runs in let active = rw (was.topology, here) at sent.active in
          let topology = sent.runs.topology ∙ was.topology in
          let flooding = sends _ _ _ _ _ c.args.part e here was.marked was.flooding runs.happens in rw w.self-is (search rules)
      | goal.else-index-part w ↦ let other = w.if-index-part.false in
          let flooding = passes _ _ _ _ c.args.part e (λ z. other (tail ∙ z)) was.flooding in rw w.self-is (search rules)
    ]

pub returns-clause-flooded : goal.returns-clause-flooded
returns-clause-flooded c = let was = c.loop-edge.invariant in let runs = c.rest.ensures.runs in
    let all = rw c.topology.ensures.same at c.len-edge-end.ensures in
    rw (runs.topology, was.topology) (rests _ _ _ _ _ c.args.part c.loop-edge.edge (omega arith) was.flooding
    (rw was.topology at runs.happens) c.rest.ensures.passive)
