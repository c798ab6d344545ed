use Rattle.chip_flooding.proofs.Names.{◌≡◌, ◌∷◌, [], length, arith, rules, length-append}
use Rattle.chip_flooding.proofs.RunLemmas.{listed, passed}
use Rattle.chip_flooding.proofs.process.edges_at.Goals as goal

pub loop-edge-preserved : goal.loop-edge-preserved
loop-edge-preserved c = let was = c.loop-edge.invariant in elim c.if-end-part.branch [
  | goal.then-end-part+in_ok-push w ↦ let all = listed _ _ c.args.part c.loop-edge.edge was.all w.if-end-part.true in
      let long = length-append c.loop-edge.edges.items (c.loop-edge.edge ∷ []) in
      rw (w.edges-is, w.in_ok-push.ensures.items) (search (rules, arith))
  | goal.else-end-part w ↦ let all = passed _ _ c.args.part c.loop-edge.edge was.all w.if-end-part.false in
      rw w.edges-is (search (rules, arith))
]

pub returns-clause-all : goal.returns-clause-all
returns-clause-all c = let all : c.loop-edge.edge ≡ length c.args.ends.now = omega arith in rw all at c.loop-edge.invariant.all
