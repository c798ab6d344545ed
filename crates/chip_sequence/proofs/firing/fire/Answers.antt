use Rattle.chip_sequence.proofs.Names.{ℕ, ◌/◌, ◌<◌, get_or, refl, sym, ◌∙◌, subst, arith, inl, inr, degree}
use Rattle.chip_sequence.proofs.BoundLemmas.{some_degree}
use Rattle.chip_sequence.proofs.BatchLemmas.{above_quotient}
use Rattle.chip_sequence.proofs.firing.fire.Goals as goal
use Rattle.chip_sequence.proofs.firing.fire.Goals.{then-vertex-sink-via-then-vertex-sink}
use Rattle.chip_sequence.proofs.firing.fire.Goals.{then-vertex-sink-via-else-vertex-sink+then-k-eq0}
use Rattle.chip_sequence.proofs.firing.fire.Goals.{then-vertex-sink-via-else-vertex-sink+else-k-eq0+then-position-vertex}

pub nonzero_div-position : goal.nonzero_div-position
nonzero_div-position c =
    let some = some_degree c.args.graph.now c.sink.ensures.graph c.args.vertex c.requires.is_vertex
    (λ is. c.if-vertex-sink.false (is ∙ sym c.sink.ensures.value)) in
    let is = c.out_degree.ensures in
    omega arith

pub returns-then-vertex-sink-clause-refused : goal.returns-then-vertex-sink-clause-refused
returns-then-vertex-sink-clause-refused c =
    elim c.then-vertex-sink.branch [
      | then-vertex-sink-via-then-vertex-sink w ↦ ((λ _. inl (w.if-vertex-sink.true ∙ c.sink.ensures.value)), λ _. refl)
      | then-vertex-sink-via-else-vertex-sink+then-k-eq0 w ↦ ((λ _. inr (inl w.if-k-eq0.true)), λ _. refl)
      | then-vertex-sink-via-else-vertex-sink+else-k-eq0+then-position-vertex w ↦
          let some = some_degree c.args.graph.now c.sink.ensures.graph c.args.vertex c.requires.is_vertex
          (λ is. w.if-vertex-sink.false (is ∙ sym c.sink.ensures.value)) in
          let above =
          above_quotient (get_or c.args.position.now c.args.vertex 0) (degree c.args.graph.now c.args.vertex)
          c.args.k some (subst (λ (d : ℕ). get_or c.args.position.now c.args.vertex 0 / d < c.args.k)
          w.out_degree.ensures w.if-position-vertex.true) in
          ((λ _. inr (inr above)), λ _. refl)
    ]
