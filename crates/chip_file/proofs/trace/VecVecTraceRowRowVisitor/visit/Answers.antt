use Rattle.chip_file.proofs.Names.{◌∙◌, [], sym, ap, arith, length-map, map-set, get_or-map, fields_of}
use Rattle.chip_file.proofs.TraceLemmas.{names_vertex, recorded_more}
use Rattle.chip_file.proofs.trace.VecVecTraceRowRowVisitor.visit.Goals as goal

pub returns-then-vertex-len : goal.returns-then-vertex-len
returns-then-vertex-len c = λ before had counted.
    let found = c.in_ok-vertex.ensures.ok in
    let vertex = names_vertex c.args.graph.now c.args.index (fields_of c.args.row.now) found.0 in
    let many = length-map c.args.self.now.items (λ trace. trace.items) in
    let named = found.1 in
    let each = had.as_many in
    absurd (omega (arith, c.args.self.now.ok.0))

pub returns : goal.returns
returns c = λ before had counted.
    let row = fields_of c.args.row.now in
    let found = c.in_ok-vertex.ensures.ok in
    let traces = c.args.self.now.items in
    let was = ap (λ trace. trace.items) c.index_mut-trace.ensures.value
    ∙ sym (get_or-map (λ trace. trace.items) traces c.in_ok-vertex.vertex c.index_mut-trace.result.now []
    (omega (arith, c.args.self.now.ok.0))) in (
      rw counted found.0,
      rw (map-set, c.in_ok-push.ensures.items, was, found.1, found.2)
          (recorded_more _ before _ row had (names_vertex c.args.graph.now c.args.index row found.0)),
    )
