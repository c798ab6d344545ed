use Rattle.chip_file.proofs.Names.{◌≡◌, ◌∙◌, ap, fields_of, vertex_in, given_in}
use Rattle.chip_file.proofs.VertexRowLemmas.{named_more}
use Rattle.chip_file.proofs.vertex_rows.VecOptionU64RowVisitor.visit.Goals as goal

pub returns : goal.returns
returns c = λ before are counted.
    let row = fields_of c.args.row.now in
    let found = c.in_ok-vertex.ensures.ok in
    let vertex : c.in_ok-vertex.vertex ≡ vertex_in row = ap (λ given. given.0) found.1 in
    let number : c.in_ok-vertex.number ≡ given_in row = ap (λ given. given.1) found.1 in
    let many : c.len.result ≡ c.args._vertices.now = c.len.ensures ∙ c.args.self.now.ok.0 ∙ are.as_many in
    rw (vertex, number) (named_more _ before _ c.args.index row c.index_mut-named.result.now are counted
    (rw many at found.0) (rw vertex at c.index_mut-named.ensures.value) c.if-is_some.ensures)
