use Rattle.chip_file.proofs.Plainly.{edges_first}
use Rattle.chip_file.proofs.graph_text.plain.first_edges.Goals as goal

pub returns-clause-edges : goal.returns-clause-edges
returns-clause-edges c =
    edges_first c.args.text.now c.in-Some.start c.in-Some-2.found.next c.in-Some-next_member.next c.in-Some-2.found.value
    c.in-Some.ensures (rw c.in-Some-2.is at c.in_ok-found.ensures.rows) c.in-Some-next_member.ensures
