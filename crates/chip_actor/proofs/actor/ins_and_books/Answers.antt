use Rattle.chip_actor.proofs.Names.{refl, ◌≡◌, ◌∙◌, ◌++◌, ◌+◌, [], ◌∷◌, length, ap, arith, eqb, length-append}
use Rattle.chip_actor.proofs.Names.{Multigraph, edge_at, edges_in, ins_rise, length-picked}
use Rattle.chip_actor.proofs.actor.ins_and_books.Goals.{In_ok-push}
use Rattle.chip_actor.proofs.actor.ins_and_books.Goals as goal

-- the numbers of the edges into the vertex, its root edge last
listed : (c : In_ok-push) → c.push.new.self.items
    ≡ edges_in c.args.graph.now c.args.vertex ++ (length c.args.graph.now.edges + c.args.vertex) ∷ []
listed c =
    rw (c.in_ok-push.ensures.items, c.in_ok-numbers.ensures.items, c.ins.ensures, c.root_edge.ensures.value) refl

pub new-requires : goal.new-requires
new-requires c =
    rw (c.deref.ensures.value, listed (goal.at.new-requires c).In_ok-push) (ins_rise c.args.graph.now c.args.vertex)

pub new-requires-2-clause-few_ins : goal.new-requires-2-clause-few_ins
new-requires-2-clause-few_ins c =
    let graph : Multigraph = c.args.graph.now in
    let few = c.root_edge.ensures.graph.few_edges in
    let all = ap length (c.deref-2.ensures.value ∙ listed (goal.at.new-requires-2-clause-few_ins c).In_ok-push) in
    let long = length-append (edges_in graph c.args.vertex) ((length graph.edges + c.args.vertex) ∷ []) in
    let own = length-picked (λ e. eqb (edge_at graph e).head c.args.vertex) (length graph.edges) in
    omega arith

pub new-requires-2-clause-few_outs : goal.new-requires-2-clause-few_outs
new-requires-2-clause-few_outs c =
    let graph : Multigraph = c.args.graph.now in
    let few = c.root_edge.ensures.graph.few_edges in
    let all = ap length c.outs.ensures in
    let own = length-picked (λ e. eqb (edge_at graph e).tail c.args.vertex) (length graph.edges) in
    omega arith

pub returns : goal.returns
returns c =
    let edges = c.in_ok-ins.ensures.edges ∙ c.deref.ensures.value in (
      record {
        edges = edges ∙ listed (goal.at.returns c).In_ok-push;
        ends = rw c.in_ok-ins.ensures.edges c.in_ok-ins.ensures.ends;
      },
      rw (edges, ← c.deref-2.ensures.value, ← c.outs.ensures) c.in_ok-detect.ensures.fresh,
      c.in_ok-detect.ensures.sound,
    )
