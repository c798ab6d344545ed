use Rattle.std.proofs.Common.{◌≡◌, ℕ, List, ◌++◌, length, eqb, codes, flat_map, Option, string_bytes, sym, ap, ◌∙◌}
use Rattle.std.proofs.Common.{arith, append_assoc}
use Rattle.chip_graph.specs.ChipGame.{ChipGame}
use Rattle.chip_graph.specs.Multigraph.{edges_in, edge_at}
use Rattle.chip_graph.proofs.PickLemmas.{All-picked}
use Rattle.chip_part.specs.Setting.{Setting}
use Rattle.chip_part.specs.Part.{deficit_of}
use Rattle.chip_part.specs.Edges.{all_edges, root_edge}
use Rattle.chip_core.specs.Core.{part_in}
use Rattle.chip_engine.specs.Board.{books_text, owed_text, vertex_line}
use Rattle.chip_engine.proofs.board.push_vertex.Goals as goal
use Rattle.chip_engine.proofs.board.push_vertex.Goals.{After-ins}

-- four pieces after a text
four_pieces : (old a b c d t1 t2 t3 t4 : List ℕ) → t1 ≡ old ++ a → t2 ≡ t1 ++ b → t3 ≡ t2 ++ c → t4 ≡ t3 ++ d
    → t4 ≡ old ++ (a ++ b ++ c ++ d)
four_pieces old a b c d t1 t2 t3 t4 one two three four = rw (four, three, two, one) (simp append_assoc)

-- the graph is the world's
graph_is : (c : After-ins) → c.graph.result.now ≡ c.args.world.now.setting.game.graph
graph_is c = c.graph.ensures.value ∙ ap (λ (k : ChipGame). k.graph) (c.game.ensures.value
    ∙ ap (λ (h : Setting). h.game) c.setting-setting.ensures.value)

pub push_all_owed-requires : goal.push_all_owed-requires
push_all_owed-requires c =
    let g = c.args.world.now.setting in
    rw (c.ins.ensures, graph_is (goal.at.push_all_owed-requires c).After-ins)
    (All-picked (λ e. eqb (edge_at g.game.graph e).head c.args.vertex) (length g.game.graph.edges) (all_edges g)
    (omega arith))

pub returns : goal.returns
returns c = λ g log stands.
    let v : ℕ = c.args.vertex in
    let ins_are : c.ins.result.now ≡ edges_in g.game.graph v =
    rw (graph_is (goal.at.returns c).After-ins, stands.setting) at c.ins.ensures in
    let root_is : c.root_edge.result ≡ root_edge g v =
    rw (c.setting-setting.ensures.value, stands.setting) at c.root_edge.ensures.value in
    let owes : c.deficit.result ≡ deficit_of g v (part_in g log v) = c.deficit.ensures g log stands in
    four_pieces _ (books_text v c.in-Some.parent c.deficit.result) (flat_map (owed_text g log) c.ins.result.now)
    (owed_text g log c.root_edge.result) (codes "\n") _ _ _ _ c.in_ok-push_books.ensures
    (c.in_ok-push_all_owed.ensures g log stands) (c.in_ok-push_owed.ensures g log stands) c.in_ok-push_str.ensures.bytes
    ∙ (λ j. string_bytes c.args.lines.now ++ (books_text v c.in-Some.parent (owes j)
    ++ flat_map (owed_text g log) (ins_are j) ++ owed_text g log (root_is j) ++ codes "\n"))
    ∙ ap (λ (p : Option ℕ). string_bytes c.args.lines.now ++ vertex_line g log v p)
    (sym c.in-Some.is ∙ c.parent.ensures g log stands)
