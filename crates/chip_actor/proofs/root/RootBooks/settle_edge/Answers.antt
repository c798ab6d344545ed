use Rattle.std.proofs.Common.{◌≡◌, ℕ, ◌+◌, ◌-◌, arith, ap}
use Rattle.std.proofs.lemmas.Bool.{leb-true}
use Rattle.chip_part.specs.Rules.{Settle}
use Rattle.chip_actor.specs.Root.{Root, SomeRoot, RootCanDo}
use Rattle.chip_actor.proofs.RootLemmas.{asks_at, makes_at}
use Rattle.chip_actor.proofs.root.RootBooks.settle_edge.Goals as goal

-- the edge is the root's to the vertex
at : (r : Root) (e n seen : ℕ) → n ≡ r.graph_edges → SomeRoot r (λ g s. RootCanDo g s (Settle e) seen)
    → e ≡ r.graph_edges + (e - n)
at r e n seen same (g, s, stands, can) = let past = leb-true _ e can.0 in let edges = stands.edges in omega arith

pub settle-requires : goal.settle-requires
settle-requires c = asks_at c.args.self.now _ c.args.edge c.args.seen
    (at c.args.self.now c.args.edge _ c.args.seen (ap (λ (r : Root). r.graph_edges) c.self.view_is) c.requires) c.requires

pub returns : goal.returns
returns c = makes_at c.args.self.now c.settle.new.self _ c.args.edge c.args.seen c.settle.result
    (at c.args.self.now c.args.edge _ c.args.seen (ap (λ (r : Root). r.graph_edges) c.self.view_is) c.requires)
    c.settle.ensures
