use Rattle.std.proofs.Common.{◌∙◌, ℕ, sym, ap, subst}
use Rattle.chip_part.specs.Rules.{Settle}
use Rattle.chip_actor.specs.Root.{Root, SomeRoot, RootCanDo, RootMakes, ended_root}
use Rattle.chip_actor.proofs.FeedLemmas.{end_settles, end_made}
use Rattle.chip_actor.proofs.root.RootBooks.end.Goals as goal

pub settle_edge-requires : goal.settle_edge-requires
settle_edge-requires c =
    let noted = c.note_end.ensures in
    let first = ap (λ (r : Root). r.graph_edges) (c.settle_edge.view_is ∙ noted) in
    subst (λ (r : Root). SomeRoot r (λ g s. RootCanDo g s (Settle c.settle_edge.inside.graph_edges) c.args.seen)) (sym noted)
    (subst (λ (e : ℕ). SomeRoot (ended_root c.args.self.now) (λ g s. RootCanDo g s (Settle e) c.args.seen)) (sym first)
    (end_settles c.args.self.now c.args.seen c.requires))

pub returns : goal.returns
returns c =
    let noted = c.note_end.ensures in
    let first = ap (λ (r : Root). r.graph_edges) (c.settle_edge.view_is ∙ noted) in
    end_made c.args.self.now c.settle_edge-2.new.self c.args.seen c.settle_edge-2.result
    (subst (λ (e : ℕ). RootMakes (ended_root c.args.self.now) c.settle_edge-2.new.self (Settle e) c.args.seen
    c.settle_edge-2.result) first
    (subst (λ (r : Root). RootMakes r c.settle_edge-2.new.self (Settle c.settle_edge.inside.graph_edges) c.args.seen
    c.settle_edge-2.result) noted c.settle_edge-2.ensures))
