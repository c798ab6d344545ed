use Rattle.chip_net.proofs.Names.{◌≡◌, ◌<◌, not, refl, ap, arith, graph_edges, stopper, met_rules, Seal}
use Rattle.chip_net.proofs.Names.{Grows, stopper_part}
use Rattle.chip_net.specs.contracts.stopper.Stopper.{the_view}
use Rattle.chip_net.proofs.ViewingLemmas.{alone_there}
use Rattle.chip_net.proofs.RulingLemmas.{Due, words_at, event_asked, event_told}
use Rattle.chip_net.proofs.StoppingLemmas.{still_stopper, seals}
use Rattle.chip_net.proofs.stopper.Stopper.seal.Goals.{After-fetch_or-arg-1, After-fetch_or-before}
use Rattle.chip_net.proofs.stopper.Stopper.seal.Goals as goal

-- the stopper's net is this one
net_is : (c : After-fetch_or-arg-1) → (the_view c.self.inside).net ≡ c.args.net.now
net_is c = rw (← c.self.view_is) at c.requires.net

there : (c : After-fetch_or-arg-1) → c.args.edge < graph_edges c.self.inside.setting.value
there c =
    let edges : c.graph_edges.result ≡ graph_edges c.self.inside.setting.value =
    rw (c.graph_edges.ensures.value, c.setting-setting.ensures.value, ← net_is c) in
    let l = c.if-edge-graph_edges.false in
    omega arith

due : (c : After-fetch_or-arg-1)
    → Due c.self.inside.setting.value c.self.inside.seat.me (stopper c.self.inside.setting.value) (Seal c.args.edge)
due c = record {
  mine = refl;
  has = alone_there (stopper c.self.inside.setting.value) c.self.inside.seat.me.0 c.self.invariant.0;
  met = met_rules c.self.inside.setting.value (Seal c.args.edge) (stopper_part (the_view c.self.inside)) (there c);
}

pub fetch_or-before-requires : goal.fetch_or-before-requires
fetch_or-before-requires c = event_asked (words_at (net_is c) c.words.ensures)
    (due c) _ c.edge_word-word.ensures Seal refl _ refl _

told : (c : After-fetch_or-before)
    → Grows c.self.inside.setting.value (Seal c.args.edge) c.self.inside.seat.me c.fetch_or-before.result c.fetch_or-before.new.seat.me
told c =
    let d = (goal.at.After-fetch_or-before c).After-fetch_or-arg-1 in
    event_told (words_at (net_is d) c.words.ensures) (due d) _ c.edge_word-word.ensures Seal refl _ _
    c.fetch_or-before.ensures.2

pub invariant_of-self : goal.invariant_of-self
invariant_of-self c =
    let d = (goal.at.invariant_of-self c).After-fetch_or-arg-1 in
    still_stopper (words_at (net_is d) c.words.ensures).setting (due d) (there d)
    (told (goal.at.invariant_of-self c).After-fetch_or-before) c.self.invariant

pub returns-clause-cases : goal.returns-clause-cases
returns-clause-cases c =
    let d = (goal.at.returns-clause-cases c).After-fetch_or-arg-1 in
    seals (words_at (net_is d) c.words.ensures).setting (due d) (there d)
    (told (goal.at.returns-clause-cases c).After-fetch_or-before)
    c.self.view_is c.fetch_or-before.ensures.0
    (record { count = c.from_word-before.result.claims; first = not c.from_word-before.result.sealed })
    c.from_word-before.ensures.claims (ap not c.from_word-before.ensures.sealed)
