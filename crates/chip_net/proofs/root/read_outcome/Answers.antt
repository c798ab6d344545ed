use Rattle.chip_net.proofs.Names.{◌≡◌, length, ap, ◌∙◌, arith, with_items, with_items_is}
use Rattle.chip_net.proofs.Names.{length-map, ChipGame, Multigraph, fired_in, Outcome, game_from}
use Rattle.chip_net.proofs.Names.{no_fault, AreGiven, root_part, ReadingsState, IsReading}
use Rattle.chip_net.proofs.FinishingLemmas.{few, game, none_negative, finishes}
use Rattle.chip_net.proofs.root.read_outcome.Goals.{After-deref_mut}
use Rattle.chip_net.proofs.root.read_outcome.Goals as goal

-- the receipt begins as the root
reading : (c : After-deref_mut)
    → IsReading c.args.actor c.read_all.new.self c.read_all.result c.args.actor.net.setting.game.graph.vertices
reading c = rw c.into_receipt-state.ensures.receipt at c.read_all.ensures

fired_is : (c : After-deref_mut) → c.fired.inside.fired.items ≡ c.read_all.result.fired
fired_is c = ap (λ (t : ReadingsState). t.fired) c.fired.view_is

are : (c : After-deref_mut) → AreGiven c.args.actor.net.setting (root_part c.args.actor) c.given.result.now
are c = c.given.ensures c.args.actor.net.setting (root_part c.args.actor) c.into_receipt-state.ensures.state

-- the game played
abbrev played : After-deref_mut → ChipGame
played c = game c.into_receipt-state.ensures.setting (reading c) c.given.result.now (are c)

graph_is : (c : After-deref_mut) → c.graph-graph.result.now ≡ c.args.actor.net.setting.game.graph
graph_is c = rw (c.graph-graph.ensures.value, c.game.ensures.value, c.setting.ensures.value, c.requires.net)

game_is : (c : After-deref_mut)
    → game_from c.graph-graph.result.now c.given.result.now c.args.actor.net.setting.game.limit ≡ played c
game_is c = rw (graph_is c)

pub after_from-requires-clause-few_chips : goal.after_from-requires-clause-few_chips
after_from-requires-clause-few_chips c =
    let d = (goal.at.after_from-requires-clause-few_chips c).After-deref_mut in
    few c.into_receipt-state.ensures.setting (reading d) c.given.result.now (are d)

-- there is room for the chips of each vertex
pub after_from-requires-clause-chips_each : goal.after_from-requires-clause-chips_each
after_from-requires-clause-chips_each c =
    let d = (goal.at.after_from-requires-clause-chips_each c).After-deref_mut in
    let reads = reading d in
    let room = ap (λ (t : ReadingsState). t.room) c.fired.view_is ∙ reads.room_is in
    let count = ap length (fired_is d ∙ reads.tallied.fired) ∙ length-map reads.words fired_in ∙ reads.count_is in
    let graph = ap (λ (k : Multigraph). k.vertices) (graph_is d) in
    let long = c.fired.invariant.0 in let at = c.deref_mut.ensures.len in
    omega arith

pub unreachable-requires : goal.unreachable-requires
unreachable-requires c =
    let d = (goal.at.unreachable-requires c).After-deref_mut in
    no_fault (played d) c.fired.inside.fired.items c.in-Err.field-0
    (rw (game_is d, c.deref.ensures.value) at (c.in-Err.ensures.cases c.args.actor.net.setting.game.limit))
    (none_negative c.into_receipt-state.ensures.setting (reading d) c.given.result.now
    (are d) c.fired.inside.fired.items (fired_is d))

pub returns : goal.returns
returns c =
    let d = (goal.at.returns c).After-deref_mut in
    let o : Outcome = record {
      fired = c.fired.inside.fired;
      chips = with_items c.fired.inside.chips c.after_from.new.into;
      over = c.fired.inside.over;
      sealed = c.fired.inside.sealed;
    } in
    let into = with_items_is c.fired.inside.chips c.after_from.new.into
    (c.after_from.auto.into ∙ c.deref_mut.ensures.len) in
    finishes c.into_receipt-state.ensures.setting (reading d) c.given.result.now (are d) o (fired_is d)
    (ap (λ (t : ReadingsState). t.over) c.fired.view_is) (ap (λ (t : ReadingsState). t.sealed) c.fired.view_is)
    (rw into (rw (game_is d, c.deref.ensures.value) at (c.in-Ok.ensures.cases c.args.actor.net.setting.game.limit)))
