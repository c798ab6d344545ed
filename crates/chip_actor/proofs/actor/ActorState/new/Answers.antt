use Rattle.chip_actor.proofs.Names.{◌∙◌, ap, eqb, None, Multigraph, degree, setting_with, Actor}
use Rattle.chip_actor.proofs.ActorOpeningLemmas.{opens}
use Rattle.chip_actor.proofs.actor.ActorState.new.Goals as goal

pub returns-clause-opened : goal.returns-clause-opened
returns-clause-opened c =
    let same = c.graph-graph.ensures.value in
    let sink = c.sink.ensures.value ∙ ap (λ (G : Multigraph). G.sink) same in
    let degrees = c.out_degree-degree.ensures ∙ ap (λ (G : Multigraph). degree G c.args.vertex) same in
    λ fed. opens (setting_with c.args.game.now c.args.ring fed) c.args.vertex record {
      game = c.graph-graph.ensures.game;
      some_ring = c.requires.ring.0;
      small_ring = c.requires.ring.1;
    } c.requires.vertex
    c.in_ok-outs.outs c.in_ok-ins.ins c.in_ok-ins.detect
    (rw (← same, ← c.of-cells.ensures) c.in_ok-outs.ensures) (rw (← same, ← c.of-cells.ensures) c.in_ok-ins.ensures.0)
    (rw (← same) c.in_ok-ins.ensures.1)
    c.in_ok-ins.ensures.2
    _
    (λ j. let a : Actor = record {
      vertex = c.args.vertex;
      is_sink = eqb c.args.vertex (sink j);
      degree = degrees j;
      limit = c.limit-limit.ensures.value j;
      chips = 0;
      fired = 0;
      halt = None;
      outs = c.in_ok-outs.outs;
      ins = c.in_ok-ins.ins;
      detect = c.in_ok-ins.detect;
      pending = 0;
      unput = 0;
      refused = 0;
    } in a)
