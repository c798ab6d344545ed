use Rattle.std.proofs.Common.{◌∙◌, arith, length-set}
use Rattle.chip_sequence.proofs.BatchLemmas.{links_inside, taken_room, batch_fired}
use Rattle.chip_sequence.proofs.firing.fire_batch.Goals as goal

pub send-requires-clause-heads : goal.send-requires-clause-heads
send-requires-clause-heads c = rw (c.links.ensures, length-set, c.requires.one_each)
    (links_inside c.args.graph.now c.requires.graph_fits c.args.vertex)

pub send-requires-clause-room : goal.send-requires-clause-room
send-requires-clause-room c =
    let room = taken_room _ c.requires.graph_fits c.args.vertex c.args.k c.args.position.now c.requires.is_vertex
    c.requires.one_each c.requires.enough_chips in
    rw (c.links.ensures, c.out_degree.ensures) (let a = c.requires.few_chips in omega arith)

pub returns-clause-fired : goal.returns-clause-fired
returns-clause-fired c =
    batch_fired c.args.graph.now c.requires.graph_fits c.args.vertex c.args.k c.args.position.now c.requires.is_vertex
    c.requires.one_each c.requires.enough_chips c.requires.not_sink c.send.new.position
    (λ u. rw (c.out_degree.ensures, c.links.ensures) at (c.send.ensures.each u))

pub returns-clause-kept : goal.returns-clause-kept
returns-clause-kept c = (rw (c.out_degree.ensures, c.links.ensures) at c.send.ensures.all)
    ∙ taken_room c.args.graph.now c.requires.graph_fits c.args.vertex c.args.k c.args.position.now c.requires.is_vertex
    c.requires.one_each c.requires.enough_chips
