use Rattle.chip_trace.proofs.Names.{◌≡◌, List, map, sym, ◌∙◌, rules, true, ◌+◌, ◌^◌, ◌<◌, Some, slice_get, slice_index}
use Rattle.chip_trace.proofs.Names.{TraceRow, Take, row_after, runner_at, goes_into, messages}
use Rattle.chip_trace.proofs.LookLemmas.{may_take}
use Rattle.chip_trace.proofs.look.look_at.Goals as goal

pub returns-in-Some : goal.returns-in-Some
returns-in-Some c =
    let traces : List (List TraceRow) = map (λ t. t.items) c.args.traces.now in
    let next : row_after traces c.args.progress.now c.args.vertex
    ≡ Some (Take c.in-Some-Take.edge c.in-Some-Take.count) =
    sym (rw c.in-Some-Take.field-0-is at c.in-Some-Take.ensures.row) in
    let room : (runner_at c.args.progress.now c.args.vertex).used + 1 < 2 ^ 64 = c.in-Some-Take.ensures.room in
    let fits : c.in-Some-Take.count < 2 ^ 64 = search rules in
    let into : goes_into c.args.game.now.graph c.args.vertex c.in-Some-Take.edge ≡ true = search rules in
    let found : slice_get (messages c.args.game.now (λ u. (runner_at c.args.progress.now u).fires) c.in-Some-Take.edge)
    (slice_index c.args.progress.now.taken.items c.in-Some-Take.edge) ≡ Some c.in-Some.message =
    sym c.next_message.ensures ∙ c.in-Some.is in
    may_take c.args.game.now traces c.args.progress.now c.args.vertex c.requires.kept c.in-Some-Take.edge
    c.in-Some-Take.count c.in-Some.message
    c.requires.is_vertex next room fits into found (c.if-message-from.true ∙ c.from.ensures)
