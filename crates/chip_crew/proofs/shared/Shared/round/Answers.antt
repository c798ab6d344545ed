use Rattle.chip_crew.proofs.Names.{add-one, view, passes}
use Rattle.chip_crew.proofs.TurnLemmas.{are_made}
use Rattle.chip_crew.proofs.shared.Shared.round.Goals as goal

pub turn_by_queue-requires-clause-has : goal.turn_by_queue-requires-clause-has
turn_by_queue-requires-clause-has g c =
    let was = rw c.in-Queue.is at c.requires.made in rw c.take.ensures.value
    (are_made (passes g.B.Crew.asked c.args.worker) c.args.first (view c.in-Queue.pass) c.in-Queue.kept was.2).0

pub returns-else-not-begin-clause-made : goal.returns-else-not-begin-clause-made
returns-else-not-begin-clause-made g c =
    let was = rw c.in-Queue.is at c.requires.made in
    let turn = rw c.take.ensures.value at c.turn_by_queue.ensures.turn in (
      was.0,
      c.turn_by_queue.ensures.pass,
      rw add-one (view c.in-Queue.pass, c.in-Queue.kept, was.2, c.if-not-begin.ensures.begins.0, turn),
      c.turn_by_queue.ensures.kept,
    )
