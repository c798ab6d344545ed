use Rattle.std.proofs.Common.{arith}
use Rattle.chip_fire.proofs.ListedLemmas.{the_legal_if}
use Rattle.chip_fire.proofs.durations.rounds_from.Goals as goal

pub fire_in_rounds-requires-clause-legal : goal.fire_in_rounds-requires-clause-legal
fire_in_rounds-requires-clause-legal c =
    let test = rw c.graph.ensures.value at c.is_legal.ensures in
    rw (c.from-listed.ensures, c.deref_mut-2.ensures.value) (the_legal_if _ _ _ _ c.is_legal.result (λ is. test.0 is)
    (λ can. test.1 can) (let a = c.requires.room.list_room in let b = c.requires.is_vertex in omega arith) c.requires.legal)
