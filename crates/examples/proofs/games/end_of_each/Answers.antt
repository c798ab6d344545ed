use Rattle.std.proofs.Common.{◌≡◌, ◌<◌, ◌++◌, length, take, drop, arith}
use Rattle.std.proofs.lemmas.Grind.{common_steps}
use Rattle.examples.proofs.EndLemmas.{each_end}
use Rattle.examples.proofs.games.end_of_each.Goals as goal

pub returns-clause-ends : goal.returns-clause-ends
returns-clause-ends c i below =
    let new = c.stabilize_all.new.fired in
    let all : take c.in_ok-fired.fired.len (new ++ drop (length new) c.in_ok-fired.fired.items) ≡ new =
    grind (arith, common_steps) in
    let many : i < length c.deref_mut-2.result.now = grind (arith, common_steps) in
    rw all (each_end _ _ _ _ _ c.in_ok-stabilize_all.ensures.2 i many)
