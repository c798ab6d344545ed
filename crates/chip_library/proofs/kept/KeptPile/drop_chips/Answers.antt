use Rattle.std.proofs.Common.{◌<◌, false, Some, None, arith}
use Rattle.std.proofs.lemmas.Option.{MatchOption-at_none}
use Rattle.chip_library.proofs.KeptLemmas.{drops_played, stopped_before}
use Rattle.chip_library.proofs.MeasuresLemmas.{measured_drop}
use Rattle.chip_library.proofs.kept.KeptPile.drop_chips.Goals as goal

pub returns-in-Err : goal.returns-in-Err
returns-in-Err c =
    let free = rw c.game.ensures at (MatchOption-at_none _ _ c.in_default.is c.fault_of_columns.ensures.first) in
    let inside : c.args.vertex < c.args.self.pile.game.graph.vertices = rw (← c.self.view_is) (free.vertices 0 (omega arith)) in
    let plays = rw c.in-Err.is at c.play-kept.ensures in
    stopped_before c.args.self c.play-kept.result.0 _ _ inside c.in-Err.fault plays

pub measure_on_stable-kept-requires-clause-is_vertex : goal.measure_on_stable-kept-requires-clause-is_vertex
measure_on_stable-kept-requires-clause-is_vertex c =
    let free = rw c.game.ensures at (MatchOption-at_none _ _ c.in_default.is c.fault_of_columns.ensures.first) in
    let inside : c.args.vertex < c.args.self.pile.game.graph.vertices = rw (← c.self.view_is) (free.vertices 0 (omega arith)) in
    let plays = rw c.in_default-played.is at c.play-kept.ensures in
    rw plays.0.same_game inside

pub returns-in-Some-measured : goal.returns-in-Some-measured
returns-in-Some-measured c =
    let free = rw c.game.ensures at (MatchOption-at_none _ _ c.in_default.is c.fault_of_columns.ensures.first) in
    let inside : c.args.vertex < c.args.self.pile.game.graph.vertices = rw (← c.self.view_is) (free.vertices 0 (omega arith)) in
    let plays = rw c.in_default-played.is at c.play-kept.ensures in
    let told = rw c.in-Some-measured.is at c.measure_on_stable-kept.ensures in
    drops_played c.args.self c.play-kept.result.0 c.measure_on_stable-kept.result.0 _ _ plays inside
    (Some c.in-Some-measured.measured.avalanche)
    (measured_drop c.play-kept.result.0 c.measure_on_stable-kept.result.0 c.args.vertex c.args.count false
    c.in-Some-measured.measured told)

pub returns-in-None : goal.returns-in-None
returns-in-None c =
    let free = rw c.game.ensures at (MatchOption-at_none _ _ c.in_default.is c.fault_of_columns.ensures.first) in
    let inside : c.args.vertex < c.args.self.pile.game.graph.vertices = rw (← c.self.view_is) (free.vertices 0 (omega arith)) in
    let plays = rw c.in_default-played.is at c.play-kept.ensures in
    drops_played c.args.self c.play-kept.result.0 c.measure_on_stable-kept.result.0 _ _ plays inside None
    (rw c.in-None.is at c.measure_on_stable-kept.ensures)
