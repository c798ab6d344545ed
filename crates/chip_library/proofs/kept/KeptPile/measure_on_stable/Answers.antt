use Rattle.std.proofs.Common.{refl}
use Rattle.std.proofs.lemmas.Option.{MatchOption-at_some}
use Rattle.chip_library.specs.KeptGames.{KeptGame}
use Rattle.chip_library.proofs.MeasuresLemmas.{measures_well}
use Rattle.chip_library.proofs.kept.KeptPile.measure_on_stable.Goals as goal

pub returns-in-Some : goal.returns-in-Some
returns-in-Some c =
    let k : KeptGame = record { pile = c.self.inside.pile; state = c.self.inside.state } in
    let stable = rw (← c.self.view_is) at c.requires.stable in
    let inside = rw (← c.self.view_is) at c.requires.is_vertex in
    let next = c.drop_measured-pile.ensures in
    let tells = MatchOption-at_some _ _ _ c.in-Some.is next.measured in
    rw (← c.self.view_is)
    (refl, measures_well k c.self.invariant stable _ _ _ c.in-Some.measured inside _ next.pile next.game tells)
