use Rattle.std.proofs.Common.{rules, length}
use Rattle.std.proofs.lemmas.Option.{MatchOption-at_none}
use Rattle.chip_library.specs.Drops.{CanFall}
use Rattle.chip_library.specs.Measures.{measures_of, AreAsked}
use Rattle.chip_library.proofs.MeasuresLemmas.{measures_played}
use Rattle.chip_library.proofs.kept.KeptPile.measure_each.Goals as goal

pub returns : goal.returns
returns c =
    let it = c.args in
    let before =
    measures_of it.sizes.now it.extents.now it.losts.now it.durations.now it.ends.now it.vertices.now it.times.now in
    let asked : AreAsked it.self.now.pile.game.graph it.at.now it.amounts.now it.marks.now before = search rules in
    let can : CanFall c.args.self.now.pile.game c.args.at.now c.args.amounts.now (length c.args.at.now) =
    rw c.game.ensures at (MatchOption-at_none _ _ c.in_default.is c.fault_of_columns.ensures.first) in
    let plays = rw c.in_ok-replace_with.was at c.replace_with.ensures in
    measures_played c.args.self.now c.replace_with.new.dest c.make_each.new.kept _ _ _ _ _ _ asked can plays
    c.make_each.result c.make_each.ensures
