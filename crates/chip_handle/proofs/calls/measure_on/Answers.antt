use Rattle.std.proofs.Common.{Option, sym, subst}
use Rattle.chip_library.specs.KeptGames.{KeptGame}
use Rattle.chip_library.specs.Measures.{measures_of, MeasuresEach}
use Rattle.chip_handle.specs.Handles.{MeasuresOn}
use Rattle.chip_handle.proofs.calls.measure_on.Goals as goal

pub returns : goal.returns
returns c =
    let old : KeptGame = c.in-Some.boxed.value in
    let it = c.args in
    let before =
    measures_of it.sizes.now it.extents.now it.losts.now it.durations.now it.ends.now it.vertices.now it.times.now in
    let new = c.measure_each-told.new in
    let after =
    measures_of new.sizes new.extents new.losts new.durations new.ends new.vertices new.times in
    let post : MeasuresEach old new.self it.at.now it.amounts.now it.loses it.marks.now before after c.measure_each-told.result =
    rw c.deref_mut-kept.ensures.value at c.measure_each-told.ensures in
    subst (λ (o : Option KeptGame). MeasuresOn o c.of.result.raw.value it.at.now it.amounts.now it.loses it.marks.now
    before after c.measure_each-told.result) (sym c.in-Some.ensures.taken) (new.self, c.of.ensures, post)
