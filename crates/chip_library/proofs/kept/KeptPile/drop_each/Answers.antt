use Rattle.std.proofs.Common.{[], refl}
use Rattle.chip_library.specs.Measures.{measures_of}
use Rattle.chip_library.proofs.MeasuresLemmas.{drops_ok, drops_err}
use Rattle.chip_library.proofs.kept.KeptPile.drop_each.Goals as goal

pub returns-in-Ok : goal.returns-in-Ok
returns-in-Ok c =
    let before = measures_of c.args.sizes.now c.args.extents.now c.args.losts.now [] [] [] [] in
    let new = c.measure_each-told.new in
    let after =
    measures_of new.sizes new.extents new.losts new.durations new.ends new.vertices new.times in
    drops_ok c.args.self.now new.self c.args.at.now c.args.amounts.now before after
    (record { durations = refl; ends = refl; vertices = refl; times = refl }) _ _ c.in-Ok.is c.measure_each-told.ensures

pub returns-in-Err : goal.returns-in-Err
returns-in-Err c =
    let before = measures_of c.args.sizes.now c.args.extents.now c.args.losts.now [] [] [] [] in
    let new = c.measure_each-told.new in
    let after =
    measures_of new.sizes new.extents new.losts new.durations new.ends new.vertices new.times in
    drops_err c.args.self.now new.self c.args.at.now c.args.amounts.now before after
    (record { durations = refl; ends = refl; vertices = refl; times = refl }) _ _ c.in-Err.is c.measure_each-told.ensures
