use Rattle.std.proofs.Common.{List}
use Rattle.chip_library.specs.Measures.{Noted, measures_of, EndsRun}
use Rattle.chip_library.proofs.MeasuresLemmas.{SoFar}
use Rattle.chip_library.proofs.measures.make_each.Given as goal

abbrev pub invariant-loop-drop : goal.invariant-loop-drop
invariant-loop-drop l =
    let before =
    measures_of l.fn.sizes l.fn.extents l.fn.losts l.fn.durations l.fn.ends l.fn.vertices l.fn.times in
    let now = measures_of l.sizes l.extents l.losts l.durations l.ends l.vertices l.times in
    (notes : List Noted)
    × SoFar l.fn.kept l.kept l.at l.amounts (EndsRun l.loses l.marks) before now notes l.is_over l.end l.drop
