use Rattle.std.proofs.Common.{◌≡◌, length, arith}
use Rattle.std.proofs.lemmas.Grind.{common_steps}
use Rattle.chip_library.proofs.MeasuresLemmas.{fires_none}
use Rattle.chip_library.proofs.measures.fires_marked.Goals as goal

pub returns-else-not-is_empty : goal.returns-else-not-is_empty
returns-else-not-is_empty c =
    let empty : length c.args.marks.now ≡ 0 = grind (arith, common_steps) in
    let none = fires_none c.args.marks.now empty c.args.bit c.args.vertices.now in cc
