use Rattle.std.proofs.Common.{◌<◌, length, refl, arith}
use Rattle.chip_fire.proofs.ListedLemmas.{found_room, found_new, found_old}
use Rattle.chip_fire.proofs.work_list.note.Goals as goal

pub bounds-support-noted : goal.bounds-support-noted
bounds-support-noted c =
    let some : 0 < length c.args.before.now = omega arith in
    let (each, long, so_far) = c.requires.so_far some in
    let a = found_room _ _ _ _ _ _ so_far c.requires.is_vertex refl 1 (omega arith) c.if-fired-vertex.false in omega arith

pub returns-then-fired-vertex : goal.returns-then-fired-vertex
returns-then-fired-vertex c = λ some k more.
    let (each, long, so_far) = c.requires.so_far some in
    found_old _ _ _ _ _ _ so_far c.requires.is_vertex refl k more c.if-fired-vertex.true

pub returns : goal.returns
returns c = λ some k more.
    let (each, long, so_far) = c.requires.so_far some in
    found_new _ _ _ _ _ _ so_far c.requires.is_vertex refl k more long c.if-fired-vertex.false
