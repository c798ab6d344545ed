use Rattle.std.proofs.Common.{◌<◌, length, ap, arith, rules}
use Rattle.std.proofs.lemmas.Bool.Decides.{nat_tests}
use Rattle.std.proofs.lemmas.Grind.{common_steps}
use Rattle.chip_library.proofs.measures.write_row.Goals as goal

pub write_from-requires : goal.write_from-requires
write_from-requires c =
    let row = ap (λ l. length l) c.row_vertices-2.ensures in
    let few = c.requires.few in
    let some : 0 < length c.args.ends.now = first_of (search rules, grind (arith, common_steps), grind (arith, nat_tests)) in
    let room = c.requires.room some in omega arith

pub write_from-requires-2 : goal.write_from-requires-2
write_from-requires-2 c =
    let row = ap (λ l. length l) c.row_times.ensures in
    let few = c.requires.few in
    let as_many = c.requires.as_many in
    let alike = c.requires.times_each in
    let some : 0 < length c.args.ends.now = first_of (search rules, grind (arith, common_steps), grind (arith, nat_tests)) in
    let room = c.requires.room some in omega arith

pub returns-clause-times : goal.returns-clause-times
returns-clause-times c = λ some.
    let row = c.row_vertices.ensures in
    let times = c.row_times.ensures in
    let as_many = c.requires.as_many in
    let written = c.write_from-2.ensures in cc
