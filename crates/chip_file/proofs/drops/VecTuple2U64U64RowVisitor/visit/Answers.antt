use Rattle.chip_file.proofs.Names.{sym, map_push, fields_of, drop_in}
use Rattle.chip_file.proofs.drops.VecTuple2U64U64RowVisitor.visit.Goals as goal

pub returns : goal.returns
returns c = λ before had counted.
    let found = c.in_ok-vertex_and_number.ensures.ok in (
      rw counted found.0,
      rw (c.in_ok-push.ensures.items, had, found.1) (sym (map_push drop_in before (fields_of c.args.row.now))),
    )
