use Rattle.chip_file.proofs.Names.{sym, map_push, fields_of}
use Rattle.chip_file.specs.ScheduleText.{event_in}
use Rattle.chip_file.proofs.schedule.VecEventRowVisitor.visit.Goals as goal

pub returns : goal.returns
returns c = λ before had counted.
    let found = c.in_ok-event_of.ensures.ok in (
      rw counted found.0,
      rw (c.in_ok-push.ensures.items, had, found.1) (sym (map_push event_in before (fields_of c.args.row.now))),
    )
