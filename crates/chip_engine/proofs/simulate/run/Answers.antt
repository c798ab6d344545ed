use Rattle.chip_engine.proofs.simulate.run.Goals as goal

pub end_of-requires : goal.end_of-requires
end_of-requires c =
    let g = c.args.world.now.setting in
    let driven = c.drive-drive.ensures.drives g _ c.in_ok-run_schedule.ensures.world in
    (g, driven.0, driven.1, (λ is. rw is at driven.2.answers))

pub returns : goal.returns
returns c =
    let g = c.args.world.now.setting in
    let driven = c.drive-drive.ensures.drives g _ c.in_ok-run_schedule.ensures.world in record {
      after = driven.0;
      drive = c.drive-drive.result;
      driven = driven.2;
      end = c.in_ok-end.end.text.items;
      lines = rw (c.deref.ensures.value, c.into_bytes-text.ensures.value, c.in_ok-run_schedule.ensures.lines)
          at c.in_ok-extend_from_slice.ensures.items;
      ends = c.in_ok-end.ensures g driven.0 driven.1;
      closes = λ has. c.drive-drive.ensures.closes_in g _ c.in_ok-run_schedule.ensures.world has.end has.put has.distance
          has.is_distance has.enough;
    }
