use Rattle.chip_crew.proofs.play.fn.work_all.scope.Goals as goal

pub join_all-requires : goal.join_all-requires
join_all-requires g c =
    let begun = c.in_ok-leader.ensures in
    let uses = c.requires.2 in
    record {
      leader = (rw uses at begun.leader.0, rw begun.leader.1 c.requires.0);
      count = begun.count;
      others = rw uses at begun.others;
      back = c.requires.3;
      few = c.requires.1.few;
    }
