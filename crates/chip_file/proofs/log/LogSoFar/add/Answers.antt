use Rattle.chip_file.proofs.LogLemmas.{one_more}
use Rattle.chip_file.proofs.log.LogSoFar.add.Goals as goal

pub returns : goal.returns
returns c = λ log is placed.
    one_more log c.args.row c.args.self.now _ is placed c.in_ok-push.ensures.items c.with_room-self.ensures.processes
    c.with_room-self.ensures.channels (c.in_ok-hold.ensures log is.holders placed.holds)
    (c.in_ok-act.ensures log is.active placed.begins) (c.in_ok-begin.ensures log is.beginners)
