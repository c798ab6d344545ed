use Rattle.chip_core.proofs.ReplyLemmas.{runs_go_on, idle_steps_leave}
use Rattle.chip_core.proofs.laws.replies.Goals as goal

pub returns : goal.returns
returns c = record { go_on = runs_go_on; idle = idle_steps_leave }
