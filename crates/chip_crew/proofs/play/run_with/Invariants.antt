use Rattle.chip_crew.proofs.Names.{option_copied, asked_of}
use Rattle.chip_crew.proofs.play.run_with.Given as goal

-- the task of the crew of this net
abbrev pub ghosts-play_on : goal.ghosts-play_on
ghosts-play_on g a = record {
  asked = asked_of a.opened.net a.plan.now a.sharing (option_copied a.feeds) (g.G.Gate.may_answer a.gate.now);
}
