use Rattle.chip_net.proofs.Names.{stopper}
use Rattle.chip_net.proofs.open.tokens.Given as goal

abbrev pub ghosts-stopper_of : goal.ghosts-stopper_of
ghosts-stopper_of a = record { part = stopper a.net.now.setting }
