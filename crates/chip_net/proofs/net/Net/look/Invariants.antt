use Rattle.chip_net.proofs.Names.{Looks}
use Rattle.chip_net.proofs.net.Net.look.Given as goal

abbrev pub ghosts-load : goal.ghosts-load
ghosts-load a = record { then = λ _. Looks a.self.now.key.value }
