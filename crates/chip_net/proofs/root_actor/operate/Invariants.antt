use Rattle.chip_net.proofs.Names.{Grows}
use Rattle.chip_net.proofs.root_actor.operate.Given as goal

abbrev pub ghosts-load : goal.ghosts-load
ghosts-load g a = record { then = λ _. Grows a.self.now.key.value g.J.Making.event }

abbrev pub ghosts-compare_exchange : goal.ghosts-compare_exchange
ghosts-compare_exchange g a = record { then = λ _. Grows a.self.now.key.value g.J.Making.event }

abbrev pub ghosts-store : goal.ghosts-store
ghosts-store g a = record { then = λ _. Grows a.self.now.key.value g.J.Making.event }
