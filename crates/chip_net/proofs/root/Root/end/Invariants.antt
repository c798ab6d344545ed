use Rattle.chip_net.proofs.root.Root.end.Given as goal

abbrev pub ghosts-make : goal.ghosts-make
ghosts-make a = record { event = a.event }
