use Rattle.chip_net.proofs.root.Root.feed.Given as goal

abbrev pub ghosts-make : goal.ghosts-make
ghosts-make a = record { event = a.event }
