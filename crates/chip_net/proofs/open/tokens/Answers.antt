use Rattle.chip_net.proofs.Names.{◌+◌}
use Rattle.chip_net.proofs.ViewingLemmas.{part_there}
use Rattle.chip_net.proofs.open.tokens.Goals as goal

pub all_actors-requires-clause-parts : goal.all_actors-requires-clause-parts
all_actors-requires-clause-parts c =
    λ p l. rw c.requires.1 (part_there (c.args.net.now.setting.game.graph.vertices + 2) p l)
