use Rattle.examples.proofs.DriveLemmas.{actors_end}
use Rattle.examples.proofs.machines.end_of_actors.Goals as goal

pub returns : goal.returns
returns c = actors_end c.args.game.now c.args.ring c.in_ok-world.world c.drive.new.self c.args.rounds c.drive.result
    c.outcome.result c.in_ok-world.ensures c.drive.ensures.drives c.outcome.ensures.played
