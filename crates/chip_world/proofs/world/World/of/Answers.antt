use Rattle.chip_world.proofs.Names.{[], refl, WorldState, StandsForLog}
use Rattle.chip_world.proofs.OpeningLemmas.{opens}
use Rattle.chip_world.proofs.world.World.«of».Goals as goal

opened : (c : goal.In_ok-root) → StandsForLog c.args.setting []
    (let w : WorldState = record {
      setting = c.args.setting;
      actors = c.in_ok-actors.actors.items;
      words = c.in_ok-words.words;
      root = c.in_ok-root.root;
    } in w)
opened c =
    opens c.args.setting c.opening_actors.ensures.setting
    (let w : WorldState = record {
      setting = c.args.setting;
      actors = c.in_ok-actors.actors.items;
      words = c.in_ok-words.words;
      root = c.in_ok-root.root;
    } in w)
    refl c.in_ok-actors.ensures.actors c.in_ok-words.ensures c.in_ok-root.ensures

pub invariant_of-result : goal.invariant_of-result
invariant_of-result c = (c.args.setting, [], opened c)

pub returns : goal.returns
returns c = opened c
