use Rattle.chip_world.proofs.Names.{refl, arith}
use Rattle.chip_world.proofs.TurnWordLemmas.{room_to_fire, fires}
use Rattle.chip_world.proofs.turn_words.TurnWordsMedium.fire.Goals as goal

pub overflow_add-self : goal.overflow_add-self
overflow_add-self c = let room = room_to_fire c.args.self.now c.args.k c.requires in omega arith

pub returns : goal.returns
returns c = fires c.args.self.now _ c.args.k _ refl refl refl
