use Rattle.chip_world.proofs.Names.{refl}
use Rattle.chip_world.proofs.TurnWordLemmas.{halts}
use Rattle.chip_world.proofs.turn_words.TurnWordsMedium.halt.Goals as goal

pub returns : goal.returns
returns c = halts c.args.self.now _ c.args.by_limit _ refl refl (rw c.halt_bits.ensures)
