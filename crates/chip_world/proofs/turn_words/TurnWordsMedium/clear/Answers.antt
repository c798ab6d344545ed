use Rattle.chip_world.proofs.Names.{refl}
use Rattle.chip_world.proofs.TurnWordLemmas.{finds_some, serves}
use Rattle.chip_part.specs.declared.act.Act.TheVariants as Do
use Rattle.chip_world.proofs.turn_words.TurnWordsMedium.clear.Goals as goal

pub load-requires : goal.load-requires
load-requires c = finds_some c.args.self.now (Do.Clear c.args.edge c.args.cell) c.requires

pub returns : goal.returns
returns c = serves c.args.self.now _ (Do.Clear c.args.edge c.args.cell) _ c.load.ensures refl refl (λ g v seen s. refl)
