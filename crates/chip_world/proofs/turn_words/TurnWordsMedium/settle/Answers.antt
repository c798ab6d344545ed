use Rattle.chip_world.proofs.Names.{refl}
use Rattle.chip_world.proofs.TurnWordLemmas.{finds_some, serves}
use Rattle.chip_part.specs.declared.act.Act.TheVariants as Do
use Rattle.chip_world.proofs.turn_words.TurnWordsMedium.settle.Goals as goal

pub acknowledgements-requires : goal.acknowledgements-requires
acknowledgements-requires c = finds_some c.args.self.now (Do.Settle c.args.edge) c.requires

pub returns : goal.returns
returns c = serves c.args.self.now _ (Do.Settle c.args.edge) _ c.acknowledgements.ensures refl refl (λ g v seen s. refl)
