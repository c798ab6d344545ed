use Rattle.chip_world.proofs.Names.{refl}
use Rattle.chip_world.proofs.TurnWordLemmas.{finds_some, serves}
use Rattle.chip_part.specs.declared.act.Act.TheVariants as Do
use Rattle.chip_world.proofs.turn_words.TurnWordsMedium.put.Goals as goal

pub store-requires : goal.store-requires
store-requires c = finds_some c.args.self.now (Do.Put c.args.edge c.args.cell c.args.value) c.requires

pub returns : goal.returns
returns c = serves c.args.self.now _ (Do.Put c.args.edge c.args.cell c.args.value) _ refl c.store.ensures refl
    (λ g v seen s. refl)
