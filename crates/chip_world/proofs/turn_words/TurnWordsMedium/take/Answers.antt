use Rattle.chip_world.proofs.Names.{refl}
use Rattle.chip_world.proofs.TurnWordLemmas.{finds_some, serves}
use Rattle.chip_part.specs.declared.act.Act.TheVariants as Do
use Rattle.chip_world.proofs.turn_words.TurnWordsMedium.take.Goals as goal

pub take-requires : goal.take-requires
take-requires c = finds_some c.args.self.now (Do.Take c.args.edge c.args.cell) c.requires

pub returns : goal.returns
returns c = serves c.args.self.now _ (Do.Take c.args.edge c.args.cell) _ c.take.ensures.seen c.take.ensures.after refl
    (λ g v seen s. refl)
