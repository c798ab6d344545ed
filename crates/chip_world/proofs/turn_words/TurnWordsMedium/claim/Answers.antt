use Rattle.chip_world.proofs.Names.{refl}
use Rattle.chip_world.proofs.TurnWordLemmas.{finds_some, serves}
use Rattle.chip_part.specs.declared.act.Act.TheVariants as Do
use Rattle.chip_world.proofs.turn_words.TurnWordsMedium.claim.Goals as goal

pub exchange-requires : goal.exchange-requires
exchange-requires c = finds_some c.args.self.now (Do.Claim c.args.edge c.args.expected c.args.new) c.requires

pub returns : goal.returns
returns c = serves c.args.self.now _ (Do.Claim c.args.edge c.args.expected c.args.new) _ c.exchange.ensures.seen
    c.exchange.ensures.after refl (λ g v seen s. refl)
