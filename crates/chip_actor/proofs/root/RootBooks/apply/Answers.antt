use Rattle.std.proofs.Common.{refl, sym, subst}
use Rattle.chip_link.specs.Words.{fired_in}
use Rattle.chip_part.specs.declared.reply.Reply.TheVariants.{Done}
use Rattle.chip_part.specs.Rules.{Event}
use Rattle.chip_actor.specs.Root.{SomeRoot, RootCanDo, RootMakes}
use Rattle.chip_actor.proofs.root.RootBooks.apply.Goals as goal

pub settle_edge-requires : goal.settle_edge-requires
settle_edge-requires c = subst (λ (x : Event). SomeRoot c.args.self.now (λ g s. RootCanDo g s x c.args.seen)) c.in-Settle.is
    c.requires

pub returns-in-Settle : goal.returns-in-Settle
returns-in-Settle c = subst (λ (x : Event). RootMakes c.args.self.now c.settle_edge.new.self x c.args.seen c.settle_edge.result)
    (sym c.in-Settle.is) c.settle_edge.ensures

pub returns-in-Read : goal.returns-in-Read
returns-in-Read c = subst
    (λ (x : Event). RootMakes c.args.self.now c.args.self.now x c.args.seen (Done (fired_in c.args.seen)))
    (sym c.in-Read.is) (λ g s stands can. (stands, refl))
