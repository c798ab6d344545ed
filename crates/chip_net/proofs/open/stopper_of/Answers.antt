use Rattle.chip_net.proofs.Names.{◌∙◌, arith, root}
use Rattle.chip_net.proofs.open.stopper_of.Goals as goal

pub returns-clause-root : goal.returns-clause-root
returns-clause-root g c =
    c.take_out-own.ensures.others (root c.args.net.now.setting) (λ z. let part = c.requires.part in omega arith)
    ∙ c.requires.root

pub returns-clause-left : goal.returns-clause-left
returns-clause-left g c = rw (← c.requires.part, c.if-not-stoppable.false) c.take_out-own.ensures.gone
