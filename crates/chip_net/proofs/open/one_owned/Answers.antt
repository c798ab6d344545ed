use Rattle.chip_net.proofs.Names.{arith}
use Rattle.chip_net.proofs.open.one_owned.Goals as goal

pub returns-in_err-state-clause-others : goal.returns-in_err-state-clause-others
returns-in_err-state-clause-others g c p l = c.take_out-own.ensures.others p (λ e. omega arith)

pub returns-in_err-trace-clause-others : goal.returns-in_err-trace-clause-others
returns-in_err-trace-clause-others g c p l = c.take_out-own.ensures.others p (λ e. omega arith)

pub returns-clause-others : goal.returns-clause-others
returns-clause-others g c p l = c.take_out-own.ensures.others p (λ e. omega arith)

pub new-requires-3-clause-state : goal.new-requires-3-clause-state
new-requires-3-clause-state g c =
    rw (c.game.ensures.value, c.cells.ensures.number, c.ring.ensures.value) at
    (c.in_ok-state.ensures.opened c.setting-setting.result.now.fed)
