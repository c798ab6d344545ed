use Rattle.std.proofs.Common.{inl, inr}
use Rattle.chip_command.proofs.CommandLemmas.{refused, delivered}
use Rattle.chip_command.proofs.InputLemmas.{known, unread}
use Rattle.chip_engine.proofs.recurrent.identity_engine.Goals as goal

pub returns-in_err-graph : goal.returns-in_err-graph
returns-in_err-graph g c = refused _ c.from_residual.ensures.1 (inl (unread c.in_err-graph.ensures))

pub returns-in_err-answer : goal.returns-in_err-answer
returns-in_err-answer g c = refused _ c.from_residual-in_err-answer.ensures.1
    (inr (c.in_ok-graph.graph, known c.in_ok-graph.ensures, c.in_err-answer.ensures))

pub returns : goal.returns
returns g c = delivered _ _ c.deliver.ensures
    (c.in_ok-graph.graph, known c.in_ok-graph.ensures, c.in_ok-answer.ensures)
