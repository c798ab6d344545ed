use Rattle.std.proofs.Common.{inl, inr, refl, ap}
use Rattle.chip_command.specs.Statuses.{number_of_status}
use Rattle.chip_command.proofs.CommandLemmas.{refused, delivered}
use Rattle.chip_command.proofs.InputLemmas.{known, unread}
use Rattle.chip_engine.proofs.check.check_engine_with.Goals as goal

pub returns-in_err-graph : goal.returns-in_err-graph
returns-in_err-graph g c = refused _ c.from_residual.ensures.1 (inl (unread c.in_err-graph.ensures))

pub returns-in_err-lines : goal.returns-in_err-lines
returns-in_err-lines g c = refused _ c.from_residual-in_err-lines.ensures.1 (inr (_, known c.in_ok-graph.ensures, refl))

pub returns : goal.returns
returns g c = delivered _ _ c.deliver.ensures (
  c.in_ok-graph.graph,
  known c.in_ok-graph.ensures,
  (
    c.in_ok-lines.ensures.graph,
    rw c.of_lines.ensures.text c.in_ok-lines.ensures.shown,
    ap number_of_status c.of_lines.ensures.status,
  ),
)
