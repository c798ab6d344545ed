use Rattle.std.proofs.Common.{ap}
use Rattle.chip_command.specs.Statuses.{number_of_status}
use Rattle.chip_engine.proofs.StageLemmas.{leads_on, none_legal}
use Rattle.chip_engine.proofs.resume.go_on.Goals as goal

pub returns : goal.returns
returns g c = let on = c.in_ok-resumed.ensures.answer in record {
  resumed = c.in_ok-resumed.resumed;
  goes_on = on;
  adds_up = λ x leads. leads_on c.args.graph on.is_game.graph_fits x c.in_ok-resumed.resumed
      (c.in_ok-resumed.ensures.goes_on x leads) (none_legal _ c.in_ok-resumed.resumed.outcome on.played);
  reported = c.in_ok-text.ensures;
  status_is = ap number_of_status c.status_of.ensures;
}
