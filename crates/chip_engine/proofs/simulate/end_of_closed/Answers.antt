use Rattle.std.proofs.Common.{refl, ap, ◌∙◌}
use Rattle.chip_command.specs.Statuses.{number_of_status}
use Rattle.chip_engine.proofs.simulate.end_of_closed.Goals as goal

pub returns : goal.returns
returns c = λ g log stands. record {
  is_setting = stands.is_setting;
  legal = stands.legal;
  outcome = c.in-Ok.outcome;
  outcome_is = c.in-Ok.ensures.outcome g log stands;
  reportable = c.in-Ok.ensures.in_range;
  comes = c.in-Ok.ensures.comes g log stands;
  reported =
      rw (c.deref.ensures.value ∙ c.in_ok-report.ensures, c.in_ok-text.ensures.items)
      at c.in_ok-extend_from_slice.ensures.items;
  status_is = ap number_of_status c.status_of.ensures;
  plays = λ none. (
    c.in-Ok.outcome,
    c.in-Ok.ensures.played g log stands none,
    refl,
    ap number_of_status c.status_of.ensures,
  );
}
