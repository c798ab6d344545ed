use Rattle.std.proofs.Common.{Some, ap, ◌∙◌}
use Rattle.chip_handle.proofs.calls.make.Goals as goal

pub returns : goal.returns
returns c = (c.in_ok-kept.kept, c.of.ensures ∙ ap Some c.in_ok-boxed.ensures.ok, c.in_ok-kept.ensures)
