use Rattle.chip_report.proofs.Names.{lit<, IsToldBy}
use Rattle.chip_report.proofs.ReportLemmas.{has_four, none_taken, none_without_utf8, passed_on}
use Rattle.chip_report.proofs.read.stage_of_text.Goals as goal

pub returns-in_err-lists : goal.returns-in_err-lists
returns-in_err-lists c =
    passed_on (IsToldBy c.args.went_on c.args.limits c.args.text.now) c.from_residual.result c.in_err-lists.field-0.0
    c.from_residual.ensures.1 c.in_err-lists.ensures (none_without_utf8 c.args.went_on c.args.limits c.args.text.now)

pub returns-in_err-chips : goal.returns-in_err-chips
returns-in_err-chips c =
    none_taken c.args.went_on c.args.limits c.args.text.now _ 0 c.vertices-most.ensures.value
    (has_four c.args.went_on 0 (lit< tt)) _ c.in_ok-lists.ensures _ _
    c.from_residual-in_err-chips.ensures.1 c.in_err-chips.ensures

pub returns-in_err-fired : goal.returns-in_err-fired
returns-in_err-fired c =
    none_taken c.args.went_on c.args.limits c.args.text.now _ 1 c.vertices-most.ensures.value
    (has_four c.args.went_on 1 (lit< tt)) _
    (rw (c.in_ok-chips.ensures.1, c.in_ok-lists.ensures)) _ _
    c.from_residual-in_err-fired.ensures.1 c.in_err-fired.ensures

pub returns-in_err-over : goal.returns-in_err-over
returns-in_err-over c =
    none_taken c.args.went_on c.args.limits c.args.text.now _ 2 c.vertices-most.ensures.value
    (has_four c.args.went_on 2 (lit< tt)) _
    (rw (c.in_ok-fired.ensures.1, c.in_ok-chips.ensures.1, c.in_ok-lists.ensures)) _ _
    c.from_residual-in_err-over.ensures.1 c.in_err-over.ensures

pub returns-in_err-fourth : goal.returns-in_err-fourth
returns-in_err-fourth c =
    none_taken c.args.went_on c.args.limits c.args.text.now _ 3 c.vertices-most.ensures.value
    (has_four c.args.went_on 3 (lit< tt)) _
    (rw (c.in_ok-over.ensures.1, c.in_ok-fired.ensures.1, c.in_ok-chips.ensures.1, c.in_ok-lists.ensures)) _ _
    c.from_residual-in_err-fourth.ensures.1 c.in_err-fourth.ensures

pub returns-in_err-take : goal.returns-in_err-take
returns-in_err-take c =
    none_taken c.args.went_on c.args.limits c.args.text.now _ 4 c.vertices-most.ensures.value
    (rw c.if-went_on.true (lit< tt)) _
    (rw (
      c.in_ok-fourth.ensures.1,
      c.in_ok-over.ensures.1,
      c.in_ok-fired.ensures.1,
      c.in_ok-chips.ensures.1,
      c.in_ok-lists.ensures,
    )) _ _
    c.from_residual-in_err-take.ensures.1 c.in_err-take.ensures
