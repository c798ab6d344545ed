use Rattle.chip_file.proofs.JsonNames.{length-drop, arith, take_all}
use Rattle.chip_file.proofs.Plainly.{name_read}
use Rattle.chip_file.proofs.graph_text.plain.skip_name.Goals as goal

pub returns-then-starts_with : goal.returns-then-starts_with
returns-then-starts_with c =
    let text = c.args.text.now in
    let at = c.skip_blanks-at.result in
    let blanks = c.skip_blanks-at.ensures in
    name_read text _ c.args.from at c.starts_with.result (take_all _ _ (omega (arith, length-drop at text)))
    blanks.bounds.1 blanks.bounds.0 blanks.same c.starts_with.ensures.value c.if-starts_with.true
