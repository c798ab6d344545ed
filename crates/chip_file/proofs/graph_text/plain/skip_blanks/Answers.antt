use Rattle.chip_file.proofs.JsonNames.{◌∙◌, arith, sym}
use Rattle.chip_file.proofs.Lexemes.{blank_skipped}
use Rattle.chip_file.proofs.graph_text.plain.skip_blanks.Goals as goal

pub loop-at-preserved : goal.loop-at-preserved
loop-at-preserved c =
    let here = c.loop-at.invariant in record {
      same = blank_skipped c.args.text.now c.loop-at.at c.loop-at-test.true (sym c.is_blank.ensures
          ∙ c.if-is_blank.true) ∙ here.same;
      from = omega (arith, here.from);
      inside = omega (arith, c.loop-at-test.true);
    }
