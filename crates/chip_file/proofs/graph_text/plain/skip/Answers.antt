use Rattle.chip_file.proofs.JsonNames.{◌∙◌, arith, sym}
use Rattle.chip_file.proofs.Lexemes.{operator_at}
use Rattle.chip_file.proofs.graph_text.plain.skip.Goals as goal

pub returns-then-text-at : goal.returns-then-text-at
returns-then-text-at c =
    let at = c.skip_blanks-at.result in
    let blanks = c.skip_blanks-at.ensures in record {
      read = sym blanks.same
          ∙ operator_at c.args.text.now at c.args.byte c.if-at-text.true c.if-text-at.true c.requires.operator;
      on = (omega (arith, blanks.bounds), omega (arith, c.if-at-text.true));
    }
