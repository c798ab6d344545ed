use Rattle.chip_file.proofs.JsonNames.{◌+◌, ◌∷◌, sym, ap, ◌∙◌, arith, drop, refl, drop_more, punctuate, after_value}
use Rattle.chip_file.proofs.JsonNames.{after_comma}
use Rattle.chip_file.proofs.Lexemes.{operator_at}
use Rattle.chip_file.proofs.Plainly.{quote_goes_on, brace_goes_on, after_comma_read}
use Rattle.chip_file.proofs.graph_text.plain.next_member.Goals as goal

pub returns-then-text-at-eq125 : goal.returns-then-text-at-eq125
returns-then-text-at-eq125 c =
    let text = c.args.text.now in
    let at = c.skip_blanks-at.result in record {
      read = ap (punctuate after_value) (sym c.skip_blanks-at.ensures.same)
          ∙ brace_goes_on _ _ (operator_at text at 125 c.if-at-text.true c.if-text-at-eq125.true (refl, refl));
      inside = c.if-at-text.true;
      plain = omega (arith, c.if-text-at-eq125.true);
    }

pub returns-then-text-name-eq34 : goal.returns-then-text-name-eq34
returns-then-text-name-eq34 c =
    let text = c.args.text.now in
    let name = c.skip_blanks-name.result in
    let quote = drop_more text name 0 c.if-name-text.true ∙ ap (λ x. x ∷ drop (name + 1) text) c.if-text-name-eq34.true in
    record {
      read = ap (punctuate after_value) (sym c.skip_blanks-at.ensures.same)
          ∙ after_comma_read _ _ c.in_ok-comma.ensures.read
          ∙ ap (punctuate after_comma) (sym c.skip_blanks-name.ensures.same)
          ∙ quote_goes_on (drop name text) _ quote;
      inside = c.if-name-text.true;
      plain = omega (arith, c.if-text-name-eq34.true);
    }
