use Rattle.chip_file.proofs.JsonNames.{◌≡◌, ◌∷◌, refl, ap, sym, arith, option_and_then, token_of, Token, number, unsigned}
use Rattle.chip_file.proofs.JsonNames.{as_u64, number_view}
use Rattle.chip_file.proofs.Turns.{nothing_read, number_read, number_refused}
use Rattle.chip_file.proofs.Shapes.{not_number}
use Rattle.chip_file.proofs.graph_text.rows.number.Goals as goal

pub returns-in_err-token-clause-value : goal.returns-in_err-token-clause-value
returns-in_err-token-clause-value c =
    let none = nothing_read c.args.depth c.args.reader.now (grind arith) in grind (arith, none)

pub returns-in-Some-clause-value : goal.returns-in-Some-clause-value
returns-in-Some-clause-value c =
    let is : c.args.reader.now ≡ Token.number c.in-Number.text.now ∷ c.next.new.self = grind arith in (
      number (unsigned c.in-Some.count),
      rw is (number_read c.args.depth c.next.new.self _ _ (sym c.in-Some.ensures)),
      refl,
    )

pub returns-in-Some-read_numeral-clause-value : goal.returns-in-Some-read_numeral-clause-value
returns-in-Some-read_numeral-clause-value c =
    let is : c.args.reader.now ≡ Token.number c.in-Number.text.now ∷ c.next.new.self = grind arith in (
      number (number_view c.in-Some-read_numeral.number),
      rw is (number_read c.args.depth c.next.new.self _ _ c.in-Some-read_numeral.ensures),
      sym c.as_u64.ensures,
    )

pub returns-in-None-clause-value : goal.returns-in-None-clause-value
returns-in-None-clause-value c =
    let is : c.args.reader.now ≡ Token.number c.in-Number.text.now ∷ c.next.new.self = grind arith in
    rw is (number_refused c.args.depth c.next.new.self _ c.in-None.ensures)

pub returns : goal.returns
returns c =
    let first : c.args.reader.now ≡ token_of c.in_ok-token.token ∷ c.next.new.self = grind arith in
    let read = c.in_ok-pass_rest.ensures.value in
    let other = not_number c.args.depth c.next.new.self c.pass_rest.new.reader read.0 c.in_ok-token.token
    c.in_default.not-Number read.1 in record {
      value = (read.0, rw first read.1, ap (option_and_then as_u64) other);
      shorter = grind (arith, first);
    }
