use Rattle.chip_file.proofs.JsonNames.{◌≡◌, ◌∷◌, ap, arith, option_and_then, token_of, Token, numbers_of, edge_of_numbers}
use Rattle.chip_file.proofs.Turns.{nothing_read, array_deep, array_mapped}
use Rattle.chip_file.proofs.Shapes.{not_array}
use Rattle.chip_file.proofs.graph_text.rows.edge.Goals as goal

pub returns-in_err-token-clause-value : goal.returns-in_err-token-clause-value
returns-in_err-token-clause-value c =
    let none = nothing_read c.args.depth c.args.reader.now (grind arith) in grind (arith, none)

pub returns-then-depth-eq0-clause-value : goal.returns-then-depth-eq0-clause-value
returns-then-depth-eq0-clause-value c =
    let is : c.args.reader.now ≡ Token.begin_array ∷ c.next.new.self = grind arith in
    rw is (array_deep c.args.depth c.next.new.self (omega arith))

pub returns-in-BeginArray-clause-value : goal.returns-in-BeginArray-clause-value
returns-in-BeginArray-clause-value c =
    let is : c.args.reader.now ≡ Token.begin_array ∷ c.next.new.self = grind arith in
    array_mapped c.args.depth c.next.new.self c.args.reader.now _ _ _ (λ ds edge e. e) _ is
    (omega arith) c.row_of.ensures.value

pub returns : goal.returns
returns c =
    let first : c.args.reader.now ≡ token_of c.in_ok-token.token ∷ c.next.new.self = grind arith in
    let read = c.in_ok-pass_rest.ensures.value in
    let other = not_array c.args.depth c.next.new.self c.pass_rest.new.reader read.0 c.in_ok-token.token
    c.in_default.not-BeginArray read.1 in record {
      value = (
        read.0,
        rw first read.1,
        ap (λ o. option_and_then edge_of_numbers (option_and_then numbers_of o))
            other,
      );
      shorter = grind (arith, first);
    }
