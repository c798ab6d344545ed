use Rattle.chip_file.proofs.JsonNames.{◌≡◌, ◌∷◌, arith, inr, refl, token_of, Token}
use Rattle.chip_file.proofs.Turns.{nothing_read, array_deep}
use Rattle.chip_file.proofs.Rowed.{rows_mapped, no_array_rows}
use Rattle.chip_file.proofs.Shapes.{not_array}
use Rattle.chip_file.proofs.graph_text.rows.edges.Goals as goal

pub returns-in_err-token-clause-value : goal.returns-in_err-token-clause-value
returns-in_err-token-clause-value c =
    let none = nothing_read c.args.depth c.args.reader.now (grind arith) in grind (arith, none)

pub returns-then-depth-eq0-clause-value : goal.returns-then-depth-eq0-clause-value
returns-then-depth-eq0-clause-value c =
    let is : c.args.reader.now ≡ Token.begin_array ∷ c.next.new.self = grind arith in
    inr (refl, rw is (array_deep c.args.depth c.next.new.self (omega arith)))

pub returns-in-BeginArray-clause-value : goal.returns-in-BeginArray-clause-value
returns-in-BeginArray-clause-value c =
    let is : c.args.reader.now ≡ Token.begin_array ∷ c.next.new.self = grind arith in
    rows_mapped c.args.most c.args.depth c.next.new.self c.args.reader.now _ _ is (omega arith) c.rows.ensures.value

pub returns : goal.returns
returns c =
    let first : c.args.reader.now ≡ token_of c.in_ok-token.token ∷ c.next.new.self = grind arith in
    let read = c.in_ok-pass_rest.ensures.value in
    let other = not_array c.args.depth c.next.new.self c.pass_rest.new.reader read.0 c.in_ok-token.token
    c.in_default.not-BeginArray read.1 in record {
      value = (read.0, rw first read.1, no_array_rows c.args.most read.0 other);
      shorter = grind (arith, first);
    }
