use Rattle.chip_file.proofs.JsonNames.{◌≡◌, ◌∷◌, None, ap, ◌∙◌, arith, token_of, Token, object, max_depth, next_value}
use Rattle.chip_file.proofs.Turns.{nothing_read, object_read}
use Rattle.chip_file.proofs.Shapes.{not_object}
use Rattle.chip_file.proofs.Standing.{or_refused, no_object_file}
use Rattle.chip_file.proofs.graph_text.file.next_file.Goals as goal

pub returns-in_err-token : goal.returns-in_err-token
returns-in_err-token c =
    let none = nothing_read max_depth c.args.reader.now (grind arith) in grind (arith, none)

pub returns-in_err-parts : goal.returns-in_err-parts
returns-in_err-parts c =
    let is : c.args.reader.now ≡ Token.begin_object ∷ c.next.new.self = grind arith in
    let stopped = or_refused (c.in_err-parts.ensures _ (c.new.ensures c.args.most)) (λ none. ap (next_value max_depth) is
    ∙ object_read max_depth c.next.new.self None (omega arith) none) in
    grind (arith, stopped)

pub returns-in-BeginObject : goal.returns-in-BeginObject
returns-in-BeginObject c =
    let is : c.args.reader.now ≡ Token.begin_object ∷ c.next.new.self = grind arith in
    let read = c.in_ok-parts.ensures _ (c.new.ensures c.args.most) in (
      object read.0,
      ap (next_value max_depth) is ∙ object_read max_depth c.next.new.self _ (omega arith) read.1,
      c.into_file.ensures c.args.most read.0 read.2,
    )

pub returns : goal.returns
returns c =
    let first : c.args.reader.now ≡ token_of c.in_ok-token.token ∷ c.next.new.self = grind arith in
    let read = c.in_ok-pass_rest.ensures.value in
    let other = not_object max_depth c.next.new.self c.pass_rest.new.reader read.0 c.in_ok-token.token
    c.in_default.not-BeginObject read.1 in
    (read.0, ap (next_value max_depth) first ∙ read.1, no_object_file c.args.most read.0 other)
