use Rattle.chip_file.proofs.Names.{◌≡◌, ◌∙◌, arith, get_or, None, rules, sym, digit_value, digit_from_value}
use Rattle.std.proofs.lemmas.Str.{digit_value_digit}
use Rattle.chip_file.proofs.NumberLemmas.{number_of-few, number_of-most, number_of-none}
use Rattle.chip_file.proofs.number.number_of.Goals as goal

pub returns-then-count-eq0 : goal.returns-then-count-eq0
returns-then-count-eq0 c =
    let read = c.leading_number-value.ensures in
    let none = c.if-count-eq0.true in
    sym (number_of-none c.args.field.now c.leading_number-value.result.1 read.few read.most (λ _. none)
    (λ twenty. read.most (omega arith) (omega arith)))

pub returns-then-count-field : goal.returns-then-count-field
returns-then-count-field c =
    let read = c.leading_number-value.ensures in
    let some = c.if-count-eq0.false in
    number_of-few c.args.field.now c.leading_number-value.result.1 c.leading_number-value.result.0 (omega arith)
    read.few.0 c.if-count-field.true read.digits read.value

pub returns-then-field-ne-MAX_DIGITS : goal.returns-then-field-ne-MAX_DIGITS
returns-then-field-ne-MAX_DIGITS c =
    let read = c.leading_number-value.ensures in
    sym (number_of-none c.args.field.now c.leading_number-value.result.1 read.few read.most
    (λ all. absurd (c.if-count-field.false all)) (λ twenty. absurd (c.if-field-ne-MAX_DIGITS.true twenty)))

pub returns-then-not-is_ascii_digit : goal.returns-then-not-is_ascii_digit
returns-then-not-is_ascii_digit c =
    let read = c.leading_number-value.ensures in
    sym (number_of-none c.args.field.now c.leading_number-value.result.1 read.few read.most
    (λ all. absurd (c.if-count-field.false all)) (λ _. sym c.if-not-is_ascii_digit.ensures.value))

pub returns-in_err-checked_mul : goal.returns-in_err-checked_mul
returns-in_err-checked_mul c =
    let read = c.leading_number-value.ensures in
    let digit = c.if-not-is_ascii_digit.ensures in
    let none : c.from_residual.result ≡ None = search rules in
    none ∙ number_of-most c.args.field.now c.leading_number-value.result.1 c.leading_number-value.result.0 None read.few.0
    read.most c.if-field-ne-MAX_DIGITS.false (sym digit.value) digit.bound read.digits read.value
    (λ fits. c.in_err-checked_mul.ensures (omega (arith, fits)))

pub returns : goal.returns
returns c =
    let read = c.leading_number-value.ensures in
    let digit = c.if-not-is_ascii_digit.ensures in
    let byte = get_or c.args.field.now c.leading_number-value.result.1 0 in
    let is = digit_value_digit byte (digit_from_value byte digit.bound) in
    let last : c.from.result ≡ digit_value byte = omega (arith, c.from.ensures, is) in
    number_of-most c.args.field.now c.leading_number-value.result.1 c.leading_number-value.result.0 _ read.few.0 read.most
    c.if-field-ne-MAX_DIGITS.false (sym digit.value) digit.bound read.digits read.value
    (rw (← c.in_ok-checked_mul.ensures.1, ← last) c.checked_add.ensures)
