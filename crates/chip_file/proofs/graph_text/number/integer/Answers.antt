use Rattle.chip_file.proofs.JsonNames.{arith}
use Rattle.chip_file.proofs.Digits.{integer_read}
use Rattle.chip_file.proofs.graph_text.number.integer.Goals as goal

pub returns-then-count-bytes : goal.returns-then-count-bytes
returns-then-count-bytes c =
    let few = c.leading_number-value.ensures.few in
    integer_read c.args.text.now c.as_bytes-bytes.result.now c.leading_number-value.result.1
    c.leading_number-value.result.0 c.as_bytes-bytes.ensures.value
    (omega (arith, c.if-count-gt0.true, c.if-count-bytes.true)) (omega (arith, few.0, c.if-count-bytes.true))
    (omega (arith, c.if-count-bytes.true)) c.leading_number-value.ensures.digits c.leading_number-value.ensures.value
