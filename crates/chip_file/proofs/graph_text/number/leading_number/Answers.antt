use Rattle.chip_file.proofs.JsonNames.{get_or, arith, digits_value_more, digits_more}
use Rattle.chip_file.proofs.Digits.{value_fits, digit_is}
use Rattle.chip_file.proofs.graph_text.number.leading_number.Goals as goal

pub overflow_mul-value : goal.overflow_mul-value
overflow_mul-value c =
    let l = c.loop-count in
    let few = value_fits c.args.text.now l.count l.value l.invariant.digits l.invariant.so_far (omega arith) in
    omega arith

pub overflow_add-value : goal.overflow_add-value
overflow_add-value c =
    let l = c.loop-count in
    let few = value_fits c.args.text.now l.count l.value l.invariant.digits l.invariant.so_far (omega arith) in
    let digit = digit_is (get_or c.args.text.now l.count 0) c.if-is_ascii_digit.ensures.bound in
    let is = c.from.ensures in
    omega arith

pub loop-count-preserved : goal.loop-count-preserved
loop-count-preserved c =
    let l = c.loop-count in
    let more = digits_value_more 10 c.args.text.now l.count c.if-count-text.true in
    let digit = digit_is (get_or c.args.text.now l.count 0) c.if-is_ascii_digit.ensures.bound in
    let was = l.invariant.so_far in
    let is = c.from.ensures in
    record {
      digits = digits_more 10 c.args.text.now l.count c.if-count-text.true l.invariant.digits
          c.if-is_ascii_digit.ensures.bound;
      so_far = omega arith;
      few = omega arith;
      inside = omega arith;
    }
