use Rattle.chip_file.proofs.JsonNames.{◌≡◌, ◌≢◌, ◌-◌, ◌<◌, length, take, drop, get_or, arith, length-drop, take_all}
use Rattle.chip_file.proofs.Lexemes.{number_at}
use Rattle.chip_file.proofs.graph_text.plain.number.Goals as goal
use Rattle.chip_file.proofs.graph_text.plain.number.Goals.{else-count-gt1-via-then-count-gt1+else-rest-eq48}
use Rattle.chip_file.proofs.graph_text.plain.number.Goals.{else-count-gt1-via-else-count-gt1}

pub returns : goal.returns
returns c =
    let text = c.args.text.now in
    let start = c.skip_blanks-start.result in
    let rest = take (length text - start) (drop start text) in
    let count = c.leading_number-value.result.1 in
    let digits = c.leading_number-value.ensures in
    let blanks = c.skip_blanks-start.ensures in
    let same : rest ≡ drop start text = take_all _ _ (omega (arith, length-drop start text)) in
    let first : (1 < count) → get_or rest 0 0 ≢ 48 = elim c.else-count-gt1.branch [
      | else-count-gt1-via-then-count-gt1+else-rest-eq48 w ↦ λ h. w.if-rest-eq48.false
      | else-count-gt1-via-else-count-gt1 w ↦ λ h. let never : ⊥ = omega (arith, w.if-count-gt1.false) in absurd never
    ] in
    number_at text rest c.args.from start count c.leading_number-value.result.0 c.args.end same
    blanks.same blanks.bounds.0 blanks.bounds.1 digits.digits digits.value
    (omega (arith, c.if-count-eq0.false)) digits.few.0
    (omega (arith, digits.few.1, c.if-count-rest.false)) c.if-rest-count.false c.requires.operator first
