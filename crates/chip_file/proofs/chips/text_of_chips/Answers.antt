use Rattle.chip_file.proofs.Names.{◌++◌, ℕ, List, codes, take, get_or, sym, ap, ◌∙◌, append_assoc}
use Rattle.chip_file.specs.ChipsText.{chips_line, chips_lines}
use Rattle.chip_file.proofs.WrittenLemmas.{chips_lines-more}
use Rattle.chip_file.proofs.chips.text_of_chips.Goals as goal

pub loop-vertex-preserved : goal.loop-vertex-preserved
loop-vertex-preserved c =
    let chips : List ℕ = c.args.chips.now in
    let i : ℕ = c.loop-vertex.vertex in
    let next : List ℕ = chips_line i (get_or chips i 0) in
    c.in_ok-push_line.ensures
    ∙ ap (λ (t : List ℕ). t ++ next) c.loop-vertex.invariant
    ∙ append_assoc (codes "vertex,chips\n") (chips_lines 0 (take i chips)) next
    ∙ ap (λ (t : List ℕ). codes "vertex,chips\n" ++ t) (sym (chips_lines-more chips i c.loop-vertex-test.true))
