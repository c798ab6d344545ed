use Rattle.std.proofs.Common.{◌∙◌, ℕ, ap, List, filter, arith, zero-add}
use Rattle.std.proofs.lemmas.Grind.{common_steps}
use Rattle.std.specs.List.{enumerate_from}
use Rattle.std.proofs.lemmas.List.{take_all, append-nil}
use Rattle.std.proofs.lemmas.List.Elements.{filter_more}
use Rattle.std.proofs.lemmas.List.FromFn.{length-enumerate_from, get_or-enumerate_from}
use Rattle.chip_run.specs.Feeding.{has_chips}
use Rattle.chip_run.proofs.feeding.feeds_of.Goals as goal
use Rattle.chip_run.proofs.feeding.feeds_of.Goals.{then-count-gt0+in_ok-push, else-count-gt0}

pub loop-vertex-preserved : goal.loop-vertex-preserved
loop-vertex-preserved c =
    let chips : List ℕ = c.args.chips.now in
    let v : ℕ = c.loop-vertex.vertex in
    let long = length-enumerate_from 0 chips in
    let here = get_or-enumerate_from 0 chips v (0, 0) (omega arith) in
    let more = rw (here, zero-add v) at (filter_more has_chips (enumerate_from 0 chips) v (0, 0) (omega arith)) in
    elim c.if-count-gt0.branch [
      | then-count-gt0+in_ok-push w ↦ grind (arith, common_steps, more, append-nil)
      | else-count-gt0 w ↦ grind (arith, common_steps, more, append-nil)
    ]

pub returns : goal.returns
returns c =
    let long = length-enumerate_from 0 c.args.chips.now in
    c.loop-vertex.invariant ∙ ap (filter has_chips) (take_all c.loop-vertex.vertex (enumerate_from 0 c.args.chips.now)
    (omega (arith, c.loop-vertex-test.false)))
