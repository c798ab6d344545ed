use Rattle.std.proofs.Common.{◌≡◌, ◌∙◌, ℕ, ◌*◌, ◌+◌, length, slice_index, drop, refl, ap, arith, inr}
use Rattle.std.proofs.Common.{length-drop, zero-mul}
use Rattle.std.proofs.lemmas.Result.{err_from_is_err_and}
use Rattle.std.proofs.lemmas.List.{drop-drop}
use Rattle.chip_graph.specs.Multigraph.{Multigraph}
use Rattle.chip_recurrent.specs.Rows.{row}
use Rattle.chip_recurrent.proofs.RowLemmas.{room_for_row}
use Rattle.chip_recurrent.proofs.RecurrentLemmas.{tested_none, tested_more}
use Rattle.chip_recurrent.proofs.recurrent.each_test.Goals as goal

pub loop-number-init : goal.loop-number-init
loop-number-init c = record {
  same_graph = refl;
  rest = rw (zero-mul c.args.graph.vertices) refl;
  done = rw c.in_ok-flags.ensures.items (tested_none c.args.graph (slice_index c.args.burning.now) c.args.chips.now);
}

pub split_at-requires : goal.split_at-requires
split_at-requires c =
    let long = length-drop (c.loop-number.number * c.args.graph.vertices) c.args.chips.now in
    let room = room_for_row c.args.graph.vertices c.loop-number.number c.args.rows c.loop-number-test.true in
    let left = ap length c.loop-number.invariant.rest in
    let all = c.requires.chips_each in
    let is = c.vertices-vertices.ensures.value in omega arith

pub returns-in_err-flag : goal.returns-in_err-flag
returns-in_err-flag c =
    let is = c.loop-number.invariant in
    let i : ℕ = c.loop-number.number in
    let G : Multigraph = c.args.graph in
    let n : c.vertices-vertices.result ≡ G.vertices = c.vertices-vertices.ensures.value in
    let start : c.split_at.result.0.now ≡ row G.vertices c.args.chips.now i = c.split_at.ensures.front
    ∙ rw (is.rest, n) refl in
    let p = err_from_is_err_and c.from_residual-in_err-flag.result c.from_residual-in_err-flag.ensures.1 in
    rw (p.1, p.2) (inr (
      i,
      c.loop-number-test.true,
      (λ j l. (slice_index c.loop-number.flags.items j, is.done.each j l)),
      rw (is.same_graph, start) at c.in_err-flag.ensures.flag,
    ))

pub loop-number-preserved : goal.loop-number-preserved
loop-number-preserved c =
    let is = c.loop-number.invariant in
    let i : ℕ = c.loop-number.number in
    let G : Multigraph = c.args.graph in
    let n : c.vertices-vertices.result ≡ G.vertices = c.vertices-vertices.ensures.value in
    let start : c.split_at.result.0.now ≡ row G.vertices c.args.chips.now i = c.split_at.ensures.front
    ∙ rw (is.rest, n) refl in
    let next : c.split_at.result.1.now ≡ drop ((i + 1) * G.vertices) c.args.chips.now = c.split_at.ensures.back
    ∙ rw (is.rest, n, drop-drop) (ap (λ (k : ℕ). drop k c.args.chips.now) (omega arith)) in
    let test = rw (is.same_graph, start) at c.in_ok-flag.ensures.flag in record {
      same_graph = c.in_ok-flag.ensures.graph ∙ is.same_graph;
      rest = next;
      done = rw c.in_ok-push.ensures.items
          (tested_more G (slice_index c.args.burning.now) c.args.chips.now i c.loop-number.flags.items
          c.in_ok-flag.flag is.done test);
    }

pub returns : goal.returns
returns c =
    let all : c.loop-number.number ≡ c.args.rows = omega arith in
    rw all at c.loop-number.invariant.done
