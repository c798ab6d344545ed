use Rattle.std.proofs.Common.{ℕ, slice_index, inr}
use Rattle.chip_recurrent.proofs.RowLemmas.{widened}
use Rattle.chip_recurrent.proofs.recurrent.are_recurrent.Goals as goal

pub returns : goal.returns
returns c =
    let script : ℕ → ℕ = slice_index c.in_ok-burning.burning.script.items in
    let chips : ℕ → ℕ = slice_index c.in_ok-burning.burning.chips.items in
    let found = c.in_ok-burning.ensures.burning in
    widened _ _ _ _
    (λ flags done. record {
      is_graph = found.is_graph;
      burning = found.within;
      tested = (script, chips, found.least, done);
    })
    (λ fault is. inr (script, chips, found.least, is)) c.each_test.result
    (rw (c.in_ok-burning.ensures.graph, c.deref.ensures.value) at c.each_test.ensures)
