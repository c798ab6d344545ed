use Rattle.std.proofs.Common.{ℕ, ◌+◌, ◌≤◌, List, length, slice_index, sym, ap, ◌∙◌, subst, arith}
use Rattle.chip_guess.proofs.GuessLemmas.{length_more, within_more}
use Rattle.chip_guess.proofs.burning.Burning.counts.Goals as goal

pub loop-vertex-preserved : goal.loop-vertex-preserved
loop-vertex-preserved c =
    let so_far = c.loop-vertex.invariant in
    let pushed = c.in_ok-push.ensures.items in
    let least = c.min.ensures in
    record {
      each = ap length pushed ∙ length_more c.loop-vertex.counts.items c.min.result
          ∙ ap (λ (n : ℕ). n + 1) so_far.each;
      within = λ v. subst (λ (l : List ℕ). slice_index l v ≤ c.args.limit) (sym pushed)
          (within_more c.loop-vertex.counts.items c.min.result (λ w. c.args.limit) so_far.within (omega arith) v);
    }
