use Rattle.std.proofs.Common.{◌≡◌, ℕ, ◌+◌, ◌*◌, ◌==◌, if◌then◌else◌, take, sum, sum_by, slice_index}
use Rattle.chip_sequence.proofs.firing.send.Given as goal

abbrev pub invariant-loop-link : goal.invariant-loop-link
invariant-loop-link l = record {
  each : (u : ℕ) → slice_index l.position u ≡ slice_index l.fn.position u + l.k * sum_by
      (λ e. if e.head == u then e.mult else 0) (take l.link-index l.links);
  all : sum l.position ≡ sum l.fn.position + l.k * sum_by (λ e. e.mult) (take l.link-index l.links);
}
