use Rattle.chip_actor.proofs.Names.{◌≡◌, ℕ, ◌<◌, ◌≤◌, false, slice_index, not, ◌==◌, out_on}
use Rattle.chip_actor.proofs.ends.outs.Outs.next_pending.Given as goal

abbrev pub invariant-loop-next : goal.invariant-loop-next
invariant-loop-next l = (k : ℕ) → l.place ≤ k → k < l.next
    → not ((out_on l.self (slice_index l.self.edges k)).pending == 0) ≡ false
