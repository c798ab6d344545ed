-- Serves Link.antt, Ends.antt.
-- The numbers that a running tail and head keep follow the lists of their edge: each step on the lists is the same step
-- on the numbers.
use Rattle.std.proofs.Common.{◌≡◌, ℕ, ◌%◌, true, List, [], ◌∷◌, length}
use Rattle.std.proofs.Common.{Some, None, arith, length-append}
use Rattle.std.proofs.lemmas.Bool.Decides.{nat_tests}
use Rattle.chip_link.specs.Ends.{may_clear, tail_after_clear, tail_after_claim, tail_after_put, put_of}
use Rattle.chip_link.specs.Ends.{head_after_take}
use Rattle.chip_link.specs.Link.{Tail, after_clear, after_claim, after_put, after_take}
use Rattle.chip_link.specs.Link.{tail_state, head_state}
use Rattle.chip_link.proofs.SoundsLemmas.{none_held, one_held, length-sent_counts}

module _ (edge ring : ℕ) (t : Tail) where
  -- a look that counts
  pub tail_clears : (cell : ℕ) → may_clear (tail_state edge ring t) ≡ true
      → tail_after_clear cell (tail_state edge ring t) ≡ tail_state edge ring (after_clear cell t)
  tail_clears cell may = rw may

  -- a claim of a tail that holds nothing
  pub tail_claims : (count word : ℕ) → t.held ≡ None
      → tail_after_claim word count (tail_state edge ring t) ≡ tail_state edge ring (after_claim count word t)
  tail_claims count word none = let all_put = none_held t none in grind (arith, nat_tests)

  -- a store, also if there is nothing to put
  pub tail_puts : tail_after_put (tail_state edge ring t) ≡ tail_state edge ring (after_put t)
  tail_puts = let n = length-sent_counts t in grind (arith, nat_tests)

  -- the cell of what is held is the one after those that were put
  pub puts_at : (count : ℕ) → t.held ≡ Some count → put_of (tail_state edge ring t) ≡ Some (length t.put % ring, count)
  puts_at count one = let claimed_one = one_held t count one in grind (arith, nat_tests)

-- a look at the head's cell, whether it is empty or not
pub head_takes : (edge ring : ℕ) (got : List ℕ) (cell : ℕ)
    → head_after_take cell (head_state edge ring got) ≡ head_state edge ring (after_take cell got)
head_takes edge ring got cell = let more = length-append got (cell ∷ []) in grind (arith, nat_tests)
