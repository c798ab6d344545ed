-- One edge as it runs: its shared words, its two ends, and the messages that went in and came out. The effect of a step
-- on an end is that of its call in `Ends`.
use Rattle.std.specs.Prelude.{ℕ, ◌+◌, ◌^◌, ◌&&◌, List, [], ◌∷◌, ◌++◌, replicate, slice_index, slice_set, if◌then◌else◌}
use Rattle.std.specs.Prelude.{nat_lt, Option, Some, None, option_to_list, bit_or}
use Rattle.chip_link.specs.declared.message.Message.{Message}
use Rattle.chip_link.specs.Words.{word_after_exchange}
use Rattle.chip_link.specs.Ends.{TailState, HeadState, new_tail, new_head, tail_cell, head_cell, tail_after_clear}
use Rattle.chip_link.specs.Ends.{tail_after_claim, tail_after_put, message_claimed, put_of, is_count, head_after_take}
use Rattle.chip_link.specs.Ends.{message_taken}
use Rattle.chip_link.specs.Link.{after_seal}

-- the shared words (the edge word and the ring of cells), the two ends, the word that the first seal saw,
-- and the messages that were claimed and taken, in order
pub record LiveEdge : Type 0 where
  pub word : ℕ
  pub cells : List ℕ
  pub tail : TailState
  pub head : HeadState
  pub stop : Option ℕ
  pub claimed : List Message
  pub taken : List Message

-- an edge on which nothing happened
abbrev pub new_edge : ℕ → ℕ → LiveEdge
new_edge edge ring = record {
  word = 0;
  cells = replicate ring 0;
  tail = new_tail edge ring;
  head = new_head edge ring;
  stop = None;
  claimed = [];
  taken = [];
}

-- the steps: the tail reads its cell (`cleared`), claims for a count (`claim_next`, `claimed`) and puts what it
-- claimed (`put_value`), the head takes (`taken`), and a stopper seals
pub data EdgeStep : Type 0 where
  Clear : EdgeStep
  Claim : (count : ℕ) → EdgeStep
  Put : EdgeStep
  Take : EdgeStep
  Seal : EdgeStep

-- the ring after a store, if there is one
abbrev pub cells_after_store : Option (ℕ × ℕ) → List ℕ → List ℕ
cells_after_store None cells = cells
cells_after_store (Some at) cells = slice_set cells at.0 at.1

-- a claim is one compare-and-exchange of the edge word; the tail gets the word that it found
abbrev pub claim_on : ℕ → LiveEdge → LiveEdge
claim_on count s = record s {
  word = word_after_exchange s.tail.claims (s.tail.claims + 1) s.word;
  tail = tail_after_claim s.word count s.tail;
  claimed = s.claimed ++ option_to_list (message_claimed s.word count s.tail);
}

-- a take swaps the head's cell with 0; the head gets the old value
abbrev pub take_on : ℕ → LiveEdge → LiveEdge
take_on cell s = record s {
  cells = slice_set s.cells (head_cell s.head) 0;
  head = head_after_take cell s.head;
  taken = s.taken ++ option_to_list (message_taken cell s.head);
}

-- one step. A step that its call does not allow changes nothing: a claim before the cell was seen empty or for a count
-- out of range, and a take after 2 ^ 62 of them. For a look and a put the tail's own tests do that (`may_clear`,
-- `put_of`)
abbrev pub edge_step : EdgeStep → LiveEdge → LiveEdge
edge_step Clear s = record s { tail = tail_after_clear (slice_index s.cells (tail_cell s.tail)) s.tail }
edge_step (Claim count) s = if s.tail.clear && is_count count then claim_on count s else s
edge_step Put s = record s { cells = cells_after_store (put_of s.tail) s.cells; tail = tail_after_put s.tail }
edge_step Take s = if nat_lt s.head.taken (2 ^ 62) then take_on (slice_index s.cells (head_cell s.head)) s else s
edge_step Seal s = record s { word = bit_or s.word (2 ^ 63); stop = after_seal s.word s.stop }

-- a list of steps, in order
abbrev pub steps : List EdgeStep → LiveEdge → LiveEdge
steps [] s = s
steps (x ∷ xs) s = steps xs (edge_step x s)
