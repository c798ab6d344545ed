-- One edge by the lists of counts that went over it: what its tail claimed and put, what its head took, and how it was
-- sealed. Models that know all events of an edge use these lists; a running tail or head keeps only numbers (`Ends`).
-- `tail_state` and `head_state` say which numbers belong to which lists, and each step here is the step of the same
-- name there.
use Rattle.std.specs.Prelude.{◌≡◌, ℕ, ◌+◌, ◌%◌, ◌<◌, ◌≤◌, Bool, true, false, ◌==◌, if◌then◌else◌, List, [], ◌∷◌, ◌++◌}
use Rattle.std.specs.Prelude.{length, take, slice_index, Option, Some, None, is_some, option_to_list}
use Rattle.chip_link.specs.Words.{edge_word}
use Rattle.chip_link.specs.Ends.{TailState, HeadState}

-- the tail's steps on an edge: the counts of the messages that were put, in order; the count of the one claimed and not
-- put; the notes that the next cell was seen empty and that a claim was refused
pub record Tail : Type 0 where
  pub put : List ℕ
  pub held : Option ℕ
  pub clear : Bool
  pub refused : Bool

-- a tail that has sent nothing
abbrev pub fresh_tail : Tail
fresh_tail = record { put = []; held = None; clear = false; refused = false }

-- a tail whose edge opens with one message of `count` chips
abbrev pub first_tail : ℕ → Tail
first_tail count = record { put = count ∷ []; held = None; clear = false; refused = false }

-- the counts of the messages that were claimed, in order
abbrev pub sent_counts : Tail → List ℕ
sent_counts t = t.put ++ option_to_list t.held

-- their number
abbrev pub claims_of : Tail → ℕ
claims_of t = length t.put + length (option_to_list t.held)

-- after a look at the next cell
abbrev pub after_clear : ℕ → Tail → Tail
after_clear cell t = record t { clear = cell == 0 }

-- after a claim for this count that saw this edge word. The test is the one of the exchange
abbrev pub after_claim : ℕ → ℕ → Tail → Tail
after_claim count word t = if word == claims_of t then record t { held = Some count; clear = false }
    else record t { clear = false; refused = true }

-- after the store of what is claimed and not put
abbrev pub after_put : Tail → Tail
after_put t = record t { put = sent_counts t; held = None }

-- the counts that the head took, after one more take from its cell
abbrev pub after_take : ℕ → List ℕ → List ℕ
after_take cell got = if cell == 0 then got else got ++ cell ∷ []

-- the edge word that the first seal saw, after one more seal
abbrev pub after_seal : ℕ → Option ℕ → Option ℕ
after_seal word None = Some word
after_seal word (Some first) = Some first

-- the edge word of these claims and this seal
abbrev pub word_of : Tail → Option ℕ → ℕ
word_of t stop = edge_word (claims_of t) (is_some stop)

-- what the tail sees in the cell of the next place to claim: with a full ring the oldest message not taken, else 0
abbrev pub cell_at_tail : ℕ → Tail → List ℕ → ℕ
cell_at_tail ring t got = if claims_of t == length got + ring then slice_index t.put (length got) else 0

-- what the head sees in the cell of the next place to take: the next message that was put, else 0
abbrev pub cell_at_head : Tail → List ℕ → ℕ
cell_at_head t got = slice_index t.put (length got)

-- a first seal, if there was one, saw this number of claims
abbrev pub IsSealedAt : ℕ → Option ℕ → Type 0
IsSealedAt n None = Unit {0}
IsSealedAt n (Some first) = first ≡ n

-- the invariant of an edge after every list of allowed steps. No word is read
pub record Sound (ring : ℕ) (t : Tail) (got : List ℕ) (stop : Option ℕ) : Type 0 where
  -- nothing was claimed since the first seal
  pub sealed_at : IsSealedAt (claims_of t) stop
  -- what was taken is a prefix of what was put
  pub prefix : got ≡ take (length got) t.put
  pub behind : length got ≤ length t.put
  -- the ring holds what is put and not taken
  pub within : length t.put ≤ length got + ring
  -- a cell that was seen empty, or claimed, is still free
  pub room : t.clear ≡ true → length t.put < length got + ring
  pub free : (count : ℕ) → t.held ≡ Some count → length t.put < length got + ring
  -- every message carries a chip
  pub counted : (p : ℕ) → p < length t.put → 0 < slice_index t.put p
  pub held_counted : (count : ℕ) → t.held ≡ Some count → 0 < count
  -- if the next cell was seen empty, no message is claimed and not put
  pub quiet : t.clear ≡ true → t.held ≡ None

-- what the shared words show of it. The cells are given by places, from the next one to take on, as many as the ring
-- has cells: each cell is one place, and holds its count if that message was put, else 0
pub record WordsShow (ring word : ℕ) (cell : ℕ → ℕ) (t : Tail) (got : List ℕ) (stop : Option ℕ) : Type 0 where
  pub word_is : word ≡ word_of t stop
  pub ring_is : (p : ℕ) → length got ≤ p → p < length got + ring → cell (p % ring) ≡ slice_index t.put p

-- the state of a running tail with these lists
abbrev pub tail_state : ℕ → ℕ → Tail → TailState
tail_state edge ring t = record {
  edge = edge;
  ring = ring;
  claims = claims_of t;
  held = t.held;
  clear = t.clear;
  refused = t.refused;
}

-- the state of a running head with them
abbrev pub head_state : ℕ → ℕ → List ℕ → HeadState
head_state edge ring got = record { edge = edge; ring = ring; taken = length got }
