-- The state of the two ends of one edge, as plain data, and the effect of each call on it. `TailLink` and `HeadLink`
-- are seen as these records, and the model of one edge in `Edge` takes its steps by the same definitions.
use Rattle.std.specs.Prelude.{ℕ, ◌+◌, ◌-◌, ◌%◌, ◌^◌, Bool, true, false, not, ◌&&◌, ◌==◌, nat_lt, nat_le, if◌then◌else◌}
use Rattle.std.specs.Prelude.{Option, Some, None, option_map, is_none}
use Rattle.chip_link.specs.declared.message.Message.{Message}

-- the tail of an edge with a ring of `ring` cells: the number of messages it claimed, the count of the one claimed and
-- not put, whether it saw the cell of the next place empty, and whether a seal refused a claim
pub record TailState : Type 0 where
  pub edge : ℕ
  pub ring : ℕ
  pub claims : ℕ
  pub held : Option ℕ
  pub clear : Bool
  pub refused : Bool

-- a tail that has claimed nothing
abbrev pub new_tail : ℕ → ℕ → TailState
new_tail edge ring = record { edge = edge; ring = ring; claims = 0; held = None; clear = false; refused = false }

-- the cell of the next place to claim
abbrev pub tail_cell : TailState → ℕ
tail_cell t = t.claims % t.ring

-- a look at that cell counts: no message waits to be put, no claim was refused, and a place is left
abbrev pub may_clear : TailState → Bool
may_clear t = (is_none t.held && not t.refused) && nat_lt t.claims (2 ^ 62)

-- after a look that found this in the cell: 0 is an empty cell
abbrev pub tail_after_clear : ℕ → TailState → TailState
tail_after_clear cell t = if may_clear t then record t { clear = cell == 0 } else t

-- the next place to claim if its cell has these contents
abbrev pub place_for : ℕ → TailState → Option ℕ
place_for cell t = if may_clear t && cell == 0 then Some t.claims else None

-- the word that a claim expects and the word that it leaves, once the cell was seen empty
abbrev pub claim_words : TailState → Option (ℕ × ℕ)
claim_words t = if t.clear then Some (t.claims, t.claims + 1) else None

-- after a claim for this count that saw this word: it is accepted if the word was the expected one, else the edge is
-- sealed
abbrev pub tail_after_claim : ℕ → ℕ → TailState → TailState
tail_after_claim word count t = if word == t.claims
    then record t { claims = t.claims + 1; held = Some count; clear = false }
    else record t { clear = false; refused = true }

-- the message that such a claim sends
abbrev pub message_claimed : ℕ → ℕ → TailState → Option Message
message_claimed word count t = if word == t.claims then Some (record { edge = t.edge; place = t.claims; count = count })
    else None

-- the cell and the value to store: the message claimed and not put has the last place
abbrev pub put_of : TailState → Option (ℕ × ℕ)
put_of t = option_map (λ count. ((t.claims - 1) % t.ring, count)) t.held

-- after that store
abbrev pub tail_after_put : TailState → TailState
tail_after_put t = record t { held = None }

-- the most chips of one message
abbrev pub max_count : ℕ
max_count = 2 ^ 40

-- a valid count of chips of one message
abbrev pub is_count : ℕ → Bool
is_count count = nat_lt 0 count && nat_le count max_count

-- the head of an edge with a ring of `ring` cells, and the number of messages it took
pub record HeadState : Type 0 where
  pub edge : ℕ
  pub ring : ℕ
  pub taken : ℕ

-- a head that has taken nothing
abbrev pub new_head : ℕ → ℕ → HeadState
new_head edge ring = record { edge = edge; ring = ring; taken = 0 }

-- the cell of the next place to take
abbrev pub head_cell : HeadState → ℕ
head_cell h = h.taken % h.ring

-- after a take that found this in the cell
abbrev pub head_after_take : ℕ → HeadState → HeadState
head_after_take cell h = if cell == 0 then h else record h { taken = h.taken + 1 }

-- the message of such a take
abbrev pub message_taken : ℕ → HeadState → Option Message
message_taken cell h = if cell == 0 then None else Some (record { edge = h.edge; place = h.taken; count = cell })
