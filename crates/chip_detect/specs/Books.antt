-- One vertex's state of the detection of termination, in the terms of Dijkstra and Scholten's paper on diffusing
-- computations (1980).
use Rattle.std.specs.Prelude.{◌≡◌, ℕ, ◌-◌, ◌<◌, Bool, List, Option, Some, None, is_some, sum_by}
use Rattle.chip_detect.specs.Tally.{Tally, AreTallies, AreFresh, edges_of, messages_on, answered_on}

-- the tallies of the edges into a vertex and out of it, and the edge of the message that engaged it
pub record Books : Type 0 where
  pub ins : List Tally
  pub outs : List Tally
  pub parent : Option ℕ

-- the edges into the vertex
abbrev pub in_edges : Books → List ℕ
in_edges b = edges_of b.ins

-- the edges out of it
abbrev pub out_edges : Books → List ℕ
out_edges b = edges_of b.outs

-- the number of messages the vertex got on an edge into it
abbrev pub got_of : Books → ℕ → ℕ
got_of b = messages_on b.ins

-- the number of these that it acknowledged
abbrev pub acked_of : Books → ℕ → ℕ
acked_of b = answered_on b.ins

-- the number of messages it sent on an edge out of it
abbrev pub sent_of : Books → ℕ → ℕ
sent_of b = messages_on b.outs

-- the number of these whose acknowledgement it has settled
abbrev pub settled_of : Books → ℕ → ℕ
settled_of b = answered_on b.outs

-- the acknowledgements that the vertex owes on an edge
abbrev pub owed : Books → ℕ → ℕ
owed b e = got_of b e - acked_of b e

-- the acknowledgements that it waits for on an edge
abbrev pub outstanding : Books → ℕ → ℕ
outstanding b e = sent_of b e - settled_of b e

-- all that it owes
abbrev pub all_owed : Books → ℕ
all_owed b = sum_by (owed b) (in_edges b)

-- its deficit: messages sent, less acknowledgements settled
abbrev pub deficit : Books → ℕ
deficit b = sum_by (outstanding b) (out_edges b)

-- it is engaged and not neutral: it has a parent
abbrev pub is_engaged : Books → Bool
is_engaged b = is_some b.parent

-- the invariant: an engaged vertex owes something on its parent edge, a neutral one nothing
pub record IsSound (b : Books) : Type 0 where
  pub ins : AreTallies b.ins
  pub outs : AreTallies b.outs
  pub engaged : (p : ℕ) → b.parent ≡ Some p → 0 < owed b p
  pub neutral : b.parent ≡ None → all_owed b ≡ 0

-- on these edges nothing was got or sent yet, and the vertex is neutral
pub record AreFreshBooks (b : Books) (into out : List ℕ) : Type 0 where
  pub ins : AreFresh b.ins into
  pub outs : AreFresh b.outs out
  pub parent : b.parent ≡ None
