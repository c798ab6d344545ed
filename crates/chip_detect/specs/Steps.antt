-- The steps of a vertex that its books note: when each is enabled, and what it changes. All else is unchanged.
use Rattle.std.specs.Prelude.{◌≡◌, ℕ, ◌-◌, ◌<◌, ◌≤◌, true, Contains}
use Rattle.chip_detect.specs.Tally.{message_limit}
use Rattle.chip_detect.specs.Books.{Books, in_edges, out_edges, got_of, sent_of, settled_of, owed}
use Rattle.chip_detect.specs.Acknowledging.{or_else, parent_while_owed, may_ack}
use Rattle.chip_detect.specs.Change.{AddsMessage, AddsAnswers}

-- `Settled` has the number of messages of the edge that its head has acknowledged in all
pub data Step : Type 0 where
  Got : ℕ → Step
  Acked : ℕ → ℕ → Step
  Sent : ℕ → Step
  Settled : ℕ → ℕ → Step

-- a message was got on the edge: a neutral vertex takes it as its parent
pub record Gets (old new : Books) (edge : ℕ) : Type 0 where
  pub ins : AddsMessage old.ins new.ins edge
  pub outs : new.outs ≡ old.outs
  pub parent : new.parent ≡ or_else old.parent edge

-- `count` messages of the edge were acknowledged: the vertex is neutral once nothing is owed on its parent edge
pub record Acknowledges (old new : Books) (edge count : ℕ) : Type 0 where
  pub ins : AddsAnswers old.ins new.ins edge count
  pub outs : new.outs ≡ old.outs
  pub parent : new.parent ≡ parent_while_owed old.parent (owed new)

-- a message was sent on the edge
pub record Sends (old new : Books) (edge : ℕ) : Type 0 where
  pub ins : new.ins ≡ old.ins
  pub outs : AddsMessage old.outs new.outs edge
  pub parent : new.parent ≡ old.parent

-- `count` more acknowledgements of the edge were settled
pub record Settles (old new : Books) (edge count : ℕ) : Type 0 where
  pub ins : new.ins ≡ old.ins
  pub outs : AddsAnswers old.outs new.outs edge count
  pub parent : new.parent ≡ old.parent

-- the step is enabled here
abbrev pub MayBeMade : Books → Step → Type 0
MayBeMade b (Got e) = Contains (in_edges b) e × (got_of b e < message_limit)
MayBeMade b (Acked e n) = Contains (in_edges b) e × (n ≤ may_ack b e true)
MayBeMade b (Sent e) = Contains (out_edges b) e × (sent_of b e < message_limit)
MayBeMade b (Settled e word) =
    Contains (out_edges b) e × (settled_of b e ≤ word) × (word ≤ sent_of b e)

-- the step leads from the old books to the new ones
abbrev pub Makes : Books → Step → Books → Type 0
Makes old (Got e) new = Gets old new e
Makes old (Acked e n) new = Acknowledges old new e n
Makes old (Sent e) new = Sends old new e
Makes old (Settled e word) new = Settles old new e (word - settled_of old e)
