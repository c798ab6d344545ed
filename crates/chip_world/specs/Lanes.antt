-- Lists of messages by edge.
use Rattle.std.specs.Prelude.{ℕ, List, [], ◌∷◌, ◌++◌, slice_index_or, slice_set}
use Rattle.chip_link.specs.declared.message.Message.{Message}

-- the messages of an edge, and the number that there is room for
pub record Lane : Type 0 where
  pub messages : List Message
  pub capacity : ℕ

-- the messages of an edge that isn't there
abbrev pub no_lane : Lane
no_lane = record { messages = []; capacity = 0 }

abbrev pub lane_at : List Lane → ℕ → Lane
lane_at lanes e = slice_index_or lanes e no_lane

-- one more message of an edge
abbrev pub with_message : ℕ → Message → List Lane → List Lane
with_message e message lanes = slice_set lanes e
    (record (lane_at lanes e) { messages = (lane_at lanes e).messages ++ message ∷ [] })
