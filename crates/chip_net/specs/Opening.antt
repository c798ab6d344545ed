-- The words of a net that opens.
use Rattle.std.specs.Prelude.{◌≡◌, ℕ, nat_lt, if◌then◌else◌, List, length, slice_index}
use Rattle.chip_part.specs.Setting.{Setting}
use Rattle.chip_part.specs.Part.{first_put}
use Rattle.chip_core.specs.Words.{Word, of_edge, of_acks, of_cell, of_vertex, IsWord}
use Rattle.chip_net.specs.Layout.{word_count, value_in}

-- a word once the messages of the first edges are laid out: a root edge whose vertex has chips has one message, in its
-- first cell
abbrev pub first_value : Setting → ℕ → Word → ℕ
first_value g count (of_edge e) = if nat_lt e count then length (first_put g e) else 0
first_value g count (of_acks e) = 0
first_value g count (of_cell e i) = if nat_lt e count then slice_index (first_put g e) i else 0
first_value g count (of_vertex v) = 0

-- these are the words once the messages of the first edges are laid out
pub record AreOpening (g : Setting) (count : ℕ) (words : List ℕ) : Type 0 where
  pub wide : length words ≡ word_count g
  pub each : (w : Word) → IsWord g w → value_in g words w ≡ first_value g count w
