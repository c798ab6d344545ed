-- The words that the ends of an edge share, and the result and effect of an operation on them.
use Rattle.std.specs.Prelude.{ℕ, ◌+◌, ◌^◌, ◌<◌, ◌==◌, if◌then◌else◌, List, [], length, replicate, slice_index}
use Rattle.std.specs.Prelude.{slice_index_or, slice_set, bit_or}
use Rattle.chip_link.specs.Words.{word_after_exchange}
use Rattle.chip_part.specs.declared.act.Act.{Act}
use Rattle.chip_part.specs.declared.act.Act.TheVariants as Do

-- the words of one edge: the edge word, the number of its acknowledged messages, and its ring of cells
pub record EdgeState : Type 0 where
  pub word : ℕ
  pub acknowledged : ℕ
  pub cells : List ℕ

-- the words of an edge that isn't there
abbrev pub no_words : EdgeState
no_words = record { word = 0; acknowledged = 0; cells = [] }

-- the words of an edge
abbrev pub words_of : List EdgeState → ℕ → EdgeState
words_of words e = slice_index_or words e no_words

-- the contents of a cell of an edge
abbrev pub cell_of : List EdgeState → ℕ → ℕ → ℕ
cell_of words e cell = slice_index (words_of words e).cells cell

-- one cell is written
abbrev pub with_cell : ℕ → ℕ → EdgeState → EdgeState
with_cell cell value w = record w { cells = slice_set w.cells cell value }

-- the exchange of a claim
abbrev pub with_claim : ℕ → ℕ → EdgeState → EdgeState
with_claim expected new w = record w { word = word_after_exchange expected new w.word }

-- `count` more messages are acknowledged
abbrev pub with_acks : ℕ → EdgeState → EdgeState
with_acks count w = record w { acknowledged = w.acknowledged + count }

-- the edge is sealed
abbrev pub with_seal : EdgeState → EdgeState
with_seal w = record w { word = bit_or w.word (2 ^ 63) }

-- the words of one edge are changed in this way
abbrev pub with_edge : ℕ → (EdgeState → EdgeState) → List EdgeState → List EdgeState
with_edge e f words = slice_set words e (f (words_of words e))

-- the words of an edge that opens with a message of `chips` chips, or without one if that is 0
abbrev pub opening_words : ℕ → ℕ → EdgeState
opening_words ring chips = record {
  word = if chips == 0 then 0 else 1;
  acknowledged = 0;
  cells = slice_set (replicate ring 0) 0 chips;
}

-- what an operation finds. A fired word is kept only by its vertex, and is an argument here; a store finds nothing
abbrev pub seen_in : Act → ℕ → List EdgeState → ℕ
seen_in (Do.Take e cell) fired words = cell_of words e cell
seen_in (Do.Settle e) fired words = (words_of words e).acknowledged
seen_in (Do.Ack e count) fired words = (words_of words e).acknowledged
seen_in (Do.Clear e cell) fired words = cell_of words e cell
seen_in (Do.Claim e expected new) fired words = (words_of words e).word
seen_in (Do.Fire k) fired words = fired
seen_in (Do.Halt by_limit) fired words = fired
seen_in (Do.Put e cell value) fired words = 0
seen_in Do.End fired words = 0

-- the words after an operation
abbrev pub words_after : Act → List EdgeState → List EdgeState
words_after (Do.Take e cell) words = with_edge e (with_cell cell 0) words
words_after (Do.Claim e expected new) words = with_edge e (with_claim expected new) words
words_after (Do.Put e cell value) words = with_edge e (with_cell cell value) words
words_after (Do.Ack e count) words = with_edge e (with_acks count) words
words_after _ words = words

-- an edge is there, and so is a cell of its ring
abbrev pub HasCell : List EdgeState → ℕ → ℕ → Type 0
HasCell words e cell = (e < length words) × (cell < length (words_of words e).cells)

-- the words of an operation exist, and a sum fits
abbrev pub CanPerform : Act → List EdgeState → Type 0
CanPerform (Do.Take e cell) words = HasCell words e cell
CanPerform (Do.Settle e) words = e < length words
CanPerform (Do.Clear e cell) words = HasCell words e cell
CanPerform (Do.Claim e expected new) words = e < length words
CanPerform (Do.Put e cell value) words = HasCell words e cell
CanPerform (Do.Ack e count) words = (e < length words) × ((words_of words e).acknowledged + count < 2 ^ 64)
CanPerform _ words = Unit {0}
