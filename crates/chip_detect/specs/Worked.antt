-- Worked examples: a vertex with the edges 0, 1 and 3 into it and none out of it.
use Rattle.std.specs.Prelude.{◌≡◌, ℕ, true, false, [], ◌∷◌, Option, Some, None}
use Rattle.chip_detect.specs.Slot.{IsSlotOf}
use Rattle.chip_detect.specs.Tally.{Tally}
use Rattle.chip_detect.specs.Books.{Books, in_edges, is_engaged}
use Rattle.chip_detect.specs.Acknowledging.{may_ack}
use Rattle.chip_detect.specs.Steps.{Got, Acked, Makes}

abbrev pub tally : ℕ → ℕ → ℕ → Tally
tally e messages answered = record { edge = e; messages = messages; answered = answered }

-- the vertex's books, by what it got and acknowledged on edge 0 and on edge 1
abbrev pub worked_books : ℕ → ℕ → ℕ → ℕ → Option ℕ → Books
worked_books got0 acked0 got1 acked1 parent = record {
  ins = tally 0 got0 acked0 ∷ tally 1 got1 acked1 ∷ tally 3 0 0 ∷ [];
  outs = [];
  parent = parent;
}

-- edge 3 is the last of the three
abbrev pub SlotOfTheLast : Type 0
SlotOfTheLast = IsSlotOf (in_edges (worked_books 0 0 0 0 None)) (record { index = 2; edge = 3 })

-- a message on edge 0 engages the vertex, one on edge 1 follows: the second is acknowledged first
pub record BooksAcknowledgeLast : Type 0 where
  pub got_first : Makes (worked_books 0 0 0 0 None) (Got 0) (worked_books 1 0 0 0 (Some 0))
  pub got_second : Makes (worked_books 1 0 0 0 (Some 0)) (Got 1) (worked_books 1 0 1 0 (Some 0))
  pub not_yet : may_ack (worked_books 1 0 1 0 (Some 0)) 0 true ≡ 0
  pub the_other : may_ack (worked_books 1 0 1 0 (Some 0)) 1 true ≡ 1
  pub acked_second : Makes (worked_books 1 0 1 0 (Some 0)) (Acked 1 1) (worked_books 1 0 1 1 (Some 0))
  pub now : may_ack (worked_books 1 0 1 1 (Some 0)) 0 true ≡ 1
  pub acked_first : Makes (worked_books 1 0 1 1 (Some 0)) (Acked 0 1) (worked_books 1 1 1 1 None)
  pub neutral : is_engaged (worked_books 1 1 1 1 None) ≡ false

-- two messages on the parent edge: an active vertex keeps one of them
pub record TwoOnTheParentEdge : Type 0 where
  pub got_first : Makes (worked_books 0 0 0 0 None) (Got 0) (worked_books 1 0 0 0 (Some 0))
  pub got_second : Makes (worked_books 1 0 0 0 (Some 0)) (Got 0) (worked_books 2 0 0 0 (Some 0))
  pub active : may_ack (worked_books 2 0 0 0 (Some 0)) 0 false ≡ 1
  pub passive : may_ack (worked_books 2 0 0 0 (Some 0)) 0 true ≡ 2
