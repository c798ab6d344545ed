-- Lists, rows, drops and books worked out by hand.
use Rattle.std.specs.Prelude.{◌≡◌, ℕ, true, false, List, [], ◌∷◌, Some, None, Ok, Err}
use Rattle.chip_detect.specs.Books.{Books, all_owed, deficit}
use Rattle.chip_detect.specs.Acknowledging.{may_ack}
use Rattle.chip_detect.specs.Steps.{Acked}
use Rattle.chip_graph.specs.Worked.{triangle}
use Rattle.chip_library.specs.EdgeLists.{edges_below}
use Rattle.chip_library.specs.Batch.{row}
use Rattle.chip_library.specs.Drops.{Told, drops_of, AreOn, AreTold}
use Rattle.chip_library.specs.Measures.{Noted, fires_marked, fires_both, EndsRun}
use Rattle.chip_library.specs.declared.detector.BooksFault.TheVariants.{NotYet}
use Rattle.chip_library.specs.PartBooks.{books_fault_number, neutral, parent_of, books_of, IsRefusal}
use Rattle.chip_library.specs.Sums.{HasSums, count_in}

-- 1 chip on vertex 0 makes two vertices fire, and then 4 chips there make these fire 4 times
abbrev pub two_drops : List Told
two_drops = ((0, 1), record { size = 2; extent = 2; lost = 2 }) ∷ ((0, 4), record { size = 4; extent = 2; lost = 4 }) ∷ []

-- the second of them, in which 0 fires 3 times and 1 once
abbrev pub second : Noted
second = record {
  told = ((0, 4), record { size = 4; extent = 2; lost = 4 });
  vertices = 0 ∷ 1 ∷ [];
  times = 3 ∷ 1 ∷ [];
  rounds = 3;
}

-- the books of a process that got two messages on edge 0, which engaged it, and acknowledged one, by its parent word
abbrev pub books : ℕ → Books
books parent = books_of (record { edge = 0; messages = 2; answered = 1 } ∷ []) [] parent

-- three lists hold the edges of the triangle; the second of two games on it begins with the last three numbers; five
-- columns hold the two drops, and the second ends a run by its loss and by some marks; and a process acknowledges the
-- message that engaged it only when it is passive
pub record WorkedCalls : Type 0 where
  pub edges : edges_below (0 ∷ 0 ∷ 1 ∷ 1 ∷ []) (1 ∷ 2 ∷ 0 ∷ 2 ∷ []) (1 ∷ 1 ∷ 1 ∷ 1 ∷ []) 4 ≡ triangle.edges
  pub first_row : row 3 (4 ∷ 0 ∷ 0 ∷ 3 ∷ 0 ∷ 1 ∷ []) 0 ≡ 4 ∷ 0 ∷ 0 ∷ []
  pub second_row : row 3 (4 ∷ 0 ∷ 0 ∷ 3 ∷ 0 ∷ 1 ∷ []) 1 ≡ 3 ∷ 0 ∷ 1 ∷ []
  pub no_row : row 3 (4 ∷ 0 ∷ 0 ∷ 3 ∷ 0 ∷ 1 ∷ []) 2 ≡ []
  pub drops : drops_of two_drops ≡ (0, 1) ∷ (0, 4) ∷ []
  pub on : AreOn two_drops (0 ∷ 0 ∷ []) (1 ∷ 4 ∷ [])
  pub told : AreTold two_drops (2 ∷ 4 ∷ []) (2 ∷ 2 ∷ []) (2 ∷ 4 ∷ [])
  pub marked : fires_marked (0 ∷ 3 ∷ 0 ∷ []) 1 second.vertices ≡ true
  pub sink_marked : fires_marked (0 ∷ 2 ∷ 1 ∷ []) 1 second.vertices ≡ false
  pub both : fires_both (2 ∷ 4 ∷ 0 ∷ []) 2 4 second.vertices ≡ true
  pub one_of_both : fires_both (2 ∷ 2 ∷ 4 ∷ []) 2 4 second.vertices ≡ false
  pub ends : EndsRun true [] second
  pub no_parent : parent_of neutral ≡ None
  pub parent : (books 0).parent ≡ Some 0
  pub owes : all_owed (books 0) ≡ 1
  pub waits : deficit (books 0) ≡ 0
  pub sums : HasSums (record { books = books 0; owed = 1; deficit = 0 })
  pub counted : count_in (Ok (record { count = 1; so_far = 2 })) ≡ 1
  pub none_counted : count_in (Err NotYet) ≡ 0
  pub at_rest : may_ack (books 0) 0 true ≡ 1
  pub at_work : may_ack (books 0) 0 false ≡ 0
  pub refused : IsRefusal (books 0) false (Acked 0 1) NotYet
  pub number : books_fault_number NotYet ≡ 47
