use Rattle.std.proofs.Common.{◌≡◌, ℕ, ◌<◌, ◌≤◌, ◌*◌, take, length}
use Rattle.std.specs.List.{sum_by}
use Rattle.chip_detect.specs.Tally.{tally_at, message_limit, edge_limit}
use Rattle.chip_library.specs.PartBooks.{IsPossible}
use Rattle.chip_library.proofs.BooksLemmas.{open_of}
use Rattle.chip_library.proofs.detector.all_open.Given as goal

abbrev pub invariant-loop-tally : goal.invariant-loop-tally
invariant-loop-tally l = (length l.tallies ≤ edge_limit)
    × (l.total ≡ sum_by open_of (take l.tally-index l.tallies))
    × (l.total ≤ l.tally-index * message_limit)
    × ((i : ℕ) → i < l.tally-index → IsPossible (tally_at l.tallies i))
