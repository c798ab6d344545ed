use Rattle.std.proofs.Common.{◌≡◌, ◌<◌, true, List, ℕ, string_bytes, length, take}
use Rattle.chip_engine.specs.DropRows.{LeavesRows, IsOut}
use Rattle.chip_engine.proofs.drop_rows.write_rows.Given as goal

abbrev pub invariant-drops : goal.invariant-drops
invariant-drops g l =
    (text : List ℕ) × LeavesRows l.fn.pile (take l.vertex-index l.drops) l.pile text
    × IsOut (g.W.Write.contents l.initial.output) (g.W.Write.contents l.output) (string_bytes l.rows.text)
    l.rows.written text × (l.all ≡ true) × (length (string_bytes l.rows.text) < 65536)
