use Rattle.std.proofs.Common.{take}
use Rattle.chip_log.specs.Judge.{AreBeginners}
use Rattle.chip_text_tests.proofs.claims.play.beginners.Given as goal

abbrev pub invariant-loop-row : goal.invariant-loop-row
invariant-loop-row l = AreBeginners l.fn.sizes (take l.row-index l.rows) l.beginners.items
