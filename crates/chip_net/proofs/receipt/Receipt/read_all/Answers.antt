use Rattle.chip_net.proofs.ReadingLemmas.{still_over, reads_more}
use Rattle.chip_net.proofs.receipt.Receipt.read_all.Goals as goal

pub read-requires-clause-over : goal.read-requires-clause-over
read-requires-clause-over c = still_over c.loop-vertex.invariant c.requires.over

pub loop-vertex-preserved : goal.loop-vertex-preserved
loop-vertex-preserved c =
    let some = c.unwrap.ensures in
    let fired = rw some at c.from_word-word.ensures.fired in
    let halted = rw some at c.from_word-word.ensures.halted in
    let by_limit = rw some at c.from_word-word.ensures.by_limit in
    rw (c.note.ensures, fired, halted, by_limit)
    (reads_more (rw c.requires.net c.setting.ensures.setting) c.loop-vertex.invariant c.read.ensures.reads)
