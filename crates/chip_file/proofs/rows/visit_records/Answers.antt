use Rattle.chip_file.proofs.RecordLemmas.{HasRead-more}
use Rattle.chip_file.proofs.rows.visit_records.Goals as goal

pub loop-index-preserved : goal.loop-index-preserved
loop-index-preserved g c =
    let takes = rw c.if-not-branch-2.false at c.in_ok-read_record-2.ensures.1 in record {
      ready = c.in_ok-read_record-2.ensures.0;
      read = HasRead-more c.loop-index.invariant.read takes c.in_ok-visit.ensures;
    }
