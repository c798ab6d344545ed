use Rattle.chip_report.proofs.Names.{◌≡◌, ◌≤◌, ◌-◌, true, length, take, Appends, bytes_out, goes_on, last_write, writes}
use Rattle.chip_report.proofs.write.write_all_to.Given as goal

abbrev pub invariant-loop-written : goal.invariant-loop-written
invariant-loop-written g l = record {
  within : l.written ≤ length l.bytes;
  so_far : Appends (bytes_out g.W.Write.contents l.initial.sink) (bytes_out g.W.Write.contents l.sink)
      (take l.written l.bytes);
  few : writes l.sink ≤ l.written;
  more : goes_on (last_write l.sink) ≡ true;
  lent : l.sink.writer.ghost_name ≡ l.initial.sink.writer.ghost_name;
}

abbrev pub decreases-loop-written : goal.decreases-loop-written
decreases-loop-written g l = length l.initial.bytes - l.written
