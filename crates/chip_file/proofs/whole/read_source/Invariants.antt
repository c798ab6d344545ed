use Rattle.chip_file.proofs.Names.{◌≡◌, ◌-◌, ◌+◌, ◌<◌, ◌≤◌, true, vec_len, Consumes, AreLimits, max_chunk, may_read_on}
use Rattle.chip_file.proofs.Names.{last_read, bytes_left, reads}
use Rattle.chip_file.specs.declared.source.LastRead.TheVariants as last
use Rattle.chip_file.proofs.whole.read_source.Given as goal

abbrev pub invariant-loop-chunk : goal.invariant-loop-chunk
invariant-loop-chunk g l = record {
  taken : Consumes (bytes_left g.R.Read.remaining l.initial.source)
      (bytes_left g.R.Read.remaining l.source) l.bytes.items;
  within : vec_len l.bytes ≤ l.most + max_chunk;
  limits : AreLimits l.fn.limits;
  most : l.most ≡ l.fn.limits.bytes;
  few : reads l.source ≤ vec_len l.bytes;
  bounded : reads l.source ≤ l.most + 1;
  more : may_read_on (last_read l.source) ≡ true;
  came : 0 < vec_len l.bytes → last_read l.source ≡ last.Bytes;
  lent : l.source.reader.ghost_name ≡ l.initial.source.reader.ghost_name;
}

abbrev pub decreases-loop-chunk : goal.decreases-loop-chunk
decreases-loop-chunk g l = l.most + 1 - vec_len l.bytes
