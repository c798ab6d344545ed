use Rattle.chip_link.proofs.WordLawsLemmas.{fired_word_reads, fired_word_stands, adds_firings, added_firings_read}
use Rattle.chip_link.proofs.WordLawsLemmas.{halts_word, halt_reads, halts_by_limit, halt_by_limit_reads}
use Rattle.chip_link.proofs.laws.fired_words.Goals as goal

pub returns : goal.returns
returns c = record {
  reads = fired_word_reads;
  stands = fired_word_stands;
  adds = adds_firings;
  added = added_firings_read;
  halts = halts_word;
  halted = halt_reads;
  halts_by_limit = halts_by_limit;
  halted_by_limit = halt_by_limit_reads;
}
