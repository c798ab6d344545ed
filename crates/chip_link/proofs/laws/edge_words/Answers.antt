use Rattle.chip_link.proofs.WordLawsLemmas.{edge_word_reads, edge_word_stands, adds_claims, added_reads, seals_word}
use Rattle.chip_link.proofs.WordLawsLemmas.{sealed_reads, exchanges_word, expects_unsealed}
use Rattle.chip_link.proofs.laws.edge_words.Goals as goal

pub returns : goal.returns
returns c = record {
  reads = edge_word_reads;
  stands = edge_word_stands;
  adds = adds_claims;
  added = added_reads;
  seals = seals_word;
  sealed = sealed_reads;
  exchanges = exchanges_word;
  expected = expects_unsealed;
}
