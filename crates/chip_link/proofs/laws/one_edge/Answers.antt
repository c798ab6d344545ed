use Rattle.chip_link.proofs.LiveEdgesLemmas.{takes_prefix, claims_in_order, nothing_after_seal, word_tells, seals_all_claims}
use Rattle.chip_link.proofs.laws.one_edge.Goals as goal

pub returns : goal.returns
returns c = record {
  prefix = takes_prefix;
  in_order = claims_in_order;
  sealed = nothing_after_seal;
  all_claims = seals_all_claims;
  word = word_tells;
}
