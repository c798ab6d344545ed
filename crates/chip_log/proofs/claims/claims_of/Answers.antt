use Rattle.chip_log.proofs.Names.{◌+◌, ◌*◌, rules, IsNonDecreasingBy-from_sort_by_key, ClaimPlace}
use Rattle.chip_log.proofs.PlacesLemmas.{sorted_places}
use Rattle.chip_log.proofs.claims.claims_of.Goals as goal

pub returns : goal.returns
returns c = sorted_places c.args.rows.now c.in_ok-claims.claims.items c.sort_unstable_by_key.new.self.items
    c.in_ok-claims.ensures c.sort_unstable_by_key.ensures.permutation
    (IsNonDecreasingBy-from_sort_by_key (λ (claim : ClaimPlace). claim.process * 4294967296 + claim.row)
    c.sort_unstable_by_key.new.self.items c.sort_unstable_by_key.ensures.sorted (λ a r q k. search rules))
