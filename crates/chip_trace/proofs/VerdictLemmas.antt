-- Serves Interleaving.antt, Kept.antt, Progress.antt.
-- What a visit to a row says of whether it is wrong.
use Rattle.chip_trace.proofs.Names.{◌≡◌, ℕ, true, false, List, refl, ap, arith, not, TraceRow, Take, Fire, ChipGame}
use Rattle.chip_trace.proofs.Names.{is_row_enabled, is_wrong, ReplayProgress, Finding, rows_used, Finds, IsWrongAt, nat_tests}
use Rattle.chip_trace.specs.declared.look.Finding.TheVariants as finding

-- a row that is enabled is not wrong
pub met_not_wrong : (g : ChipGame) (used : ℕ → List TraceRow) (v : ℕ) (row : TraceRow) → is_row_enabled g used v row ≡ true
    → is_wrong g used v row ≡ false
met_not_wrong g used v (Fire k) met = ap not met
met_not_wrong g used v (Take edge count) met = grind (arith, nat_tests)

-- where a visit does not find the next row wrong, it is not
pub not_found_wrong : (g : ChipGame) (traces : List (List TraceRow)) (p : ReplayProgress) (v : ℕ) (found : Finding)
    → Finds g traces p v found → (found ≡ finding.Wrong → ⊥) → IsWrongAt g traces p v → ⊥
not_found_wrong g traces p v finding.Done is other wrong = let a = wrong.1 in let b = is in cc
not_found_wrong g traces p v (finding.Met row) is other wrong =
    let found = wrong.1 in let next = is.next in let yes' = wrong.2 in
    let no' = met_not_wrong g (rows_used traces p) v row is.met in
    cc
not_found_wrong g traces p v finding.Wrong is other wrong = other refl
not_found_wrong g traces p v (finding.Waits edge) is other wrong =
    let found = wrong.1 in let next = is.1 in let yes' = wrong.2 in let no' = is.3 in cc
