-- Serves ChipsText.antt.
-- How the total of the numbers of a text decides whether they are chips.
use Rattle.chip_file.proofs.Names.{◌≡◌, ◌⊎◌, ℕ, Bool, List, Option, None, Some, refl, inl, inr, sum, is_none, nat_le}
use Rattle.chip_file.proofs.Names.{if◌then◌else◌, max_total, first_of_faults, fault_unless, FileFault, chips_header}
use Rattle.chip_file.proofs.Names.{chips_text_fault, numbers_text_fault}
use Rattle.chip_file.specs.declared.fault.FileFault.TheVariants as fault

-- a text with a fault of its rows has that fault, whatever the total is
pub rows_fail : (vertices : ℕ) (text : List ℕ) (f : FileFault)
    → (f ≡ fault.NoMemory) ⊎ (numbers_text_fault chips_header vertices text ≡ Some f)
    → (f ≡ fault.NoMemory) ⊎ (chips_text_fault vertices text ≡ Some f)
rows_fail vertices text f (inl memory) = inl memory
rows_fail vertices text f (inr e) = inr (rw e refl)

-- where the text means numbers, the total decides
pub total_decides : (rows_fault : Option FileFault) (rows numbers : List ℕ) (fits : Bool)
    → (if is_none rows_fault then Some rows else None) ≡ Some numbers → fits ≡ nat_le (sum numbers) max_total
    → (first_of_faults rows_fault (fault_unless (nat_le (sum rows) max_total) fault.Total) ≡ fault_unless fits fault.Total)
    × (rows ≡ numbers)
total_decides None rows numbers fits e total = let same : rows ≡ numbers = cc e in (rw (same, total) refl, same)
total_decides (Some f) rows numbers fits e total = cc e
