-- Serves Rows.antt, Standing.antt.
-- How visiting the rows under a header, one after another, gives the first fault of the records.
use Rattle.chip_file.proofs.Names.{◌≡◌, ℕ, ◌+◌, true, List, [], ◌∷◌, ◌++◌, length, refl, ap, sym, ◌∙◌, append_assoc}
use Rattle.chip_file.proofs.Names.{length-append, Option, None, Some, Result, Ok, Err, IfOk, is_none, if◌then◌else◌}
use Rattle.chip_file.proofs.Names.{FileFault, Gives, Row, RowFault, has_fields, rows_under_header, first_row_fault}
use Rattle.chip_file.proofs.Names.{records_fault}
use Rattle.std.proofs.lemmas.List.{append-nil}

-- of these rows some were visited, in which there is no fault, and `left` come next
pub record HasRead {V : Type 0} (row_fault : RowFault) (HasVisited : List Row → V → Type 0) (first : V)
    (rows left : List Row) (index : ℕ) (visitor : V) : Type 0 where
  pub before : List Row
  pub parts : rows ≡ before ++ left
  pub counted : length before ≡ index
  pub visited : HasVisited [] first
      → (first_row_fault row_fault [] rows ≡ first_row_fault row_fault before left) × HasVisited before visitor

pub HasRead-more : {V : Type 0} {row_fault : RowFault} {HasVisited : List Row → V → Type 0} {first : V}
    {rows left rest : List Row} {index : ℕ} {visitor new : V} {row : Row}
    → HasRead row_fault HasVisited first rows left index visitor → left ≡ row ∷ rest
    → ((before : List Row) → HasVisited before visitor → length before ≡ index
    → (row_fault before row ≡ None) × HasVisited (before ++ row ∷ []) new)
    → HasRead row_fault HasVisited first rows rest (index + 1) new
HasRead-more {rest = rest} {row = row} read e step = record {
  before = read.before ++ row ∷ [];
  parts = read.parts ∙ rw e (sym (append_assoc read.before (row ∷ []) rest));
  counted = length-append read.before (row ∷ []) ∙ ap (λ n. n + 1) read.counted;
  visited = λ h.
      let was = read.visited h in
      let fine = step read.before was.1 read.counted in (was.0 ∙ rw (e, fine.0) refl, fine.1);
}

-- all rows were visited
pub HasRead-all : {V : Type 0} {row_fault : RowFault} {HasVisited : List Row → V → Type 0} {first : V}
    {head : Row} {records rows left : List Row} {index : ℕ} {visitor : V} (header : Row)
    → HasRead row_fault HasVisited first rows left index visitor → left ≡ [] → records ≡ head ∷ rows
    → has_fields header head ≡ true → HasVisited [] first
    → (records_fault header row_fault records ≡ None) × HasVisited (rows_under_header records) visitor
HasRead-all header read e under headed = λ h.
    let was = read.visited h in (rw (under, headed, was.0, e) refl, rw (under, read.parts, e, append-nil) was.1)

-- what the rows of a text mean, by what holds of their visitor
pub rows_mean : {V T : Type 0} (IsVisited : V → Type 0) (fault : Option FileFault) (value : T) (items : V → T)
    (result : Result V FileFault) → Gives (λ visitor. (fault ≡ None) × IsVisited visitor) (λ f. fault ≡ Some f) result
    → ((visitor : V) → IsVisited visitor → value ≡ items visitor)
    → Gives (λ visitor. (if is_none fault then Some value else None) ≡ Some (items visitor)) (λ f. fault ≡ Some f) result
rows_mean IsVisited fault value items (Ok visitor) h same = rw (h.0, same visitor h.1) refl
rows_mean IsVisited fault value items (Err f) h same = h

pub rows_keep : {V : Type 0} (IsVisited IsKept : V → Type 0) (fault : Option FileFault) (result : Result V FileFault)
    → Gives (λ visitor. (fault ≡ None) × IsVisited visitor) (λ f. fault ≡ Some f) result
    → ((visitor : V) → IsVisited visitor → IsKept visitor) → IfOk result IsKept
rows_keep IsVisited IsKept fault (Ok visitor) h more = more visitor h.1
rows_keep IsVisited IsKept fault (Err f) h more = tt
