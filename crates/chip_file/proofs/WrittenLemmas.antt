-- Serves ChipsText.antt.
-- What is read of rows that were written: the records, line by line, and of them the chips.
use Rattle.chip_file.proofs.Names.{◌≡◌, ℕ, zero, suc, ◌+◌, ◌^◌, ◌<◌, ◌≤◌, true, false, List, [], ◌∷◌, ◌++◌, length}
use Rattle.chip_file.proofs.Names.{map, take, get_or, sum, codes, Some, None, refl, sym, ap, ◌∙◌, arith, append_assoc}
use Rattle.chip_file.proofs.Names.{append-nil, length-append, nat_tests, all_ascii_digits, digits_value, default_config}
use Rattle.chip_file.proofs.Names.{number_of, Row, records_of, max_total}
use Rattle.chip_file.proofs.Names.{first_row_fault, new_row_fault, number_named, vertex_in, given_in, chips_header}
use Rattle.chip_file.proofs.Names.{vertex_row_fault, numbers_of_rows, le-leb, fill_by_all, unwrap_or}
use Rattle.std.proofs.lemmas.List.{take_more, length-take-le}
use Rattle.std.proofs.lemmas.Bool.{lt-ltb}
use Rattle.std.proofs.lemmas.List.Sums.{sum_by-cons}
use Rattle.std.specs.Fmt.{decimal}
use Rattle.std.specs.List.{list_any}
use Rattle.std.proofs.lemmas.Fmt.{digits_decimal, digits_value-decimal, decimal_nonempty, length-decimal-le}
use Rattle.csv.specs.Machine.{next_record}
use Rattle.csv.specs.Reading.{records_from, strip_bom}
use Rattle.csv.specs.Records.{field_at}
use Rattle.csv.specs.Writing.{default_writer, needs_byte, fields_text, is_blank, read_back}
use Rattle.csv.specs.Writing as writer
use Rattle.csv.specs.declared.parser.State.TheVariants as state
use Rattle.csv.proofs.RoundTrip.{rows_text, read-write}
use Rattle.chip_file.specs.ChipsText.{chips_line, chips_lines, text_of_chips, WrittenChips}
use Rattle.chip_file.proofs.NumberLemmas.{decimal_numeral}
use Rattle.chip_file.proofs.VertexRowLemmas.{named_push}

-- ---- text that grows line by line

chips_lines-push : (v : ℕ) (chips : List ℕ) (count : ℕ)
    → chips_lines v (chips ++ count ∷ []) ≡ chips_lines v chips ++ chips_line (v + length chips) count
chips_lines-push v [] count = append-nil (chips_line v count)
    ∙ ap (λ (w : ℕ). chips_line w count) (let e : v ≡ v + 0 = omega arith in e)
chips_lines-push v (first ∷ chips) count =
    ap (λ (t : List ℕ). chips_line v first ++ t) (chips_lines-push (suc v) chips count
    ∙ ap (λ (w : ℕ). chips_lines (suc v) chips ++ chips_line w count) (let e : suc v + length chips
    ≡ v + suc (length chips) = omega arith in e))
    ∙ sym (append_assoc (chips_line v first) (chips_lines (suc v) chips) (chips_line (v + suc (length chips)) count))

-- one more line
pub chips_lines-more : (chips : List ℕ) (i : ℕ) → i < length chips
    → chips_lines 0 (take (i + 1) chips) ≡ chips_lines 0 (take i chips) ++ chips_line i (get_or chips i 0)
chips_lines-more chips i l =
    ap (chips_lines 0) (take_more chips i 0 l) ∙ chips_lines-push 0 (take i chips) (get_or chips i 0)
    ∙ ap (λ (w : ℕ). chips_lines 0 (take i chips) ++ chips_line w (get_or chips i 0))
    (let e = length-take-le i chips (omega arith) in let z : 0 + length (take i chips) ≡ i = omega arith in z)

-- ---- a number as a field

-- digits that make a number of 64 bits are read as it
number_by : (field : List ℕ) (n : ℕ) → 0 < length field → length field ≤ 20 → all_ascii_digits field ≡ true
    → digits_value 10 field ≡ n → n < 2 ^ 64 → number_of field ≡ Some n
number_by field n some few digits value fits = grind (arith, nat_tests)

-- what is written of a number is read as it
pub number_of-decimal : (n : ℕ) → n < 2 ^ 64 → number_of (decimal n) ≡ Some n
number_of-decimal n fits = number_by (decimal n) n (decimal_nonempty n fits)
    (length-decimal-le 20 n (omega arith) (omega arith) fits)
    (digits_decimal decimal_numeral n fits) (digits_value-decimal decimal_numeral n fits) fits

-- and it is written without quotes
digits-plain : (field : List ℕ) → all_ascii_digits field ≡ true → list_any (needs_byte default_writer) field ≡ false
digits-plain [] digits = refl
digits-plain (c ∷ cs) digits = let more = digits-plain cs in grind (arith, nat_tests)

pub decimal-plain : (n : ℕ) → n < 2 ^ 64 → list_any (needs_byte default_writer) (decimal n) ≡ false
decimal-plain n fits = digits-plain (decimal n) (digits_decimal decimal_numeral n fits)

-- ---- the records that are read of it

pub fewer_records : (rows : List Row) → length rows ≤ length (rows_text rows)
unfolding rows_text
fewer_records [] = omega arith
fewer_records (row ∷ rows) =
    let one : 1 ≤ length (writer.row_text default_writer row) = simp length-append (omega arith) in
    let more = fewer_records rows in
    omega (arith, length-append (writer.row_text default_writer row) (rows_text rows))

-- all records that were written, and no more
pub all_read : (rows : List Row) (n : ℕ) → length rows ≤ n
    → records_from default_config n state.StartRecord (rows_text rows) ≡ map read_back rows
unfolding records_from rows_text next_record
all_read [] zero enough = refl
all_read [] (suc n) enough = refl
all_read (row ∷ rows) zero enough = absurd (omega arith)
all_read (row ∷ rows) (suc n) enough =
    rw (read-write row (rows_text rows)) (ap (λ (t : List Row). read_back row ∷ t) (all_read rows n (omega arith)))

-- ---- the record of a vertex

-- the fields of the line of a vertex
abbrev record_of : ℕ → ℕ → Row
record_of v count = decimal v ∷ decimal count ∷ []

-- the records of the vertices from v on
abbrev records_from_vertex : ℕ → List ℕ → List Row
records_from_vertex v [] = []
records_from_vertex v (count ∷ chips) = record_of v count ∷ records_from_vertex (suc v) chips

two_fields : (v count : List ℕ) → list_any (needs_byte default_writer) v ≡ false
    → list_any (needs_byte default_writer) count ≡ false
    → writer.row_text default_writer (v ∷ count ∷ []) ≡ v ++ codes "," ++ count ++ codes "\n"
unfolding is_blank fields_text
two_fields v count plain_v plain_count = rw (plain_v, plain_count) (simp (append_assoc, append-nil))

-- the line of a vertex is the text of its record, which is read as it
record IsRead (v count : ℕ) : Type 0 where
  line : writer.row_text default_writer (record_of v count) ≡ chips_line v count
  vertex : vertex_in (record_of v count) ≡ v
  given : given_in (record_of v count) ≡ count
  no_fault : (vertices index : ℕ) → v < vertices → vertex_row_fault vertices index (record_of v count) ≡ None

is_read : (v count : ℕ) → v < 2 ^ 64 → count < 2 ^ 64 → IsRead v count
unfolding field_at
is_read v count v_fits fits =
    let v_read = number_of-decimal v v_fits in
    let read = number_of-decimal count fits in
    record {
      line = two_fields (decimal v) (decimal count) (decimal-plain v v_fits) (decimal-plain count fits);
      vertex = rw v_read refl;
      given = rw read refl;
      no_fault = λ vertices index below. rw (v_read, read, lt-ltb v vertices below) refl;
    }

-- ---- the records of all vertices

-- each record from v on is read
abbrev AreRead : ℕ → List ℕ → Type 0
AreRead v [] = Unit {0}
AreRead v (count ∷ chips) = IsRead v count × AreRead (suc v) chips

are_read : (v : ℕ) (chips : List ℕ) → v + length chips ≤ 2 ^ 64 → sum chips < 2 ^ 64 → AreRead v chips
are_read v [] few fits = tt
are_read v (count ∷ chips) few fits =
    let all : sum (count ∷ chips) ≡ count + sum chips = sum_by-cons (λ (x : ℕ). x) count chips in
    (is_read v count (omega arith) (omega arith), are_read (suc v) chips (omega arith) (omega arith))

text_of_records : (v : ℕ) (chips : List ℕ) → AreRead v chips
    → rows_text (records_from_vertex v chips) ≡ chips_lines v chips
unfolding rows_text
text_of_records v [] all = refl
text_of_records v (count ∷ chips) all = λ i. all.0.line i ++ text_of_records (suc v) chips all.1 i

read_back_records : (v : ℕ) (chips : List ℕ)
    → map read_back (records_from_vertex v chips) ≡ records_from_vertex v chips
read_back_records v [] = refl
read_back_records v (count ∷ chips) = ap (λ (t : List Row). record_of v count ∷ t) (read_back_records (suc v) chips)

header_line : (lines : List ℕ)
    → strip_bom (codes "vertex,chips\n" ++ lines) ≡ writer.row_text default_writer chips_header ++ lines
unfolding strip_bom is_blank fields_text
header_line lines = refl

records_of_chips : (chips : List ℕ) → AreRead 0 chips
    → records_of (text_of_chips chips) ≡ chips_header ∷ records_from_vertex 0 chips
unfolding rows_text
records_of_chips chips all =
    let rows : List Row = chips_header ∷ records_from_vertex 0 chips in
    let few = fewer_records rows in
    let same : strip_bom (text_of_chips chips) ≡ rows_text rows = header_line (chips_lines 0 chips)
    ∙ ap (λ (t : List ℕ). writer.row_text default_writer chips_header ++ t) (sym (text_of_records 0 chips all)) in
    rw same (all_read rows (length (rows_text rows) + 1) (omega arith))
    ∙ ap (λ (read : List Row). chips_header ∷ read) (read_back_records 0 chips)

-- ---- what they mean

-- no record before names a vertex from v on
abbrev AreBefore : ℕ → List Row → Type 0
AreBefore v before = (u : ℕ) → v ≤ u → number_named before u ≡ None

before_more : (v count : ℕ) (before : List Row) → IsRead v count → AreBefore v before
    → AreBefore (suc v) (before ++ record_of v count ∷ [])
before_more v count before read are u above =
    let named = named_push before (record_of v count) u in
    let none = are u (omega arith) in let vertex = read.vertex in rw named (grind (arith, nat_tests))

no_fault : (vertices v : ℕ) (before : List Row) (chips : List ℕ) → AreRead v chips → AreBefore v before
    → v + length chips ≤ vertices → first_row_fault (new_row_fault vertices) before (records_from_vertex v chips) ≡ None
no_fault vertices v before [] all are few = refl
no_fault vertices v before (count ∷ chips) all are few =
    let later = no_fault vertices (suc v) (before ++ record_of v count ∷ []) chips all.1
    (before_more v count before all.0 are) (omega arith) in
    rw (all.0.no_fault vertices (length before) (omega arith), all.0.vertex, are v (omega arith)) later

named_at : (u : ℕ) (chips : List ℕ) (k v : ℕ) → AreRead u chips → u + k ≡ v
    → unwrap_or (number_named (records_from_vertex u chips) v) 0 ≡ get_or chips k 0
named_at u [] k v all e = refl
named_at u (count ∷ chips) zero v all e =
    let vertex = all.0.vertex in let given = all.0.given in grind (arith, nat_tests)
named_at u (count ∷ chips) (suc k) v all e =
    let vertex = all.0.vertex in let later = named_at (suc u) chips k v all.1 (omega arith) in grind (arith, nat_tests)

pub written_chips : WrittenChips
written_chips chips few fits =
    let n = length chips in
    let all = are_read 0 chips (omega arith) (omega arith) in
    let none = no_fault n 0 [] chips all (λ u above. refl) (omega arith) in
    let same : numbers_of_rows n (records_from_vertex 0 chips) ≡ chips =
    sym (fill_by_all (λ v. unwrap_or (number_named (records_from_vertex 0 chips) v) 0) chips n 0 refl
    (λ v below. sym (named_at 0 chips v v all (omega arith)))) in
    rw (records_of_chips chips all, none, same, le-leb (sum chips) max_total fits) refl
