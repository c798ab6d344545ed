-- Serves Laws.antt.
-- What is read of the text of traces: the records, line by line, and of them the traces.
use Rattle.std.proofs.Common.{◌≡◌, ℕ, zero, suc, ◌+◌, ◌^◌, ◌<◌, ◌≤◌, true, false, List, [], ◌∷◌, ◌++◌, length, map}
use Rattle.std.proofs.Common.{get_or, codes, flat_map, Option, None, Some, Result, Ok, Err, refl, sym, ap, ◌∙◌}
use Rattle.std.proofs.Common.{inl, inr, arith, append_assoc, append-nil}
use Rattle.std.specs.Prelude.{◌&&◌, ◌==◌, nat_lt, is_some, is_none, option_and_then, unwrap_or, if◌then◌else◌, All}
use Rattle.std.specs.Fmt.{decimal}
use Rattle.std.specs.List.{AllByRecursion, filter, list_any, range_with_len}
use Rattle.std.proofs.lemmas.Bool.{lt-ltb, and_parts}
use Rattle.std.proofs.lemmas.Bool.Decides.{nat_tests}
use Rattle.std.proofs.lemmas.Grind.{flat_map-append}
use Rattle.std.proofs.lemmas.List.Elements.{All-nil, All-append, All-map, All-filter, All-from_recursion}
use Rattle.std.proofs.lemmas.List.Elements.{recursion_from_All}
use Rattle.std.proofs.lemmas.List.FromFn.{fill_by_all, length-map-range_with_len}
use Rattle.csv.specs.Reading.{strip_bom}
use Rattle.csv.specs.Records.{field_at}
use Rattle.csv.specs.Writing.{default_writer, needs_byte, fields_text, is_blank, read_back}
use Rattle.csv.specs.Writing as writer
use Rattle.csv.specs.declared.parser.State.TheVariants as state
use Rattle.csv.proofs.RoundTrip.{rows_text}
use Rattle.chip_graph.specs.Limits.{standard}
use Rattle.chip_graph.specs.Multigraph.{Multigraph, IsGraph}
use Rattle.chip_graph.specs.Edges.{edges_and_roots}
use Rattle.chip_graph.proofs.SumLemmas.{by_test}
use Rattle.chip_graph.specs.Faults.{fault_unless}
use Rattle.chip_link.specs.declared.trace.TraceRow.{TraceRow}
use Rattle.chip_link.specs.declared.trace.TraceRow.TheVariants.{Take, Fire}
use Rattle.chip_file.specs.Answer.{AnswersInput}
use Rattle.chip_file.specs.Kinds.{kind_at}
use Rattle.chip_file.specs.Numbers.{number_of, number_at, number_in}
use Rattle.chip_file.specs.Rows.{Row, records_of, by_index, first_row_fault, rows_under_header, has_header}
use Rattle.chip_file.specs.TraceText.{trace_header, trace_kinds, row_of_kind, trace_row_in, names_edge, trace_row_fault}
use Rattle.chip_file.specs.TraceText.{kind_in, trace_in, trace_text_fault, traces_of_text}
use Rattle.chip_file.specs.declared.fault.FileFault.{FileFault}
use Rattle.chip_file.specs.declared.fault.FileFault.TheVariants as fault
use Rattle.chip_file.proofs.WrittenLemmas.{number_of-decimal, decimal-plain, fewer_records, all_read}
use Rattle.chip_trace.specs.Interleaving.{Placed, rows_of}
use Rattle.chip_trace.specs.TraceText as written
use Rattle.chip_trace.specs.TraceText.{trace_text, lines_from}
use Rattle.chip_trace.proofs.RowLemmas.{rows_of-append}
use Rattle.chip_command.specs.Laws.{IsRowIn, AreTracesIn, WrittenIsRead, ReadIsInGraph, FileIsReadBack}
use Rattle.chip_command.proofs.InputLemmas.{passed, alone_passed, none_parts}

-- ---- the record of a row

-- the fields of the line of a row of v
abbrev record_of : ℕ → TraceRow → Row
record_of v (Take edge count) = decimal v ∷ codes "take" ∷ decimal edge ∷ decimal count ∷ []
record_of v (Fire k) = decimal v ∷ codes "fire" ∷ codes "0" ∷ decimal k ∷ []

take_line : (v edge count : List ℕ) → list_any (needs_byte default_writer) v ≡ false
    → list_any (needs_byte default_writer) edge ≡ false → list_any (needs_byte default_writer) count ≡ false
    → writer.row_text default_writer (v ∷ codes "take" ∷ edge ∷ count ∷ [])
    ≡ v ++ codes ",take," ++ edge ++ codes "," ++ count ++ codes "\n"
unfolding is_blank fields_text
take_line v edge count plain_v plain_edge plain_count =
    rw (plain_v, plain_edge, plain_count) (simp (append_assoc, append-nil))

fire_line : (v k : List ℕ) → list_any (needs_byte default_writer) v ≡ false
    → list_any (needs_byte default_writer) k ≡ false
    → writer.row_text default_writer (v ∷ codes "fire" ∷ codes "0" ∷ k ∷ [])
    ≡ v ++ codes ",fire,0," ++ k ++ codes "\n"
unfolding is_blank fields_text
fire_line v k plain_v plain_k = rw (plain_v, plain_k) (simp (append_assoc, append-nil))

-- a row of v whose line is the text of its record, and whose record is read as it
record IsRead (G : Multigraph) (v : ℕ) (row : TraceRow) : Type 0 where
  line : writer.row_text default_writer (record_of v row) ≡ written.trace_row_text v row
  vertex : number_in 0 (record_of v row) ≡ v
  means : trace_row_in (record_of v row) ≡ row
  no_fault : (index : ℕ) → trace_row_fault G index (record_of v row) ≡ None

-- numbers of a graph have 64 bits
pub few_numbers : (G : Multigraph) → IsGraph G → edges_and_roots G ≤ 2 ^ 64
few_numbers G graph = let vertices = graph.few_vertices in let edges = graph.few_edges in omega arith

is_read : (G : Multigraph) (v : ℕ) (row : TraceRow) → edges_and_roots G ≤ 2 ^ 64 → v < G.vertices → IsRowIn G row
    → IsRead G v row
unfolding field_at
is_read G v (Take edge count) few vertex fits =
    let v_fits : v < 2 ^ 64 = omega arith in
    let edge_fits : edge < 2 ^ 64 = omega (arith, fits.0) in
    let v_read = number_of-decimal v v_fits in
    let edge_read = number_of-decimal edge edge_fits in
    let count_read = number_of-decimal count fits.1 in
    record {
      line = take_line (decimal v) (decimal edge) (decimal count) (decimal-plain v v_fits)
          (decimal-plain edge edge_fits) (decimal-plain count fits.1);
      vertex = rw v_read refl;
      means = rw (edge_read, count_read) refl;
      no_fault = λ index.
          rw (v_read, edge_read, count_read, lt-ltb v G.vertices vertex, lt-ltb edge (edges_and_roots G) fits.0) refl;
    }
is_read G v (Fire k) few vertex fits =
    let v_fits : v < 2 ^ 64 = omega arith in
    let v_read = number_of-decimal v v_fits in
    let k_read = number_of-decimal k fits in
    record {
      line = fire_line (decimal v) (decimal k) (decimal-plain v v_fits) (decimal-plain k fits);
      vertex = rw v_read refl;
      means = rw k_read refl;
      no_fault = λ index. rw (v_read, k_read, lt-ltb v G.vertices vertex) refl;
    }

-- ---- the rows of traces in the order of the file

abbrev placed : ℕ → TraceRow → Placed
placed v row = record { vertex = v; row = row }

-- the rows of traces, those of the vertices from v on
abbrev placed_from : ℕ → List (List TraceRow) → List Placed
placed_from v [] = []
placed_from v (trace ∷ traces) = map (placed v) trace ++ placed_from (suc v) traces

abbrev record_at : Placed → Row
record_at x = record_of x.vertex x.row

-- all that is said of rows in a file
abbrev AreRead : Multigraph → List Placed → Type 0
AreRead G xs = AllByRecursion (λ x. IsRead G x.vertex x.row) xs

traces_read : (G : Multigraph) (v : ℕ) (traces : List (List TraceRow)) → edges_and_roots G ≤ 2 ^ 64
    → v + length traces ≤ G.vertices → All (λ trace. All (IsRowIn G) trace) traces
    → All (λ x. IsRead G x.vertex x.row) (placed_from v traces)
traces_read G v [] few within fit = All-nil (λ x. IsRead G x.vertex x.row)
traces_read G v (trace ∷ traces) few within fit =
    All-append (λ x. IsRead G x.vertex x.row) (map (placed v) trace) (placed_from (suc v) traces)
    (All-map (λ x. IsRead G x.vertex x.row) (placed v) trace
    (λ k d l. is_read G v (get_or trace k d) few (omega arith) (fit 0 [] (omega arith) k d l)))
    (traces_read G (suc v) traces few (omega arith) (λ k d l. fit (suc k) d (omega arith)))

-- ---- their text

abbrev text_of : List Placed → List ℕ
text_of xs = flat_map (λ x. written.trace_row_text x.vertex x.row) xs

text_of-trace : (v : ℕ) (trace : List TraceRow) → text_of (map (placed v) trace) ≡ written.trace_rows_text v trace
text_of-trace v [] = refl
text_of-trace v (row ∷ rows) = rw (text_of-trace v rows)

text_of-traces : (v : ℕ) (traces : List (List TraceRow)) → text_of (placed_from v traces) ≡ lines_from v traces
text_of-traces v [] = refl
text_of-traces v (trace ∷ traces) =
    flat_map-append (λ x. written.trace_row_text x.vertex x.row) (map (placed v) trace) (placed_from (suc v) traces)
    ∙ (λ i. text_of-trace v trace i ++ text_of-traces (suc v) traces i)

-- it is what the default writer of csv would write of their records
text_of-records : (G : Multigraph) (xs : List Placed) → AreRead G xs → rows_text (map record_at xs) ≡ text_of xs
unfolding rows_text
text_of-records G [] all = refl
text_of-records G (x ∷ xs) all = λ i. all.0.line i ++ text_of-records G xs all.1 i

-- ---- the records that are read of it

read_back-record : (v : ℕ) (row : TraceRow) → read_back (record_of v row) ≡ record_of v row
read_back-record v (Take edge count) = refl
read_back-record v (Fire k) = refl

read_back-records : (xs : List Placed) → map read_back (map record_at xs) ≡ map record_at xs
read_back-records [] = refl
read_back-records (x ∷ xs) = λ i. read_back-record x.vertex x.row i ∷ read_back-records xs i

-- the lines under the header, as a text without its mark
header_line : (lines : List ℕ) → strip_bom (written.header ++ lines)
    ≡ writer.row_text default_writer trace_header ++ lines
unfolding strip_bom is_blank fields_text
header_line lines = refl

records_of-traces : (G : Multigraph) (traces : List (List TraceRow)) → AreRead G (placed_from 0 traces)
    → records_of (trace_text traces) ≡ trace_header ∷ map record_at (placed_from 0 traces)
unfolding rows_text
records_of-traces G traces all =
    let xs = placed_from 0 traces in
    let rows : List Row = trace_header ∷ map record_at xs in
    let few = fewer_records rows in
    let same : strip_bom (trace_text traces) ≡ rows_text rows = header_line (lines_from 0 traces)
    ∙ ap (λ (t : List ℕ). writer.row_text default_writer trace_header ++ t)
    (sym (text_of-records G xs all ∙ text_of-traces 0 traces)) in
    rw same (all_read rows (length (rows_text rows) + 1) (omega arith))
    ∙ ap (λ (read : List Row). trace_header ∷ read) (read_back-records xs)

-- ---- nothing is wrong with them

no_fault : (G : Multigraph) (before : List Row) (xs : List Placed) → AreRead G xs
    → first_row_fault (by_index (trace_row_fault G)) before (map record_at xs) ≡ None
no_fault G before [] all = refl
no_fault G before (x ∷ xs) all =
    rw (all.0.no_fault (length before)) (no_fault G (before ++ record_at x ∷ []) xs all.1)

-- ---- what they say of a vertex

said : (G : Multigraph) (v : ℕ) (xs : List Placed) → AreRead G xs → trace_in (map record_at xs) v ≡ rows_of xs v
said G v [] all = refl
said G v (x ∷ xs) all = rw all.0.vertex (by_test (x.vertex == v)
    (λ own. rw own (λ i. all.0.means i ∷ said G v xs all.1 i)) (λ other. rw other (said G v xs all.1)))

rows_of-trace : (u v : ℕ) (trace : List TraceRow) → rows_of (map (placed u) trace) v ≡ if u == v then trace else []
rows_of-trace u v [] = grind (arith, nat_tests)
rows_of-trace u v (row ∷ rows) = let more = rows_of-trace u v rows in grind (arith, nat_tests)

-- of a vertex before those of the traces there is no row
rows_of-before : (u v : ℕ) (traces : List (List TraceRow)) → v < u → rows_of (placed_from u traces) v ≡ []
rows_of-before u v [] lower = refl
rows_of-before u v (trace ∷ traces) lower =
    let both = rows_of-append (map (placed u) trace) (placed_from (suc u) traces) v in
    let none = rows_of-trace u v trace in let later = rows_of-before (suc u) v traces (omega arith) in
    grind (arith, nat_tests)

rows_of-at : (u : ℕ) (traces : List (List TraceRow)) (k v : ℕ) → u + k ≡ v
    → rows_of (placed_from u traces) v ≡ get_or traces k []
rows_of-at u [] k v e = refl
rows_of-at u (trace ∷ traces) zero v e =
    let both = rows_of-append (map (placed u) trace) (placed_from (suc u) traces) v in
    let here = rows_of-trace u v trace in let later = rows_of-before (suc u) v traces (omega arith) in
    grind (arith, nat_tests, append-nil)
rows_of-at u (trace ∷ traces) (suc k) v e =
    let both = rows_of-append (map (placed u) trace) (placed_from (suc u) traces) v in
    let none = rows_of-trace u v trace in let later = rows_of-at (suc u) traces k v (omega arith) in
    grind (arith, nat_tests)

-- ---- so they are read back

pub written_is_read : WrittenIsRead
written_is_read G traces graph are =
    let xs = placed_from 0 traces in
    let each = are.each in
    let all = recursion_from_All (λ x. IsRead G x.vertex x.row) xs
    (traces_read G 0 traces (few_numbers G graph) (omega arith) are.rows) in
    rw (records_of-traces G traces all, no_fault G [] xs all)
    (ap Some (sym (fill_by_all (trace_in (map record_at xs)) traces G.vertices [] are.each
    (λ v below. sym (said G v xs all ∙ rows_of-at 0 traces v v (omega arith))))))

-- ---- nothing else is read

-- a field gives no number of more than 64 bits
few_of : (field : Option (List ℕ)) → unwrap_or (option_and_then number_of field) 0 < 2 ^ 64
few_of field = grind (arith, nat_tests)

-- whatever kind the fields name
kind_fits : (G : Multigraph) (kind : _) (edge count : ℕ) → count < 2 ^ 64
    → names_edge G (row_of_kind kind edge count) ≡ true → IsRowIn G (row_of_kind kind edge count)
kind_fits G kind edge count fits named = grind (arith, nat_tests)

-- a row with nothing wrong is one of the graph
row_fits : (G : Multigraph) (index : ℕ) (row : Row) → trace_row_fault G index row ≡ None → IsRowIn G (trace_row_in row)
row_fits G index row none =
    let long = passed (length row == 4) (fault.Row index) _ none in
    let known = passed (is_some (kind_at trace_kinds 1 row)) (fault.Kind index) _ long.1 in
    let numbers = passed (is_some (number_at 0 row) && is_some (number_at 2 row) && is_some (number_at 3 row))
    (fault.Number index) _ known.1 in
    let both = alone_passed (nat_lt (number_in 0 row) G.vertices && names_edge G (trace_row_in row))
    (fault.Vertex index) numbers.1 in
    kind_fits G (kind_in row) (number_in 2 row) (number_in 3 row) (few_of (field_at row 3))
    (and_parts (nat_lt (number_in 0 row) G.vertices) (names_edge G (trace_row_in row)) both).1

rows_fit : (G : Multigraph) (before rows : List Row)
    → first_row_fault (by_index (trace_row_fault G)) before rows ≡ None
    → AllByRecursion (λ row. IsRowIn G (trace_row_in row)) rows
rows_fit G before [] none = tt
rows_fit G before (row ∷ rows) none =
    let parts = none_parts (trace_row_fault G (length before) row) _ none in
    (row_fits G (length before) row parts.0, rows_fit G (before ++ row ∷ []) rows parts.1)

trace_fits : (G : Multigraph) (rows : List Row) → All (λ row. IsRowIn G (trace_row_in row)) rows → (v : ℕ)
    → All (IsRowIn G) (trace_in rows v)
trace_fits G rows all v = All-map (IsRowIn G) trace_row_in (filter (λ row. number_in 0 row == v) rows)
    (All-filter (λ row. number_in 0 row == v) (λ row. IsRowIn G (trace_row_in row)) rows all)

-- a value that is given has no fault
pub given : {A : Type 0} (f : Option FileFault) (x y : A) → (if is_none f then Some x else None) ≡ Some y
    → (f ≡ None) × (x ≡ y)
given None x y e = (refl, cc)
given (Some f) x y e = cc e

pub read_is_in_graph : ReadIsInGraph
read_is_in_graph G text traces meant =
    let rows = rows_under_header (records_of text) in
    let fine = given (trace_text_fault G text) (map (trace_in rows) (range_with_len 0 G.vertices)) traces meant in
    let none = none_parts (fault_unless (has_header trace_header (records_of text)) fault.Header) _ fine.0 in
    let all = All-from_recursion (λ row. IsRowIn G (trace_row_in row)) rows (rows_fit G [] rows none.1) in
    let are : AreTracesIn G (map (trace_in rows) (range_with_len 0 G.vertices)) = record {
      each = length-map-range_with_len (trace_in rows) 0 G.vertices;
      rows = All-map (λ trace. All (IsRowIn G) trace) (trace_in rows) (range_with_len 0 G.vertices)
          (λ k d below. trace_fits G rows all (get_or (range_with_len 0 G.vertices) k d));
    } in
    rw fine.1 at are

-- ---- any result

answered : (G : Multigraph) (traces : List (List TraceRow)) (file : List ℕ)
    (answer : Result (List (List TraceRow)) FileFault) → traces_of_text G file ≡ Some traces
    → AnswersInput standard file (λ read. traces_of_text G file ≡ Some read) (λ f. trace_text_fault G file ≡ Some f) answer
    → AnswersInput standard file (λ read. read ≡ traces) (λ f. ⊥) answer
answered G traces file (Ok got) meant is = (is.0, cc (is.1, meant))
answered G traces file (Err f) meant (inl machine) = inl machine
answered G traces file (Err f) meant (inr (inl long)) = inr (inl long)
answered G traces file (Err f) meant (inr (inr is)) =
    let fine = given (trace_text_fault G file) _ traces meant in absurd (cc (fine.0, is.1))

pub file_is_read_back : FileIsReadBack
file_is_read_back G traces graph are file wrote answer answers =
    answered G traces file answer (rw wrote (written_is_read G traces graph are)) answers
