-- Serves Rows.antt.
-- The edge and the edges that items are.
use Rattle.chip_file.proofs.JsonNames.{◌≡◌, ℕ, ◌<◌, List, [], ◌∷◌, ◌++◌, length, Option, Some, None, option_map}
use Rattle.chip_file.proofs.JsonNames.{option_and_then, refl, sym, ap, ◌∙◌, inl, inr, arith, append_assoc, append-nil}
use Rattle.chip_file.proofs.JsonNames.{length-append, Bool, true, false, Vec, Global, Data, Items, no_items, item}
use Rattle.chip_file.proofs.JsonNames.{number_of_value, numbers_of, edge_of_numbers, edges_of_rows, edge_of_row, and_number}
use Rattle.chip_file.proofs.JsonNames.{and_items, edge_in, KeepsEdges, KeepsAny, Edge, FileFault, Result, Ok, Err, ◌-◌, Token}
use Rattle.chip_file.proofs.JsonNames.{array, as_array, MayRead, MayReadItems, AreEdgeRows, AreRowsUnder}
use Rattle.chip_file.specs.declared.graph_text.rows.Row.TheVariants as row
use Rattle.chip_file.proofs.Turns.{array_read}

-- ---- a row

other_stays : (ds : Items) → and_items row.Other ds ≡ row.Other
other_stays no_items = refl
other_stays (item d ds) = other_stays ds

abbrev more : Option ℕ → Option (List ℕ) → Option (List ℕ)
more o ns = option_and_then (λ n. option_map (λ ns. n ∷ ns) ns) o

too_many : (a b c : ℕ) (o : Option ℕ) (ns : Option (List ℕ))
    → option_and_then edge_of_numbers (more (Some a) (more (Some b) (more (Some c) (more o ns)))) ≡ None
too_many a b c (Some n) (Some ns) = refl
too_many a b c _ _ = refl

one : (o : Option ℕ) → edge_in (and_number row.Empty o) ≡ option_and_then edge_of_numbers (more o (Some []))
one None = refl
one (Some a) = refl

two : (o p : Option ℕ) → edge_in (and_number (and_number row.Empty o) p)
    ≡ option_and_then edge_of_numbers (more o (more p (Some [])))
two (Some a) (Some b) = refl
two _ _ = refl

three : (o p q : Option ℕ) (ds : Items) → edge_in (and_items (and_number (and_number (and_number row.Empty o) p) q) ds)
    ≡ option_and_then edge_of_numbers (more o (more p (more q (numbers_of ds))))
three (Some a) (Some b) (Some c) no_items = refl
three (Some a) (Some b) (Some c) (item d ds) =
    ap edge_in (other_stays ds) ∙ sym (too_many a b c (number_of_value d) (numbers_of ds))
three o p q ds = ap edge_in (other_stays ds)

pub row_read : (ds : Items) → edge_in (and_items row.Empty ds) ≡ option_and_then edge_of_numbers (numbers_of ds)
row_read no_items = refl
row_read (item a no_items) = one (number_of_value a)
row_read (item a (item b no_items)) = two (number_of_value a) (number_of_value b)
row_read (item a (item b (item c ds))) = three (number_of_value a) (number_of_value b) (number_of_value c) ds

-- ---- rows

append_next : (before : List Edge) (edge : Edge) (o : Option (List Edge))
    → option_map (λ more. before ++ more) (option_map (λ edges. edge ∷ edges) o)
    ≡ option_map (λ more. (before ++ edge ∷ []) ++ more) o
append_next before edge None = refl
append_next before edge (Some more) = ap Some (sym (append_assoc before (edge ∷ []) more))

-- these items in front put these edges in front
abbrev pub EdgesBefore : (Items → Items) → List Edge → Type 0
EdgesBefore before all = (rest : Items) → edges_of_rows (before rest) ≡ option_map (λ more. all ++ more)
    (edges_of_rows rest)

abbrev pub NoEdgesBefore : (Items → Items) → Type 0
NoEdgesBefore before = (rest : Items) → edges_of_rows (before rest) ≡ None

pub one_more_edge : (before : Items → Items) (all : List Edge) (d : Data) (edge : Edge) → edge_of_row d ≡ Some edge
    → EdgesBefore before all → EdgesBefore (λ ds. before (item d ds)) (all ++ edge ∷ [])
one_more_edge before all d edge e h rest = h (item d rest) ∙ rw e (append_next all edge (edges_of_rows rest))

pub no_more_edges : (before : Items → Items) (all : List Edge) (d : Data) → edge_of_row d ≡ None
    → EdgesBefore before all → NoEdgesBefore (λ ds. before (item d ds))
no_more_edges before all d e h rest = h (item d rest) ∙ rw e refl

-- what is known of the rows so far: their edges, or that one is no edge
abbrev pub RowsBefore : ℕ → Bool → (Items → Items) → List Edge → Type 0
RowsBefore most true before kept = (all : List Edge) × KeepsEdges most all kept × EdgesBefore before all
RowsBefore most false before kept = NoEdgesBefore before

pub rows_more : {most : ℕ} (b : Bool) (before : Items → Items) (kept new : List Edge) (d : Data) (edge : Edge)
    → edge_of_row d ≡ Some edge → ((all : List Edge) → KeepsEdges most all kept → KeepsEdges most (all ++ edge ∷ []) new)
    → RowsBefore most b before kept → RowsBefore most b (λ ds. before (item d ds)) new
rows_more true before kept new d edge e keeps (all, k, h) =
    (all ++ edge ∷ [], keeps all k, one_more_edge before all d edge e h)
rows_more false before kept new d edge e keeps h = λ rest. h (item d rest)

pub rows_spoilt : (most : ℕ) (b : Bool) (before : Items → Items) (kept : List Edge) (d : Data) → edge_of_row d ≡ None
    → RowsBefore most b before kept → NoEdgesBefore (λ ds. before (item d ds))
rows_spoilt most true before kept d e (all, k, h) = no_more_edges before all d e h
rows_spoilt most false before kept d e h = λ rest. h (item d rest)

all_read : {most : ℕ} (all : List Edge) (o : Option (List Edge)) (kept : Vec Edge Global) → o ≡ Some (all ++ [])
    → KeepsEdges most all kept.items → KeepsAny most o (Some kept)
all_read all o kept e h = rw (e, append-nil all) h

pub rows_over : {most : ℕ} (before : Items → Items) (kept : Vec Edge Global) → RowsBefore most true before kept.items
    → KeepsAny most (edges_of_rows (before no_items)) (Some kept)
rows_over before kept (all, k, h) = all_read all (edges_of_rows (before no_items)) kept (h no_items) k

pub no_rows_over : (most : ℕ) (before : Items → Items) → NoEdgesBefore before
    → KeepsAny most (edges_of_rows (before no_items)) None
no_rows_over most before h = rw (h no_items) tt

pub keeps_old : {most : ℕ} (all kept : List Edge) (edge : Edge) → most < length kept → KeepsEdges most all kept
    → KeepsEdges most (all ++ edge ∷ []) kept
keeps_old all kept edge h (inl is) = inr (omega (arith, length-append all (edge ∷ []), ap length is), h)
keeps_old all kept edge h (inr both) = inr (omega (arith, length-append all (edge ∷ []), both.0), h)

pub keeps_new : {most : ℕ} (all kept : List Edge) (edge : Edge) → KeepsEdges most all kept
    → KeepsEdges most (all ++ edge ∷ []) (kept ++ edge ∷ [])
keeps_new all kept edge (inl is) = inl (ap (λ es. es ++ edge ∷ []) is)
keeps_new all kept edge (inr both) = inr (
  omega (arith, length-append all (edge ∷ []), both.0),
  omega (arith, length-append kept (edge ∷ []), both.1),
)

same_edges : (o : Option (List Edge)) → o ≡ option_map (λ more. [] ++ more) o
same_edges None = refl
same_edges (Some es) = refl

pub no_rows : {most : ℕ} (kept : List Edge) → kept ≡ [] → RowsBefore most true (λ ds. ds) kept
no_rows kept e = ([], inl e, (λ rest. same_edges (edges_of_rows rest)))

pub no_array_rows : (most : ℕ) (d : Data) → as_array d ≡ None → AreRowsUnder most d None
no_array_rows most d e = rw e tt

pub rows_mapped : (most : ℕ) (depth : ℕ) (ts old new : List Token) (result : Result (Option (Vec Edge Global)) FileFault)
    → old ≡ Token.begin_array ∷ ts → 0 < depth → MayReadItems (depth - 1) ts new (AreEdgeRows most) result
    → MayRead depth old new (AreRowsUnder most) result
rows_mapped most depth ts old new (Ok x) is h (ds, e, k) = (array ds, rw is (array_read depth ts _ h e), k)
rows_mapped most depth ts old new (Err x) is h (inl e) = inl e
rows_mapped most depth ts old new (Err x) is h (inr e) = inr (e.0, rw is (array_read depth ts _ h e.1))
