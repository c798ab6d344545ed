-- Serves GraphText.antt.
-- A text of more edges than a graph has is refused alike, whether all of them are kept or only the first.
use Rattle.chip_file.proofs.Names.{◌≡◌, ℕ, ◌<◌, ◌≤◌, ◌⊎◌, List, length, Option, Some, None, Ok, Err, refl, sym, ap, ◌∙◌}
use Rattle.chip_file.proofs.Names.{subst, arith, inl, inr, lt-leb, option_and_then, Result, nat_lt, nat_le, ◌&&◌}
use Rattle.chip_file.proofs.Names.{IsErrAnd, Edge, GraphFault, SizeLimits, Multigraph, IsGraphWithin, IsGraphFault}
use Rattle.chip_file.proofs.Names.{MakesGraph, first_of_faults, fault_unless, fault_of_edges, rows_few}
use Rattle.chip_file.proofs.Names.{GraphFile, file_of_value, KeepsEdges, FileFault, Gives, of_graph_fault}
use Rattle.chip_file.proofs.Names.{file_of_text, graph_of_file, graph_of_text, IsKeptText, MeansGraph, IsGraphTextFault}
use Rattle.chip_file.specs.declared.graph_text.file.GraphFile.{GraphFile as Kept}
use Rattle.chip_file.specs.JsonParts.{KeepsGraph, KeepsFile, GivesFile}
use Rattle.chip_graph.specs.declared.fault.GraphFault.TheVariants as graph_fault
use Rattle.chip_file.specs.declared.fault.FileFault.TheVariants as fault

-- ---- a refusal

pub refused : {T : Type 0} (IsMeant : T → Type 0) (IsFault : FileFault → Type 0) (result : Result T FileFault)
    (f : FileFault) → IsErrAnd result (λ e. e ≡ f) → (f ≡ fault.NoMemory) ⊎ IsFault f → Gives IsMeant IsFault result
refused IsMeant IsFault (Ok value) f is why = absurd is
refused IsMeant IsFault (Err e) f is why = subst (λ (g : FileFault). (g ≡ fault.NoMemory) ⊎ IsFault g) (sym is) why

-- ---- the file of a text

pub json_fault : (limits : SizeLimits) (most : ℕ) (text : List ℕ) (f : FileFault) → GivesFile most text (Err f)
    → (f ≡ fault.NoMemory) ⊎ IsGraphTextFault limits text f
json_fault limits most text f (inl e) = inl e
json_fault limits most text f (inr (inl (e, none))) = inr (rw e none)
json_fault limits most text f (inr (inr (e, d, is, none))) = inr (rw e (d, is, none))

kept_file : (most : ℕ) (o : Option GraphFile) (kept : Kept) → KeepsFile most o (Some kept)
    → (file : GraphFile) × (o ≡ Some file) × (file.version ≡ kept.version) × KeepsGraph most file.graph kept
kept_file most (Some file) kept h = (file, refl, h.0, h.1)
kept_file most None kept h = absurd h

pub text_file : (most : ℕ) (text : List ℕ) (kept : Kept) → GivesFile most text (Ok kept)
    → (file : GraphFile) × (file_of_text text ≡ Some file) × (file.version ≡ kept.version) × KeepsGraph most file.graph kept
text_file most text kept (d, is, keeps) =
    let found = kept_file most (file_of_value d) kept keeps in
    (found.0, ap (option_and_then file_of_value) is ∙ found.1, found.2, found.3)

pub first_version : (file : GraphFile) → file.version ≡ 1 → graph_of_file file ≡ Some file.graph
first_version file is = rw is refl

-- ---- the graph of the rows that are kept

abbrev pub kept_rows : Kept → Multigraph
kept_rows kept = record { vertices = kept.vertices; sink = kept.sink; edges = kept.edges.items }

same_rows : (graph : Multigraph) (v s : ℕ) (edges : List Edge) → graph.vertices ≡ v → graph.sink ≡ s
    → edges ≡ graph.edges → graph ≡ record { vertices = v; sink = s; edges = edges }
same_rows graph v s edges a b c = rw (← a, ← b, c) refl

-- what comes after a fault is not read
not_later : (one other : Option GraphFault) (f : GraphFault) (edges more : Option GraphFault)
    → first_of_faults (first_of_faults one (first_of_faults other (Some f))) edges
    ≡ first_of_faults (first_of_faults one (first_of_faults other (Some f))) more
not_later None None f edges more = refl
not_later _ _ f edges more = refl

-- where there are too many edges, none is read
fault_of_many : (limits : SizeLimits) (v s : ℕ) (all kept : List Edge) (f : GraphFault) → limits.edges < length all
    → limits.edges < length kept
    → IsGraphFault limits (record { vertices = v; sink = s; edges = kept }) f
    → IsGraphFault limits (record { vertices = v; sink = s; edges = all }) f
fault_of_many limits v s all kept f many more (inl is) =
    inl (rw (lt-leb (length all) limits.edges many)
    (not_later (fault_unless (nat_lt 0 v && nat_le v limits.vertices) graph_fault.Vertices)
    (fault_unless (nat_lt s v) graph_fault.Sink) graph_fault.EdgeCount (fault_of_edges v s 0 all) (fault_of_edges v s 0 kept)
    ∙ (rw (lt-leb (length kept) limits.edges more) at is)))
fault_of_many limits v s all kept f many more (inr h) =
    let few : length kept ≤ limits.edges = rows_few limits (record { vertices = v; sink = s; edges = kept }) h.0 in
    absurd (omega arith)

fault_of_rows_by : (limits : SizeLimits) (v s : ℕ) (all kept : List Edge) (f : GraphFault)
    → KeepsEdges limits.edges all kept
    → IsGraphFault limits (record { vertices = v; sink = s; edges = kept }) f
    → IsGraphFault limits (record { vertices = v; sink = s; edges = all }) f
fault_of_rows_by limits v s all kept f (inl is) h =
    subst (λ (edges : List Edge). IsGraphFault limits (record { vertices = v; sink = s; edges = edges }) f) is h
fault_of_rows_by limits v s all kept f (inr both) h = fault_of_many limits v s all kept f both.0 both.1 h

fault_of_all : (limits : SizeLimits) (graph : Multigraph) (kept : Kept) (f : GraphFault)
    → KeepsGraph limits.edges graph kept → IsGraphFault limits (kept_rows kept) f → IsGraphFault limits graph f
fault_of_all limits graph kept f (a, b, keeps) h =
    subst (λ (g : Multigraph). IsGraphFault limits g f)
    (sym (same_rows graph kept.vertices kept.sink graph.edges a b refl))
    (fault_of_rows_by limits kept.vertices kept.sink graph.edges kept.edges.items f keeps h)

all_rows : (limits : SizeLimits) (graph : Multigraph) (kept : Kept) → KeepsGraph limits.edges graph kept
    → IsGraphWithin limits (kept_rows kept)
    → graph ≡ kept_rows kept
all_rows limits graph kept (a, b, inl is) ok = same_rows graph kept.vertices kept.sink kept.edges.items a b is
all_rows limits graph kept (a, b, inr both) ok =
    let few : length kept.edges.items ≤ limits.edges = ok.within_edges in
    let many : limits.edges < length kept.edges.items = both.1 in
    absurd (omega arith)

-- ---- the graph of a text

pub means_graph : (limits : SizeLimits) (text : List ℕ) (kept : Kept) (made : Multigraph) → IsKeptText limits text kept
    → MakesGraph limits (kept_rows kept) (Ok made) → MeansGraph limits text made
means_graph limits text kept made (graph, is, keeps) (same, ok) = record {
  meaning = is ∙ ap Some (all_rows limits graph kept keeps ok ∙ sym same);
  valid = subst (IsGraphWithin limits) (sym same) ok;
}

is_text_fault : (limits : SizeLimits) (text : List ℕ) (graph : Multigraph) (f : GraphFault)
    → graph_of_text text ≡ Some graph
    → IsGraphFault limits graph f → (of_graph_fault f ≡ fault.NoMemory) ⊎ IsGraphTextFault limits text (of_graph_fault f)
is_text_fault limits text graph graph_fault.NoMemory is h = inl refl
is_text_fault limits text graph f is h = inr (graph, is, h)

pub text_fault : (limits : SizeLimits) (text : List ℕ) (kept : Kept) (f : GraphFault) → IsKeptText limits text kept
    → MakesGraph limits (kept_rows kept) (Err f)
    → (of_graph_fault f ≡ fault.NoMemory) ⊎ IsGraphTextFault limits text (of_graph_fault f)
text_fault limits text kept f given (inl (e, none)) = inl (ap of_graph_fault e)
text_fault limits text kept f (graph, is, keeps) (inr h) =
    is_text_fault limits text graph f is (fault_of_all limits graph kept f keeps h)
