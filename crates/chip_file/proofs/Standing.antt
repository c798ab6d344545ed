-- Serves JsonParts.antt.
-- The parts of a file, member by member.
use Rattle.chip_file.proofs.JsonNames.{◌≡◌, ℕ, List, true, false, Option, Some, None, refl, sym, ◌∙◌, inl, inr, Vec, Global}
use Rattle.chip_file.proofs.JsonNames.{true≢false, Bool, codes, ◌⊎◌, Data, object, Members, as_object, number_of_value}
use Rattle.chip_file.proofs.JsonNames.{file_of_value, file_of_parts, GraphFile, KeepsAny, AreRowsUnder, IsOther, Stands}
use Rattle.chip_file.proofs.JsonNames.{Takes, KeepsFile, kept_of, Edge, FileFault, NotJson, NoMemory}
use Rattle.chip_file.specs.declared.graph_text.file.GraphFile.{GraphFile as Kept}
use Rattle.chip_file.specs.declared.graph_text.file.Parts.{Parts}
use Rattle.chip_file.proofs.Known.{put_edges, put_sink, put_version, put_vertices, crowded_edges, crowded_sink}
use Rattle.chip_file.proofs.Known.{crowded_version, crowded_vertices, crowded_other, known_crowded, crowded_file}
use Rattle.chip_file.proofs.Known.{file_of_known, num, rows}

abbrev parts : Option ℕ → Option ℕ → Option ℕ → Option (Vec Edge Global) → Bool → Parts
parts v w s es o = record { version = v; vertices = w; sink = s; edges = es; others = o }

module _ {most : ℕ} (name : List ℕ) (d : Data) (p : Parts) where
  pub take_version : (n : Option ℕ) → name ≡ codes "version" → number_of_value d ≡ n
      → Takes most name d p (parts n p.vertices p.sink p.edges p.others)
  take_version n is e found (inl (o, es, s, v, w, f, a, b, c, k)) =
      inl (o, es, s, Some d, w, rw (is, f) (put_version d es s v w), e, b, c, k)
  take_version n is e found (inr (o, h)) = inr (o, rw is (crowded_version d found h))

  pub take_vertices : (n : Option ℕ) → name ≡ codes "vertices" → number_of_value d ≡ n
      → Takes most name d p (parts p.version n p.sink p.edges p.others)
  take_vertices n is e found (inl (o, es, s, v, w, f, a, b, c, k)) =
      inl (o, es, s, v, Some d, rw (is, f) (put_vertices d es s v w), a, e, c, k)
  take_vertices n is e found (inr (o, h)) = inr (o, rw is (crowded_vertices d found h))

  pub take_sink : (n : Option ℕ) → name ≡ codes "sink" → number_of_value d ≡ n
      → Takes most name d p (parts p.version p.vertices n p.edges p.others)
  take_sink n is e found (inl (o, es, s, v, w, f, a, b, c, k)) =
      inl (o, es, Some d, v, w, rw (is, f) (put_sink d es s v w), a, b, e, k)
  take_sink n is e found (inr (o, h)) = inr (o, rw is (crowded_sink d found h))

  pub take_edges : (n : Option (Vec Edge Global)) → name ≡ codes "edges" → AreRowsUnder most d n
      → Takes most name d p (parts p.version p.vertices p.sink n p.others)
  take_edges n is e found (inl (o, es, s, v, w, f, a, b, c, k)) =
      inl (o, Some d, s, v, w, rw (is, f) (put_edges d es s v w), a, b, c, e)
  take_edges n is e found (inr (o, h)) = inr (o, rw is (crowded_edges d found h))

  pub take_other : IsOther name → Takes most name d p (parts p.version p.vertices p.sink p.edges true)
  take_other other found (inl (o, es, s, v, w, f, a, b, c, k)) =
      inr (refl, rw f (known_crowded name d es s v w other))
  take_other other found (inr (o, h)) = inr (refl, crowded_other name d found other h)

-- ---- a refusal

pub or_refused : {A B : Type 0} {f : FileFault} → (f ≡ NoMemory) ⊎ ((f ≡ NotJson) × A) → (A → B)
    → (f ≡ NoMemory) ⊎ ((f ≡ NotJson) × B)
or_refused (inl e) h = inl e
or_refused (inr (e, a)) h = inr (e, h a)

-- ---- the file

kept_parts : (most : ℕ) (v w s : Option ℕ) (es : Option (List Edge)) (kept : Option (Vec Edge Global)) → KeepsAny most es kept
    → KeepsFile most (file_of_parts v w s es) (kept_of v w s kept)
kept_parts most (Some v) (Some w) (Some s) (Some es) (Some kept) h = (refl, (refl, refl, h))
kept_parts most (Some v) (Some w) (Some s) None None h = tt
kept_parts most (Some v) (Some w) (Some s) (Some es) None h = absurd h
kept_parts most (Some v) (Some w) (Some s) None (Some kept) h = absurd h
kept_parts most (Some v) (Some w) None es kept h = tt
kept_parts most (Some v) None s es kept h = tt
kept_parts most None w s es kept h = tt

pub file_of_parts_kept : {most : ℕ} (p : Parts) (found : Members) → p.others ≡ false → Stands most found p
    → KeepsFile most (file_of_value (object found)) (kept_of p.version p.vertices p.sink p.edges)
file_of_parts_kept p found o (inl (same, es, s, v, w, f, a, b, c, k)) =
    rw (f, file_of_known es s w v, ← a, ← b, ← c) (kept_parts _ (num v) (num w) (num s) (rows es) p.edges k)
file_of_parts_kept p found o (inr (other, h)) = let never : true ≡ false = sym other ∙ o in absurd (true≢false never)

pub no_file : {most : ℕ} (p : Parts) (found : Members) → p.others ≡ true → Stands most found p
    → KeepsFile most (file_of_value (object found)) None
no_file p found o (inl (same, es, s, v, w, f, a, b, c, k)) = let never : true ≡ false = sym o
    ∙ same in absurd (true≢false never)
no_file p found o (inr (other, h)) = rw (crowded_file found h) tt

pub no_object_file : (most : ℕ) (d : Data) → as_object d ≡ None → KeepsFile most (file_of_value d) None
no_object_file most d e = rw e tt

shape_by : (most : ℕ) (o : Option GraphFile) → KeepsFile most o None → o ≡ None
shape_by most None h = refl
shape_by most (Some file) h = absurd h

pub shape_of : (most : ℕ) (d : Data) (kept : Option Kept) → kept ≡ None → KeepsFile most (file_of_value d) kept
    → file_of_value d ≡ None
shape_of most d kept e h = shape_by most (file_of_value d) (rw e at h)
