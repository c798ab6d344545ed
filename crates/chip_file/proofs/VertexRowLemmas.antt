-- Serves VertexRows.antt, Rows.antt.
-- How visiting one row after another gives a list by vertices, and so the numbers of a text.
use Rattle.chip_file.proofs.Names.{◌≡◌, ℕ, ◌<◌, Bool, true, false, List, [], ◌∷◌, ◌++◌, length, map, get_or, set}
use Rattle.chip_file.proofs.Names.{Option, None, Some, refl, ap, arith, sym, ◌∙◌, get_or-set_same, get_or-set_other}
use Rattle.chip_file.proofs.Names.{replicate, is_some, unwrap_or, ◌==◌, if◌then◌else◌, range_with_len, get_or-replicate}
use Rattle.chip_file.proofs.Names.{get_or_read_under, length-replicate, length-set, eqb-true, eqb-false, fill_by_all}
use Rattle.chip_file.proofs.Names.{map-map, vertex_row_fault, new_row_fault, number_named, vertex_in, given_in}
use Rattle.chip_file.proofs.Names.{numbers_of_rows, IsByVertex, nat_tests, common_steps, Row}

-- ---- lists by vertices

pub by_vertex-none : {T : Type 0} (n : ℕ) (of : ℕ → T) (none : T) (xs : List T) → xs ≡ replicate n none
    → ((v : ℕ) → none ≡ of v) → IsByVertex n of none xs
by_vertex-none n of none xs blank same = record {
  as_many = ap length blank ∙ length-replicate n none;
  each = λ v h. rw blank (get_or-replicate n v none none h) ∙ same v;
}

-- an element of a list in which one was set
get_or-set : {T : Type 0} (xs : List T) (i v : ℕ) (x d : T) → i < length xs
    → get_or (set xs i x) v d ≡ (if i == v then x else get_or xs v d)
get_or-set xs i v x d inside = by (i == v) refl
  where
    by : (b : Bool) → (i == v) ≡ b → get_or (set xs i x) v d ≡ (if b then x else get_or xs v d)
    by true e = rw (← eqb-true i v e) (get_or-set_same xs i x d inside)
    by false e = get_or-set_other xs i v x d (λ k. eqb-false i v e (sym k))

pub by_vertex-set : {T : Type 0} (n i : ℕ) (of of' : ℕ → T) (none x : T) (xs : List T) → IsByVertex n of none xs → i < n
    → ((v : ℕ) → (if i == v then x else of v) ≡ of' v) → IsByVertex n of' none (set xs i x)
by_vertex-set n i of of' none x xs are below step = record {
  as_many = length-set xs i x ∙ are.as_many;
  each = λ v h. rw (get_or-set xs i v x none (rw are.as_many below), are.each v h) (step v);
}

pub by_vertex-all : {T : Type 0} (n : ℕ) (of : ℕ → T) (none : T) (xs : List T) → IsByVertex n of none xs
    → map of (range_with_len 0 n) ≡ xs
by_vertex-all n of none xs are = sym (fill_by_all of xs n none are.as_many are.each)

-- ---- numbers

-- a row with no fault of its own names a vertex
pub names_vertex : (vertices index : ℕ) (row : Row) → vertex_row_fault vertices index row ≡ None
    → vertex_in row < vertices
names_vertex vertices index row e = grind (arith, nat_tests, common_steps)

pub push_by : (b : Bool) (x : ℕ) (a more last : Option ℕ) → more ≡ (if is_some a then a else last)
    → (if b then Some x else more) ≡ (if is_some (if b then Some x else a) then (if b then Some x else a) else last)
push_by true x a more last h = refl
push_by false x a more last h = h

pub named_push : (before : List Row) (row : Row) (v : ℕ)
    → number_named (before ++ row ∷ []) v
    ≡ (if is_some (number_named before v) then number_named before v
    else (if vertex_in row == v then Some (given_in row) else None))
named_push [] row v = refl
named_push (r ∷ before) row v = push_by (vertex_in r == v) (given_in r) (number_named before v)
    (number_named (before ++ row ∷ []) v) _ (named_push before row v)

set_by : (b : Bool) (x : ℕ) (known : Option ℕ) → (b ≡ true → is_some known ≡ false)
    → (if b then Some x else known) ≡ (if is_some known then known else (if b then Some x else None))
set_by true x known new = rw (new refl) refl
set_by false x None new = refl
set_by false x (Some y) new = refl

pub named_more : (vertices : ℕ) (before : List Row) (named : List (Option ℕ)) (index : ℕ) (row : Row) (was : Option ℕ)
    → IsByVertex vertices (number_named before) None named → length before ≡ index
    → vertex_row_fault vertices index row ≡ None → was ≡ get_or named (vertex_in row) was → false ≡ is_some was
    → (new_row_fault vertices before row ≡ None)
    × IsByVertex vertices (number_named (before ++ row ∷ [])) None (set named (vertex_in row) (Some (given_in row)))
named_more vertices before named index row was are counted fine is free =
    let below = names_vertex vertices index row fine in
    let same = get_or_read_under named (vertex_in row) vertices was None is below (sym are.as_many) in
    let new : is_some (number_named before (vertex_in row)) ≡ false =
    rw (← are.each (vertex_in row) below, ← same) (sym free) in (
      rw (counted, fine, new) refl,
      by_vertex-set vertices (vertex_in row) _ _ None (Some (given_in row)) named are below
          (λ v. rw (named_push before row v) (set_by (vertex_in row == v) (given_in row) (number_named before v)
          (λ e. rw (← eqb-true (vertex_in row) v e) new))),
    )

pub named_numbers : (vertices : ℕ) (rows : List Row) (named : List (Option ℕ))
    → IsByVertex vertices (number_named rows) None named
    → numbers_of_rows vertices rows ≡ map (λ number. unwrap_or number 0) named
named_numbers vertices rows named are =
    sym (map-map (λ number. unwrap_or number 0) (number_named rows) (range_with_len 0 vertices))
    ∙ ap (map (λ number. unwrap_or number 0)) (by_vertex-all vertices (number_named rows) None named are)
