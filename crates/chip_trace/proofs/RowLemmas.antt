-- Serves Interleaving.antt.
-- The result of rows as they grow; and a row that is enabled stays enabled.
use Rattle.chip_trace.proofs.Names.{and_parts, and_from, nat_tests, ◌≡◌, ℕ, ◌+◌, ◌*◌, true, List, [], ◌∷◌, ◌++◌, length}
use Rattle.chip_trace.proofs.Names.{map, refl, ap, ◌∙◌, arith, append_assoc, append-nil, eq-eqb, Option, Some, nat_lt}
use Rattle.chip_trace.proofs.Names.{map-append, TraceRow, Take, Fire, edge_at, ChipGame, by_test, fires, chips_taken}
use Rattle.chip_trace.proofs.Names.{takes_of, messages, goes_into, next_message, has_count, is_row_enabled, Placed, rows_of}
use Rattle.chip_trace.proofs.Names.{AreRowsEnabled, with_firing, row_firings}
use Rattle.chip_trace.proofs.PrefixLemmas.{slice_get_keeps}

-- ---- rows and more rows

pub fires-append : (xs ys : List TraceRow) → fires (xs ++ ys) ≡ fires xs ++ fires ys
fires-append [] ys = refl
fires-append (Take edge count ∷ xs) ys = fires-append xs ys
fires-append (Fire k ∷ xs) ys = ap (λ (ks : List ℕ). k ∷ ks) (fires-append xs ys)

pub chips_taken-append : (xs ys : List TraceRow) → chips_taken (xs ++ ys) ≡ chips_taken xs + chips_taken ys
chips_taken-append [] ys = omega arith
chips_taken-append (Take edge count ∷ xs) ys = let a = chips_taken-append xs ys in omega arith
chips_taken-append (Fire k ∷ xs) ys = chips_taken-append xs ys

pub takes_of-append : (e : ℕ) (xs ys : List TraceRow) → takes_of e (xs ++ ys) ≡ takes_of e xs + takes_of e ys
takes_of-append e [] ys = omega arith
takes_of-append e (Take edge count ∷ xs) ys = let a = takes_of-append e xs ys in omega arith
takes_of-append e (Fire k ∷ xs) ys = takes_of-append e xs ys

pub rows_of-append : (xs ys : List Placed) (v : ℕ) → rows_of (xs ++ ys) v ≡ rows_of xs v ++ rows_of ys v
rows_of-append [] ys v = refl
rows_of-append (x ∷ xs) ys v = let more = rows_of-append xs ys v in grind (arith, nat_tests)

pub firings-append : (xs : List Placed) (v : ℕ) (row : TraceRow)
    → row_firings (xs ++ record { vertex = v; row = row } ∷ []) ≡ row_firings xs ++ with_firing v row []
firings-append [] v row = refl
firings-append (x ∷ xs) v row = let more = firings-append xs v row in grind arith

-- ---- tests

has_count_is : (o : Option ℕ) (count : ℕ) → has_count o count ≡ true → o ≡ Some count
has_count_is o count is = grind (arith, nat_tests)

-- ---- a row that is enabled stays enabled

-- more messages after those that were there
more_messages : (g : ChipGame) (used later : ℕ → List TraceRow) (e : ℕ)
    → ((u : ℕ) → (more : List TraceRow) × (used u ++ more ≡ later u))
    → (more : List ℕ) × (messages g (λ u. fires (used u)) e ++ more ≡ messages g (λ u. fires (later u)) e)
more_messages g used later e goes = by_test (nat_lt e (length g.graph.edges))
    (λ on. (
      map send (fires (goes tail).0),
      (let more = map-append send (fires (used tail)) (fires (goes tail).0) in
          let grown = fires-append (used tail) (goes tail).0 in let all = (goes tail).1 in grind (arith, nat_tests)),
    ))
    (λ off. ([], grind (arith, nat_tests, append-nil)))
  where
    send : ℕ → ℕ
    send k = k * (edge_at g.graph e).mult

    tail : ℕ
    tail = (edge_at g.graph e).tail

-- v itself has used no more rows, and the others have used these rows and perhaps more
pub met_stays : (g : ChipGame) (used later : ℕ → List TraceRow) (v : ℕ) (row : TraceRow) → used v ≡ later v
    → ((u : ℕ) → (more : List TraceRow) × (used u ++ more ≡ later u)) → is_row_enabled g used v row ≡ true
    → is_row_enabled g later v row ≡ true
met_stays g used later v (Fire k) same goes met = rw same at met
met_stays g used later v (Take edge count) same goes met =
    let parts = and_parts (goes_into g.graph v edge) (has_count (next_message g used v edge) count) met in
    let more = more_messages g used later edge goes in
    let next = slice_get_keeps (messages g (λ u. fires (used u)) edge) more.0 (takes_of edge (used v)) count
    (has_count_is (next_message g used v edge) count parts.1) in
    and_from (goes_into g.graph v edge) _ parts.0
    (ap (λ (o : Option ℕ). has_count o count) (rw (more.1, same) at next) ∙ eq-eqb count count refl)

-- ---- lists in which each row is enabled

pub AreMet-push : (g : ChipGame) (before xs : List Placed) (x : Placed) → AreRowsEnabled g before xs
    → is_row_enabled g (rows_of (before ++ xs)) x.vertex x.row ≡ true → AreRowsEnabled g before (xs ++ x ∷ [])
AreMet-push g before [] x all met = (rw (append-nil before) at met, tt)
AreMet-push g before (y ∷ ys) x all met = (
  all.0,
  AreMet-push g (before ++ y ∷ []) ys x all.1 (rw (append_assoc before (y ∷ []) ys) met),
)
