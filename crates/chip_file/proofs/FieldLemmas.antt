-- Serves Rows.antt.
-- A record compared with the fields of a header, one after another.
use Rattle.chip_file.proofs.Names.{◌≡◌, ℕ, ◌<◌, ◌≤◌, ◌+◌, Bool, true, false, List, [], length, map, drop, get_or}
use Rattle.chip_file.proofs.Names.{Option, None, Some, refl, sym, ◌∙◌, arith, Bor, add-one, drop-cons, ◌&&◌, not}
use Rattle.chip_file.proofs.Names.{bytes_eq, option_map, option_eq, pointwise, drop_all, get_or-map, length-map}
use Rattle.chip_file.proofs.Names.{field_at, field-get, field-there, Row}

-- the fields that a header's references point to
abbrev pub texts : List (Bor (List ℕ)) → Row
texts names = map (λ name. name.now) names

not_not : (b : Bool) → not (not b) ≡ b
not_not true = refl
not_not false = refl

-- the rest of a header from a column on, by the field at the column and the rest after it
pub one_field : (fields : Row) (names : List (Bor (List ℕ))) (i : ℕ) (got : Option (Bor (List ℕ)))
    (name d : Bor (List ℕ)) (test : Bool) → length fields ≡ length names → i < length names
    → option_map (λ f. f.now) got ≡ field_at fields i → name.now ≡ (get_or names i d).now
    → test ≡ not (option_eq (λ x y. bytes_eq x.now y.now) got (Some name))
    → pointwise bytes_eq (drop i fields) (drop i (texts names))
    ≡ (not test && pointwise bytes_eq (drop (i + 1) fields) (drop (i + 1) (texts names)))
one_field fields names i None name d test same lt g n e = absurd (field-there fields i (omega arith) (sym g))
one_field fields names i (Some f) name d test same lt g n e =
    let within : i < length fields = omega arith in
    let also : i < length (texts names) = rw (length-map names (λ name. name.now)) lt in
    let this : get_or (texts names) i [] ≡ name.now = get_or-map (λ name. name.now) names i d [] lt ∙ sym n in
    rw (add-one, drop-cons fields i [], drop-cons (texts names) i [], field-get fields i f.now (sym g), this, e, not_not) refl

-- past the last field of both
pub none_more : (fields : Row) (names : List (Bor (List ℕ))) (i : ℕ) → length fields ≡ length names → length names ≤ i
    → pointwise bytes_eq (drop i fields) (drop i (texts names)) ≡ true
none_more fields names i same past =
    let none = drop_all i fields (omega arith) in
    let no_names = drop_all i (texts names) (rw (length-map names (λ name. name.now)) past) in
    rw (none, no_names) refl
