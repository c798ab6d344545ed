-- Serves JsonParts.antt.
use Rattle.chip_file.proofs.JsonNames.{Edge, ◌≡◌, ℕ, suc, ◌+◌, ◌<◌, ◌≤◌, List, Bool, true, false, Option, None, Some, refl}
use Rattle.chip_file.proofs.JsonNames.{sym, ap, ◌∙◌, arith, ne_eqb, Ordering, Less, Equal, Greater, nat_cmp, is_eq}
use Rattle.chip_file.proofs.JsonNames.{is_eq-slice_cmp, bytes_eq-Decides, codes, if◌then◌else◌, ◌==◌, option_and_then}
use Rattle.chip_file.proofs.JsonNames.{slice_cmp, match_ordering, Data, object, Members, no_members, member, put}
use Rattle.chip_file.proofs.JsonNames.{get_member, as_array, get_member-put, get_member-put_other, number_of_value}
use Rattle.chip_file.proofs.JsonNames.{edges_of_rows, members_count, file_of_parts, file_of_value, GraphFile, add_member}
use Rattle.chip_file.proofs.JsonNames.{known_members, value_count, known_count, IsOther, IsCrowded}

-- ---- of two members with one name the last counts

pub put_edges : (d : Data) (e s v w : Option Data)
    → put (codes "edges") d (known_members e s v w) ≡ known_members (Some d) s v w
put_edges d (Some e) (Some s) (Some v) (Some w) = refl
put_edges d _ (Some s) (Some v) (Some w) = refl
put_edges d _ _ (Some v) (Some w) = refl
put_edges d _ _ _ (Some w) = refl
put_edges d _ _ _ _ = refl

pub put_sink : (d : Data) (e s v w : Option Data)
    → put (codes "sink") d (known_members e s v w) ≡ known_members e (Some d) v w
put_sink d (Some e) (Some s) (Some v) (Some w) = refl
put_sink d _ (Some s) (Some v) (Some w) = refl
put_sink d _ _ (Some v) (Some w) = refl
put_sink d _ _ _ (Some w) = refl
put_sink d _ _ _ _ = refl

pub put_version : (d : Data) (e s v w : Option Data)
    → put (codes "version") d (known_members e s v w) ≡ known_members e s (Some d) w
put_version d (Some e) (Some s) (Some v) (Some w) = refl
put_version d _ (Some s) (Some v) (Some w) = refl
put_version d _ _ (Some v) (Some w) = refl
put_version d _ _ _ (Some w) = refl
put_version d _ _ _ _ = refl

pub put_vertices : (d : Data) (e s v w : Option Data)
    → put (codes "vertices") d (known_members e s v w) ≡ known_members e s v (Some d)
put_vertices d (Some e) (Some s) (Some v) (Some w) = refl
put_vertices d _ (Some s) (Some v) (Some w) = refl
put_vertices d _ _ (Some v) (Some w) = refl
put_vertices d _ _ _ (Some w) = refl
put_vertices d _ _ _ _ = refl

-- ---- the file of these members

abbrev pub num : Option Data → Option ℕ
num o = option_and_then number_of_value o

abbrev pub rows : Option Data → Option (List Edge)
rows o = option_and_then edges_of_rows (option_and_then as_array o)

no_vertices : (a c : Option ℕ) (e : Option (List Edge)) → None ≡ file_of_parts a None c e
no_vertices (Some a) c e = refl
no_vertices None c e = refl

no_sink : (a b : Option ℕ) (e : Option (List Edge)) → None ≡ file_of_parts a b None e
no_sink (Some a) (Some b) e = refl
no_sink (Some a) None e = refl
no_sink None b e = refl

no_edges : (a b c : Option ℕ) → None ≡ file_of_parts a b c None
no_edges (Some a) (Some b) (Some c) = refl
no_edges (Some a) (Some b) None = refl
no_edges (Some a) None c = refl
no_edges None b c = refl

pub file_of_known : (e s w v : Option Data)
    → file_of_value (object (known_members e s v w)) ≡ file_of_parts (num v) (num w) (num s) (rows e)
file_of_known (Some e) (Some s) (Some w) (Some v) = refl
file_of_known None (Some s) (Some w) (Some v) = no_edges (num (Some v)) (num (Some w)) (num (Some s))
file_of_known e None (Some w) (Some v) = no_sink (num (Some v)) (num (Some w)) (rows e)
file_of_known e s None (Some v) = no_vertices (num (Some v)) (num s) (rows e)
file_of_known _ _ _ _ = refl

-- ---- a name beside the four

grows : (o : Ordering) (k l : List ℕ) (d e : Data) (ms : Members) → members_count ms ≤ members_count (put k d ms)
    → suc (members_count ms) ≤ members_count (match_ordering o (member k d (member l e ms)) (member l d ms)
    (member l e (put k d ms)))
grows Less k l d e ms h = omega arith
grows Equal k l d e ms h = omega arith
grows Greater k l d e ms h = omega arith

put_grows : (k : List ℕ) (d : Data) (ms : Members) → members_count ms ≤ members_count (put k d ms)
put_grows k d no_members = omega arith
put_grows k d (member l e ms) = grows (slice_cmp nat_cmp k l) k l d e ms (put_grows k d ms)

new_grows : (o : Ordering) (k l : List ℕ) (d e : Data) (ms : Members)
    → match_ordering o (get_member k ms) (Some e) (get_member k ms) ≡ None
    → (get_member k ms ≡ None → suc (members_count ms) ≤ members_count (put k d ms))
    → suc (suc (members_count ms)) ≤ members_count (match_ordering o (member k d (member l e ms)) (member l d ms)
    (member l e (put k d ms)))
new_grows Less k l d e ms h later = omega arith
new_grows Equal k l d e ms h later = absurd (cc)
new_grows Greater k l d e ms h later = omega (arith, later h)

put_new : (k : List ℕ) (d : Data) (ms : Members) → get_member k ms ≡ None
    → suc (members_count ms) ≤ members_count (put k d ms)
put_new k d no_members h = omega arith
put_new k d (member l e ms) h = new_grows (slice_cmp nat_cmp k l) k l d e ms h (put_new k d ms)

-- a member of this name is there once more, or it was there
counted_by : (o : Option Data) (k : List ℕ) (d : Data) (ms : Members) → get_member k ms ≡ o
    → members_count ms + 1 ≤ members_count (put k d ms) + value_count o
counted_by None k d ms h = omega (arith, put_new k d ms h)
counted_by (Some e) k d ms h = omega (arith, put_grows k d ms)

counted : (k : List ℕ) (d : Data) (ms : Members) → members_count ms + 1 ≤ members_count (put k d ms) + value_count
    (get_member k ms)
counted k d ms = counted_by (get_member k ms) k d ms refl

abbrev held : Members → List ℕ → ℕ
held ms k = value_count (get_member k ms)

there_after : (k : List ℕ) (d : Data) (ms : Members) → value_count (get_member k (put k d ms)) ≡ 1
there_after k d ms = ap value_count (get_member-put k d ms)

there_still : (q k : List ℕ) (d : Data) (ms : Members) → (q ≡ k → ⊥)
    → value_count (get_member q (put k d ms)) ≡ value_count (get_member q ms)
there_still q k d ms other = ap value_count (get_member-put_other q k d ms other)

pub crowded_other : (k : List ℕ) (d : Data) (ms : Members) → IsOther k → IsCrowded ms → IsCrowded (put k d ms)
crowded_other k d ms other h =
    omega (
      arith,
      put_grows k d ms,
      there_still (codes "edges") k d ms other.edges,
      there_still (codes "sink") k d ms other.sink,
      there_still (codes "version") k d ms other.version,
      there_still (codes "vertices") k d ms other.vertices,
    )

-- as many of the four names are missing as before, where one of them is put
one_of_four : (k a b c : List ℕ) (d : Data) (ms : Members) → (a ≡ k → ⊥) → (b ≡ k → ⊥) → (c ≡ k → ⊥)
    → held (put k d ms) k + held (put k d ms) a + held (put k d ms) b + held (put k d ms) c + members_count ms
    ≤ held ms k + held ms a + held ms b + held ms c + members_count (put k d ms)
one_of_four k a b c d ms p q r = omega (
  arith,
  counted k d ms,
  there_after k d ms,
  there_still a k d ms p,
  there_still b k d ms q,
  there_still c k d ms r,
)

pub crowded_edges : (d : Data) (ms : Members) → IsCrowded ms → IsCrowded (put (codes "edges") d ms)
crowded_edges d ms h = let more = one_of_four (codes "edges") (codes "sink") (codes "version") (codes "vertices") d ms
    (λ e. cc) (λ e. cc) (λ e. cc) in omega (arith, more)

pub crowded_sink : (d : Data) (ms : Members) → IsCrowded ms → IsCrowded (put (codes "sink") d ms)
crowded_sink d ms h = let more = one_of_four (codes "sink") (codes "edges") (codes "version") (codes "vertices") d ms
    (λ e. cc) (λ e. cc) (λ e. cc) in omega (arith, more)

pub crowded_version : (d : Data) (ms : Members) → IsCrowded ms → IsCrowded (put (codes "version") d ms)
crowded_version d ms h = let more = one_of_four (codes "version") (codes "edges") (codes "sink") (codes "vertices") d ms
    (λ e. cc) (λ e. cc) (λ e. cc) in omega (arith, more)

pub crowded_vertices : (d : Data) (ms : Members) → IsCrowded ms → IsCrowded (put (codes "vertices") d ms)
crowded_vertices d ms h = let more = one_of_four (codes "vertices") (codes "edges") (codes "sink") (codes "version") d ms
    (λ e. cc) (λ e. cc) (λ e. cc) in omega (arith, more)

-- what neither way gives is none
neither : (b : Bool) (r : Option GraphFile) → None ≡ r → (if b then r else None) ≡ None
neither true r h = sym h
neither false r h = refl

crowded_by : (n : ℕ) (e s v w : Option Data) → value_count e + value_count s + value_count v + value_count w < n
    → (if n == 4 then file_of_parts (num v) (num w) (num s) (rows e) else None) ≡ None
crowded_by n (Some e) (Some s) (Some v) (Some w) h = rw (ne_eqb n 4 (λ is. omega arith)) refl
crowded_by n e s None w h = neither (n == 4) _ refl
crowded_by n e s (Some v) None h = neither (n == 4) _ (no_vertices (num (Some v)) (num s) (rows e))
crowded_by n e None (Some v) (Some w) h = neither (n == 4) _ (no_sink (num (Some v)) (num (Some w)) (rows e))
crowded_by n None (Some s) (Some v) (Some w) h =
    neither (n == 4) _ (no_edges (num (Some v)) (num (Some w)) (num (Some s)))

pub crowded_file : (ms : Members) → IsCrowded ms → file_of_value (object ms) ≡ None
crowded_file ms h = crowded_by (members_count ms) (get_member (codes "edges") ms) (get_member (codes "sink") ms)
    (get_member (codes "version") ms) (get_member (codes "vertices") ms) h

-- a member of another name plays no part
apart : (o : Ordering) (r x : Option Data) → (o ≡ Equal → ⊥) → match_ordering o r x r ≡ r
apart Equal r x other = absurd (other refl)
apart _ r x other = refl

skipped : (k l : List ℕ) (o : Option Data) (ms : Members) → (l ≡ k → ⊥) → get_member k (add_member l o ms) ≡ get_member k ms
skipped k l None ms other = refl
skipped k l (Some x) ms other = apart (slice_cmp nat_cmp k l) _ _
    (λ is. other (sym ((bytes_eq-Decides k l).0 (sym (is_eq-slice_cmp k l) ∙ ap is_eq is))))

absent : (k : List ℕ) (e s v w : Option Data) → IsOther k → get_member k (known_members e s v w) ≡ None
absent k e s v w other = skipped k (codes "edges") e _ other.edges ∙ skipped k (codes "sink") s _ other.sink
    ∙ skipped k (codes "version") v _ other.version ∙ skipped k (codes "vertices") w _ other.vertices

none_crowded : (e s v w : Option Data) → known_count (known_members e s v w) ≡ members_count (known_members e s v w)
none_crowded (Some e) (Some s) (Some v) (Some w) = refl
none_crowded _ (Some s) (Some v) (Some w) = refl
none_crowded _ _ (Some v) (Some w) = refl
none_crowded _ _ _ (Some w) = refl
none_crowded _ _ _ _ = refl

pub known_crowded : (k : List ℕ) (d : Data) (e s v w : Option Data) → IsOther k
    → IsCrowded (put k d (known_members e s v w))
known_crowded k d e s v w other =
    let ms = known_members e s v w in
    omega (
      arith,
      none_crowded e s v w,
      put_new k d ms (absent k e s v w other),
      there_still (codes "edges") k d ms other.edges,
      there_still (codes "sink") k d ms other.sink,
      there_still (codes "version") k d ms other.version,
      there_still (codes "vertices") k d ms other.vertices,
    )
