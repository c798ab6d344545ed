use Rattle.std.proofs.Common.{arith, ◌≡◌, ◌+◌, ◌<◌, ◌||◌, ℕ, Bool, List, [], ◌∷◌, inr, refl, add-one, codes, length, sum, take, drop, get_or, map, string_bytes, false, ap, sym, String}
use Rattle.std.proofs.lemmas.Grind.{common_steps}
use Rattle.std.proofs.lemmas.List.{length-map, take_all}
use Rattle.std.proofs.Math.Seq.{drop-cons}
use Rattle.std.proofs.Math.ListN.{get_or-map}
use Rattle.std.specs.Str.{bytes_eq}
use Rattle.chip_arguments.specs.Places.{argument_places, places_of}
use Rattle.chip_arguments.proofs.arguments.number_at.Goals as goal

-- each argument has its number of places
length_places : (only : Bool) (xs : List (List ℕ)) → length (argument_places only xs) ≡ length xs
length_places only [] = refl
length_places only (x ∷ xs) =
    let rest = length_places (only || bytes_eq x (codes "--")) xs in grind (arith, common_steps, rest)

-- the places of an argument and of those after it
from_here : (only : Bool) (xs : List (List ℕ)) (i : ℕ) (x : List ℕ) → i < length xs → get_or xs i x ≡ x
    → argument_places only (drop i xs) ≡ places_of only x ∷ argument_places (only || bytes_eq x (codes "--")) (drop (i + 1) xs)
from_here only xs i x inside here = rw (drop-cons xs i x inside, here, add-one i) refl

-- one more of some numbers
one_more : (xs : List ℕ) (i t : ℕ) (more : List ℕ) → i < length xs → drop i xs ≡ t ∷ more
    → (sum (take (i + 1) xs) ≡ sum (take i xs) + t) × (drop (i + 1) xs ≡ more)
one_more xs i t more inside e =
    let front = drop-cons xs i 0 inside in
    let here : get_or xs i 0 ≡ t = cc in
    record { 0 = grind (arith, common_steps, here); 1 = rw (add-one i) cc }

-- the places of one more argument
next : (xs : List (List ℕ)) (only : Bool) (i : ℕ) (x : List ℕ) → i < length xs → get_or xs i x ≡ x
    → (all : List ℕ) → length all ≡ length xs → drop i all ≡ argument_places only (drop i xs)
    → (sum (take (i + 1) all) ≡ sum (take i all) + places_of only x)
    × (drop (i + 1) all ≡ argument_places (only || bytes_eq x (codes "--")) (drop (i + 1) xs))
next xs only i x inside here all each e =
    let front = from_here only xs i x inside here in
    one_more all i (places_of only x) _ (omega arith) cc

-- an argument among the texts of all
text_at : {Z : Type 0} (xs : List (String Z)) (i : ℕ) (x : String Z) → i < length xs → x ≡ get_or xs i x
    → (i < length (map string_bytes xs)) × (get_or (map string_bytes xs) i (string_bytes x) ≡ string_bytes x)
text_at xs i x inside e = record {
  0 = rw (length-map xs string_bytes) inside;
  1 = rw (get_or-map string_bytes xs i x) (ap string_bytes (sym e));
}

pub returns-then-left-taken : goal.returns-then-left-taken
returns-then-left-taken c =
    let (inside, here) = text_at c.args.arguments.now c.loop-index.index c.index-arguments-index.result c.loop-index-test.true
    c.index-arguments-index.is in
    let more = next _ c.loop-index.only_operands c.loop-index.index _ inside here
    (argument_places false (map string_bytes c.args.arguments.now)) (length_places false _) c.loop-index.invariant.2 in
    let taken : c.places_of-taken.result ≡ places_of c.loop-index.only_operands (string_bytes c.index-arguments-index.result) =
    rw (← c.as_str-argument.ensures.value) c.places_of-taken.ensures in
    rw (add-one c.loop-index.index) (record {
      0 = omega (arith, c.loop-index.invariant.0, c.loop-index.invariant.1);
      1 = rw (← add-one c.loop-index.index) (omega (arith, more.0, taken, c.loop-index.invariant.1, c.if-left-taken.true));
    })

pub loop-index-preserved : goal.loop-index-preserved
loop-index-preserved c =
    let (inside, here) = text_at c.args.arguments.now c.loop-index.index c.index-arguments-index.result c.loop-index-test.true
    c.index-arguments-index.is in
    let more = next _ c.loop-index.only_operands c.loop-index.index _ inside here
    (argument_places false (map string_bytes c.args.arguments.now)) (length_places false _) c.loop-index.invariant.2 in
    let taken : c.places_of-taken.result ≡ places_of c.loop-index.only_operands (string_bytes c.index-arguments-index.result) =
    rw (← c.as_str-argument.ensures.value) c.places_of-taken.ensures in
    record {
      0 = omega (arith, c.if-left-taken.false);
      1 = omega (arith, more.0, taken, c.loop-index.invariant.1, c.if-left-taken.false);
      2 = rw (c.eq-ends_options.ensures, c.as_str-argument.ensures.value) more.1;
    }

pub returns : goal.returns
returns c =
    let texts = map string_bytes c.args.arguments.now in
    let all = take_all c.loop-index.index (argument_places false texts)
    (omega (arith, length_places false texts, length-map c.args.arguments.now string_bytes, c.loop-index-test.false)) in
    inr (omega (arith, ap sum all, c.loop-index.invariant.0, c.loop-index.invariant.1))
