-- Serves PartBooks.antt.
-- What the tally of one edge says of the books, and what a step does to them.
use Rattle.std.proofs.Common.{◌≡◌, ◌≢◌, ℕ, zero, suc, ◌+◌, ◌-◌, ◌<◌, ◌≤◌, eqb, if◌then◌else◌, ◌&&◌, Bool, true, false}
use Rattle.std.proofs.Common.{List, [], ◌∷◌, length, get_or, Option, Some, None, refl, sym, ap, ◌∙◌, subst, inl, inr, arith, not, nat_lt, lt-ltb, ltb-true, is_some, MatchOption}
use Rattle.std.specs.List.{Contains, IsAllAdjacentAnswer, sum_by}
use Rattle.std.specs.List.Sorted.{IsStrictlyIncreasing}
use Rattle.std.proofs.lemmas.Bool.{false≢true}
use Rattle.std.proofs.lemmas.List.{length-map, get_or_default, get_or-map}
use Rattle.std.proofs.lemmas.List.Sums.{sum_by-cons}
use Rattle.std.proofs.lemmas.Bool.Decides.{nat_tests, eqb_tells}
use Rattle.chip_detect.specs.declared.tallies.Tally.{Tally}
use Rattle.chip_detect.specs.declared.slot.Slot.{Slot}
use Rattle.chip_diffusing.specs.Laws.{IsOver}
use Rattle.chip_diffusing.proofs.KeptLemmas.{more_when_passive}
use Rattle.chip_diffusing.proofs.OrderLemmas.{tells_over}
use Rattle.chip_detect.specs.Tally.{AreTallies, fresh_tally, edges_of, tally_at, look, messages_on, answered_on, open_on, all_open, message_limit}
use Rattle.chip_detect.specs.Slot.{IsSlotOf}
use Rattle.chip_detect.specs.Change.{AddsMessage, AddsAnswers}
use Rattle.chip_detect.specs.Books.{Books, IsSound, owed, all_owed, deficit}
use Rattle.chip_detect.specs.Acknowledging.{acknowledgeable_count, is_done, is_parent, may_ack, or_else, parent_while_owed}
use Rattle.chip_detect.specs.Steps.{Got, Acked, Sent, Settled, Gets, Acknowledges, Sends, Settles}
use Rattle.chip_detect.proofs.LookupsLemmas.{ascends, look_at, absent_or_at, slot_among}
use Rattle.chip_detect.proofs.ChangesLemmas.{tally_there}
use Rattle.chip_detect.proofs.SoundnessLemmas.{getting_keeps, acknowledging_keeps, sending_keeps, settling_keeps}
use Rattle.chip_detect.proofs.SoundnessLemmas.{parent_goes_with_all}
use Rattle.chip_library.specs.PartBooks.{neutral, parent_of, books_of, HasEdge, HasRoom, IsPossible, ArePossible, IsFound, Suits}

-- if edges ascend, the look-up of one gives the value at its index
at_index : (ts : List Tally) (i : ℕ) → IsStrictlyIncreasing (edges_of ts) → i < length ts → (f : Tally → ℕ)
    → look f ts (get_or (edges_of ts) i 0) ≡ f (tally_at ts i)
at_index ts i rising in_range f = look_at f ts i _ (ascends (edges_of ts) rising) in_range

-- ---- possible tallies

pub all_possible : (ts : List Tally) → AreTallies ts → ArePossible ts
all_possible ts are = record {
  few = omega (arith, length-map ts (λ t. t.edge), are.few);
  each = λ i in_range.
      let read = at_index ts i are.ascending in_range in
      record {
        answered = omega
            (arith, read (λ t. t.messages), read (λ t. t.answered), are.answered (get_or (edges_of ts) i 0));
        within = omega (arith, read (λ t. t.messages), are.within (get_or (edges_of ts) i 0));
      };
}

pub are_tallies : (ts : List Tally) → IsStrictlyIncreasing (edges_of ts) → ArePossible ts → AreTallies ts
are_tallies ts rising are =
    record {
      ascending = rising;
      few = omega (arith, length-map ts (λ t. t.edge), are.few);
      within = λ e. (each e).0;
      answered = λ e. (each e).1;
    }
  where
    each : (e : ℕ) → (messages_on ts e ≤ message_limit) × (answered_on ts e ≤ messages_on ts e)
    each e = elim (absent_or_at ts e) [
      | inl absent ↦ (
        omega (arith, absent (λ t. t.messages)),
        omega (arith, absent (λ t. t.messages), absent (λ t. t.answered)),
      )
      | inr (i, within, at) ↦
          let in_range : i < length ts = omega (arith, length-map ts (λ t. t.edge), within) in
          let read = at_index ts i rising in_range in
          let messages = read (λ t. t.messages) in
          let answered = read (λ t. t.answered) in
          let possible = are.each i in_range in
          subst (λ (d : ℕ). (messages_on ts d ≤ message_limit) × (answered_on ts d ≤ messages_on ts d)) at (
            omega (arith, messages, possible.within),
            omega (arith, messages, answered, possible.answered),
          )
    ]

-- what a search for all of them returns
pub sound_if : (ts : List Tally) (total : Option ℕ) (r : Bool) → IsStrictlyIncreasing (edges_of ts)
    → MatchOption total (ArePossible ts → ⊥) (λ n. ArePossible ts × (AreTallies ts → n ≡ all_open ts)) → r ≡ is_some total
    → (r ≡ true → AreTallies ts) × (AreTallies ts → r ≡ true)
sound_if ts (Some n) r rising possible same = (λ is. are_tallies ts rising possible.0, λ are. same)
sound_if ts None r rising impossible same =
    (λ is. absurd (false≢true (sym same ∙ is)), λ are. absurd (impossible (all_possible ts are)))

-- what `is_sorted_by` returns by the edges
module _ (ts : List Tally) where
  edge_at : (i : ℕ) → i < length ts → get_or (edges_of ts) i 0 ≡ (get_or ts i (fresh_tally 0)).edge
  edge_at i in_range = get_or-map (λ (t : Tally). t.edge) ts i (fresh_tally 0) 0 in_range

  pub ascend_if : (r : Bool) → IsAllAdjacentAnswer (λ x y b. b ≡ nat_lt x.edge y.edge) ts r → r ≡ true
      → IsStrictlyIncreasing (edges_of ts)
  ascend_if true h is = λ k l.
      let within : k + 1 < length ts = omega (arith, length-map ts (λ t. t.edge), l) in
      let less = ltb-true _ _ (sym (h k (fresh_tally 0) within)) in
      let up : get_or (edges_of ts) k 0 < get_or (edges_of ts) (k + 1) 0 = omega
      (arith, less, edge_at k (omega arith), edge_at (k + 1) within) in up
  ascend_if false h is = absurd (false≢true is)

  pub ascend_then : (r : Bool) → IsAllAdjacentAnswer (λ x y b. b ≡ nat_lt x.edge y.edge) ts r
      → IsStrictlyIncreasing (edges_of ts) → r ≡ true
  ascend_then true h rising = refl
  ascend_then false h rising =
      let k : ℕ = h.0 in
      let within : k + 1 < length ts = h.1 in
      let up : get_or (edges_of ts) k 0 < get_or (edges_of ts) (k + 1) 0 =
      rising k (omega (arith, length-map ts (λ t. t.edge), within)) in
      h.2 (fresh_tally 0) ∙ lt-ltb _ _ (omega (arith, up, edge_at k (omega arith), edge_at (k + 1) within))

-- ---- sums

-- how many messages of the edge are open
abbrev pub open_of : Tally → ℕ
open_of t = t.messages - t.answered

sum_looked : (f : ℕ → ℕ) (ts : List Tally)
    → ((i : ℕ) → i < length ts → f (get_or (edges_of ts) i 0) ≡ open_of (tally_at ts i))
    → sum_by f (edges_of ts) ≡ sum_by open_of ts
sum_looked f [] same = refl
sum_looked f (t ∷ ts) same =
    let here : f t.edge ≡ open_of t = same 0 (omega arith) in
    let rest = sum_looked f ts (λ i in_range. same (suc i) (omega arith)) in
    omega (arith, sum_by-cons f t.edge (edges_of ts), sum_by-cons open_of t ts)

pub all_open_is : (ts : List Tally) → AreTallies ts → sum_by open_of ts ≡ all_open ts
all_open_is ts are = sym (sum_looked (open_on ts) ts (λ i in_range.
    let read = at_index ts i are.ascending in_range in
    omega (arith, read (λ t. t.messages), read (λ t. t.answered))))

-- ---- the tally of an edge

module _ (ts : List Tally) (e : ℕ) (slot : Slot) (t : Tally) (is : IsFound ts e slot t) where
  pub among : HasEdge (edges_of ts) e
  among = (subst (λ (d : ℕ). Contains (edges_of ts) d) is.edge_is (slot_among (edges_of ts) slot is.slot_is), is.is_edge)

  pub reads : AreTallies ts → (f : Tally → ℕ) → f t ≡ look f ts e
  reads are f = ap f is.tally_is ∙ tally_there ts slot are is.slot_is f ∙ ap (look f ts) is.edge_is

  pub open_is : AreTallies ts → open_of t ≡ open_on ts e
  open_is are = omega (arith, reads are (λ u. u.messages), reads are (λ u. u.answered))

pub possible_there : (ts : List Tally) (slot : Slot) → AreTallies ts → IsSlotOf (edges_of ts) slot
    → IsPossible (tally_at ts slot.index)
possible_there ts slot are is = (all_possible ts are).each slot.index
    (omega (arith, length-map ts (λ t. t.edge), is.within))

-- an edge with an open message is in the list
pub is_there : (ts : List Tally) (e : ℕ) → 0 < open_on ts e → Contains (edges_of ts) e
is_there ts e some = elim (absent_or_at ts e) [
  | inl absent ↦ absurd (omega (arith, absent (λ t. t.messages), some))
  | inr (i, within, at) ↦ (i, within, get_there i within at)
]
  where
    get_there : (i : ℕ) → i < length (edges_of ts) → get_or (edges_of ts) i 0 ≡ e → get_or (edges_of ts) i e ≡ e
    get_there i within at = sym (get_or_default (edges_of ts) i 0 e within) ∙ at

-- ---- steps

pub sent_noted : (ins ts ts' : List Tally) (parent e : ℕ) (slot : Slot) (t : Tally) → IsFound ts e slot t
    → t.messages < message_limit → (AreTallies ts → AddsMessage ts ts' slot.edge) → IsSound (books_of ins ts parent)
    → HasRoom (books_of ins ts parent) (Sent e) × Unit {0} × Sends (books_of ins ts parent) (books_of ins ts' parent) e
    × IsSound (books_of ins ts' parent)
sent_noted ins ts ts' parent e slot t is room adds sound =
    let few : messages_on ts e < message_limit = omega (arith, reads ts e slot t is sound.outs (λ u. u.messages), room) in
    let made : AddsMessage ts ts' e = subst (λ (d : ℕ). AddsMessage ts ts' d) is.edge_is (adds sound.outs) in
    let step : Sends (books_of ins ts parent) (books_of ins ts' parent) e =
    record { ins = refl; outs = made; parent = refl } in
    ((among ts e slot t is, few), tt, step, sending_keeps _ _ e sound few step)

-- a neutral process is engaged, and an engaged one stays engaged
pub engages : (parent parent' e : ℕ) → e < neutral → (parent ≡ neutral → parent' ≡ e) → (parent ≢ neutral → parent' ≡ parent)
    → parent_of parent' ≡ or_else (parent_of parent) e
engages parent parent' e is_edge takes keeps = elim (eqb_tells parent neutral) [
  | inl (test, same) ↦ rw (takes same, test) (told e is_edge)
  | inr (test, other) ↦ rw (keeps other, test) refl
]
  where
    told : (p : ℕ) → p < neutral → parent_of p ≡ Some p
    told p below = elim (eqb_tells p neutral) [
      | inl (test, same) ↦ absurd (omega (arith, below, same))
      | inr (test, other) ↦ rw test refl
    ]

pub got_noted : (ts ts' outs : List Tally) (parent parent' e : ℕ) (slot : Slot) (t : Tally) → IsFound ts e slot t
    → t.messages < message_limit → (AreTallies ts → AddsMessage ts ts' slot.edge)
    → parent_of parent' ≡ or_else (parent_of parent) e → IsSound (books_of ts outs parent)
    → HasRoom (books_of ts outs parent) (Got e) × Unit {0} × Gets (books_of ts outs parent) (books_of ts' outs parent') e
    × IsSound (books_of ts' outs parent')
got_noted ts ts' outs parent parent' e slot t is room adds engaged sound =
    let few : messages_on ts e < message_limit = omega (arith, reads ts e slot t is sound.ins (λ u. u.messages), room) in
    let made : AddsMessage ts ts' e = subst (λ (d : ℕ). AddsMessage ts ts' d) is.edge_is (adds sound.ins) in
    let step : Gets (books_of ts outs parent) (books_of ts' outs parent') e =
    record { ins = made; outs = refl; parent = engaged } in
    ((among ts e slot t is, few), tt, step, getting_keeps _ _ e sound (among ts e slot t is).0 few step)

-- a process that acknowledges all on its parent edge is neutral; otherwise the parent stays
pub leaves : (parent parent' e : ℕ) (all : Bool) → e < neutral → (parent ≡ e → all ≡ true → parent' ≡ neutral)
    → ((parent ≡ e → all ≡ false) → parent' ≡ parent)
    → parent_of parent' ≡ (if is_parent e (parent_of parent) && all then None else parent_of parent)
leaves parent parent' e true is_edge goes stays = elim (eqb_tells parent e) [
  | inl (test, same) ↦ elim (eqb_tells parent neutral) [
    | inl (other, wrong) ↦ absurd (omega (arith, same, wrong, is_edge))
    | inr (other, right) ↦ rw (goes same refl, other, test) refl
  ]
  | inr (test, apart) ↦ elim (eqb_tells parent neutral) [
    | inl (none, same) ↦ rw (stays (λ here. absurd (apart here)), none) refl
    | inr (none, other) ↦ rw (stays (λ here. absurd (apart here)), none, test) refl
  ]
]
leaves parent parent' e false is_edge goes stays = rw (stays (λ here. refl)) (same (parent_of parent))
  where
    same : (p : Option ℕ) → p ≡ (if is_parent e p && false then None else p)
    same None = refl
    same (Some q) = elim (eqb_tells q e) [
      | inl (test, here) ↦ rw test refl
      | inr (test, other) ↦ rw test refl
    ]

pub acked_noted : (ts ts' outs : List Tally) (parent parent' e count : ℕ) (passive : Bool) (slot : Slot) (t : Tally)
    → IsFound ts e slot t → count ≤ open_of t
    → (IsSound (books_of ts outs parent) → count ≤ may_ack (books_of ts outs parent) e passive)
    → (AreTallies ts → AddsAnswers ts ts' slot.edge count)
    → (parent ≡ e → count ≡ open_of t → parent' ≡ neutral) → ((parent ≡ e → count ≢ open_of t) → parent' ≡ parent)
    → IsSound (books_of ts outs parent)
    → HasRoom (books_of ts outs parent) (Acked e count) × (count ≤ may_ack (books_of ts outs parent) e passive)
    × Acknowledges (books_of ts outs parent) (books_of ts' outs parent') e count × IsSound (books_of ts' outs parent')
acked_noted ts ts' outs parent parent' e count passive slot t is few allowed adds goes stays sound =
    let old : Books = books_of ts outs parent in
    let made : AddsAnswers ts ts' e count = subst (λ (d : ℕ). AddsAnswers ts ts' d count) is.edge_is (adds sound.ins) in
    let owing : open_of t ≡ owed old e = open_is ts e slot t is sound.ins in
    let enough : count ≤ owed old e = omega (arith, few, owing) in
    let new : Books = record { ins = ts'; outs = outs; parent = parent_while_owed (parent_of parent) (open_on ts') } in
    let change : Acknowledges old new e count = record { ins = made; outs = refl; parent = refl } in
    let told : parent_of parent' ≡ (if is_parent e (parent_of parent) && eqb count (owed old e) then None else parent_of parent) =
    leaves parent parent' e (eqb count (owed old e)) is.is_edge
    (λ here all. goes here (omega (arith, owing, whole count (owed old e) all)))
    (λ some. stays (λ here same. absurd (not_all count (owed old e) (some here) (omega (arith, owing, same))))) in
    let parent_is : parent_of parent' ≡ parent_while_owed (parent_of parent) (open_on ts') =
    told ∙ sym (parent_goes_with_all old new e count sound enough change) in
    let step : Acknowledges old (books_of ts' outs parent') e count =
    record { ins = made; outs = refl; parent = parent_is } in
    let due = allowed sound in
    let ever : count ≤ may_ack old e true = omega
    (arith, due, more_when_passive e (parent_of parent) (owed old e) (all_owed old) (deficit old) passive) in (
      (among ts e slot t is, enough),
      due,
      step,
      acknowledging_keeps old (books_of ts' outs parent') e count sound (among ts e slot t is).0 ever step,
    )
  where
    whole : (a b : ℕ) → eqb a b ≡ true → a ≡ b
    whole a b test = grind (arith, nat_tests)

    not_all : (a b : ℕ) → eqb a b ≡ false → a ≡ b → ⊥
    not_all a b test same = grind (arith, nat_tests)

pub settled_noted : (ins ts ts' : List Tally) (parent e word more : ℕ) (slot : Slot) (t : Tally) → IsFound ts e slot t
    → word ≤ t.messages → more ≡ word - t.answered → (AreTallies ts → AddsAnswers ts ts' slot.edge more)
    → IsSound (books_of ins ts parent)
    → HasRoom (books_of ins ts parent) (Settled e word) × Unit {0}
    × Settles (books_of ins ts parent) (books_of ins ts' parent) e (word - answered_on ts e)
    × IsSound (books_of ins ts' parent)
settled_noted ins ts ts' parent e word more slot t is few count adds sound =
    let read = reads ts e slot t is sound.outs in
    let same : more ≡ word - answered_on ts e = omega (arith, count, read (λ u. u.answered)) in
    let made : AddsAnswers ts ts' e (word - answered_on ts e) = subst (λ (n : ℕ). AddsAnswers ts ts' e n) same
    (subst (λ (d : ℕ). AddsAnswers ts ts' d more) is.edge_is (adds sound.outs)) in
    let step : Settles (books_of ins ts parent) (books_of ins ts' parent) e (word - answered_on ts e) =
    record { ins = refl; outs = made; parent = refl } in
    let within : word ≤ messages_on ts e = omega (arith, few, read (λ u. u.messages)) in
    ((among ts e slot t is, within), tt, step, settling_keeps _ _ e _ sound (omega (arith, within)) step)

-- ---- what may be acknowledged

-- on other edges than the parent: all that is owed
pub may_elsewhere : (e parent here all waiting : ℕ) (passive : Bool) → (here ≢ 0 → parent ≢ e)
    → acknowledgeable_count e (parent_of parent) here all waiting passive ≡ here
may_elsewhere e parent zero all waiting passive other = none (parent_of parent)
  where
    none : (p : Option ℕ) → acknowledgeable_count e p 0 all waiting passive ≡ 0
    none None = refl
    none (Some q) = grind (arith, nat_tests)
may_elsewhere e parent (suc here) all waiting passive other = elim (eqb_tells parent neutral) [
  | inl (test, none) ↦ rw test refl
  | inr (test, some) ↦ grind (arith, nat_tests, other (omega arith))
]

-- on the parent edge: by the rule
pub may_on_parent : (e parent here all waiting : ℕ) (passive : Bool) → parent ≡ e → e < neutral
    → acknowledgeable_count e (parent_of parent) here all waiting passive
    ≡ (if is_done here all waiting passive then here else here - 1)
may_on_parent e parent here all waiting passive same is_edge = elim (eqb_tells parent neutral) [
  | inl (test, none) ↦ absurd (omega (arith, same, none, is_edge))
  | inr (test, some) ↦ elim (eqb_tells parent e) [
    | inl (on, here') ↦ rw (test, on) (turned (is_done here all waiting passive))
    | inr (on, apart) ↦ absurd (apart same)
  ]
]
  where
    turned : (done : Bool) → (if not done then here - 1 else here) ≡ (if done then here else here - 1)
    turned true = refl
    turned false = refl

module _ (ins outs : List Tally) (parent e : ℕ) (passive : Bool) (slot : Slot) (t : Tally) (is : IsFound ins e slot t)
    (sound : IsSound (books_of ins outs parent)) where
  pub told_elsewhere : (owed_here : ℕ) → owed_here ≡ open_of t → (owed_here ≢ 0 → parent ≢ e)
      → HasEdge (edges_of ins) e × (owed_here ≡ may_ack (books_of ins outs parent) e passive)
  told_elsewhere owed_here same other =
      let here : owed_here ≡ open_on ins e = same ∙ open_is ins e slot t is sound.ins in (
        among ins e slot t is,
        here ∙ sym (may_elsewhere e parent (open_on ins e) (all_open ins) (all_open outs) passive
            (λ some. other (λ zero. some (sym here ∙ zero)))),
      )

  pub told_on_parent : (told owed_here all waiting : ℕ) → parent ≡ e → owed_here ≡ open_of t
      → (AreTallies ins → all ≡ all_open ins) → (AreTallies outs → waiting ≡ all_open outs)
      → told ≡ (if is_done owed_here all waiting passive then owed_here else owed_here - 1)
      → HasEdge (edges_of ins) e × (told ≡ may_ack (books_of ins outs parent) e passive)
  told_on_parent told owed_here all waiting on same all_is waiting_is rule =
      let here : owed_here ≡ open_on ins e = same ∙ open_is ins e slot t is sound.ins in (
        among ins e slot t is,
        rule ∙ moved here (all_is sound.ins) (waiting_is sound.outs)
            ∙ sym (may_on_parent e parent (open_on ins e) (all_open ins) (all_open outs) passive on is.is_edge),
      )
    where
      moved : {a a' b b' c c' : ℕ} → a ≡ a' → b ≡ b' → c ≡ c' → (if is_done a b c passive then a else a - 1)
          ≡ (if is_done a' b' c' passive then a' else a' - 1)
      moved x y z = rw (x, y, z) refl

-- ---- the parent

pub suits_none : (ins : List Tally) (parent : ℕ) → parent ≡ neutral → all_open ins ≡ 0 → Suits ins (parent_of parent)
suits_none ins parent none nothing = elim (eqb_tells parent neutral) [
  | inl (test, same) ↦ rw test (record { engaged = λ p wrong. cc; neutral_owes = λ is. nothing })
  | inr (test, other) ↦ absurd (other none)
]

pub suits_some : (ins : List Tally) (parent : ℕ) → parent ≢ neutral → 0 < open_on ins parent → Suits ins (parent_of parent)
suits_some ins parent some owes = elim (eqb_tells parent neutral) [
  | inl (test, same) ↦ absurd (some same)
  | inr (test, other) ↦ rw test (record {
    engaged = λ p is. (let one : parent ≡ p = cc in subst (λ (q : ℕ). 0 < open_on ins q) one owes);
    neutral_owes = λ wrong. cc;
  })
]

pub none_owes : (ins : List Tally) (parent : ℕ) → parent ≡ neutral → Suits ins (parent_of parent) → all_open ins ≡ 0
none_owes ins parent none suits = elim (eqb_tells parent neutral) [
  | inl (test, same) ↦ (rw test at suits).neutral_owes refl
  | inr (test, other) ↦ absurd (other none)
]

pub some_owes : (ins : List Tally) (parent : ℕ) → parent ≢ neutral → Suits ins (parent_of parent) → 0 < open_on ins parent
some_owes ins parent some suits = elim (eqb_tells parent neutral) [
  | inl (test, same) ↦ absurd (some same)
  | inr (test, other) ↦ (rw test at suits).engaged parent refl
]

-- ---- the end

pub over_told : (b : Books) (ended : Bool) (total : ℕ) → ended ≡ true → total ≡ deficit b
    → Unit {0} × (((eqb total 0 ≡ true → (ended ≡ true) × (deficit b ≡ 0)) × ((ended ≡ true) × (deficit b ≡ 0) → eqb total 0 ≡ true))
    × (eqb total 0 ≡ true → IsOver b ended))
over_told b ended total on same = (tt, (((λ is. (on, none is)), λ both. told both.1), λ is. tells_over b ended on (none is)))
  where
    none : eqb total 0 ≡ true → deficit b ≡ 0
    none is = grind (arith, nat_tests, same)

    told : deficit b ≡ 0 → eqb total 0 ≡ true
    told is = grind (arith, nat_tests, same)
