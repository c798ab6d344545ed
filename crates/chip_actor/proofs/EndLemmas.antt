-- Serves Ends.antt.
-- The ends of a vertex's edges: what a search finds there, and what a write at the place that it found changes.
use Rattle.chip_actor.proofs.Names.{take_more, take_more_set, drop-set-lt, map-append, length-map, get_or-map, map-set}
use Rattle.chip_actor.proofs.Names.{set-get_or, take_all, take-append-le, drop_more, nat_tests, ◌≡◌, ℕ, ◌+◌, ◌<◌}
use Rattle.chip_actor.proofs.Names.{◌≤◌, cond, eqb, List, [], ◌∷◌, ◌++◌, length, take, drop, map, get_or, set}
use Rattle.chip_actor.proofs.Names.{Some, None, refl, sym, arith, dite, dec_lt, Slot, IsSlotOf, ascends}
use Rattle.chip_actor.proofs.Names.{Message, HeadState, TailState, message_claimed, tail_after_claim, tail_after_clear}
use Rattle.chip_actor.proofs.Names.{head_after_take, new_head, on_edge, OutEnd, OutEnds, InEnds, no_out, out_on, in_on}
use Rattle.chip_actor.proofs.Names.{AreApart, ChangesOut, ChangesIn, out_ends_of, in_ends_of, out_after_claim}
use Rattle.chip_actor.proofs.Names.{IsStrictlyIncreasing}
use Rattle.chip_actor.proofs.LookupsLemmas.{on_edge_at, on_edge_changed}

module _ {T : Type 0} (none : T) {edges : List ℕ} {ends : List T} (apart : AreApart edges ends) {slot : Slot}
    (at : IsSlotOf edges slot) {old : T} (was : old ≡ get_or ends slot.index old) where
  pub found : old ≡ on_edge none edges ends slot.edge
  found =
      let there = on_edge_at none edges ends slot.index old (ascends edges apart.ascending) apart.one_each at.within in
      let edge = at.edge in cc

  pub changed : {new : T} (f : T → T) → new ≡ f old → (j : ℕ)
      → on_edge none edges (set ends slot.index new) j
      ≡ cond (eqb slot.edge j) (f (on_edge none edges ends j)) (on_edge none edges ends j)
  changed {new} f is = on_edge_changed none edges ends slot.index slot.edge old new f apart.ascending apart.one_each
      at.within at.edge (rw (← was) is)

-- the ends of a value that is seen as `now`, at a slot of its edges
module _ {os now : OutEnds} (same : os ≡ now) (apart : AreApart os.edges os.ends) {slot : Slot}
    (at : IsSlotOf now.edges slot) {old : OutEnd} (was : old ≡ get_or os.ends slot.index old) where
  at_out : IsSlotOf os.edges slot
  at_out = rw same (at)

  pub found_out : old ≡ out_on now slot.edge
  found_out = rw (← same) (found no_out apart at_out was)

  pub changes_out : {new : OutEnd} (f : OutEnd → OutEnd) → new ≡ f old
      → ChangesOut now (record { edges = os.edges; ends = set os.ends slot.index new }) slot.edge f
  changes_out {new} f is = rw (← same) (record { edges = refl; each = changed no_out apart at_out was f is })

module _ {is now : InEnds} (same : is ≡ now) (apart : AreApart is.edges is.ends) {slot : Slot}
    (at : IsSlotOf now.edges slot) {old : HeadState} (was : old ≡ get_or is.ends slot.index old) where
  at_in : IsSlotOf is.edges slot
  at_in = rw same (at)

  pub found_in : old ≡ in_on now slot.edge
  found_in = rw (← same) (found (new_head 0 1) apart at_in was)

  pub changes_in : {new : HeadState} (f : HeadState → HeadState) → new ≡ f old
      → ChangesIn now (record { edges = is.edges; ends = set is.ends slot.index new }) slot.edge f
  changes_in {new} f eq = rw (← same) (record { edges = refl; each = changed (new_head 0 1) apart at_in was f eq })

-- ends whose numbers ascend
pub named_apart : {T : Type 0} (number : T → ℕ) (ts : List T) (edges : List ℕ) → map number ts ≡ edges
    → IsStrictlyIncreasing edges → AreApart (map number ts) ts
named_apart number ts edges are rising = record {
  ascending = rw are rising;
  one_each = sym (length-map ts number);
}

-- what is written in the place of an element has its number, so that the numbers do not change
pub same_numbers : {T : Type 0} (number : T → ℕ) (ts : List T) (i : ℕ) (old new : T) → i < length ts → old ≡ get_or ts i old
    → number new ≡ number old → map number (set ts i new) ≡ map number ts
same_numbers number ts i old new within was same =
    let read = get_or-map number ts i old 0 within in
    let kept : number new ≡ get_or (map number ts) i 0 = cc in rw (map-set, kept) (set-get_or (map number ts) i 0)

-- an end that is written at a slot
module _ {ends : List OutEnd} {now : OutEnds} (same : out_ends_of ends ≡ now) (apart : AreApart (out_ends_of ends).edges ends)
    {slot : Slot} (at : IsSlotOf now.edges slot) {old : OutEnd} (was : old ≡ get_or ends slot.index old) (new : OutEnd)
    (keeps : new.link.edge ≡ old.link.edge) where
  numbers_out : (out_ends_of (set ends slot.index new)).edges ≡ (out_ends_of ends).edges
  numbers_out = same_numbers (λ (o : OutEnd). o.link.edge) ends slot.index old new
      (let l = (at_out {os = out_ends_of ends} same apart at was).within in let one = apart.one_each in omega arith) was keeps

  pub written_out : (f : OutEnd → OutEnd) → new ≡ f old
      → ChangesOut now (out_ends_of (set ends slot.index new)) slot.edge f
  written_out f is = rw numbers_out (changes_out {os = out_ends_of ends} same apart at was f is)

  pub apart_out : AreApart (out_ends_of (set ends slot.index new)).edges (set ends slot.index new)
  apart_out = named_apart (λ (o : OutEnd). o.link.edge) (set ends slot.index new) (out_ends_of ends).edges numbers_out
      apart.ascending

module _ {ends : List HeadState} {now : InEnds} (same : in_ends_of ends ≡ now) (apart : AreApart (in_ends_of ends).edges ends)
    {slot : Slot} (at : IsSlotOf now.edges slot) {old : HeadState} (was : old ≡ get_or ends slot.index old)
    (new : HeadState) (keeps : new.edge ≡ old.edge) where
  numbers_in : (in_ends_of (set ends slot.index new)).edges ≡ (in_ends_of ends).edges
  numbers_in = same_numbers (λ (h : HeadState). h.edge) ends slot.index old new
      (let l = (at_in {is = in_ends_of ends} same apart at was).within in let one = apart.one_each in omega arith) was keeps

  pub written_in : (f : HeadState → HeadState) → new ≡ f old
      → ChangesIn now (in_ends_of (set ends slot.index new)) slot.edge f
  written_in f is = rw numbers_in (changes_in {is = in_ends_of ends} same apart at was f is)

  pub apart_in : AreApart (in_ends_of (set ends slot.index new)).edges (set ends slot.index new)
  apart_in = named_apart (λ (h : HeadState). h.edge) (set ends slot.index new) (in_ends_of ends).edges numbers_in
      apart.ascending

-- no step of a tail changes which edge it is an end of
pub clear_keeps : (cell : ℕ) (t : TailState) → (tail_after_clear cell t).edge ≡ t.edge
clear_keeps cell t = grind (arith, nat_tests)

pub claim_keeps : (word count : ℕ) (t : TailState) → (tail_after_claim word count t).edge ≡ t.edge
claim_keeps word count t = grind (arith, nat_tests)

-- nor does a take
pub take_keeps : (cell : ℕ) (h : HeadState) → (head_after_take cell h).edge ≡ h.edge
take_keeps cell h = grind (arith, nat_tests)

-- a claim that returned a message sent all that was pending
pub claim_taken : (word : ℕ) (o : OutEnd) (m : Message) → Some m ≡ message_claimed word o.pending o.link
    → (let n : OutEnd = record o { pending = 0; link = tail_after_claim word o.pending o.link } in n)
    ≡ out_after_claim word o
claim_taken word o m sent = grind (arith, nat_tests)

-- one that is refused leaves it
pub claim_refused : (word : ℕ) (o : OutEnd) → None ≡ message_claimed word o.pending o.link
    → (let n : OutEnd = record o { link = tail_after_claim word o.pending o.link } in n) ≡ out_after_claim word o
claim_refused word o sent = grind (arith, nat_tests)

-- one step of a loop that changes each element by f
module _ {T : Type 0} (f : T → T) (old xs : List T) (i : ℕ) (d : T) (lengths : length xs ≡ length old)
    (done : take i xs ≡ map f (take i old)) (rest : drop i xs ≡ drop i old) (l : i < length xs) where
  pub reads_old : get_or xs i d ≡ get_or old i d
  reads_old = let a = drop_more xs i d l in let b = drop_more old i d (omega arith) in cc

  pub done_more : take (i + 1) (set xs i (f (get_or xs i d))) ≡ map f (take (i + 1) old)
  done_more =
      rw (take_more_set xs i (f (get_or xs i d)) l, take_more old i d (omega arith), map-append, done, reads_old) refl

  pub rest_less : drop (i + 1) (set xs i (f (get_or xs i d))) ≡ drop (i + 1) old
  rest_less =
      let a = drop_more xs i d l in let b = drop_more old i d (omega arith) in
      let c = drop-set-lt (i + 1) xs i (f (get_or xs i d)) (omega arith) in cc

-- what holds up to an index, and at it, holds up to the next one
pub from_more : (P : ℕ → Type 0) (from i : ℕ) → ((k : ℕ) → from ≤ k → k < i → P k) → P i → (k : ℕ) → from ≤ k
    → k < i + 1 → P k
from_more P from i below here k le lt = dite (dec_lt k i) (λ l. below k le l)
    (λ n. let same : k ≡ i = omega arith in rw same here)

-- the edge at a place, by its number
pub out_there : {os now : OutEnds} → os ≡ now → AreApart os.edges os.ends → (place : ℕ) → place < length now.edges
    → {end : OutEnd} → end ≡ get_or os.ends place end → end ≡ out_on now (get_or now.edges place 0)
out_there {os} {now} same apart place within was = found_out same apart
    {slot = record { index = place; edge = get_or now.edges place 0 }} (record { within = within; edge = refl }) was

pub in_there : {is now : InEnds} → is ≡ now → AreApart is.edges is.ends → (place : ℕ) → place < length now.edges
    → {end : HeadState} → end ≡ get_or is.ends place end → end ≡ in_on now (get_or now.edges place 0)
in_there {is} {now} same apart place within was = found_in same apart
    {slot = record { index = place; edge = get_or now.edges place 0 }} (record { within = within; edge = refl }) was

-- a list that is made from the numbers of edges has these numbers
pub made_numbers : {T : Type 0} (number : T → ℕ) (f : ℕ → T) → ((e : ℕ) → number (f e) ≡ e) → (edges : List ℕ)
    → map number (map f edges) ≡ edges
made_numbers number f keeps [] = refl
made_numbers number f keeps (e ∷ es) = λ j. keeps e j ∷ made_numbers number f keeps es j

-- a list of the right length fills the vector
pub filled : {T : Type 0} (n : ℕ) (ws rest : List T) → length ws ≡ n → take n (ws ++ rest) ≡ ws
filled n ws rest same = let h : n ≤ length ws = omega arith in rw take-append-le (take_all n ws (omega arith))
