-- Serves Views.antt, Layout.antt, Rule.antt.
-- Each event keeps the rule of the table, and shows that its part made it.
use Rattle.chip_net.proofs.Names.{nat_tests, ◌≡◌, ◌≢◌, ℕ, ◌+◌, ◌%◌, ◌^◌, ◌<◌, ◌==◌, List, [], ◌∷◌, ◌++◌, get_or, set}
use Rattle.chip_net.proofs.Names.{length-set, Some, None, refl, sym, ◌∙◌, arith, bit_or, get_elem?, either}
use Rattle.chip_net.proofs.Names.{TableId, keeps, stepped, Allows, set_else}
use Rattle.chip_net.proofs.Names.{Setting, act_of, Log, Step, Event, Seal}
use Rattle.chip_net.proofs.Names.{Read, Part, unmet_rule, part_of, part_in, does, sees, done_by}
use Rattle.chip_net.proofs.Names.{Word, of_edge, of_acks, of_cell, of_vertex, IsWord, halt_bits, word_of_event}
use Rattle.chip_net.proofs.Names.{left_by, word_to_note, IsShown, IsLeft, acting_part, by_history, word_for, word_there}
use Rattle.chip_net.proofs.Names.{finds, words_go_on, index_of, value_in, View, Mine, find, find_in, grow_view, did_in}
use Rattle.chip_net.proofs.Names.{HasPart, part_of_view, IsAlone, Kept, step_of, Stepped, Grows, NetId, AreWordsOf}
use Rattle.chip_net.proofs.LayingLemmas.{written_here, written_else, inside, owner_of, owner_at, by_word, owner_read}
use Rattle.chip_net.proofs.ViewingLemmas.{set_there, find_here, find_else, grown_has, grown_alone, part_append}
use Rattle.chip_net.proofs.ViewingLemmas.{done_more, done_else}
use Rattle.chip_net.proofs.SplittingLemmas.{set_finds, nowhere_else, moved}
use Rattle.chip_part.specs.declared.act.Act as operation
use Rattle.chip_part.specs.declared.act.Act.TheVariants as Do

-- an event of the part p, which the view has: it is enabled
pub record Due (g : Setting) (me : Mine) (p : ℕ) (x : Event) : Type 0 where
  pub mine : part_of g x ≡ p
  pub has : HasPart p me.0
  pub met : unmet_rule g x (part_of_view g p me.0) ≡ None

-- such an event was made, and its operation found n: the view after it, and the part in the log that it extends
pub record Made (g : Setting) (me : Mine) (p : ℕ) (x : Event) (n : ℕ) (after : Mine) : Type 0 where
  pub stepped : Stepped g (step_of x n) me.0
  pub in_log : part_of_view g p me.0 ≡ part_in g stepped.log p
  pub has : HasPart p after.0
  pub did_is : did_in p after.0 ≡ did_in p me.0 ++ step_of x n ∷ []
  pub part_is : part_of_view g p after.0 ≡ does g (step_of x n) (part_of_view g p me.0)
  pub others : (q : ℕ) → p ≢ q → find q after.0.parts ≡ find q me.0.parts
  pub alone : IsAlone p me.0 → IsAlone p after.0
  pub slots : after.1 ≡ me.1

module _ {g : Setting} {me : Mine} {p : ℕ} {x : Event} (due : Due g me p x) where
  abbrev s : Part
  s = part_of_view g p me.0

  -- the rule of the table is kept, and the part made it
  allowed : (slots id : ℕ) → Allows (Kept g) slots id me (index_of g (word_of_event g x s)) (left_by g x s)
      (Grows g x me)
  allowed slots id table kept homes at few =
      let log : Log = kept.log in
      let was : find_in p (get_elem? table.views id) ≡ Some (did_in p me.0) = rw at due.has in
      let did_is : did_in p me.0 ≡ done_by g p log = (kept.each_part p id (did_in p me.0) was).1 in
      let part_is : s ≡ acting_part g log x = rw (did_is, due.mine, by_history g log p) in
      let a : Part = acting_part g log x in
      let may : unmet_rule g x a ≡ None = rw part_is at due.met in
      let game = kept.setting.game in
      let ring = kept.setting.some_ring in
      let value : Word → ℕ = value_in g table.words in
      let q : Word = word_of_event g x a in
      let valid : IsWord g q = word_there g game ring log kept.legal value kept.shown x may in
      let n : ℕ = get_or table.words (index_of g q) 0 in
      let new : List ℕ = set table.words (index_of g q) (left_by g x a n) in
      let found : word_to_note x n ≡ sees g log x = finds g game ring log kept.legal value kept.shown x may in
      let left : IsLeft g log x value (value_in g new) =
      record {
        here = written_here g table.words kept.wide q valid (left_by g x a n);
        others = written_else g table.words kept.wide q valid (left_by g x a n);
      } in
      let y : Step = step_of x n in
      let shown : IsShown g (y ∷ log) (value_in g new) =
      rw found (words_go_on g game ring log kept.legal value (value_in g new) kept.shown x may left) in
      let w : View = grow_view p y me.0 in
      rw part_is (
        w,
        keeps,
        tt,
        moved g table kept p id (y ∷ log) new (set table.views id w)
            (λ r j other. set_finds r table.views id me.0 w at (find_else p r y me.0.parts other) j)
            (rw (set_there table.views id me.0 w at, done_more g p y log due.mine, ← did_is)
            (find_here p y me.0.parts (did_in p me.0) due.has))
            (λ j other. rw (set_else table.views id j w other)
            (nowhere_else g table kept p id (did_in p me.0) was j other))
            (λ r other. done_else g r y log (rw due.mine other))
            (length-set table.words (index_of g q) (left_by g x a n)) shown (kept.legal, (may, found)),
        (
          rw due.mine,
          record {
            log = log;
            legal = kept.legal;
            has = ((may, found), λ r d here. (kept.each_part r id d (rw at here)).1);
          },
          refl,
        ),
      )

  pub made : (n : ℕ) (after : Mine) → Grows g x me n after → Made g me p x n after
  made n after (is, stepped, slots) =
      let y : Step = step_of x n in
      let grew : after.0 ≡ grow_view p y me.0 = rw due.mine at is in
      let more = grown_has p y me.0 after.0 due.has grew in
      record {
        stepped = stepped;
        in_log = rw (stepped.has.1 p (did_in p me.0) due.has, by_history g stepped.log p);
        has = more.1;
        did_is = more.0;
        part_is = rw (more.0, part_append);
        others = λ q other. rw grew (find_else p q y me.0.parts other);
        alone = λ alone. grown_alone p y me.0 after.0 alone grew;
        slots = slots;
      }

-- ---- the same by the operation

-- the word of an operation of the vertex v, and what it leaves there if n was found
abbrev pub word_of : ℕ → operation.Act → Word
word_of v (Do.Take e cell) = of_cell e cell
word_of v (Do.Settle e) = of_acks e
word_of v (Do.Fire k) = of_vertex v
word_of v (Do.Clear e cell) = of_cell e cell
word_of v (Do.Claim e expected new) = of_edge e
word_of v (Do.Put e cell value) = of_cell e cell
word_of v (Do.Halt by_limit) = of_vertex v
word_of v (Do.Ack e count) = of_acks e
word_of v Do.End = of_edge 0

abbrev pub left_over : operation.Act → ℕ → ℕ
left_over (Do.Take e cell) n = 0
left_over (Do.Settle e) n = n
left_over (Do.Fire k) n = (n + k) % 2 ^ 64
left_over (Do.Clear e cell) n = n
left_over (Do.Claim e expected new) n = either (n == expected) new n
left_over (Do.Put e cell value) n = value
left_over (Do.Halt by_limit) n = bit_or n (halt_bits by_limit)
left_over (Do.Ack e count) n = (n + count) % 2 ^ 64
left_over Do.End n = n

-- an event whose operation has a name of its own
abbrev pub HasAct : Event → Type 0
HasAct (Seal e) = ⊥
HasAct (Read v) = ⊥
HasAct _ = Unit {0}

pub vertex_acts : (g : Setting) (x : Event) → part_of g x < g.game.graph.vertices → HasAct x
vertex_acts g (Seal e) l = absurd (omega arith)
vertex_acts g (Read v) l = absurd (omega arith)
vertex_acts g x l = tt

-- it is on the word of the event, and has the event's effect there
over_word : (g : Setting) (s : Part) (x : Event) → HasAct x → word_of (part_of g x) (act_of g x s) ≡ word_of_event g x s
over_word g s x z = grind (arith, nat_tests)

over_left : (g : Setting) (s : Part) (x : Event) → HasAct x → (n : ℕ) → left_by g x s n ≡ left_over (act_of g x s) n
over_left g s x z n = grind (arith, nat_tests)

-- ---- a call of the table that makes it

pub words_at : {own net : NetId} → own ≡ net → {id : TableId} {key : Setting} → AreWordsOf net id key
    → AreWordsOf own id key
words_at same words = rw same words

module _ {net : NetId} {id : TableId} {key : Setting} (words : AreWordsOf net id key) {me : Mine} {p : ℕ} {x : Event}
    (due : Due net.setting me p x) where
  abbrev g : Setting
  g = net.setting

  abbrev part : Part
  part = part_of_view g p me.0

  there : IsWord g (word_of_event g x part)
  there = word_for g words.setting.game.graph_fits.some_vertex words.setting.some_ring x part due.met

  module _ (word : ℕ) (at : word ≡ index_of g (word_of_event g x part)) (kind : ℕ → Event)
      (of_kind : kind (owner_of (word_of_event g x part)) ≡ x) where
    kind_is : kind (owner_at key word) ≡ x
    kind_is = rw (words.key, owner_read g (word_of_event g x part) there word at) of_kind

    pub event_asked : (table : TableId) → table ≡ net.table → (seat : ℕ) → (table ≡ id) × (word < id.words)
        × Allows (Kept key) id.slots seat me word (left_by g x part) (by_word kind key word me)
    event_asked table same seat =
        let l = inside g (word_of_event g x part) there in (
          rw words.table same,
          rw words.table (omega arith),
          rw (kind_is, words.key, at) (allowed due id.slots seat),
        )

    pub event_told : (seen : ℕ) (after : Mine) → by_word kind key word me seen after → Grows g x me seen after
    event_told seen after told = rw (kind_is, words.key) at told

  -- the same by the operation
  module _ (acts : HasAct x) (act : operation.Act) (act_is : act ≡ act_of g x part) where
    word_is : word_of p act ≡ word_of_event g x part
    word_is = (λ j. word_of (sym due.mine j) (act_is j)) ∙ over_word g part x acts

    pub act_word : IsWord g (word_of p act)
    act_word = rw word_is there

    module _ (word : ℕ) (at : word ≡ index_of g (word_of p act)) (kind : ℕ → Event)
        (of_kind : kind (owner_of (word_of p act)) ≡ x) where
      at' : word ≡ index_of g (word_of_event g x part)
      at' = rw word_is at at

      of_kind' : kind (owner_of (word_of_event g x part)) ≡ x
      of_kind' = rw (← word_is) of_kind

      pub act_asked : (table : TableId) → table ≡ net.table → (seat : ℕ) → (table ≡ id) × (word < id.words)
          × Allows (Kept key) id.slots seat me word (left_over act) (by_word kind key word me)
      act_asked table same seat =
          rw act_is (simp (over_left g part x acts) at (event_asked word at' kind of_kind' table same seat))

      pub act_told : (seen : ℕ) (after : Mine) → by_word kind key word me seen after
          → Grows g x me seen after
      act_told = event_told word at' kind of_kind'
