-- Serves Roots.antt, Views.antt.
-- The root: an event of its own on the net, and a poll of settles.
use Rattle.chip_net.proofs.Names.{◌≡◌, ℕ, suc, ◌+◌, ◌-◌, ◌<◌, ◌≤◌, true, List, [], ◌∷◌, ◌++◌, None, refl, sym, ap}
use Rattle.chip_net.proofs.Names.{◌∙◌, arith, append_assoc, append-nil, map-append, le-leb, TableId, Allows}
use Rattle.chip_net.proofs.Names.{Tail, after_clear, Setting, root, stopper, root_edge, graph_edges, act_of}
use Rattle.chip_net.proofs.Names.{FitsRoot, is_of_root, link_after, saw, tail_root, met_rules, Root}
use Rattle.chip_net.proofs.Names.{RootStandsFor, RootCanDo, Seal, Read, Step, Event, Clear, Put, Settle, Feed, End}
use Rattle.chip_net.proofs.Names.{Part, Out, Reply, opening_part, does, unmet_rule, part_of, reply_of}
use Rattle.chip_net.proofs.Names.{word_to_note, root_fits, index_of, View, Mine, find, did_in, HasPart}
use Rattle.chip_net.proofs.Names.{part_of_view, IsAlone, join_views, Kept, step_of, Grows}
use Rattle.chip_net.proofs.Names.{RootKnown, known_root, root_after, root_part, IsRoot, IsFeeding, IsDueInView}
use Rattle.chip_net.proofs.Names.{RootMakesEvent, Replies, settles_from, DoesMore, HoldsNothing, has_ended, with_stopper}
use Rattle.chip_net.proofs.Names.{NetId, AreWordsOf}
use Rattle.chip_net.proofs.Names.{nat_tests}
use Rattle.chip_net.proofs.ViewingLemmas.{done_more, part_append, ended_by, joined_here, joined_else}
use Rattle.chip_net.proofs.RulingLemmas.{Due, Made, made, word_of, left_over, HasAct, act_asked}
use Rattle.chip_part.specs.declared.act.Act as operation
use Rattle.chip_part.specs.declared.act.Act.TheVariants as Do

-- what is noted is noted
noted_twice : (x : Event) (n : ℕ) → word_to_note x n ≡ word_to_note x (word_to_note x n)
noted_twice x n = grind (arith, nat_tests)

-- the root after an event of its own
pub known_after : {g : Setting} {me : Mine} {x : Event} {n : ℕ} {after : Mine} → Made g me (root g) x n after
    → {old : RootKnown} {table : TableId} → known_root table g me.0 ≡ old → {now : TableId} → now ≡ table
    → known_root now g after.0 ≡ root_after old (step_of x n ∷ [])
known_after {g = g} m view_is table_is =
    let kept = m.others (stopper g) (λ z. omega arith) in rw (← view_is, table_is, m.did_is, kept)

-- ---- an event of the root at its seat

module _ {g : Setting} {me : Mine} {x : Event} (due : Due g me (root g) x) (own : is_of_root g x ≡ true) {state : Root}
    (keeps : IsRoot g me.0 state) (n : ℕ) {after : Mine} (told : Grows g x me n after) where
  m : Made g me (root g) x n after
  m = made due n after told

  fits : FitsRoot g (part_of_view g (root g) me.0) x (word_to_note x n)
  fits = rw (m.in_log, m.stepped.has.0.1) (root_fits g keeps.setting.game keeps.setting.some_ring
      m.stepped.log m.stepped.legal x own (rw m.in_log at due.met))

  pub can : RootCanDo g (part_of_view g (root g) me.0) x (word_to_note x n)
  can = (own, due.met, fits)

  pub makes_event : {old : RootKnown} {table : TableId} → known_root table g me.0 ≡ old → {now : TableId} → now ≡ table
      → RootMakesEvent old (known_root now g after.0) x (word_to_note x n)
  makes_event view_is table_is = record {
    record_is = known_after m view_is table_is;
    fits = rw (← view_is) fits;
    noted_is = noted_twice x n;
  }

  module _ {then : Root} {reply : Reply} (makes : RootCanDo g (part_of_view g (root g) me.0) x (word_to_note x n)
      → RootStandsFor g (does g (step_of x n) (part_of_view g (root g) me.0)) then
      × (reply ≡ reply_of g x (word_to_note x n) (part_of_view g (root g) me.0))) where
    pub still_root : IsRoot g after.0 then
    still_root = record {
      setting = keeps.setting;
      has = m.has;
      stands = rw m.part_is (makes can).0;
      in_log = record {
        log = step_of x n ∷ m.stepped.log;
        legal = (m.stepped.legal, m.stepped.has.0);
        has = rw (m.did_is, m.stepped.has.1 (root g) (did_in (root g) me.0) keeps.has)
            (sym (done_more g (root g) (step_of x n) m.stepped.log due.mine));
      };
    }

    pub replies : {old : RootKnown} {table : TableId} → known_root table g me.0 ≡ old → {now : TableId} → now ≡ table
        → Replies old (known_root now g after.0) x reply
    replies view_is table_is = record {
      seen = word_to_note x n;
      made = makes_event view_is table_is;
      reply_is = rw (← view_is) (makes can).1;
    }

-- ---- a settle of a root edge

module _ (g : Setting) (v : ℕ) (inside : v < g.game.graph.vertices) where
  pub settle_own : is_of_root g (Settle (root_edge g v)) ≡ true
  settle_own = le-leb (graph_edges g) (root_edge g v) (omega arith)

  pub settle_due : (me : Mine) {state : Root} → IsRoot g me.0 state → Due g me (root g) (Settle (root_edge g v))
  settle_due me keeps = record {
    mine = tail_root g (root_edge g v) (omega arith);
    has = keeps.has;
    met = met_rules g (Settle (root_edge g v)) (part_of_view g (root g) me.0) (omega arith);
  }

-- ---- an event by which the root feeds

-- it is the root's
pub feeding_mine : (g : Setting) (x : Event) → IsFeeding g x → (part_of g x ≡ root g) × (is_of_root g x ≡ true)
feeding_mine g (Clear e) past = (tail_root g e past, le-leb (graph_edges g) e past)
feeding_mine g (Put e) past = (tail_root g e past, le-leb (graph_edges g) e past)
feeding_mine g (Feed e k) past = (tail_root g e past, refl)
feeding_mine g End past = (refl, refl)
feeding_mine g x z = absurd z

feeding_acts : (g : Setting) (x : Event) → IsFeeding g x → HasAct x
feeding_acts g (Seal e) z = z
feeding_acts g (Read v) z = z
feeding_acts g x z = tt

-- what is noted if such an operation found n
abbrev pub noted_over : operation.Act → ℕ → ℕ
noted_over (Do.Put e cell value) n = 0
noted_over _ n = n

noted_is : (g : Setting) (s : Part) (x : Event) (n : ℕ) → word_to_note x n ≡ noted_over (act_of g x s) n
noted_is g s x n = grind (arith, nat_tests)

pub feeding_due : {g : Setting} {x : Event} (me : Mine) → HasPart (root g) me.0 → IsFeeding g x
    → unmet_rule g x (part_of_view g (root g) me.0) ≡ None → Due g me (root g) x
feeding_due {g = g} {x = x} me has feeding met = record { mine = (feeding_mine g x feeding).0; has = has; met = met }

module _ {net : NetId} {id : TableId} {key : Setting} (words : AreWordsOf net id key) (me : Mine) {x : Event}
    {act : operation.Act} (due : IsDueInView net.setting me.0 x act) {set : Setting} (set_is : set ≡ net.setting)
    {word : ℕ} (at : word ≡ index_of set (word_of (root net.setting) act)) {table : TableId}
    (table_is : table ≡ net.table)
    (seat : ℕ) where
  abbrev g : Setting
  g = net.setting

  noted_here : (n : ℕ) → word_to_note x n ≡ noted_over act n
  noted_here n = rw due.needed (noted_is g (part_of_view g (root g) me.0) x n)

  pub feeding_asked : (table ≡ id) × (word < id.words)
      × Allows (Kept key) id.slots seat me word (left_over act) (Grows key x me)
  feeding_asked = act_asked words (feeding_due me due.has due.feeding due.met)
      (feeding_acts g x due.feeding) act due.needed word
      (rw set_is at at) (λ _. x) refl table table_is seat

  -- a store notes the same, whatever it found
  pub store_asked : (value : ℕ) → ((n : ℕ) → noted_over act n ≡ 0) → (table ≡ id) × (word < id.words)
      × Allows (Kept key) id.slots seat me word (left_over act) (λ n. Grows key x me value)
  store_asked value zero =
      let none : (n : ℕ) → word_to_note x n ≡ 0 = λ n. noted_here n ∙ zero n in
      simp none (simp none at feeding_asked)

-- ---- a poll

-- none yet
pub does_none : (r : RootKnown) (events : List Event) → events ≡ [] → DoesMore r r events
does_none r events none = record {
  steps = [];
  record_is = rw append-nil;
  events_are = sym none;
}

-- one event
pub does_one : {old new : RootKnown} {x : Event} {seen : ℕ} → RootMakesEvent old new x seen → DoesMore old new (x ∷ [])
does_one {x = x} {seen = seen} event =
    record { steps = saw x seen ∷ []; record_is = event.record_is; events_are = refl }

-- events after events
pub does_all : {old now after : RootKnown} {xs ys : List Event} → DoesMore old now xs → DoesMore now after ys
    → DoesMore old after (xs ++ ys)
does_all first rest = record {
  steps = first.steps ++ rest.steps;
  record_is = rw (rest.record_is, first.record_is, append_assoc);
  events_are = rw (map-append, first.events_are, rest.events_are);
}

pub does_net : {old now : RootKnown} {events : List Event} → DoesMore old now events → now.net ≡ old.net
does_net more = rw more.record_is

-- the next settle of a run of them
pub settles_more : {old now after : RootKnown} {seen : ℕ} (first v : ℕ) → first ≤ v
    → DoesMore old now (settles_from old.net.setting first (v - first))
    → RootMakesEvent now after (Settle (root_edge now.net.setting v)) seen
    → DoesMore old after (settles_from old.net.setting first ((v + 1) - first))
settles_more {old = old} {now = now} first v l before event =
    let edge : root_edge now.net.setting v ≡ root_edge old.net.setting (first + (v - first)) =
    rw (does_net before) (omega arith) in
    let count : (v + 1) - first ≡ suc (v - first) = omega arith in
    rw count (does_all before (does_one (rw edge at event)))

-- ---- the part of the root after an event

pub root_step : (r : RootKnown) (y : Step)
    → root_part (root_after r (y ∷ [])) ≡ does r.net.setting y (root_part r)
root_step r y = part_append r.net.setting (opening_part r.net.setting) r.did (y ∷ [])

-- it holds nothing still if the event leaves what is held
pub holds_by : {old now : RootKnown} {x : Event} {seen : ℕ} → RootMakesEvent old now x seen
    → ((e : ℕ) (o : Out) → (link_after x seen e o).held ≡ o.link.held) → HoldsNothing old → HoldsNothing now
holds_by {old = old} {x = x} {seen = seen} event same none =
    rw event.record_is (λ v l. rw (root_step old (saw x seen)) (same _ _ ∙ none v l))

-- a look leaves what it does not note
pub by_look : {A : Type 0} (f : Tail → A) (seen : ℕ) → ((t : Tail) → f (after_clear seen t) ≡ f t) → (e i : ℕ) (o : Out)
    → f (link_after (Clear e) seen i o) ≡ f o.link
by_look f seen same e i o = let here = same o.link in grind (arith, nat_tests)

-- once noted, the end stays noted
pub stays_over : {old now : RootKnown} {events : List Event} → DoesMore old now events → has_ended old ≡ true
    → has_ended now ≡ true
stays_over {old = old} more on = ap has_ended more.record_is
    ∙ ap (λ (s : Part). s.ended) (part_append old.net.setting (opening_part old.net.setting) old.did more.steps)
    ∙ ended_by old.net.setting more.steps (root_part old) on

pub over_by_end : {old now : RootKnown} {seen : ℕ} → RootMakesEvent old now End seen → has_ended now ≡ true
over_by_end {old = old} {seen = seen} event = ap has_ended event.record_is
    ∙ ap (λ (s : Part). s.ended) (root_step old (saw End seen))

-- ---- the stopper's part comes back

module _ (g : Setting) {view : View} (alone : IsAlone (stopper g) view) (mine : View) where
  root_still : find (root g) (join_views mine view).parts ≡ find (root g) mine.parts
  root_still = joined_else (stopper g) (root g) mine view alone (λ e. omega arith)

  pub takes_back : {state : Root} → IsRoot g mine state → IsRoot g (join_views mine view) state
  takes_back keeps = record {
    setting = keeps.setting;
    has = rw root_still keeps.has;
    stands = rw root_still keeps.stands;
    in_log = rw root_still keeps.in_log;
  }

  pub has_both : (table : TableId) (did : List Step) → did ≡ did_in (stopper g) view
      → known_root table g (join_views mine view) ≡ with_stopper (known_root table g mine) did
  has_both table did did_is = rw (root_still, joined_here (stopper g) mine view alone, did_is)
