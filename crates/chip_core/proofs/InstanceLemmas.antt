-- Serves Instance.antt.
-- The events of the core as events of a diffusing computation.
use Rattle.chip_core.proofs.Names.{◌≡◌, ◌≢◌, ◌⊎◌, ℕ, zero, suc, ◌+◌, ◌-◌, ◌<◌, ◌≤◌, eqb, ltb, Bool, true, false, List}
use Rattle.chip_core.proofs.Names.{[], ◌∷◌, Option, Some, None, Contains, refl, sym, ap, ◌∙◌, subst, arith, inl, ⊎_elim}
use Rattle.chip_core.proofs.Names.{length, cond, length-append, eqb-true, eq-eqb, true≢false, ◌&&◌, get_or_past}
use Rattle.chip_core.proofs.Names.{nat_tests, dite, ℕ_discrete, dec_lt, IsGame, filter_below, All-picked}
use Rattle.chip_core.proofs.Names.{picked_ascends, cond_yes, cond_no, by_test, tested_none, none_held}
use Rattle.chip_core.proofs.Names.{length-sent_counts, Tail, claims_of, after_claim, is_parent, or_else}
use Rattle.chip_core.proofs.Names.{Setting, Part, opening_part, first_put, is_passive, tail_of, head_of, all_edges}
use Rattle.chip_core.proofs.Names.{graph_edges, root, root_edge, stopper, part_of, does, saw, got_after, acked_after}
use Rattle.chip_core.proofs.Names.{KeepsPart, IsNeutral, first_few, tail_root, head_root, idle_take, no_fire}
use Rattle.chip_core.proofs.Names.{no_pending, no_halt, may_le, rules_met, Log, Step, Event, Take, Ack, Fire, Clear}
use Rattle.chip_core.proofs.Names.{Claim, Put, Halt, Settle, Seal, Read, Feed, End, part_in, out_in, into_in}
use Rattle.chip_core.proofs.Names.{IsLegalLog, none_some}
use Rattle.chip_graph.proofs.PickLemmas.{picked_has}
use Rattle.chip_graph.proofs.SumLemmas.{picked_sum}
use Rattle.chip_detect.specs.Books.{Books, owed, all_owed, deficit}
use Rattle.chip_detect.specs.Acknowledging.{parent_while_owed}
use Rattle.chip_detect.specs.Acknowledging as detect
use Rattle.chip_part.specs.Part as part
use Rattle.chip_detect.specs.Tally.{edge_limit}
use Rattle.chip_part.proofs.PickedLemmas.{picked_passes}
use Rattle.chip_part.proofs.PartLemmas.{took_some, no_put}
use Rattle.chip_core.proofs.LogLemmas.{part_here, part_else, part_kept, head_inside, tail_inside, tail_cases}
use Rattle.chip_core.proofs.LogLemmas.{edge_counts, edge_sound}
use Rattle.chip_core.proofs.GivenLemmas.{feed_sees}
use Rattle.chip_detect.specs.Change.{AddsAnswers}
use Rattle.chip_core.proofs.NumberLemmas.{claims_most}
use Rattle.chip_diffusing.specs.Network.{Network, IsNetwork}
use Rattle.chip_diffusing.specs.Computation as diffusing
use Rattle.chip_diffusing.specs.Computation.{Happens, Leads, May, NotesEvent, Wakes, Get, Send, Work, OpensPart, World}
use Rattle.chip_diffusing.proofs.CountedLemmas.{books_by, side, side_same, side_message, side_answers, side_open}
use Rattle.chip_diffusing.proofs.CountedLemmas.{side_all_open, side_fresh, counts_in}
use Rattle.chip_core.specs.Instance.{network_of, passive_of, Shows, CoreDiffuses}

-- a part as if it owed nothing and waited for nothing
abbrev settled_up : Part → Part
settled_up s = record s {
  parent = None;
  out = λ e. record (s.out e) { settled = claims_of (s.out e).link };
  into = λ e. record (s.into e) { acked = length (s.into e).got };
  stop = λ e. None;
  ended = true;
}

-- a passive part makes none of these events
abbrev pub IsIdle : Event → Type 0
IsIdle (Fire v k) = ⊥
IsIdle (Clear e) = ⊥
IsIdle (Claim e) = ⊥
IsIdle (Halt v) = ⊥
IsIdle (Feed e k) = ⊥
IsIdle _ = Unit {0}

-- one of two events, by whether two numbers are the same
chosen : (P : diffusing.Event → Type 0) (a b : ℕ) (y z : diffusing.Event) → (a ≡ b → P y) → (a ≢ b → P z)
    → P (cond (eqb a b) y z)
chosen P a b y z first second = dite (ℕ_discrete a b) (λ same. subst P (sym (cond_yes a b y z same)) (first same))
    (λ other. subst P (sym (cond_no a b y z other)) (second other))

module _ (g : Setting) where
  abbrev pub net : Network
  net = network_of g

  abbrev pub ins : ℕ → List ℕ
  ins p = filter_below (λ e. eqb (head_of g e) p) (all_edges g)

  abbrev outs : ℕ → List ℕ
  outs p = filter_below (λ e. eqb (tail_of g e) p) (all_edges g)

  abbrev books_of : ℕ → Part → Books
  books_of p s = books_by (ins p) (outs p) (λ e. length (s.into e).got) (λ e. (s.into e).acked)
      (λ e. claims_of (s.out e).link) (λ e. (s.out e).settled) s.parent

  abbrev show : ℕ → Part → diffusing.PartState
  show p s = record { books = books_of p s; passive = passive_of g p s }

  -- the world of these parts
  abbrev pub world : (ℕ → Part) → World
  world parts p = show p (parts p)

  -- the root sends the chips of the start on its edges below n. Where there are none it makes an event of its own
  abbrev started_below : ℕ → diffusing.Log
  started_below zero = []
  started_below (suc e) = cond (eqb (length (first_put g e)) 0) (Work (root g)) (Send e) ∷ started_below e

  -- the event for an event of the part s that saw this word. By the end of feeding the root settles, and is passive
  -- then
  abbrev pub event_by : Event → ℕ → Part → diffusing.Event
  event_by (Take e) seen s = cond (eqb seen 0) (Work (head_of g e)) (Get e)
  event_by (Ack e) seen s = diffusing.Ack e (part.may_ack_on g (head_of g e) s e)
  event_by (Claim e) seen s = cond (eqb seen (claims_of (s.out e).link)) (Send e) (Work (tail_of g e))
  event_by (Settle e) seen s = diffusing.Settle e seen
  event_by (Feed e k) seen s = Send e
  event_by End seen s = diffusing.Settle (root_edge g 0) seen
  event_by x seen s = Work (part_of g x)

  -- the events for a log, after the start of the root
  abbrev pub events_of : Log → diffusing.Log
  events_of [] = Work (root g) ∷ started_below (all_edges g)
  events_of (x ∷ log) = event_by x.event x.seen (part_in g log (part_of g x.event)) ∷ events_of log

  pub in_ins : (e p : ℕ) → e < all_edges g → head_of g e ≡ p → Contains (ins p) e
  in_ins e p l at = picked_has (λ i. eqb (head_of g i) p) (all_edges g) e l (eq-eqb _ _ at)

  in_outs : (e p : ℕ) → e < all_edges g → tail_of g e ≡ p → Contains (outs p) e
  in_outs e p l at = picked_has (λ i. eqb (tail_of g i) p) (all_edges g) e l (eq-eqb _ _ at)

  -- one part acts, from this state to that, by its own books
  acts : (old new : ℕ → Part) (x : diffusing.Event) (q : ℕ) (s t : Part) → diffusing.process_of net x ≡ q → old q ≡ s
      → new q ≡ t → ((p : ℕ) → p ≢ q → new p ≡ old p) → May net (world old) x → NotesEvent (books_of q s) x (books_of q t)
      → Wakes (passive_of g q s) x (passive_of g q t) → Happens net (world old) x (world new)
  acts old new x q s t at was now others may notes wakes = record {
    may = may;
    notes = here (λ a b. NotesEvent a.books x b.books) notes;
    wakes = here (λ a b. Wakes a.passive x b.passive) wakes;
    others = λ p n. ap (show p) (others p (λ z. n (z ∙ sym at)));
  }
    where
      here : (P : diffusing.PartState → diffusing.PartState → Type 0) → P (show q s) (show q t)
          → P (world old (diffusing.process_of net x)) (world new (diffusing.process_of net x))
      here P holds = subst (λ (p : ℕ). P (world old p) (world new p)) (sym at)
          (subst (λ (u : Part). P (show q u) (world new q)) (sym was)
          (subst (λ (u : Part). P (show q s) (show q u)) (sym now) holds))

  -- the totals owed and waited for
  pub owed_same : (p : ℕ) (s : Part) → all_owed (books_of p s) ≡ part.owed_by g p s
  owed_same p s = side_all_open (ins p) (λ e. length (s.into e).got) (λ e. (s.into e).acked)
      ∙ picked_sum (λ e. part.owed_on (s.into e)) (λ e. eqb (head_of g e) p) (all_edges g)

  pub deficit_same : (p : ℕ) (s : Part) → deficit (books_of p s) ≡ part.deficit_of g p s
  deficit_same p s = side_all_open (outs p) (λ e. claims_of (s.out e).link) (λ e. (s.out e).settled)
      ∙ picked_sum (λ e. part.outstanding_on (s.out e)) (λ e. eqb (tail_of g e) p) (all_edges g)

  pub at_vertex : (p : ℕ) (s : Part) → p < root g → passive_of g p s ≡ is_passive g p s
  at_vertex p s l = grind (arith, nat_tests)

  pub at_root : (p : ℕ) (s : Part) → p ≡ root g → passive_of g p s ≡ s.ended
  at_root p s at = grind (arith, nat_tests)

  pub owes_same : (e p : ℕ) (s : Part) → e < all_edges g → head_of g e ≡ p
      → owed (books_of p s) e ≡ part.owed_on (s.into e)
  owes_same e p s l at = side_open (ins p) (λ i. length (s.into i).got) (λ i. (s.into i).acked) e (in_ins e p l at)

  pub may_same : (e p : ℕ) (s : Part) → e < all_edges g → head_of g e ≡ p → p < root g
      → detect.may_ack (books_of p s) e (passive_of g p s) ≡ part.may_ack_on g p s e
  may_same e p s l at vertex =
      let here = owes_same e p s l at in
      let all = owed_same p s in let waits = deficit_same p s in let rests = at_vertex p s vertex in cc

  below_all : (test : ℕ → Bool) (e : ℕ) → Contains (filter_below test (all_edges g)) e → e < all_edges g
  below_all test e m = let l = m.1 in
      subst (λ (n : ℕ). n < all_edges g) m.2 (All-picked test (all_edges g) (all_edges g) (omega arith) m.0 e l)

  passes_all : (test : ℕ → Bool) (e : ℕ) → Contains (filter_below test (all_edges g)) e → test e ≡ true
  passes_all test e m = subst (λ (n : ℕ). test n ≡ true) m.2 (picked_passes test (all_edges g) m.0 e m.1)

  -- the same books
  books_same : (p : ℕ) (s t : Part) → ((e : ℕ) → length (t.into e).got ≡ length (s.into e).got)
      → ((e : ℕ) → (t.into e).acked ≡ (s.into e).acked) → ((e : ℕ) → e < all_edges g → claims_of (t.out e).link ≡ claims_of (s.out e).link)
      → ((e : ℕ) → (t.out e).settled ≡ (s.out e).settled) → t.parent ≡ s.parent → books_of p t ≡ books_of p s
  books_same p s t got acked claims settled parent = λ j. record {
    ins = side_same (ins p) (λ e. length (s.into e).got) (λ e. (s.into e).acked) (λ e. length (t.into e).got)
        (λ e. (t.into e).acked) (λ e m. got e) (λ e m. acked e) j;
    outs = side_same (outs p) (λ e. claims_of (s.out e).link) (λ e. (s.out e).settled) (λ e. claims_of (t.out e).link)
        (λ e. (t.out e).settled) (λ e m. claims e (below_all (λ i. eqb (tail_of g i) p) e m)) (λ e m. settled e) j;
    parent = parent j;
  }

  -- the parent goes if all that is owed on its edge is acknowledged
  parent_goes : (o : Option ℕ) (e n : ℕ) (owes owes' : ℕ → ℕ) → n ≤ owes e
      → ((q : ℕ) → o ≡ Some q → (0 < owes q) × (e ≡ q → owes' q ≡ owes q - n) × (e ≢ q → owes' q ≡ owes q))
      → cond (is_parent e o && eqb n (owes e)) None o ≡ parent_while_owed o owes'
  parent_goes None e n owes owes' le h = grind (arith, nat_tests)
  parent_goes (Some q) e n owes owes' le h = let a = h q refl in grind (arith, nat_tests)

  abbrev pub was : Log → World
  was log = world (part_in g log)

  -- it has the parts
  module _ (log : Log) where
    counts_out : (e : ℕ) → e < all_edges g → (diffusing.sent_on net (was log) e ≡ claims_of (out_in g log e).link)
        × (diffusing.settled_on net (was log) e ≡ (out_in g log e).settled)
    counts_out e l = let s = part_in g log (tail_of g e) in counts_in (outs (tail_of g e)) (λ i. claims_of (s.out i).link)
        (λ i. (s.out i).settled) e (in_outs e (tail_of g e) l refl)

    counts_into : (e : ℕ) → e < all_edges g → (diffusing.got_on net (was log) e ≡ length (into_in g log e).got)
        × (diffusing.acked_on net (was log) e ≡ (into_in g log e).acked)
    counts_into e l = let s = part_in g log (head_of g e) in counts_in (ins (head_of g e)) (λ i. length (s.into i).got)
        (λ i. (s.into i).acked) e (in_ins e (head_of g e) l refl)

    pub shows : Shows g (part_in g log) (was log)
    shows = record {
      sent = λ e l. (counts_out e l).0;
      settled = λ e l. (counts_out e l).1;
      got = λ e l. (counts_into e l).0;
      acked = λ e l. (counts_into e l).1;
      parent = λ p. refl;
      passive = λ p. refl;
    }

  module _ (game : IsGame g.game) (some_ring : 0 < g.ring) where
    -- one event of a part, by its effect on the part
    by_event : (x : Step) (log : Log) (y : diffusing.Event) → part_of g x.event ≡ diffusing.process_of net y
        → May net (was log) y
        → NotesEvent (books_of (diffusing.process_of net y) (part_in g log (diffusing.process_of net y))) y
        (books_of (diffusing.process_of net y) (does g x (part_in g log (diffusing.process_of net y))))
        → Wakes (passive_of g (diffusing.process_of net y) (part_in g log (diffusing.process_of net y))) y
        (passive_of g (diffusing.process_of net y) (does g x (part_in g log (diffusing.process_of net y))))
        → Happens net (was log) y (was (x ∷ log))
    by_event x log y at may notes wakes =
        let q : ℕ = diffusing.process_of net y in
        let s : Part = part_in g log q in
        acts (part_in g log) (part_in g (x ∷ log)) y q s (does g x s) refl refl (part_here g x log q at)
        (λ p n. part_else g x log p (λ z. n (sym z ∙ at))) may notes wakes

    works : (x : Step) (log : Log) (q : ℕ) → part_of g x.event ≡ q → q < stopper g + 1
        → books_of q (does g x (part_in g log q)) ≡ books_of q (part_in g log q)
        → (passive_of g q (part_in g log q) ≡ true → passive_of g q (does g x (part_in g log q)) ≡ true)
        → Happens net (was log) (Work q) (was (x ∷ log))
    works x log q at l books wakes = by_event x log (Work q) at l books wakes

    pub tail_part : (e : ℕ) → tail_of g e < stopper g + 1
    tail_part e = ⊎_elim (λ z. omega arith) (λ l. omega arith) (tail_cases g game e)

    module _ (log : Log) (legal : IsLegalLog g log) where
      kept : (p : ℕ) → KeepsPart g p (part_in g log p)
      kept p = part_kept g game log legal p

      -- a passive vertex is neutral except for what it owes and waits for
      up : (v : ℕ) → v < root g → passive_of g v (part_in g log v) ≡ true → IsNeutral g v (settled_up (part_in g log v))
      up v l on = record {
        no_parent = refl;
        passive = sym (at_vertex v (part_in g log v) l) ∙ on;
        nothing_owed = tested_none (all_edges g) (λ e. eqb (head_of g e) v)
            (λ e. part.owed_on ((settled_up (part_in g log v)).into e)) (λ e m is. omega arith);
        no_deficit = tested_none (all_edges g) (λ e. eqb (tail_of g e) v)
            (λ e. part.outstanding_on ((settled_up (part_in g log v)).out e)) (λ e m is. omega arith);
      }

      -- an edge of the graph with something pending doesn't leave a passive vertex
      busy : (e : ℕ) → e < graph_edges g → (part_in g log (tail_of g e)).halt ≡ None → 0 < (out_in g log e).pending
          → passive_of g (tail_of g e) (part_in g log (tail_of g e)) ≡ true → ⊥
      busy e l runs pends on =
          let q : ℕ = tail_of g e in
          no_pending g q (settled_up (part_in g log q)) (kept q).outs (up q (tail_inside g game e l) on) e refl (omega arith)
          runs pends

      -- nor does the root look or feed once the end is noted
      open_root : (e : ℕ) → graph_edges g ≤ e → (part_in g log (tail_of g e)).ended ≡ false
          → passive_of g (tail_of g e) (part_in g log (tail_of g e)) ≡ true → ⊥
      open_root e past going on =
          true≢false (sym on ∙ at_root (tail_of g e) (part_in g log (tail_of g e)) (tail_root g e past) ∙ going)

    pub idle : (log : Log) (ev : Event) (seen : ℕ) → IsLegalLog g (saw ev seen ∷ log)
        → passive_of g (part_of g ev) (part_in g log (part_of g ev)) ≡ true → IsIdle ev
    idle log (Fire v k) seen legal on = let may = rules_met g (Fire v k) (part_in g log v) legal.1.0 in
        no_fire g v (settled_up (part_in g log v)) (kept log legal.0 v).outs (up log legal.0 v may.0 on) v k refl may
    idle log (Clear e) seen legal on = ⊎_elim (λ graph. busy log legal.0 e graph.0 graph.1 graph.3 on)
        (λ r. open_root log legal.0 e r.0 r.2 on) (rules_met g (Clear e) (part_in g log (tail_of g e)) legal.1.0)
    idle log (Claim e) seen legal on = let may = rules_met g (Claim e) (part_in g log (tail_of g e)) legal.1.0 in
        busy log legal.0 e may.0 may.1 (((kept log legal.0 (tail_of g e)).outs e refl).clear_pends may.0 may.2) on
    idle log (Halt v) seen legal on = let may = rules_met g (Halt v) (part_in g log v) legal.1.0 in
        no_halt g v (settled_up (part_in g log v)) (kept log legal.0 v).outs (up log legal.0 v may.0 on) v refl may
    idle log (Feed e k) seen legal on = let may = rules_met g (Feed e k) (part_in g log (tail_of g e)) legal.1.0 in
        open_root log legal.0 e may.0 may.2 on
    idle log _ seen legal on = tt

    -- an accepted claim, or a feed, sends
    sends : (log : Log) (x : Step) (e : ℕ) → IsLegalLog g (x ∷ log) → part_of g x.event ≡ tail_of g e → e < all_edges g
        → (passive_of g (tail_of g e) (part_in g log (tail_of g e)) ≡ true → ⊥)
        → (books_of (tail_of g e) (does g x (part_in g log (tail_of g e)))).ins
        ≡ (books_of (tail_of g e) (part_in g log (tail_of g e))).ins
        → ((i : ℕ) → claims_of ((does g x (part_in g log (tail_of g e))).out i).link
        ≡ cond (eqb e i) (claims_of ((part_in g log (tail_of g e)).out i).link + 1)
        (claims_of ((part_in g log (tail_of g e)).out i).link))
        → ((i : ℕ) → ((does g x (part_in g log (tail_of g e))).out i).settled ≡ ((part_in g log (tail_of g e)).out i).settled)
        → (does g x (part_in g log (tail_of g e))).parent ≡ (part_in g log (tail_of g e)).parent
        → Happens net (was log) (Send e) (was (x ∷ log))
    sends log x e legal at l never same more settled parent =
        let q : ℕ = tail_of g e in
        let s : Part = part_in g log q in
        let t : Part = does g x s in
        let most = claims_most g game some_ring (x ∷ log) legal e in
        let now : claims_of (out_in g (x ∷ log) e).link ≡ claims_of (t.out e).link =
        ap (λ (u : Part). claims_of (u.out e).link) (part_here g x log q at) in
        let one : claims_of (t.out e).link ≡ claims_of (s.out e).link + 1 = more e ∙ cond_yes e e _ _ refl in
        let old = (shows log).sent e l in
        let active : passive_of g q s ≡ false = by_test (passive_of g q s) (λ on. absurd (never on)) (λ off. off) in
        by_event x log (Send e) at (l, active, omega arith)
        (record {
          ins = same;
          outs = side_message (outs q) (λ i. claims_of (s.out i).link) (λ i. (s.out i).settled)
              (λ i. claims_of (t.out i).link) (λ i. (t.out i).settled) e (in_outs e q l refl) (λ i m. more i)
              (λ i m. settled i);
          parent = parent;
        })
        (λ on. absurd (never on))

    -- a claim of this count, if the edge is not sealed
    claims_more : (e seen : ℕ) (count : ℕ → ℕ) (links : ℕ → Tail) → (links e).held ≡ None → seen ≡ claims_of (links e)
        → (i : ℕ) → claims_of (cond (eqb e i) (after_claim (count i) seen (links i)) (links i))
        ≡ cond (eqb e i) (claims_of (links i) + 1) (claims_of (links i))
    claims_more e seen count links empty hit i =
        let none = none_held (links e) empty in grind (arith, nat_tests)

    refused_same : (e seen : ℕ) (count : ℕ → ℕ) (links : ℕ → Tail) → seen ≢ claims_of (links e)
        → (i : ℕ) → claims_of (cond (eqb e i) (after_claim (count i) seen (links i)) (links i)) ≡ claims_of (links i)
    refused_same e seen count links miss i = grind (arith, nat_tests)

    root_wakes : (x : Step) (log : Log) (q : ℕ) → q ≡ root g → (does g x (part_in g log q)).ended ≡ (part_in g log q).ended
        → passive_of g q (part_in g log q) ≡ true → passive_of g q (does g x (part_in g log q)) ≡ true
    root_wakes x log q at same on = at_root q (does g x (part_in g log q)) at ∙ same ∙ sym (at_root q (part_in g log q) at) ∙ on

    -- the number that the tail settles
    settles : (e seen : ℕ) (q : ℕ) (s : Part) → e < all_edges g → tail_of g e ≡ q → AddsAnswers (books_of q s).outs
        (side (outs q) (λ i. claims_of (s.out i).link)
        (λ i. cond (eqb e i) ((s.out i).settled + (seen - (s.out i).settled)) (s.out i).settled)).ins e
        (seen - Rattle.chip_detect.specs.Books.settled_of (books_of q s) e)
    settles e seen q s l at =
        let had : Rattle.chip_detect.specs.Books.settled_of (books_of q s) e ≡ (s.out e).settled =
        (counts_in (outs q) (λ i. claims_of (s.out i).link) (λ i. (s.out i).settled) e (in_outs e q l at)).1 in
        side_answers (outs q) (λ i. claims_of (s.out i).link) (λ i. (s.out i).settled) (λ i. claims_of (s.out i).link)
        (λ i. cond (eqb e i) ((s.out i).settled + (seen - (s.out i).settled)) (s.out i).settled) e
        (seen - Rattle.chip_detect.specs.Books.settled_of (books_of q s) e) (in_outs e q l at) (λ i m. refl)
        (λ i m. grind (arith, nat_tests))

    pub is_network : IsNetwork net
    is_network = record {
      root = omega arith;
      tails = λ e l. tail_part e;
      heads = λ e l. let a = head_inside g game e l in omega arith;
      none_to_root = λ e l z. let a = head_inside g game e l in absurd (omega arith);
    }

    pub one_event : (ev : Event) (seen : ℕ) (log : Log) → IsLegalLog g (saw ev seen ∷ log)
        → Happens net (was log) (event_by ev seen (part_in g log (part_of g ev))) (was (saw ev seen ∷ log))
    one_event (Take e) seen log legal =
        let h : ℕ = head_of g e in
        let s : Part = part_in g log h in
        let l : e < all_edges g = rules_met g (Take e) s legal.1.0 in
        let inside = head_inside g game e l in
        chosen (λ y. Happens net (was log) y (was (saw (Take e) seen ∷ log))) seen 0 (Work h) (Get e)
        (λ none. works (saw (Take e) seen) log h refl (omega arith) (ap (books_of h) (idle_take g e seen s none))
        (λ on. ap (passive_of g h) (idle_take g e seen s none) ∙ on))
        (λ some.
        let c = edge_counts g game some_ring log legal.0 e in
        by_event (saw (Take e) seen) log (Get e) refl (
          l,
          (let a = (shows log).sent e l in let b = (shows log).got e l in
              let flies : length (s.into e).got < length (out_in g log e).link.put =
              dite (dec_lt (length (s.into e).got) (length (out_in g log e).link.put)) (λ z. z)
              (λ past. absurd (some (legal.1.1 ∙ get_or_past (out_in g log e).link.put (length (s.into e).got) 0 (omega arith)))) in
              let c3 = c.3 in omega arith),
        )
        (record {
          ins = side_message (ins h) (λ i. length (s.into i).got) (λ i. (s.into i).acked)
              (λ i. length (got_after (Take e) seen i (s.into i))) (λ i. (s.into i).acked) e (in_ins e h l refl)
              (λ i m. (let one = took_some g seen (s.into i).got some in grind (arith, nat_tests)))
              (λ i m. refl);
          outs = refl;
          parent = cond_no seen 0 s.parent (or_else s.parent e) some;
        })
        tt)
    one_event (Ack e) seen log legal =
        let h : ℕ = head_of g e in
        let s : Part = part_in g log h in
        let may = rules_met g (Ack e) s legal.1.0 in
        let l = may.0 in
        let n : ℕ = part.may_ack_on g h s e in
        let t : Part = does g (saw (Ack e) seen) s in
        let same = may_same e h s l refl (head_inside g game e l) in
        by_event (saw (Ack e) seen) log (diffusing.Ack e n) refl (l, omega arith)
        (record {
          ins = side_answers (ins h) (λ i. length (s.into i).got) (λ i. (s.into i).acked) (λ i. length (s.into i).got)
              (λ i. acked_after g (Ack e) s i (s.into i)) e n (in_ins e h l refl) (λ i m. refl) (λ i m. refl);
          outs = refl;
          parent = parent_goes s.parent e n (λ i. part.owed_on (s.into i)) (owed (books_of h t)) (may_le g h e s)
              (λ q is.
              let k = (kept log legal.0 h).parents q is in
              let shown = side_open (ins h) (λ i. length (s.into i).got) (λ i. acked_after g (Ack e) s i (s.into i)) q
              (in_ins q h k.0 k.1) in (
                k.2,
                (λ z. let a = cond_yes e q ((s.into q).acked + n) (s.into q).acked z in omega arith),
                (λ z. let a = cond_no e q ((s.into q).acked + n) (s.into q).acked z in omega arith),
              ));
        })
        (λ z. z)
    one_event (Fire v k) seen log legal =
        let l = (rules_met g (Fire v k) (part_in g log v) legal.1.0).0 in
        works (saw (Fire v k) seen) log v refl (omega arith) refl (λ on. absurd (idle log (Fire v k) seen legal on))
    one_event (Clear e) seen log legal =
        let q : ℕ = tail_of g e in
        let s = part_in g log q in
        works (saw (Clear e) seen) log q refl (tail_part e)
        (books_same q s (does g (saw (Clear e) seen) s) (λ i. refl) (λ i. refl)
        (λ i m. grind (arith, nat_tests)) (λ i. refl) refl)
        (λ on. absurd (idle log (Clear e) seen legal on))
    one_event (Claim e) seen log legal =
        let q : ℕ = tail_of g e in
        let s = part_in g log q in
        let may = rules_met g (Claim e) s legal.1.0 in
        let l = may.0 in
        let empty = (edge_sound g game some_ring log legal.0 e).quiet may.2 in
        chosen (λ y. Happens net (was log) y (was (saw (Claim e) seen ∷ log))) seen (claims_of (s.out e).link) (Send e)
        (Work q)
        (λ hit. sends log (saw (Claim e) seen) e legal refl (omega arith) (idle log (Claim e) seen legal) refl
        (claims_more e seen (λ i. (s.out i).pending) (λ i. (s.out i).link) empty hit) (λ i. refl) refl)
        (λ miss. works (saw (Claim e) seen) log q refl (tail_part e)
        (books_same q s (does g (saw (Claim e) seen) s) (λ i. refl) (λ i. refl)
        (λ i m. refused_same e seen (λ j. (s.out j).pending) (λ j. (s.out j).link) miss i) (λ i. refl) refl)
        (λ on. absurd (idle log (Claim e) seen legal on)))
    one_event (Put e) seen log legal =
        let q : ℕ = tail_of g e in
        let s = part_in g log q in
        let may = rules_met g (Put e) s legal.1.0 in
        works (saw (Put e) seen) log q refl (tail_part e)
        (books_same q s (does g (saw (Put e) seen) s) (λ i. refl) (λ i. refl)
        (λ i m. (let a = length-sent_counts (s.out e).link in grind (arith, nat_tests))) (λ i. refl) refl)
        (⊎_elim (λ at. root_wakes (saw (Put e) seen) log q at refl)
        (λ vertex on. absurd (no_put g q (settled_up s) (kept log legal.0 q).outs (up log legal.0 q vertex on) e refl may.0
        may.1.0 may.1.1))
        (tail_cases g game e))
    one_event (Halt v) seen log legal =
        let l = (rules_met g (Halt v) (part_in g log v) legal.1.0).0 in
        works (saw (Halt v) seen) log v refl (omega arith) refl (λ on. absurd (idle log (Halt v) seen legal on))
    one_event (Settle e) seen log legal =
        let q : ℕ = tail_of g e in
        let s = part_in g log q in
        let l = rules_met g (Settle e) s legal.1.0 in
        let c = edge_counts g game some_ring log legal.0 e in let c0 = c.0 in
        let a = (shows log).settled e l in
        let b = (shows log).acked e l in
        let is : seen ≡ (into_in g log e).acked = legal.1.1 in
        by_event (saw (Settle e) seen) log (diffusing.Settle e seen) refl (l, omega arith, omega arith)
        (record { ins = refl; outs = settles e seen q s l refl; parent = refl }) (λ z. z)
    one_event (Seal e) seen log legal = works (saw (Seal e) seen) log (stopper g) refl (omega arith) refl (λ on. on)
    one_event (Read v) seen log legal = works (saw (Read v) seen) log (root g) refl (omega arith) refl (λ on. on)
    one_event (Feed e k) seen log legal =
        let q : ℕ = tail_of g e in
        let s = part_in g log q in
        let may = rules_met g (Feed e k) s legal.1.0 in
        let empty = (edge_sound g game some_ring log legal.0 e).quiet may.5 in
        sends log (saw (Feed e k) seen) e legal refl may.1 (idle log (Feed e k) seen legal) refl
        (claims_more e seen (λ i. k) (λ i. (s.out i).link) empty (legal.1.1 ∙ feed_sees g log legal.0 e k may.0)) (λ i. refl)
        refl
    one_event End seen log legal =
        let e : ℕ = root_edge g 0 in
        let s = part_in g log (tail_of g e) in
        let some = game.graph_fits.some_vertex in
        let l : e < all_edges g = omega arith in
        let at = tail_root g e (omega arith) in
        let c = edge_counts g game some_ring log legal.0 e in let c0 = c.0 in
        let a = (shows log).settled e l in
        let b = (shows log).acked e l in
        let is : seen ≡ (into_in g log e).acked = legal.1.1 in
        by_event (saw End seen) log (diffusing.Settle e seen) (sym at) (l, omega arith, omega arith)
        (record { ins = refl; outs = settles e seen (tail_of g e) s l refl; parent = refl })
        (λ on. at_root (tail_of g e) (does g (saw End seen) s) at)

    -- ---- the opening: the root sends what the vertices have at the start

    put_cases : (e : ℕ) → (length (first_put g e) ≡ 0) ⊎ ((graph_edges g ≤ e) × (length (first_put g e) ≡ 1))
    put_cases e = dite (dec_lt e (graph_edges g)) (λ l. inl (first_few g e l)) (λ n. grind (arith, nat_tests))

    -- the root that has sent on the edges below k
    abbrev rooted : ℕ → Part
    rooted k = record (opening_part g) {
      out = λ e. record {
        link = record { put = cond (ltb e k) (first_put g e) []; held = None; clear = false; refused = false };
        pending = 0;
        settled = 0;
      };
      ended = false;
    }

    abbrev starting : ℕ → ℕ → Part
    starting k p = cond (eqb p (root g)) (rooted k) (opening_part g)

    at_start : (k : ℕ) → starting k (root g) ≡ rooted k
    at_start k = grind (arith, nat_tests)

    elsewhere : (k : ℕ) (p : ℕ) → p ≢ root g → starting k p ≡ opening_part g
    elsewhere k p n = grind (arith, nat_tests)

    claims_start : (k e : ℕ) → claims_of ((rooted (suc k)).out e).link
        ≡ cond (eqb k e) (claims_of ((rooted k).out e).link + length (first_put g k)) (claims_of ((rooted k).out e).link)
    claims_start k e = grind (arith, nat_tests)

    abbrev r : ℕ
    r = root g

    not_passive : (k : ℕ) → passive_of g r (rooted k) ≡ true → ⊥
    not_passive k on = true≢false (sym on ∙ at_root r (rooted k) refl)

    start_step : (k : ℕ) → k < all_edges g
        → Happens net (world (starting k)) (cond (eqb (length (first_put g k)) 0) (Work r) (Send k)) (world (starting (suc k)))
    start_step k l = chosen (λ y. Happens net (world (starting k)) y (world (starting (suc k)))) (length (first_put g k)) 0
        (Work r) (Send k)
        (λ none. by (Work r) refl (omega arith)
        (books_same r (rooted k) (rooted (suc k)) (λ e. refl) (λ e. refl)
        (λ e m. (let a = claims_start k e in grind (arith, nat_tests))) (λ e. refl) refl)
        (λ on. absurd (not_passive k on)))
        (λ full.
        let some = ⊎_elim (λ none. absurd (full none)) (λ z. z) (put_cases k) in
        let at : tail_of g k ≡ r = tail_root g k some.0 in
        let here : starting k (tail_of g k) ≡ rooted k = ap (starting k) at ∙ at_start k in
        let zero_sent : claims_of ((rooted k).out k).link ≡ 0 = grind (arith, nat_tests) in
        let sent_now : diffusing.sent_on net (world (starting k)) k ≡ claims_of ((starting k (tail_of g k)).out k).link =
        (counts_in (outs (tail_of g k)) (λ i. claims_of ((starting k (tail_of g k)).out i).link)
        (λ i. ((starting k (tail_of g k)).out i).settled) k (in_outs k (tail_of g k) l refl)).0 in
        let sent_there = ap (λ (s : Part). claims_of (s.out k).link) here in
        let active : passive_of g (tail_of g k) (starting k (tail_of g k)) ≡ false =
        ap (passive_of g (tail_of g k)) here ∙ at_root (tail_of g k) (rooted k) at in
        by (Send k) at (l, active, omega arith)
        (record {
          ins = refl;
          outs = side_message (outs r) (λ i. claims_of ((rooted k).out i).link) (λ i. 0)
              (λ i. claims_of ((rooted (suc k)).out i).link) (λ i. 0) k (in_outs k r l at)
              (λ i m. claims_start k i ∙ ap (λ (n : ℕ). cond (eqb k i) (claims_of ((rooted k).out i).link + n)
              (claims_of ((rooted k).out i).link)) some.1) (λ i m. refl);
          parent = refl;
        })
        (λ on. absurd (not_passive k on)))
      where
        by : (y : diffusing.Event) → diffusing.process_of net y ≡ r → May net (world (starting k)) y
            → NotesEvent (books_of r (rooted k)) y (books_of r (rooted (suc k)))
            → Wakes (passive_of g r (rooted k)) y (passive_of g r (rooted (suc k)))
            → Happens net (world (starting k)) y (world (starting (suc k)))
        by y at may notes wakes = acts (starting k) (starting (suc k)) y r (rooted k) (rooted (suc k)) at (at_start k)
            (at_start (suc k)) (λ p n. elsewhere (suc k) p n ∙ sym (elsewhere k p n)) may notes wakes

    start_leads : (k : ℕ) → k ≤ all_edges g → Leads net (world (starting 0)) (started_below k) (world (starting k))
    start_leads zero le = refl
    start_leads (suc k) le = (world (starting k), start_leads k (omega arith), start_step k (omega arith))

    -- the root sends no more, unless there is feeding
    opened : Happens net (world (starting (all_edges g))) (Work (root g)) (was [])
    opened = acts (starting (all_edges g)) (λ p. opening_part g) (Work r) r (rooted (all_edges g)) (opening_part g) refl
        (at_start (all_edges g)) refl (λ p n. sym (elsewhere (all_edges g) p n)) (omega arith)
        (books_same r (rooted (all_edges g)) (opening_part g) (λ e. refl) (λ e. refl) (λ e m. grind (arith, nat_tests))
        (λ e. refl) refl) (λ on. absurd (not_passive (all_edges g) on))

    -- ---- the number of edges of a part

    -- at most f of them pass the test, if f grows at each that does
    few : (test : ℕ → Bool) (f : ℕ → ℕ) → ((a : ℕ) → f a ≤ f (suc a)) → ((a : ℕ) → test a ≡ true → f a < f (suc a))
        → (n : ℕ) → length (filter_below test n) ≤ f n
    few test f up on zero = omega arith
    few test f up on (suc n) =
        let rest = few test f up on n in let least = up n in let more = on n in
        let a = length-append (filter_below test n) (n ∷ []) in let b = length-append (filter_below test n) [] in
        by_test (test n) (λ is. grind arith) (λ is. grind arith)

    -- the edges of the graph, and one of the root's
    few_ins : (p : ℕ) → length (ins p) ≤ edge_limit
    few_ins p =
        let m : ℕ = graph_edges g in
        let few_here = few (λ e. eqb (head_of g e) p) (λ a. cond (ltb a m) a m + cond (ltb (m + p) a) 1 0)
        (λ a. grind (arith, nat_tests)) (λ a on. dite (dec_lt a m) (λ l. grind (arith, nat_tests))
        (λ past. let h = head_root g a (omega arith) in let z = eqb-true _ _ on in grind (arith, nat_tests))) (all_edges g) in
        let most = game.graph_fits.few_edges in grind (arith, nat_tests)

    few_outs : (p : ℕ) → length (outs p) ≤ edge_limit
    few_outs p =
        let m : ℕ = graph_edges g in
        dite (ℕ_discrete p (root g))
        (λ at.
        let few_here = few (λ e. eqb (tail_of g e) p) (λ a. a - m) (λ a. omega arith) (λ a on. dite (dec_lt a m)
        (λ l. let t = tail_inside g game a l in let z = eqb-true _ _ on in absurd (omega arith)) (λ past. omega arith))
        (all_edges g) in
        let most = game.graph_fits.few_vertices in omega arith)
        (λ other.
        let few_here = few (λ e. eqb (tail_of g e) p) (λ a. cond (ltb a m) a m) (λ a. grind (arith, nat_tests))
        (λ a on. dite (dec_lt a m) (λ l. grind (arith, nat_tests))
        (λ past. absurd (other (sym (eqb-true _ _ on) ∙ tail_root g a (omega arith))))) (all_edges g) in
        let most = game.graph_fits.few_edges in grind (arith, nat_tests))

    opens_part : (p : ℕ) (s : Part) → ((e : ℕ) → length (s.into e).got ≡ 0) → ((e : ℕ) → (s.into e).acked ≡ 0)
        → ((e : ℕ) → Contains (outs p) e → claims_of (s.out e).link ≡ 0) → ((e : ℕ) → (s.out e).settled ≡ 0)
        → s.parent ≡ None → (p ≢ root g → passive_of g p s ≡ true) → OpensPart net p (show p s)
    opens_part p s got acked claims settled none passive =
        let a = side_fresh (ins p) (λ e. length (s.into e).got) (λ e. (s.into e).acked)
        (picked_ascends (λ e. eqb (head_of g e) p) (all_edges g)) (few_ins p) (λ e m. got e) (λ e m. acked e) in
        let b = side_fresh (outs p) (λ e. claims_of (s.out e).link) (λ e. (s.out e).settled)
        (picked_ascends (λ e. eqb (tail_of g e) p) (all_edges g)) (few_outs p) claims (λ e m. settled e) in
        record {
          ins = ins p;
          outs = outs p;
          all_ins = record {
            all = λ e i. in_ins e p i.0 i.1;
            none_else = λ e m. (below_all (λ i. eqb (head_of g i) p) e m, eqb-true _ _ (passes_all (λ i. eqb (head_of g i) p) e m));
          };
          all_outs = record {
            all = λ e i. in_outs e p i.0 i.1;
            none_else = λ e m. (below_all (λ i. eqb (tail_of g i) p) e m, eqb-true _ _ (passes_all (λ i. eqb (tail_of g i) p) e m));
          };
          fresh = record { ins = a.1; outs = b.1; parent = none };
          sound = record {
            ins = a.0;
            outs = b.0;
            engaged = λ q z. absurd (none_some q s.parent none z);
            neutral = λ z. owed_same p s ∙ tested_none (all_edges g) (λ e. eqb (head_of g e) p) (λ e. part.owed_on (s.into e))
                (λ e l on. (let x = got e in omega arith));
          };
          passive = passive;
        }

    open_parts : (p : ℕ) → p < stopper g + 1 → OpensPart net p (world (starting 0) p)
    open_parts p l = dite (ℕ_discrete p (root g))
        (λ at. subst (λ (q : ℕ). OpensPart net q (world (starting 0) q)) (sym at)
        (subst (λ (s : Part). OpensPart net (root g) (show (root g) s)) (sym (at_start 0))
        (opens_part (root g) (rooted 0) (λ e. refl) (λ e. refl)
        (λ e m. grind (arith, nat_tests)) (λ e. refl) refl (λ z. absurd (z refl)))))
        (λ other. subst (λ (s : Part). OpensPart net p (show p s)) (sym (elsewhere 0 p other))
        (opens_part p (opening_part g) (λ e. refl) (λ e. refl)
        (λ e m.
        let tail = eqb-true _ _ (passes_all (λ i. eqb (tail_of g i) p) e m) in
        dite (dec_lt e (graph_edges g)) (λ graph. (let a = first_few g e graph in omega arith))
        (λ past. absurd (other (sym tail ∙ tail_root g e (omega arith)))))
        (λ e. refl) refl
        (λ z. dite (dec_lt p (root g))
        (λ vertex. at_vertex p (opening_part g) vertex ∙ ((part_kept g game [] tt p).neutral vertex refl).passive)
        (λ past. grind (arith, nat_tests)))))

    -- all events
    from_log : (log : Log) → IsLegalLog g log → Leads net (world (starting 0)) (events_of log) (was log)
    from_log [] legal = (world (starting (all_edges g)), start_leads (all_edges g) (omega arith), opened)
    from_log (x ∷ log) legal = (was log, from_log log legal.0, one_event x.event x.seen log legal)

    pub legal_there : (log : Log) → IsLegalLog g log → diffusing.IsLegalLog net (events_of log) (was log)
    legal_there log legal = record { first = world (starting 0); opens = open_parts; leads = from_log log legal }

pub core_diffuses : CoreDiffuses
core_diffuses g game some_ring = (
  is_network g game some_ring,
  record {
    events = events_of g;
    world = was g;
    shows = shows g;
    legal = legal_there g game some_ring;
    goes_on = λ x log legal. (
      event_by g x.event x.seen (part_in g log (part_of g x.event)),
      refl,
      one_event g game some_ring x.event x.seen log legal,
    );
  },
)
