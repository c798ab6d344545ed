-- Serves Ends.antt, Actor.antt.
-- An actor that makes an event stands for the part after it. Each lemma takes the changes of the call in the actor's
-- own numbers.
use Rattle.chip_actor.proofs.Names.{◌≡◌, ◌≢◌, ℕ, ◌+◌, ◌-◌, ◌*◌, ◌≤◌, ◌^◌, true, false, ◌&&◌, cond, if◌then◌else◌, eqb}
use Rattle.chip_actor.proofs.Names.{length, Option, Some, None, option_to_list, refl, sym, ap, ◌∙◌, arith, eq-eqb}
use Rattle.chip_actor.proofs.Names.{mul_comm, rules, nat_tests, dite, ℕ_discrete, degree, Setting, tested_ext}
use Rattle.chip_actor.proofs.Names.{tested_scale, tested_move, tested_term, may_clear, head_after_take, claims_of}
use Rattle.chip_actor.proofs.Names.{after_put, tail_state, head_state, tail_clears, tail_claims, tail_puts}
use Rattle.chip_actor.proofs.Names.{head_takes, edges_of, Books, IsSound, settled_of, is_parent, Gets, Acknowledges}
use Rattle.chip_actor.proofs.Names.{Sends, Settles, all_edges, tail_of, head_of, mult_of, over_outs, Cause, Part, Out}
use Rattle.chip_actor.proofs.Names.{may_ack_on, cause, Event, Take, Ack, Fire, Clear, Claim, Put, Halt, Settle}
use Rattle.chip_actor.proofs.Names.{unmet_rule, part_of, does, link_after, pending_after, got_after, saw, KeepsPart}
use Rattle.chip_actor.proofs.Names.{OutEnd, OutEnds, InEnds, in_on, ChangesOut, ChangesOuts, ChangesIn}
use Rattle.chip_actor.proofs.Names.{out_after_clear, out_after_claim, out_after_put, out_after_fire, Actor, KnowsGame}
use Rattle.chip_actor.proofs.Names.{KeepsBooks, StandsFor, out_end, rules_met, vertex_clear, events_keep, idle_take}
use Rattle.chip_actor.proofs.Names.{took_some, over_outs_graph, ne_eqb}

-- how many messages are claimed and not put on an edge, and whether its claim was refused
abbrev held_count : Out → ℕ
held_count o = length (option_to_list o.link.held)

abbrev refused_count : Out → ℕ
refused_count o = cond o.link.refused 1 0

module _ (g : Setting) (s : Part) (a : Actor) (stands : StandsFor g s a) where
  -- what it knows of the game does not depend on its numbers
  knows_still : (chips fired : ℕ) (halt : Option Cause) (os : OutEnds) (is : InEnds) (b : Books) (p u r : ℕ)
      → os.edges ≡ a.outs.edges → is.edges ≡ a.ins.edges → edges_of b.outs ≡ edges_of a.detect.outs
      → edges_of b.ins ≡ edges_of a.detect.ins
      → KnowsGame g (record a {
        chips = chips;
        fired = fired;
        halt = halt;
        outs = os;
        ins = is;
        detect = b;
        pending = p;
        unput = u;
        refused = r;
      })
  knows_still chips fired halt os is b p u r outs ins books_outs books_ins =
      let k = stands.knows in search (rules, arith, nat_tests)

  kept_still : (x : Event) (seen : ℕ) → part_of g x ≡ a.vertex → unmet_rule g x s ≡ None
      → KeepsPart g a.vertex (does g (saw x seen) s)
  kept_still x seen at may = rw (← at) (events_keep g (saw x seen) s may (rw (at) stands.kept))

  -- the books of a part that took and acknowledged no message, and for which the same was sent and settled
  books_still : (t : Part) → s.parent ≡ t.parent → ((e : ℕ) → s.into e ≡ t.into e)
      → ((e : ℕ) → tail_of g e ≡ a.vertex → claims_of (s.out e).link ≡ claims_of (t.out e).link)
      → ((e : ℕ) → (s.out e).settled ≡ (t.out e).settled) → KeepsBooks g t a.vertex a.detect
  books_still t parent into sent settled = record {
    sound = stands.books.sound;
    parent = rw (← parent) stands.books.parent;
    got = λ e mine. rw (← into e) (stands.books.got e mine);
    acked = λ e mine. rw (← into e) (stands.books.acked e mine);
    sent = λ e mine. rw (← sent e mine) (stands.books.sent e mine);
    settled = λ e mine. rw (← settled e) (stands.books.settled e mine);
  }

  -- ---- a take

  -- the end into which a message came
  taken_end : (e seen : ℕ) (is : InEnds) → ChangesIn a.ins is e (head_after_take seen) → (i : ℕ)
      → head_of g i ≡ a.vertex → in_on is i ≡ head_state i g.ring (got_after (Take e) seen i (s.into i))
  taken_end e seen is change i at = let c = change.each i in let was = stands.ins i at in
      let takes = head_takes i g.ring (s.into i).got seen in grind (arith, nat_tests)

  pub takes : (e seen : ℕ) → head_of g e ≡ a.vertex → unmet_rule g (Take e) s ≡ None → seen ≢ 0
      → s.chips + seen ≤ 2 ^ 40
      → (is : InEnds) → ChangesIn a.ins is e (head_after_take seen) → (b : Books) → Gets a.detect b e → IsSound b
      → StandsFor g (does g (saw (Take e) seen) s)
      (record a { chips = a.chips + seen; ins = is; detect = b })
  takes e seen at may some few is change b gets sound =
      let knows = knows_still (a.chips + seen) a.fired a.halt a.outs is b a.pending a.unput a.refused refl change.edges
      (ap edges_of gets.outs) gets.ins.edges in
      let kept = kept_still (Take e) seen at may in let ins = taken_end e seen is change in
      let books : KeepsBooks g (does g (saw (Take e) seen) s) a.vertex b = record {
        sound = sound;
        parent = (let p = gets.parent in let was = stands.books.parent in grind (arith, nat_tests));
        got = λ i mine. (let m = gets.ins.messages i in let was = stands.books.got i mine in
            let one = took_some g seen (s.into i).got some in grind (arith, nat_tests));
        acked = λ i mine. rw (gets.ins.answered i) (stands.books.acked i mine);
        sent = λ i mine. rw gets.outs (stands.books.sent i mine);
        settled = λ i mine. rw gets.outs (stands.books.settled i mine);
      } in search (rules, arith, nat_tests)

  -- an empty cell changes nothing
  pub takes_none : (e seen : ℕ) → seen ≡ 0 → (is : InEnds) → ChangesIn a.ins is e (head_after_take seen)
      → StandsFor g (does g (saw (Take e) seen) s) (record a { ins = is })
  takes_none e seen none is change = rw (idle_take g e seen s none)
      (let knows = knows_still a.chips a.fired a.halt a.outs is a.detect a.pending a.unput a.refused refl change.edges refl refl in
      let ins : (i : ℕ) → head_of g i ≡ a.vertex → in_on is i ≡ head_state i g.ring (s.into i).got = λ i at. (
      let c = change.each i in let was = stands.ins i at in grind (arith, nat_tests)) in
      search (rules, arith, nat_tests))

  -- ---- a settle

  pub settles : (e seen : ℕ) → tail_of g e ≡ a.vertex → unmet_rule g (Settle e) s ≡ None → (b : Books)
      → Settles a.detect b e (seen - settled_of a.detect e) → IsSound b
      → StandsFor g (does g (saw (Settle e) seen) s) (record a { detect = b })
  settles e seen at may b change sound =
      let knows = knows_still a.chips a.fired a.halt a.outs a.ins b a.pending a.unput a.refused refl refl change.outs.edges
      (ap edges_of change.ins) in
      let kept = kept_still (Settle e) seen at may in
      let books : KeepsBooks g (does g (saw (Settle e) seen) s) a.vertex b = record {
        sound = sound;
        parent = rw change.parent stands.books.parent;
        got = λ i mine. rw change.ins (stands.books.got i mine);
        acked = λ i mine. rw change.ins (stands.books.acked i mine);
        sent = λ i mine. rw (change.outs.messages i) (stands.books.sent i mine);
        settled = λ i mine. (let c = change.outs.answered i in let was = stands.books.settled i mine in
            grind (arith, nat_tests));
      } in search (rules, arith, nat_tests)

  -- ---- an acknowledgement

  pub acknowledges : (e count : ℕ) → head_of g e ≡ a.vertex → unmet_rule g (Ack e) s ≡ None
      → count ≡ may_ack_on g (head_of g e) s e → (b : Books) → Acknowledges a.detect b e count → IsSound b
      → b.parent ≡ (if is_parent e a.detect.parent && eqb count (Rattle.chip_detect.specs.Books.owed a.detect e)
      then None else a.detect.parent) → (seen : ℕ)
      → StandsFor g (does g (saw (Ack e) seen) s) (record a { detect = b })
  acknowledges e count at may all b change sound parent seen =
      let knows = knows_still a.chips a.fired a.halt a.outs a.ins b a.pending a.unput a.refused refl refl
      (ap edges_of change.outs) change.ins.edges in
      let kept = kept_still (Ack e) seen at may in
      let books : KeepsBooks g (does g (saw (Ack e) seen) s) a.vertex b = record {
        sound = sound;
        parent = (let was = stands.books.parent in
            let owes = Rattle.chip_actor.proofs.StandingLemmas.owed_is g s a stands e at in cc);
        got = λ i mine. rw (change.ins.messages i) (stands.books.got i mine);
        acked = λ i mine. (let more = change.ins.answered i in let was = stands.books.acked i mine in cc);
        sent = λ i mine. rw change.outs (stands.books.sent i mine);
        settled = λ i mine. rw change.outs (stands.books.settled i mine);
      } in search (rules, arith, nat_tests)

  -- ---- a halt

  pub halts : (v seen : ℕ) → v ≡ a.vertex → unmet_rule g (Halt v) s ≡ None → (halt : Option Cause) → halt ≡ cause g v s
      → StandsFor g (does g (saw (Halt v) seen) s) (record a { halt = halt })
  halts v seen at may halt is =
      let knows = knows_still a.chips a.fired halt a.outs a.ins a.detect a.pending a.unput a.refused refl refl refl refl in
      let kept = kept_still (Halt v) seen at may in
      let books = books_still (does g (saw (Halt v) seen) s) refl (λ e. refl) (λ e mine. refl) (λ e. refl) in
      search (rules, arith, nat_tests)

  -- ---- a read of a cell, a claim, a put

  -- a vertex reads a cell only with a place left
  pub may_look : (e : ℕ) → tail_of g e ≡ a.vertex → unmet_rule g (Clear e) s ≡ None
      → may_clear (tail_state e g.ring (s.out e).link) ≡ true
  may_look e at may =
      let met = vertex_clear g e s (Rattle.chip_actor.proofs.StandingLemmas.out_inside g s a stands e at) may in
      let out = stands.kept.outs e at in
      let hand = out.free_hand met.0 met.3 in
      let fewer = out.fewer_yet met.0 met.3 in
      let fired = Rattle.chip_actor.proofs.StandingLemmas.few_fired g s a stands in
      grind (arith, nat_tests)

  -- one edge out of the vertex is changed, and the others are unchanged
  module _ (x : Event) (e seen : ℕ) (at : tail_of g e ≡ a.vertex) (mine : part_of g x ≡ a.vertex)
      (may : unmet_rule g x s ≡ None)
      (rest : (i : ℕ) → e ≢ i → (does g (saw x seen) s).out i ≡ s.out i)
      (alike : does g (saw x seen) s ≡ record s { out = (does g (saw x seen) s).out }) where
    abbrev t : Part
    t = does g (saw x seen) s

    abbrev o : Out
    o = t.out e

    -- a sum over the edges out of the vertex changes by the edge's own term
    moved : (f : Out → ℕ) (was now : ℕ) → was ≡ over_outs g a.vertex (λ i. f (s.out i))
        → now + f (s.out e) ≡ was + f o → now ≡ over_outs g a.vertex (λ i. f (t.out i))
    moved f was now sum_is here =
        let inside = Rattle.chip_actor.proofs.StandingLemmas.out_inside g s a stands e at in
        let move = tested_move (all_edges g) (λ i. eqb (tail_of g i) a.vertex) (λ i. f (t.out i)) (λ i. f (s.out i)) e
        (omega arith) (eq-eqb _ _ at) (λ i l ne on. rw (rest i (λ z. ne (sym z))) refl) in
        omega arith

    out_stands : (f : OutEnd → OutEnd) (os : OutEnds) → ChangesOut a.outs os e f
        → f (out_end g e (s.out e)) ≡ out_end g e o → (b : Books) → edges_of b.outs ≡ edges_of a.detect.outs
        → edges_of b.ins ≡ edges_of a.detect.ins → KeepsBooks g t a.vertex b → (p u r : ℕ) → p ≤ a.pending
        → p + (s.out e).pending ≡ a.pending + o.pending → u + held_count (s.out e) ≡ a.unput + held_count o
        → r + refused_count (s.out e) ≡ a.refused + refused_count o
        → StandsFor g t (record a { outs = os; detect = b; pending = p; unput = u; refused = r })
    out_stands f os change here b books_outs books_ins books p u r few pending unput refused = record {
      knows = knows_still a.chips a.fired a.halt os a.ins b p u r change.edges refl books_outs books_ins;
      kept = kept_still x seen mine may;
      few_chips = (let most = stands.few_chips in grind arith);
      few_pending = (let most = stands.few_pending in omega arith);
      chips = cc;
      fired = cc;
      halt = cc;
      outs = λ i i-at. (let c = change.each i in let was = stands.outs i i-at in let other = rest i in
          grind (arith, nat_tests));
      ins = λ i i-at. stands.ins i i-at ∙ ap (λ (k : Part). head_state i g.ring (k.into i).got) (sym alike);
      books = books;
      pending = moved (λ n. n.pending) a.pending p stands.pending pending;
      unput = moved held_count a.unput u stands.unput unput;
      refused = moved refused_count a.refused r stands.refused refused;
    }

    books_kept : claims_of (s.out e).link ≡ claims_of o.link → (s.out e).settled ≡ o.settled
        → KeepsBooks g t a.vertex a.detect
    books_kept sent settled = books_still t (ap (λ (k : Part). k.parent) (sym alike))
        (λ i. ap (λ (k : Part). k.into i) (sym alike))
        (λ i i-mine. one_edge (λ n. claims_of n.link) sent i) (one_edge (λ n. n.settled) settled)
      where
        one_edge : (f : Out → ℕ) → f (s.out e) ≡ f o → (i : ℕ) → f (s.out i) ≡ f (t.out i)
        one_edge f same i = dite (ℕ_discrete e i) (λ y. rw (← y) same) (λ n. rw (rest i n) refl)

  pub clears : (e seen : ℕ) → tail_of g e ≡ a.vertex → unmet_rule g (Clear e) s ≡ None → (os : OutEnds)
      → ChangesOut a.outs os e (out_after_clear seen)
      → StandsFor g (does g (saw (Clear e) seen) s) (record a { outs = os })
  clears e seen at may os change =
      let rest : (i : ℕ) → e ≢ i → (does g (saw (Clear e) seen) s).out i ≡ s.out i = λ i n. rw (ne_eqb e i n) refl in
      let looks = tail_clears e g.ring (s.out e).link seen (may_look e at may) in
      out_stands (Clear e) e seen at at may rest refl (out_after_clear seen) os change (grind (arith, nat_tests))
      a.detect refl refl (books_kept (Clear e) e seen at at may rest refl (grind (arith, nat_tests)) refl) a.pending
      a.unput a.refused (omega arith) refl (grind (arith, nat_tests)) (grind (arith, nat_tests))

  -- ---- a claim

  module _ (e seen : ℕ) (at : tail_of g e ≡ a.vertex) (may : unmet_rule g (Claim e) s ≡ None) (os : OutEnds)
      (change : ChangesOut a.outs os e (out_after_claim seen)) where
    abbrev here : Out
    here = s.out e

    abbrev later : Part
    later = does g (saw (Claim e) seen) s

    claim_rest : (i : ℕ) → e ≢ i → later.out i ≡ s.out i
    claim_rest i n = rw (ne_eqb e i n) refl

    empty_hand : here.link.held ≡ None
    empty_hand =
        let met = rules_met g (Claim e) s may in
        let out = stands.kept.outs e at in
        out.free_hand met.0 (out.clear_pends met.0 met.2)

    -- what it leaves, by whether it was taken
    claim_end : out_after_claim seen (out_end g e here) ≡ out_end g e (later.out e)
    claim_end = let after = tail_claims e g.ring here.link here.pending seen empty_hand in grind (arith, nat_tests)

    -- a claim that is taken
    pub claims : seen ≡ claims_of here.link → (b : Books) → Sends a.detect b e → IsSound b
        → StandsFor g later
        (record a { outs = os; detect = b; pending = a.pending - here.pending; unput = a.unput + 1 })
    claims hit b sends sound =
        let hand = empty_hand in
        let link : (later.out e).link ≡ record here.link { held = Some here.pending; clear = false } =
        grind (arith, nat_tests) in
        let none : (later.out e).pending ≡ 0 = grind (arith, nat_tests) in
        let free : held_count here ≡ 0 = rw hand refl in let one : held_count (later.out e) ≡ 1 = rw link refl in
        let inside = Rattle.chip_actor.proofs.StandingLemmas.out_inside g s a stands e at in
        let term = tested_term (all_edges g) (λ i. eqb (tail_of g i) a.vertex) (λ i. (s.out i).pending) e (omega arith)
        (eq-eqb _ _ at) in
        let all = stands.pending in
        out_stands (Claim e) e seen at at may claim_rest refl (out_after_claim seen) os change claim_end b
        sends.outs.edges (ap edges_of sends.ins) record {
          sound = sound;
          parent = rw sends.parent stands.books.parent;
          got = λ i mine. rw sends.ins (stands.books.got i mine);
          acked = λ i mine. rw sends.ins (stands.books.acked i mine);
          sent = λ i mine. (let more = sends.outs.messages i in let was = stands.books.sent i mine in
              grind (arith, nat_tests));
          settled = λ i mine. rw (sends.outs.answered i) (stands.books.settled i mine);
        } (a.pending - here.pending) (a.unput + 1) a.refused (omega arith) (omega arith) (omega arith) (rw link refl)

    -- a claim that a seal refuses
    pub is_refused : seen ≢ claims_of here.link → StandsFor g later (record a { outs = os; refused = a.refused + 1 })
    is_refused miss =
        let met = rules_met g (Claim e) s may in
        let link : (later.out e).link ≡ record here.link { clear = false; refused = true } = grind (arith, nat_tests) in
        let pending : (later.out e).pending ≡ here.pending = grind (arith, nat_tests) in
        let open' : refused_count here ≡ 0 = rw ((stands.kept.outs e at).clear_open met.0 met.2) refl in
        let one : refused_count (later.out e) ≡ 1 = rw link refl in
        out_stands (Claim e) e seen at at may claim_rest refl (out_after_claim seen) os change claim_end a.detect refl refl
        (books_kept (Claim e) e seen at at may claim_rest refl (rw link refl) refl) a.pending a.unput (a.refused + 1)
        (omega arith) (omega arith) (rw link refl) (omega arith)

  -- a put
  pub puts : (e seen : ℕ) → tail_of g e ≡ a.vertex → unmet_rule g (Put e) s ≡ None → (os : OutEnds)
      → ChangesOut a.outs os e out_after_put
      → StandsFor g (does g (saw (Put e) seen) s) (record a { outs = os; unput = a.unput - 1 })
  puts e seen at may os change =
      let met = rules_met g (Put e) s may in
      let o : Out = s.out e in
      let rest : (i : ℕ) → e ≢ i → (does g (saw (Put e) seen) s).out i ≡ s.out i = λ i n. rw (ne_eqb e i n) refl in
      let link : link_after (Put e) seen e o ≡ after_put o.link = rw (eq-eqb e e refl) refl in
      let all = Rattle.std.proofs.Common.length-append o.link.put (option_to_list o.link.held) in
      let old : held_count o ≡ 1 = rw met.1.1 refl in
      let new : length (option_to_list (link_after (Put e) seen e o).held) ≡ 0 = rw link refl in
      let term = tested_term (all_edges g) (λ i. eqb (tail_of g i) a.vertex) (λ i. held_count (s.out i)) e met.0
      (eq-eqb _ _ at) in
      let most = stands.unput in let puts = tail_puts e g.ring o.link in
      out_stands (Put e) e seen at at may rest refl out_after_put os change (rw link (cc)) a.detect refl refl
      (books_kept (Put e) e seen at at may rest refl (rw link (omega arith)) refl) a.pending (a.unput - 1) a.refused
      (omega arith) refl (omega arith) (rw link refl)

  -- ---- a firing

  pub fires : (v k seen : ℕ) → v ≡ a.vertex → unmet_rule g (Fire v k) s ≡ None → (os : OutEnds)
      → ChangesOuts a.outs os (out_after_fire k)
      → StandsFor g (does g (saw (Fire v k) seen) s)
      (record a { chips = a.chips - k * a.degree; fired = a.fired + k; outs = os; pending = k * a.degree })
  fires v k seen at may os change =
      let met = rules_met g (Fire v k) s may in
      let cost : k * a.degree ≡ k * degree g.game.graph v = rw (at, stands.knows.degree) refl in
      record {
        knows = knows_still (a.chips - k * a.degree) (a.fired + k) a.halt os a.ins a.detect
            (k * a.degree) a.unput a.refused change.edges refl refl refl;
        kept = kept_still (Fire v k) seen at may;
        few_chips = (let few = stands.few_chips in omega arith);
        few_pending = (let few = stands.few_chips in let afford = met.7 in omega arith);
        chips = rw (stands.chips, cost) refl;
        fired = rw stands.fired refl;
        halt = stands.halt;
        outs = λ i mine. (let among = Rattle.chip_actor.proofs.StandingLemmas.among_outs g s a stands i mine in
            let each = change.each i among in let was = stands.outs i mine in
            let there : eqb (tail_of g i) v ≡ true = eq-eqb _ _ (mine ∙ sym at) in
            grind (arith, nat_tests));
        ins = stands.ins;
        books = books_still _ refl (λ e. refl) (λ e mine. refl) (λ e. refl);
        pending =
            (let each = tested_ext (all_edges g) (λ i. eqb (tail_of g i) a.vertex)
            (λ i. pending_after g (Fire v k) seen i (s.out i)) (λ i. mult_of g i * k)
            (λ i l on. rw (at, on) (mul_comm k (mult_of g i))) in
            let scale = tested_scale (all_edges g) (λ i. eqb (tail_of g i) a.vertex) k (mult_of g) in
            let whole = over_outs_graph g a.vertex stands.knows.vertex (mult_of g) in
            let d = stands.knows.degree in let c = mul_comm k a.degree in cc);
        unput = stands.unput;
        refused = stands.refused;
      }
