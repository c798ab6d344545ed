-- Serves Core.antt.
-- The parts and the edges in a legal log: their invariants, whatever was done.
use Rattle.chip_core.proofs.Names.{nat_tests, ◌≡◌, ◌≢◌, ◌⊎◌, ℕ, ◌+◌, ◌-◌, ◌<◌, ◌≤◌, Bool, true, false, cond, eqb, List}
use Rattle.chip_core.proofs.Names.{[], ◌∷◌, ◌++◌, length, append_assoc, Option, None, refl, arith}
use Rattle.chip_core.proofs.Names.{inl, inr, ⊎_elim, pos_of_ne-zero, ltb, dite, ℕ_discrete, dec_lt, IsGame, Setting}
use Rattle.chip_core.proofs.Names.{cond_yes, cond_no, Tail, claims_of, after_clear, after_claim, after_put, after_take}
use Rattle.chip_core.proofs.Names.{after_seal, Sound, clear_sound, claim_sound, put_sound, take_sound, seal_sound}
use Rattle.chip_core.proofs.Names.{fresh_sound, first_sound, start_of, first_put, link_after, settled_after, got_after}
use Rattle.chip_core.proofs.Names.{acked_after, stop_after, Met, KeepsOut, KeepsPart, tail_graph, tail_root, head_graph}
use Rattle.chip_core.proofs.Names.{head_root, rules_met, at_edge, opening_keeps, Log, Step, Event, Take, Ack, Clear}
use Rattle.chip_core.proofs.Names.{Claim, Put, Settle, Seal, Feed, End, Part, Out, Into, part_of, does, part_in, out_in}
use Rattle.chip_core.proofs.Names.{into_in, stop_in, sees, IsLegalLog, tail_of, head_of, root, stopper, all_edges}
use Rattle.chip_core.proofs.Names.{graph_edges, at_most_one, eqb-false}
use Rattle.chip_part.proofs.PartLemmas as part_lemmas

pub in_pieces : (front round back xs before : Log) → xs ≡ back ++ (round ++ front)
    → xs ++ before ≡ back ++ (round ++ (front ++ before))
in_pieces front round back xs before is =
    let a = append_assoc back (round ++ front) before in let b = append_assoc round front before in cc

module _ (g : Setting) where
  pub legal_before : (xs log : Log) → IsLegalLog g (xs ++ log) → IsLegalLog g log
  legal_before [] log legal = legal
  legal_before (x ∷ xs) log legal = legal_before xs log legal.0

  -- ---- the part that acts, and the others

  pub part_here : (x : Step) (log : Log) (p : ℕ) → part_of g x.event ≡ p
      → part_in g (x ∷ log) p ≡ does g x (part_in g log p)
  part_here x log p e = cond_yes (part_of g x.event) p (does g x (part_in g log p)) (part_in g log p) e

  pub part_else : (x : Step) (log : Log) (p : ℕ) → part_of g x.event ≢ p → part_in g (x ∷ log) p ≡ part_in g log p
  part_else x log p ne = cond_no (part_of g x.event) p (does g x (part_in g log p)) (part_in g log p) ne

  pub met_here : (x : Step) (log : Log) → IsLegalLog g (x ∷ log) → Met g x.event (part_in g log (part_of g x.event))
  met_here x log legal = rules_met g x.event (part_in g log (part_of g x.event)) legal.1.0

  -- ---- an edge after one more event, as if its tail, its head and the stopper had made it

  link_idle : (x : Event) (seen e : ℕ) (o : Out) → part_of g x ≢ tail_of g e → link_after x seen e o ≡ o.link
  link_idle (Clear i) seen e o ne = grind (arith, nat_tests)
  link_idle (Claim i) seen e o ne = grind (arith, nat_tests)
  link_idle (Put i) seen e o ne = grind (arith, nat_tests)
  link_idle (Feed i k) seen e o ne = grind (arith, nat_tests)
  link_idle _ seen e o ne = refl

  settled_idle : (x : Event) (seen e : ℕ) (o : Out) → part_of g x ≢ tail_of g e
      → settled_after g x seen e o ≡ o.settled
  settled_idle (Settle i) seen e o ne = grind (arith, nat_tests)
  settled_idle End seen e o ne = let at = tail_root g e in grind (arith, nat_tests)
  settled_idle _ seen e o ne = refl

  got_idle : (x : Event) (seen e : ℕ) (i : Into) → part_of g x ≢ head_of g e → got_after x seen e i ≡ i.got
  got_idle (Take j) seen e i ne = grind (arith, nat_tests)
  got_idle _ seen e i ne = refl

  acked_idle : (x : Event) (s : Part) (e : ℕ) (i : Into) → part_of g x ≢ head_of g e → acked_after g x s e i ≡ i.acked
  acked_idle (Ack j) s e i ne = grind (arith, nat_tests)
  acked_idle _ s e i ne = refl

  stop_idle : (x : Event) (seen e : ℕ) (stop : Option ℕ) → part_of g x ≢ stopper g → stop_after x seen e stop ≡ stop
  stop_idle (Seal j) seen e stop ne = absurd (ne refl)
  stop_idle _ seen e stop ne = refl

  -- whichever part made it: the event determines a field of the part p
  field_step : {A : Type 0} (field : Part → A) (after : Part → A) (x : Step) (log : Log) (p : ℕ)
      → ((s : Part) → field (does g x s) ≡ after s)
      → (part_of g x.event ≢ p → after (part_in g log p) ≡ field (part_in g log p))
      → field (part_in g (x ∷ log) p) ≡ after (part_in g log p)
  field_step field after x log p made idle = dite (ℕ_discrete (part_of g x.event) p)
      (λ same. (let a = part_here x log p same in let b = made (part_in g log p) in cc))
      (λ other. (let c = part_else x log p other in let d = idle other in cc))

  pub link_step : (x : Step) (log : Log) (e : ℕ)
      → (out_in g (x ∷ log) e).link ≡ link_after x.event x.seen e (out_in g log e)
  link_step x log e = field_step (λ (s : Part). (s.out e).link)
      (λ (s : Part). link_after x.event x.seen e (s.out e)) x log (tail_of g e)
      (λ s. refl) (link_idle x.event x.seen e (out_in g log e))

  pub settled_step : (x : Step) (log : Log) (e : ℕ)
      → (out_in g (x ∷ log) e).settled ≡ settled_after g x.event x.seen e (out_in g log e)
  settled_step x log e = field_step (λ (s : Part). (s.out e).settled)
      (λ (s : Part). settled_after g x.event x.seen e (s.out e)) x log (tail_of g e)
      (λ s. refl) (settled_idle x.event x.seen e (out_in g log e))

  pub got_step : (x : Step) (log : Log) (e : ℕ)
      → (into_in g (x ∷ log) e).got ≡ got_after x.event x.seen e (into_in g log e)
  got_step x log e = field_step (λ (s : Part). (s.into e).got)
      (λ (s : Part). got_after x.event x.seen e (s.into e)) x log (head_of g e)
      (λ s. refl) (got_idle x.event x.seen e (into_in g log e))

  pub acked_step : (x : Step) (log : Log) (e : ℕ)
      → (into_in g (x ∷ log) e).acked ≡ acked_after g x.event (part_in g log (head_of g e)) e (into_in g log e)
  acked_step x log e = field_step (λ (s : Part). (s.into e).acked)
      (λ (s : Part). acked_after g x.event s e (s.into e)) x log (head_of g e)
      (λ s. refl) (acked_idle x.event (part_in g log (head_of g e)) e (into_in g log e))

  pub stop_step : (x : Step) (log : Log) (e : ℕ) → stop_in g (x ∷ log) e ≡ stop_after x.event x.seen e (stop_in g log e)
  stop_step x log e = field_step (λ (s : Part). s.stop e) (λ (s : Part). stop_after x.event x.seen e (s.stop e)) x log
      (stopper g) (λ s. refl) (stop_idle x.event x.seen e (stop_in g log e))

  -- the end is noted for good
  pub end_stays : (x : Step) (log : Log) → (part_in g log (root g)).ended ≡ true
      → (part_in g (x ∷ log) (root g)).ended ≡ true
  end_stays x log = at_edge (λ p (s : Part). (part_in g log p).ended ≡ true → s.ended ≡ true) (part_of g x.event)
      (λ p. does g x (part_in g log p)) (part_in g log)
      (part_lemmas.stays_ended g x.event (part_in g log (part_of g x.event)).ended) (λ p on. on) (root g)

  -- acknowledgements and settles are never undone
  pub acked_grows : (x : Event) (s : Part) (e : ℕ) (i : Into) → i.acked ≤ acked_after g x s e i
  acked_grows (Ack j) s e i = grind (arith, nat_tests)
  acked_grows _ s e i = omega arith

  pub settled_grows : (x : Event) (seen e : ℕ) (o : Out) → o.settled ≤ settled_after g x seen e o
  settled_grows (Settle j) seen e o = grind (arith, nat_tests)
  settled_grows End seen e o = grind (arith, nat_tests)
  settled_grows _ seen e o = omega arith

  -- ---- the ends of an edge

  module _ (game : IsGame g.game) where
    pub head_inside : (e : ℕ) → e < all_edges g → head_of g e < g.game.graph.vertices
    head_inside e l = dite (dec_lt e (length g.game.graph.edges))
        (λ m. rw (head_graph g e m) (game.graph_fits.edges_fit e m).head_is_vertex)
        (λ n. let at = head_root g e (omega arith) in omega arith)

    pub tail_inside : (e : ℕ) → e < graph_edges g → tail_of g e < g.game.graph.vertices
    tail_inside e l = rw (tail_graph g e l) (game.graph_fits.edges_fit e l).tail_is_vertex

    pub tail_cases : (e : ℕ) → (tail_of g e ≡ root g) ⊎ (tail_of g e < g.game.graph.vertices)
    tail_cases e = dite (dec_lt e (length g.game.graph.edges)) (λ m. inr (tail_inside e m))
        (λ n. inl (tail_root g e (omega arith)))

  module _ (game : IsGame g.game) where
    -- ---- every part

    -- the part that acts keeps its invariants in every legal log
    pub part_kept : (log : Log) → IsLegalLog g log → (p : ℕ) → KeepsPart g p (part_in g log p)
    part_kept [] legal p = opening_keeps g game p
    part_kept (x ∷ log) legal p = at_edge (λ q (s : Part). KeepsPart g q s) (part_of g x.event)
        (λ q. does g x (part_in g log q)) (part_in g log) (part_lemmas.events_keep g x (part_in g log (part_of g x.event))
        legal.1.0 (part_kept log legal.0 (part_of g x.event))) (part_kept log legal.0) p

    -- an edge out of its tail
    pub out_kept : (log : Log) → IsLegalLog g log → (e : ℕ)
        → KeepsOut g e (out_in g log e).link (out_in g log e).pending (part_in g log (tail_of g e)).fired
    out_kept log legal e = (part_kept log legal (tail_of g e)).outs e refl

    -- ---- every edge

    module _ (some_ring : 0 < g.ring) where
      SoundAt : Log → ℕ → Type 0
      SoundAt log e = Sound g.ring (out_in g log e).link (into_in g log e).got (stop_in g log e)

      -- nothing is claimed on an edge that may be looked at
      pub empty_hand : (log : Log) → IsLegalLog g log → (e : ℕ) → Met g (Clear e) (part_in g log (tail_of g e))
          → (out_in g log e).link.held ≡ None
      empty_hand log legal e may = ⊎_elim (λ v. (out_kept log legal e).free_hand v.0 v.3) (λ r. r.3) may

      -- one tail is changed
      on_tail : (log : Log) (e : ℕ) (new : ℕ → Tail) → Sound g.ring (new e) (into_in g log e).got (stop_in g log e)
          → ((i : ℕ) → SoundAt log i) → (i : ℕ)
          → Sound g.ring (cond (eqb e i) (new i) (out_in g log i).link) (into_in g log i).got (stop_in g log i)
      unfolding SoundAt
      on_tail log e new here ok = at_edge (λ i (t : Tail). Sound g.ring t (into_in g log i).got (stop_in g log i)) e new
          (λ i. (out_in g log i).link) here ok

      edge_step : (log : Log) (x : Event) (seen : ℕ) → IsLegalLog g log → Met g x (part_in g log (part_of g x))
          → seen ≡ sees g log x → ((e : ℕ) → SoundAt log e)
          → (e : ℕ) → Sound g.ring (link_after x seen e (out_in g log e)) (got_after x seen e (into_in g log e))
          (stop_after x seen e (stop_in g log e))
      unfolding SoundAt
      edge_step log (Clear e) seen legal may is ok = on_tail log e (λ i. after_clear seen (out_in g log i).link)
          (clear_sound g.ring some_ring _ _ _ (ok e) seen (empty_hand log legal e may) is) ok
      edge_step log (Claim e) seen legal may is ok = on_tail log e (λ i. after_claim (out_in g log i).pending seen (out_in g log i).link)
          (claim_sound g.ring some_ring _ _ _ (ok e) (out_in g log e).pending seen
          ((out_kept log legal e).clear_pends may.0 may.2) may.2 is) ok
      edge_step log (Put e) seen legal may is ok = on_tail log e (λ i. after_put (out_in g log i).link)
          (put_sound g.ring some_ring _ _ _ (ok e) may.1.0 may.1.1) ok
      edge_step log (Take e) seen legal may is ok = at_edge
          (λ i (l : List ℕ). Sound g.ring (out_in g log i).link l (stop_in g log i)) e
          (λ i. after_take seen (into_in g log i).got) (λ i. (into_in g log i).got)
          (take_sound g.ring some_ring _ _ _ (ok e) seen is) ok
      edge_step log (Seal e) seen legal may is ok = at_edge
          (λ i (stop : Option ℕ). Sound g.ring (out_in g log i).link (into_in g log i).got stop) e
          (λ i. after_seal seen (stop_in g log i)) (λ i. stop_in g log i)
          (seal_sound g.ring _ _ _ seen is (ok e)) ok
      edge_step log (Feed e k) seen legal may is ok = on_tail log e (λ i. after_claim k seen (out_in g log i).link)
          (claim_sound g.ring some_ring _ _ _ (ok e) k seen may.3 may.5 is) ok
      edge_step log _ seen legal may is ok = ok

      -- an edge with nothing on it, and a root edge with one message
      first_sound_at : (e : ℕ) → Sound g.ring
          (record { put = first_put g e; held = None; clear = false; refused = false }) [] None
      first_sound_at e = either (ltb e (length g.game.graph.edges)) (eqb s 0) (λ off. pos_of_ne-zero (eqb-false s 0 off))
        where
          s : ℕ
          s = start_of g (e - length g.game.graph.edges)

          either : (b c : Bool) → (c ≡ false → 0 < s) → Sound g.ring
              (record { put = cond b [] (cond c [] (s ∷ [])); held = None; clear = false; refused = false }) [] None
          either true c some = fresh_sound g.ring some_ring
          either false true some = fresh_sound g.ring some_ring
          either false false some = first_sound g.ring s some_ring (some refl)

      pub edge_sound : (log : Log) → IsLegalLog g log → (e : ℕ)
          → Sound g.ring (out_in g log e).link (into_in g log e).got (stop_in g log e)
      unfolding SoundAt
      edge_sound [] legal e = first_sound_at e
      edge_sound (x ∷ log) legal e = rw (link_step x log e, got_step x log e, stop_step x log e)
          (edge_step log x.event x.seen legal.0 (met_here x log legal)
          legal.1.1 (edge_sound log legal.0) e)

    -- ---- the counts of an edge

    settle_step : (log : Log) (x : Event) (seen : ℕ) → seen ≡ sees g log x
        → ((e : ℕ) → (out_in g log e).settled ≤ (into_in g log e).acked)
        → (e : ℕ) → settled_after g x seen e (out_in g log e)
        ≤ acked_after g x (part_in g log (head_of g e)) e (into_in g log e)
    settle_step log (Settle i) seen is ok e = let a = ok e in grind (arith, nat_tests)
    settle_step log (Ack i) seen is ok e = let a = ok e in grind (arith, nat_tests)
    settle_step log End seen is ok e = let a = ok e in grind (arith, nat_tests)
    settle_step log _ seen is ok e = ok e

    -- what the tail settled, the head acknowledged
    pub settled_behind : (log : Log) → IsLegalLog g log → (e : ℕ) → (out_in g log e).settled ≤ (into_in g log e).acked
    settled_behind [] legal e = omega arith
    settled_behind (x ∷ log) legal e =
        let a = settled_step x log e in let b = acked_step x log e in
        let c = settle_step log x.event x.seen legal.1.1 (settled_behind log legal.0) e in omega arith

    -- settled, acknowledged, delivered, put and claimed: each number is at most the next
    pub edge_counts : 0 < g.ring → (log : Log) → IsLegalLog g log → (e : ℕ)
        → ((out_in g log e).settled ≤ (into_in g log e).acked)
        × ((into_in g log e).acked ≤ length (into_in g log e).got)
        × (length (into_in g log e).got ≤ length (out_in g log e).link.put)
        × (length (out_in g log e).link.put ≤ claims_of (out_in g log e).link)
        × (claims_of (out_in g log e).link ≤ length (out_in g log e).link.put + 1)
    edge_counts some_ring log legal e =
        let s = edge_sound some_ring log legal e in
        let one = at_most_one (out_in g log e).link.held in
        (settled_behind log legal e, (part_kept log legal (head_of g e)).acks e, s.behind, omega arith, omega arith)
