-- Serves Core.antt. Once the root is closed nothing changes, everything is delivered, and chips and counts are those of
-- every end.
use Rattle.chip_core.proofs.Names.{nat_tests, pending_of, is_passive, is_legal, ◌≡◌, ℕ, ◌<◌, true}
use Rattle.chip_core.proofs.Names.{eqb, ◌∷◌, length, get_or, Option, None, refl, sym, ap, ◌∙◌, arith}
use Rattle.chip_core.proofs.Names.{⊎_elim, ◌≢◌, ◌+◌, ◌-◌, Bool, cond, List, [], sum, Some, get_or_past}
use Rattle.chip_core.proofs.Names.{drop_all, dite, dec_lt, IsGame, tested_none, sent_counts, Setting}
use Rattle.chip_core.proofs.Names.{IsNeutral, saw, tail_root, at_edge, idle_take}
use Rattle.chip_core.proofs.Names.{passive_parts, out_zero, none_halt, rules_met, Log, Step, Event, Part, Take, Ack}
use Rattle.chip_core.proofs.Names.{Put, Settle, Seal, Read, End, part_of, does, part_in}
use Rattle.chip_core.proofs.Names.{out_in, into_in, IsLegalLog, tail_of, head_of, root, all_edges}
use Rattle.chip_core.proofs.Names.{graph_edges, Rule, unmet_rule, sees, is_by_limit, answer, step, log_after, IsClosed}
use Rattle.chip_core.proofs.Names.{stopper, root_edge, filter_below, length-sent_counts, IsLegal, legal_vertices}
use Rattle.chip_core.proofs.Names.{position_after, IsFiringSequence, HasEnded, HasEndedWithin, IsWholePlay, one_end}
use Rattle.chip_core.proofs.Names.{same_ends, SealedEdge, FiringLimit, over_ins, counts_in_flight, messages_from}
use Rattle.chip_core.proofs.Names.{in_flight, chips_given, held, chips_at, firings, AgreesWith, NoneHalted}
use Rattle.chip_core.proofs.Names.{NoneHaltedBySeal, picked_ext}
use Rattle.chip_core.proofs.LogLemmas.{part_kept, tail_inside, tail_cases}
use Rattle.chip_core.proofs.OrderLemmas.{all_neutral, all_counts}
use Rattle.chip_core.specs.Instance.{passive_of}
use Rattle.chip_core.proofs.InstanceLemmas.{IsIdle, idle, at_root}
use Rattle.chip_core.proofs.PositionLemmas.{counts_are, leads_to, is_sequence, is_within}
use Rattle.chip_core.proofs.ReachingLemmas.{step_legal}

-- the events enabled once the root is closed; a take then leaves the part unchanged
abbrev pub Rests : Setting → Event → ℕ → Part → Type 0
Rests g (Take e) seen s = does g (saw (Take e) seen) s ≡ s
Rests g (Put e) seen s = ⊥
Rests g ev seen s = IsIdle ev

module _ (g : Setting) (game : IsGame g.game) (some_ring : 0 < g.ring) where
  module _ (log : Log) (legal : IsLegalLog g log) (closed : IsClosed g log) where
    resting : (v : ℕ) → v < g.game.graph.vertices → IsNeutral g v (part_in g log v)
    resting = all_neutral g game some_ring log legal closed

    -- ---- no later event changes a part but the stopper's

    all_passive : (p : ℕ) → passive_of g p (part_in g log p) ≡ true
    all_passive p =
        let vertex : p < g.game.graph.vertices → is_passive g p (part_in g log p) ≡ true = (λ l. (resting p l).passive) in
        let rooted = at_root g p (part_in g log p) in let end = closed.0 in grind (arith, nat_tests)

    pub rested : (ev : Event) (seen : ℕ) → IsLegalLog g (saw ev seen ∷ log)
        → Rests g ev seen (part_in g log (part_of g ev))
    rested (Take e) seen next =
        let may = rules_met g (Take e) (part_in g log (head_of g e)) next.1.0 in
        let c = (all_counts g game some_ring log legal closed e may).2 in
        let is : seen ≡ get_or (out_in g log e).link.put (length (into_in g log e).got) 0 = next.1.1 in
        idle_take g e seen (part_in g log (head_of g e)) (is
        ∙ get_or_past (out_in g log e).link.put (length (into_in g log e).got) 0 (omega arith))
    rested (Put e) seen next =
        let may = rules_met g (Put e) (part_in g log (tail_of g e)) next.1.0 in
        let c = (all_counts g game some_ring log legal closed e may.0).3 in
        let some = may.1.1 in absurd (grind (arith, nat_tests))
    rested ev seen next = idle g game some_ring log ev seen next (all_passive (part_of g ev))

    -- a settle of nothing new leaves the part
    settled_still : (s : Part) (e seen : ℕ) → (s.out e).settled + (seen - (s.out e).settled) ≡ (s.out e).settled
        → (ended : Bool) → ended ≡ s.ended
        → (let t : Part = record s {
          out = λ i. record (s.out i) {
            settled = cond (eqb e i) ((s.out i).settled + (seen - (s.out i).settled)) (s.out i).settled;
          };
          ended = ended;
        } in t) ≡ s
    settled_still s e seen none ended on =
        let same : (i : ℕ) → cond (eqb e i) ((s.out i).settled + (seen - (s.out i).settled)) (s.out i).settled
        ≡ (s.out i).settled = at_edge (λ i (n : ℕ). n ≡ (s.out i).settled) e
        (λ i. (s.out i).settled + (seen - (s.out i).settled)) (λ i. (s.out i).settled) none (λ i. refl) in
        λ j. record s { out = λ i. record (s.out i) { settled = same i j }; ended = on j }

    still_step : (ev : Event) (seen : ℕ) → IsLegalLog g (saw ev seen ∷ log)
        → part_of g ev ≢ stopper g → does g (saw ev seen) (part_in g log (part_of g ev))
        ≡ part_in g log (part_of g ev)
    still_step (Take e) seen next ne = rested (Take e) seen next
    still_step (Ack e) seen next ne =
        let may = rules_met g (Ack e) (part_in g log (head_of g e)) next.1.0 in
        let c = all_counts g game some_ring log legal closed e may.0 in
        let c1 = c.1 in let some = may.1 in absurd (omega arith)
    still_step (Settle e) seen next ne =
        let s : Part = part_in g log (tail_of g e) in
        let l = rules_met g (Settle e) s next.1.0 in
        let c = all_counts g game some_ring log legal closed e l in
        let c0 = c.0 in
        let is : seen ≡ (into_in g log e).acked = next.1.1 in
        settled_still s e seen (omega arith) s.ended refl
    still_step End seen next ne =
        let s : Part = part_in g log (root g) in
        let e : ℕ = root_edge g 0 in
        let some = game.graph_fits.some_vertex in
        let c = all_counts g game some_ring log legal closed e (omega arith) in
        let c0 = c.0 in
        let at : tail_of g e ≡ root g = tail_root g e (omega arith) in
        let mine : (out_in g log e).settled ≡ (s.out e).settled =
        cc in
        let is : seen ≡ (into_in g log e).acked = next.1.1 in
        settled_still s e seen (omega arith) true (sym closed.0)
    still_step (Seal e) seen next ne = absurd (ne refl)
    still_step (Read v) seen next ne = refl
    still_step ev seen next ne = absurd (rested ev seen next)

    pub still : (x : Step) → IsLegalLog g (x ∷ log) → (p : ℕ) → p ≢ stopper g → part_in g (x ∷ log) p ≡ part_in g log p
    still x next = at_edge (λ p (s : Part). p ≢ stopper g → s ≡ part_in g log p) (part_of g x.event)
        (λ p. does g x (part_in g log p)) (part_in g log) (still_step x.event x.seen next) (λ p other. refl)

    pub still_closed : (x : Step) → IsLegalLog g (x ∷ log) → IsClosed g (x ∷ log)
    still_closed x next = (
      let b = still x next (root g) (λ z. (let a : root g ≡ stopper g = z in absurd (omega arith))) in cc,
      λ e l at.
          let same = still x next (tail_of g e) (λ z. (let a : root g ≡ stopper g = cc in absurd (omega arith)))
          in
          let c = closed.1 e l at in grind (arith, nat_tests),
    )

    -- ---- everything is delivered

    none_in_flight : (e : ℕ) → e < all_edges g → counts_in_flight g log e ≡ []
    none_in_flight e l =
        let c = all_counts g game some_ring log legal closed e l in
        let c2 = c.2 in let c3 = c.3 in
        let long = length-sent_counts (out_in g log e).link in
        drop_all (length (into_in g log e).got) (sent_counts (out_in g log e).link) (omega arith)

    pub nothing_in_flight : (e : ℕ) → e < all_edges g → in_flight g log e ≡ []
    nothing_in_flight e l = ap (messages_from e (length (into_in g log e).got)) (none_in_flight e l)

    -- ---- if no vertex halted by a seal

    module _ (no_seal : NoneHaltedBySeal g log) where
      nothing_held : (e : ℕ) → e < all_edges g → held g log e ≡ 0
      nothing_held e l =
          let ok = part_kept g game log legal (tail_of g e) in
          let v : ℕ = tail_of g e in
          ⊎_elim
          (λ at. dite (dec_lt e (graph_edges g)) (λ m. absurd (let a = tail_inside g game e m in omega arith))
          (λ n. (ok.outs e refl).root_idle (omega arith)))
          (λ t.
          let runs = passive_parts g v (part_in g log v) (resting v t).passive in
          let limit = ok.at_limit in let seal = no_seal v t in
          let none : pending_of g v (part_in g log v) ≡ 0 = grind (arith, nat_tests) in
          out_zero g v (λ i. ((part_in g log v).out i).pending) none e l refl)
          (tail_cases g game e)

      pub chips_are : (v : ℕ) → v < g.game.graph.vertices
          → chips_at g log v ≡ position_after g.game.graph (chips_given g log) (firings log) v
      chips_are v l =
          let a = (leads_to g game some_ring log legal).position v l in
          let b : over_ins g v (λ e. sum (counts_in_flight g log e)) ≡ 0 = tested_none (all_edges g)
          (λ e. eqb (head_of g e) v) (λ e. sum (counts_in_flight g log e)) (λ e m on. ap sum (none_in_flight e m)) in
          let c : over_ins g v (held g log) ≡ 0 = tested_none (all_edges g) (λ e. eqb (head_of g e) v) (held g log)
          (λ e m on. nothing_held e m) in
          omega arith

      -- a vertex that may still fire was halted by the limit
      legal_halted : (v : ℕ) → IsLegal g.game.graph (position_after g.game.graph (chips_given g log) (firings log)) v
          → (part_in g log v).halt ≡ Some FiringLimit
      legal_halted v can =
          let same = chips_are v can.is_vertex in
          let chips = can.enough_chips in let other = can.not_sink in
          let runs = passive_parts g v (part_in g log v) (resting v can.is_vertex).passive in
          let seal = no_seal v can.is_vertex in grind (arith, nat_tests)

      has_ended : HasEndedWithin g.game.graph (chips_given g log) g.game.limit (firings log)
      has_ended v can = counts_are g log v ∙ ((part_kept g game log legal v).at_limit (legal_halted v can)).0

      -- the firings made are a whole play
      pub played : IsWholePlay g.game.graph (chips_given g log) g.game.limit (firings log)
      played = record {
        sequence = is_sequence g game some_ring log legal;
        within = is_within g game some_ring log legal;
        ended = has_ended;
      }

      -- the vertices halted by the limit are exactly those that may still fire
      by_limit_is : (v : ℕ) → v < g.game.graph.vertices → is_by_limit (part_in g log v).halt ≡ is_legal g v (part_in g log v)
      by_limit_is v l =
          let runs = passive_parts g v (part_in g log v) (resting v l).passive in
          let full = (part_kept g game log legal v).at_limit in let seal = no_seal v l in grind (arith, nat_tests)

      pub over : filter_below (λ v. is_by_limit (part_in g log v).halt) g.game.graph.vertices
          ≡ legal_vertices g.game.graph (chips_at g log)
      over = picked_ext (λ v. is_by_limit (part_in g log v).halt)
          (λ v. is_legal g v (part_in g log v)) g.game.graph.vertices by_limit_is

      -- counts and chips are those of every whole play
      pub agrees_within : (vs : List ℕ) → IsWholePlay g.game.graph (chips_given g log) g.game.limit vs
          → AgreesWith g log vs
      agrees_within vs whole =
          let one = one_end g.game.graph (chips_given g log) g.game.limit (firings log) vs played whole in
          record {
            counted = λ v. (let a = counts_are g log v in let b = one.0 v in cc);
            chips = λ v l. (let c = chips_are v l in let d = one.1 v in cc);
          }

    -- ---- if no vertex halted

    module _ (no_halts : NoneHalted g log) where
      no_seals : NoneHaltedBySeal g log
      no_seals v l h = none_halt g (part_in g log v).halt SealedEdge (no_halts v l) h

      pub all_ended : HasEnded g.game.graph (chips_given g log) (firings log)
      all_ended v can = none_halt g (part_in g log v).halt FiringLimit (no_halts v can.is_vertex)
          (legal_halted no_seals v can)

      -- counts and chips are those of every sequence that ends with no legal vertex
      pub agrees : (vs : List ℕ) → IsFiringSequence g.game.graph (chips_given g log) vs
          → HasEnded g.game.graph (chips_given g log) vs → AgreesWith g log vs
      agrees vs ok ended =
          let one = same_ends g.game.graph game.graph_fits (chips_given g log) (firings log) vs
          (is_sequence g game some_ring log legal) all_ended ok ended in
          record {
            counted = λ v. (let a = counts_are g log v in let b = one.0 v in cc);
            chips = λ v l. (let c = chips_are no_seals v l in let d = one.1 v in cc);
          }

  -- ---- afterwards

  still_answer : (log : Log) (x : Event) (o : Option Rule) → unmet_rule g x (part_in g log (part_of g x)) ≡ o
      → IsLegalLog g log → IsClosed g log → IsClosed g (answer g log x o).0
      × ((p : ℕ) → p ≢ stopper g → part_in g (answer g log x o).0 p ≡ part_in g log p)
  still_answer log x None met legal closed = let next : IsLegalLog g (saw x (sees g log x) ∷ log) =
      (legal, (met, refl)) in (still_closed log legal closed _ next, still log legal closed _ next)
  still_answer log x (Some r) met legal closed = (closed, λ p ne. refl)

  -- whatever is requested, the root stays closed and no part but the stopper's changes
  pub still_run : (log : Log) → IsLegalLog g log → IsClosed g log → (ys : List Event) → IsClosed g (log_after g log ys)
      × ((p : ℕ) → p ≢ stopper g → part_in g (log_after g log ys) p ≡ part_in g log p)
  still_run log legal closed [] = (closed, λ p ne. refl)
  still_run log legal closed (y ∷ ys) =
      let one = still_answer log y (unmet_rule g y (part_in g log (part_of g y))) refl legal closed in
      let rest = still_run (step g log y).0 (step_legal g log y legal) one.0 ys in
      (rest.0, λ p ne. rest.1 p ne ∙ one.1 p ne)
