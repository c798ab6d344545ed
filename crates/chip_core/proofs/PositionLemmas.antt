-- Serves Core.antt.
-- The full configuration is the configuration after the firings made.
use Rattle.chip_core.proofs.Names.{nat_tests, ◌≡◌, ℕ, ◌+◌, ◌-◌, ◌*◌, ◌<◌, ◌≤◌, Bool, eqb, [], ◌∷◌, ◌++◌, length, sum}
use Rattle.chip_core.proofs.Names.{take, replicate, option_to_list, refl, sym, ap, ◌∙◌, arith, eqb-true}
use Rattle.chip_core.proofs.Names.{append-nil, ◌≢◌, take-append-le, sum_by-append, sum_by-take-drop, dite, dec_lt}
use Rattle.chip_core.proofs.Names.{degree, edge_at, IsGame, Setting, cond_no, tested_ext, tested_add, sent_counts}
use Rattle.chip_core.proofs.Names.{position_after, IsFiringSequence, counts, IsWithin, inflow, position_by_counts}
use Rattle.chip_core.proofs.Names.{IsBelowZero, counts-append, counts-replicate, inflow_ext, position_is}
use Rattle.chip_core.proofs.Names.{sequence-append, batch, position_by_counts_law, more_chips, root_edge, mult_of}
use Rattle.chip_core.proofs.Names.{over_ins, chips_of_firings, over_ins_graph, tail_graph, rules_met, saw, fired_after}
use Rattle.chip_core.proofs.Names.{Log, Event, Fire, part_of, part_in, out_in, into_in, fired_by, IsLegalLog, tail_of}
use Rattle.chip_core.proofs.Names.{head_of, all_edges, graph_edges, counts_in_flight, chips_given, held, full_position}
use Rattle.chip_core.proofs.Names.{firings, firings_of, FiresToEnd, gone_into}
use Rattle.chip_core.proofs.LogLemmas.{part_kept, out_kept, edge_sound}
use Rattle.chip_core.proofs.GivenLemmas.{started_grows}

module _ (g : Setting) where
  -- ---- how often each vertex fired

  fired_more : (x : Event) (n : ℕ) → fired_after x n ≡ n + counts (firings_of x) (part_of g x)
  fired_more (Fire v k) n = let a = counts-replicate k v v in grind (arith, nat_tests)
  fired_more _ n = omega arith

  none_elsewhere : (x : Event) (u : ℕ) → part_of g x ≢ u → counts (firings_of x) u ≡ 0
  none_elsewhere (Fire v k) u other = counts-replicate k v u ∙ cond_no v u k 0 other
  none_elsewhere _ u other = refl

  -- the counts of the firings made
  pub counts_are : (log : Log) (u : ℕ) → counts (firings log) u ≡ fired_by g log u
  counts_are [] u = refl
  counts_are (x ∷ log) u =
      let before = counts_are log u in
      let both = counts-append (firings log) (firings_of x.event) u in
      let here = fired_more x.event (fired_by g log u) in let none = none_elsewhere x.event u in
      grind (arith, nat_tests)

  pub gone_graph : (log : Log) (e : ℕ) → e < graph_edges g
      → gone_into g log e ≡ chips_of_firings g e (fired_by g log (tail_of g e))
  gone_graph log e l = grind (arith, nat_tests)

  pub gone_root : (log : Log) (e : ℕ) → graph_edges g ≤ e → gone_into g log e ≡ chips_given g log (e - graph_edges g)
  gone_root log e l = grind (arith, nat_tests)

  -- what ever entered the edges into v: what it was given, and what its neighbours' firings brought
  pub gone_inflow : (log : Log) (v : ℕ) → v < g.game.graph.vertices
      → over_ins g v (gone_into g log) ≡ chips_given g log v + inflow g.game.graph (fired_by g log) v
  gone_inflow log v inside =
      let f : ℕ → ℕ = fired_by g log in
      let all = over_ins_graph g v inside (gone_into g log) in
      let own = tested_ext (length g.game.graph.edges) (λ e. eqb (edge_at g.game.graph e).head v)
      (gone_into g log) (λ e. (edge_at g.game.graph e).mult * f (edge_at g.game.graph e).tail)
      (λ e l on. (let a = gone_graph log e l in let b = tail_graph g e l in cc)) in
      let at : root_edge g v - graph_edges g ≡ v = omega arith in
      let one : gone_into g log (root_edge g v) ≡ chips_given g log v =
      (let c = gone_root log (root_edge g v) (omega arith) in cc) in
      omega arith

  module _ (game : IsGame g.game) (some_ring : 0 < g.ring) where
    -- what is delivered and what is in flight is what was sent
    pub sent_sum : (log : Log) → IsLegalLog g log → (e : ℕ) → sum (into_in g log e).got + sum (counts_in_flight g log e)
        ≡ sum (sent_counts (out_in g log e).link)
    sent_sum log legal e =
        let s = edge_sound g game some_ring log legal e in
        let t = (out_in g log e).link in
        let got = (into_in g log e).got in
        let a = sum_by-take-drop (λ (x : ℕ). x) (sent_counts t) (length got) in
        let b : sum got ≡ sum (take (length got) (sent_counts t)) =
        ap sum (s.prefix ∙ sym (take-append-le (length got) t.put (option_to_list t.held) s.behind)) in
        omega arith

    -- what is held on an edge of the graph
    pub held_is : (log : Log) → IsLegalLog g log → (e : ℕ) → e < graph_edges g
        → sum (sent_counts (out_in g log e).link) + held g log e ≡ mult_of g e * fired_by g log (tail_of g e)
    held_is log legal e l =
        let t = (out_in g log e).link in
        let a = sum_by-append (λ (x : ℕ). x) t.put (option_to_list t.held) in
        let b = (out_kept g game log legal e).all_made l in
        omega arith

    -- what was sent and what is held is what ever entered an edge
    pub gone_sum : (log : Log) → IsLegalLog g log → (e : ℕ)
        → sum (sent_counts (out_in g log e).link) + held g log e ≡ gone_into g log e
    gone_sum log legal e = dite (dec_lt e (graph_edges g)) (λ l. (let c = held_is log legal e l in
        let d = gone_graph log e l in cc))
        (λ n.
        let past : graph_edges g ≤ e = omega arith in
        let idle = (out_kept g game log legal e).root_idle past in
        let at : root_edge g (e - graph_edges g) ≡ e = omega arith in
        let a = ap (λ (i : ℕ). sum (sent_counts (out_in g log i).link)) at in
        let b = gone_root log e past in
        omega arith)

    -- on each edge: delivered, in flight and held make up what ever entered it
    pub edge_sum : (log : Log) → IsLegalLog g log → (e : ℕ)
        → sum (into_in g log e).got + (sum (counts_in_flight g log e) + held g log e) ≡ gone_into g log e
    edge_sum log legal e = let a = sent_sum log legal e in let b = gone_sum log legal e in omega arith

    full_sum : (log : Log) → IsLegalLog g log → (v : ℕ) → v < g.game.graph.vertices
        → full_position g log v + degree g.game.graph v * fired_by g log v ≡ chips_given g log v
        + inflow g.game.graph (fired_by g log) v
    full_sum log legal v inside =
        let n : ℕ = all_edges g in
        let t : ℕ → Bool = (λ e. eqb (head_of g e) v) in
        let gots : ℕ → ℕ = (λ e. sum (into_in g log e).got) in
        let flies : ℕ → ℕ = (λ e. sum (counts_in_flight g log e)) in
        let holds : ℕ → ℕ = held g log in
        let chips = (part_kept g game log legal v).chips_are in
        let a : over_ins g v (λ e. sum ((part_in g log v).into e).got) ≡ over_ins g v gots = tested_ext n t
        (λ e. sum ((part_in g log v).into e).got) gots
        (λ e l on. (let a = eqb-true (head_of g e) v on in cc)) in
        let b : over_ins g v (λ e. flies e + holds e) ≡ over_ins g v flies + over_ins g v holds =
        tested_add n t flies holds in
        let c : over_ins g v (λ e. gots e + (flies e + holds e)) ≡ over_ins g v gots + over_ins g v
        (λ e. flies e + holds e) = tested_add n t gots (λ e. flies e + holds e) in
        let d : over_ins g v (λ e. gots e + (flies e + holds e))
        ≡ over_ins g v (gone_into g log) = tested_ext n t (λ e. gots e + (flies e + holds e)) (gone_into g log)
        (λ e l on. edge_sum log legal e) in
        let f = gone_inflow log v inside in
        omega arith

    position_from : (log : Log) → IsLegalLog g log → IsFiringSequence g.game.graph (chips_given g log) (firings log)
        → (v : ℕ) → v < g.game.graph.vertices → position_after g.game.graph (chips_given g log) (firings log) v
        ≡ full_position g log v
    position_from log legal ok v inside =
        let a = full_sum log legal v inside in
        let b = position_is g.game.graph (firings log) (chips_given g log) ok v in
        let c = counts_are log v in
        let d = inflow_ext g.game.graph (counts (firings log)) (fired_by g log) (counts_are log) v in
        grind (arith, nat_tests)

    sequence_step : (ev : Event) (seen : ℕ) (log : Log) → IsLegalLog g (saw ev seen ∷ log)
        → IsFiringSequence g.game.graph (chips_given g log) (firings log)
        → IsFiringSequence g.game.graph (chips_given g log) (firings log ++ firings_of ev)
    sequence_step (Fire v k) seen log legal ok =
        let may = rules_met g (Fire v k) (part_in g log v) legal.1.0 in
        let same = position_from log legal.0 ok v may.0 in
        let chips = may.7 in
        sequence-append g.game.graph (firings log) (replicate k v) (chips_given g log) ok
        (batch g.game.graph v k (position_after g.game.graph (chips_given g log) (firings log)) may.0 may.1
        (omega arith))
    sequence_step _ seen log legal ok = rw (append-nil (firings log)) ok

    pub is_sequence : (log : Log) → IsLegalLog g log → IsFiringSequence g.game.graph (chips_given g log) (firings log)
    is_sequence [] legal = tt
    is_sequence (x ∷ log) legal = more_chips g.game.graph (chips_given g log) (chips_given g (x ∷ log))
        (started_grows g game some_ring x log legal) (firings (x ∷ log))
        (sequence_step x.event x.seen log legal (is_sequence log legal.0))

    pub is_within : (log : Log) → IsLegalLog g log → IsWithin g.game.limit (firings log)
    is_within log legal u = let a = counts_are log u in let b = (part_kept g game log legal u).within in omega arith

    -- the configuration law
    pub leads_to : (log : Log) → IsLegalLog g log → FiresToEnd g log (firings log)
    leads_to log legal = record {
      sequence = is_sequence log legal;
      within = is_within log legal;
      counted = counts_are log;
      position = position_from log legal (is_sequence log legal);
    }

    same_counts : (log : Log) → counts (firings log) ≡ fired_by g log
    same_counts log j u = counts_are log u j

    pub none_below : (log : Log) → IsLegalLog g log → (v : ℕ)
        → IsBelowZero g.game.graph (chips_given g log) (fired_by g log) v → ⊥
    none_below log legal v low =
        (position_by_counts_law g.game.graph (chips_given g log) (firings log) (is_sequence log legal) v).0
        (rw (same_counts log) low)

    pub by_counts : (log : Log) → IsLegalLog g log → (v : ℕ)
        → position_after g.game.graph (chips_given g log) (firings log) v
        ≡ position_by_counts g.game.graph (chips_given g log) (fired_by g log) v
    by_counts log legal v =
        let a = (position_by_counts_law g.game.graph (chips_given g log) (firings log) (is_sequence log legal) v).1 in
        let b = same_counts log in cc
