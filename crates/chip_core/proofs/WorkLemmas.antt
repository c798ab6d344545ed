-- Serves Work.antt.
-- The numbers of steps of a legal log that count as work, and of its refused claims.
use Rattle.chip_core.proofs.Names.{◌≡◌, ℕ, zero, suc, ◌+◌, ◌-◌, ◌*◌, ◌<◌, ◌≤◌, true, cond, eqb, List, [], ◌∷◌, length}
use Rattle.chip_core.proofs.Names.{None, is_some, refl, sym, ap, ◌∙◌, arith, length-append, min, sum, IsGame, sum_below}
use Rattle.chip_core.proofs.Names.{edge_at, IsDistance, fires_at_distance, IsGreatestDistance, least_action}
use Rattle.chip_core.proofs.Names.{continued, fires_at, fires_below, cond_yes, cond_no, sum_below_le, sum_below_ext}
use Rattle.chip_core.proofs.Names.{sum_below_add, sum_below_split, sum_below_scale, sum_below_one, sum_below_none}
use Rattle.chip_core.proofs.Names.{one_at_most, Tail, claims_of, sent_counts, none_held, one_held, length-sent_counts}
use Rattle.chip_core.proofs.Names.{Setting, first_put, start_of, Met, saw, link_after, settled_after, got_after}
use Rattle.chip_core.proofs.Names.{acked_after, fired_after, halt_after, tail_graph, tail_root, Log, Step, Event, Take}
use Rattle.chip_core.proofs.Names.{Ack, Fire, Clear, Claim, Put, Halt, Settle, Feed, End, Part, part_of, part_in}
use Rattle.chip_core.proofs.Names.{out_in, into_in, IsLegalLog, tail_of, head_of, root_edge, all_edges, graph_edges}
use Rattle.chip_core.proofs.Names.{fired_by, chips_given, played_game, firings, fed_of, counts_as_work, is_refusal}
use Rattle.chip_core.proofs.Names.{work_in, refusals_in, starters, steps_at_most, fires_at_most, AreFiringBounds}
use Rattle.chip_core.proofs.Names.{IsFiringSequence, counts, first_is, nat_tests}
use Rattle.chip_core.proofs.PositionLemmas.{counts_are, is_sequence, is_within}
use Rattle.chip_core.proofs.NumberLemmas.{few_root_claims}
use Rattle.chip_core.proofs.LogLemmas.{out_kept, edge_sound, edge_counts, link_step, settled_step, got_step, acked_step}
use Rattle.chip_core.proofs.LogLemmas.{tail_inside, met_here}
use Rattle.chip_core.proofs.GivenLemmas.{recorded, recorded_step, given_sum, played_has_more, fed_to, root_sends}
use Rattle.chip_core.proofs.IdleLemmas.{counts_here}

-- a number that counts at one place
pub one_term : (n e more : ℕ) → e < n → sum_below n (λ i. cond (eqb e i) more 0) ≡ more
one_term n e more l = sum_below_one n (λ i. cond (eqb e i) more 0) e l
    (λ i m other. cond_no e i more 0 (λ z. other (sym z))) ∙ cond_yes e e more 0 refl

-- a refusal that is noted, as a number
abbrev pub refused_on : Tail → ℕ
refused_on t = cond t.refused 1 0

module _ (g : Setting) where
  -- the work on an edge, and by a vertex
  abbrev pub edge_work : Log → ℕ → ℕ
  edge_work log e = (out_in g log e).settled + (into_in g log e).acked + length (into_in g log e).got
      + length (out_in g log e).link.put + claims_of (out_in g log e).link

  abbrev pub vertex_work : Log → ℕ → ℕ
  vertex_work log v = (part_in g log v).fired + cond (is_some (part_in g log v).halt) 1 0

  -- the same of an edge after an event
  abbrev work_after : Log → Event → ℕ → ℕ → ℕ
  work_after log x seen e = settled_after g x seen e (out_in g log e)
      + acked_after g x (part_in g log (head_of g e)) e (into_in g log e)
      + length (got_after x seen e (into_in g log e)) + length (link_after x seen e (out_in g log e)).put
      + claims_of (link_after x seen e (out_in g log e))

  edge_work_step : (x : Step) (log : Log) (e : ℕ) → edge_work (x ∷ log) e ≡ work_after log x.event x.seen e
  edge_work_step x log e =
      let a = settled_step g x log e in let b = acked_step g x log e in let c = ap length (got_step g x log e) in
      let d = link_step g x log e in let f = ap claims_of (link_step g x log e) in
      grind (arith, nat_tests)

  -- a step that counts increases the work on this edge or, as a firing or a halt, of its vertex
  abbrev edge_of : Event → ℕ
  edge_of (Take e) = e
  edge_of (Ack e) = e
  edge_of (Claim e) = e
  edge_of (Put e) = e
  edge_of (Settle e) = e
  edge_of (Feed e k) = e
  edge_of End = root_edge g 0
  edge_of _ = 0

  abbrev by_vertex : Event → ℕ → ℕ
  by_vertex (Fire v k) more = more
  by_vertex (Halt v) more = more
  by_vertex _ more = 0

  abbrev on_edge : Event → ℕ → ℕ
  on_edge (Fire v k) more = 0
  on_edge (Halt v) more = 0
  on_edge _ more = more

  abbrev counted : Log → Event → ℕ → ℕ
  counted log x seen = cond (counts_as_work g (part_in g log (part_of g x)) (saw x seen)) 1 0

  module _ (game : IsGame g.game) (some_ring : 0 < g.ring) where
    -- nothing is claimed and not put if a claim or a feed may be made
    hand : (log : Log) → IsLegalLog g log → (e : ℕ) → (out_in g log e).link.clear ≡ true → (out_in g log e).link.held ≡ None
    hand log legal e clear = (edge_sound g game some_ring log legal e).quiet clear

    -- no event decreases the work, and one that counts increases it
    edge_more : (log : Log) → IsLegalLog g log → (x : Event) (seen : ℕ) → Met g x (part_in g log (part_of g x)) → (e : ℕ)
        → edge_work log e + cond (eqb (edge_of x) e) (on_edge x (counted log x seen)) 0 ≤ work_after log x seen e
    edge_more log legal (Take i) seen may e =
        let a = length-append (into_in g log e).got (seen ∷ []) in grind (arith, nat_tests)
    edge_more log legal (Ack i) seen may e = let some = may.2 in grind (arith, nat_tests)
    edge_more log legal (Settle i) seen may e = grind (arith, nat_tests)
    edge_more log legal End seen may e =
        let mine = tail_root g (root_edge g 0) (omega arith) in
        grind (arith, nat_tests)
    edge_more log legal (Clear i) seen may e = grind (arith, nat_tests)
    edge_more log legal (Claim i) seen may e =
        let none = none_held (out_in g log i).link (hand log legal i may.2) in grind (arith, nat_tests)
    edge_more log legal (Feed i k) seen may e =
        let none = none_held (out_in g log i).link (hand log legal i may.5) in grind (arith, nat_tests)
    edge_more log legal (Put i) seen may e =
        let t = (out_in g log i).link in
        let long = length-sent_counts t in let held = one_held t may.1.0 may.1.1 in grind (arith, nat_tests)
    edge_more log legal x seen may e = grind (arith, nat_tests)

    vertex_after : (log : Log) (x : Event) (seen : ℕ) (s : Part) → Met g x s
        → s.fired + cond (is_some s.halt) 1 0 + by_vertex x (counted log x seen)
        ≤ fired_after x s.fired + cond (is_some (halt_after g x s)) 1 0
    vertex_after log (Halt v) seen s may = let some = may.4.1 in grind (arith, nat_tests)
    vertex_after log (Fire v k) seen s may = let some = may.5 in omega arith
    vertex_after log _ seen s may = omega arith

    vertex_more : (x : Step) (log : Log) → Met g x.event (part_in g log (part_of g x.event)) → (v : ℕ)
        → vertex_work log v + cond (eqb (part_of g x.event) v) (by_vertex x.event (counted log x.event x.seen)) 0
        ≤ vertex_work (x ∷ log) v
    vertex_more x log may v =
        let a = vertex_after log x.event x.seen (part_in g log (part_of g x.event)) may in grind (arith, nat_tests)

    -- ---- all that was done

    abbrev pub all_work : Log → ℕ
    all_work log = sum_below (all_edges g) (edge_work log) + sum_below g.game.graph.vertices (vertex_work log)

    -- the work of a step that counts is part of it
    is_among : (log : Log) (x : Event) (seen : ℕ) → Met g x (part_in g log (part_of g x)) → counted log x seen
        ≤ sum_below (all_edges g) (λ e. cond (eqb (edge_of x) e) (on_edge x (counted log x seen)) 0)
        + sum_below g.game.graph.vertices (λ v. cond (eqb (part_of g x) v) (by_vertex x (counted log x seen)) 0)
    is_among log (Fire v k) seen may = let a = one_term g.game.graph.vertices v 1 may.0 in omega arith
    is_among log (Halt v) seen may = let a = one_term g.game.graph.vertices v 1 may.0 in omega arith
    is_among log (Take e) seen may = let a = one_term (all_edges g) e (counted log (Take e) seen) may in omega arith
    is_among log (Ack e) seen may = let a = one_term (all_edges g) e 1 may.0 in omega arith
    is_among log (Put e) seen may = let a = one_term (all_edges g) e 1 may.0 in omega arith
    is_among log (Settle e) seen may = let a = one_term (all_edges g) e (counted log (Settle e) seen) may in omega arith
    is_among log (Claim e) seen may = let l = may.0 in
        let a = one_term (all_edges g) e (counted log (Claim e) seen) (omega arith) in omega arith
    is_among log (Feed e k) seen may = let a = one_term (all_edges g) e (counted log (Feed e k) seen) may.1 in omega arith
    is_among log End seen may = let some = game.graph_fits.some_vertex in
        let a = one_term (all_edges g) (root_edge g 0) (counted log End seen) (omega arith) in omega arith
    is_among log _ seen may = omega arith

    pub work_step : (x : Step) (log : Log) → IsLegalLog g (x ∷ log)
        → cond (counts_here g log x) 1 0 + all_work log ≤ all_work (x ∷ log)
    work_step x log legal =
        let may = met_here g x log legal in
        let on : ℕ → ℕ = (λ e. cond (eqb (edge_of x.event) e) (on_edge x.event (counted log x.event x.seen)) 0) in
        let by : ℕ → ℕ = (λ v. cond (eqb (part_of g x.event) v) (by_vertex x.event (counted log x.event x.seen)) 0) in
        let a = sum_below_le (all_edges g) (λ e. edge_work log e + on e) (edge_work (x ∷ log)) (λ e l.
        let c = edge_work_step x log e in let d = edge_more log legal.0 x.event x.seen may e in omega arith) in
        let b = sum_below_le g.game.graph.vertices (λ v. vertex_work log v + by v) (vertex_work (x ∷ log))
        (λ v l. vertex_more x log may v) in
        let c = sum_below_add (all_edges g) (edge_work log) on in
        let d = sum_below_add g.game.graph.vertices (vertex_work log) by in
        let all = is_among log x.event x.seen may in
        omega arith

    -- a root edge opens with one message if its vertex starts with chips
    first_length : (v : ℕ) → length (first_put g (root_edge g v)) ≡ cond (eqb (start_of g v) 0) 0 1
    first_length v = let first = first_is g v in grind (arith, nat_tests)

    work_fits : (log : Log) → IsLegalLog g log → work_in g log + 2 * starters g.game ≤ all_work log
    work_fits [] legal =
        let n : ℕ = g.game.graph.vertices in
        let one : ℕ → ℕ = (λ v. cond (eqb (start_of g v) 0) 0 1) in
        let a = sum_below_split (graph_edges g) n (edge_work []) in
        let b = sum_below_ext n (λ v. edge_work [] (graph_edges g + v)) (λ v. one v + one v)
        (λ v l. let c = first_length v in omega arith) in
        let d = sum_below_add n one one in
        omega arith
    work_fits (x ∷ log) legal = let a = work_fits log legal.0 in let b = work_step x log legal in omega arith

    -- ---- the messages of the root

    abbrev root_claims : Log → ℕ → ℕ
    root_claims log v = claims_of (out_in g log (root_edge g v)).link

    feeds_one : (x : Event) (s : Part) → Met g x s → sum_below g.game.graph.vertices (λ v. length (fed_to g x v)) ≡ length (fed_of g x)
    feeds_one (Feed e k) s may =
        let past = may.0 in let inside = may.1 in
        let at : e ≡ root_edge g (e - graph_edges g) = omega arith in
        let a = sum_below_one g.game.graph.vertices (λ v. length (fed_to g (Feed e k) v)) (e - graph_edges g)
        (omega arith) (λ v l ne. ap length (cond_no e (root_edge g v) (k ∷ []) [] (λ z. ne
        (let y : e ≡ root_edge g v = z in omega arith)))) in
        let b = cond_yes e (root_edge g (e - graph_edges g)) (k ∷ []) [] at in cc
    feeds_one _ s may = sum_below_none g.game.graph.vertices (λ v. 0) (λ v l. refl)

    root_claims_are : (log : Log) → IsLegalLog g log
        → sum_below g.game.graph.vertices (root_claims log) ≡ starters g.game + length (recorded g game some_ring log)
    root_claims_are [] legal =
        let a = sum_below_ext g.game.graph.vertices (root_claims []) (λ v. cond (eqb (start_of g v) 0) 0 1)
        (λ v l. let b = first_length v in omega arith) in omega arith
    root_claims_are (x ∷ log) legal =
        let n : ℕ = g.game.graph.vertices in
        let a = sum_below_ext n (root_claims (x ∷ log)) (λ v. root_claims log v + length (fed_to g x.event v)) (λ v l.
        let before = length-sent_counts (out_in g log (root_edge g v)).link in
        let now = length-sent_counts (out_in g (x ∷ log) (root_edge g v)).link in
        let more = ap length (root_sends g game some_ring x log legal v) in
        let both = length-append (sent_counts (out_in g log (root_edge g v)).link) (fed_to g x.event v) in omega arith) in
        let b = sum_below_add n (root_claims log) (λ v. length (fed_to g x.event v)) in
        let one = feeds_one x.event (part_in g log (part_of g x.event))
        (met_here g x log legal) in
        let c = root_claims_are log legal.0 in
        let d = ap length (recorded_step g game some_ring x log legal) in
        let f = length-append (recorded g game some_ring log) (fed_of g x.event) in
        omega arith

    -- each of them has a chip
    pub feeds_fit : (log : Log) → IsLegalLog g log
        → starters g.game + length (recorded g game some_ring log) ≤ sum (played_game g log).start
    feeds_fit log legal =
        let n : ℕ = g.game.graph.vertices in
        let a = root_claims_are log legal in
        let b = sum_below_le n (root_claims log) (chips_given g log) (λ v l.
        let at : root_edge g v - graph_edges g ≡ v = omega arith in
        let c = few_root_claims g game some_ring log legal (root_edge g v) (omega arith) in
        let d = ap (chips_given g log) at in omega arith) in
        let f = given_sum g game some_ring log in
        omega arith

    -- ---- the bound

    ones : (n : ℕ) → sum_below n (λ v. 1) ≡ n
    ones zero = refl
    ones (suc n) = let a = ones n in omega arith

    pub work_bound : (log : Log) → IsLegalLog g log → (fired : ℕ → ℕ)
        → ((v : ℕ) → v < g.game.graph.vertices → fired_by g log v ≤ fired v)
        → work_in g log ≤ steps_at_most g.game (length (recorded g game some_ring log)) fired
    work_bound log legal fired few =
        let n : ℕ = g.game.graph.vertices in
        let m : ℕ = graph_edges g in
        let claims : ℕ → ℕ = (λ e. claims_of (out_in g log e).link) in
        let a = sum_below_le (all_edges g) (edge_work log) (λ e. claims e * 5) (λ e l.
        let c = edge_counts g game some_ring log legal e in
        let c0 = c.0 in let c1 = c.1 in let c2 = c.2 in let c3 = c.3 in omega arith) in
        let b = sum_below_scale (all_edges g) 5 claims in
        let d = sum_below_split m n claims in
        let f = sum_below_le m claims (λ e. fired (edge_at g.game.graph e).tail) (λ e l.
        let one = (out_kept g game log legal e).fewer l in let at = few (tail_of g e) (tail_inside g game e l) in
        let same = ap fired (tail_graph g e l) in omega arith) in
        let h = root_claims_are log legal in
        let i = sum_below_le n (vertex_work log) (λ v. fired v + 1) (λ v l.
        let one = few v l in let halt = one_at_most (is_some (part_in g log v).halt) in omega arith) in
        let j = sum_below_add n fired (λ v. 1) in
        let k = ones n in
        let all = work_fits log legal in
        omega arith

    -- ---- refused claims

    -- a refusal is noted for good
    refused_more : (log : Log) → IsLegalLog g log → (x : Event) (seen : ℕ) → Met g x (part_in g log (part_of g x)) → (e : ℕ)
        → e < graph_edges g → refused_on (out_in g log e).link
        + cond (eqb (edge_of x) e) (cond (is_refusal g (part_in g log (part_of g x)) (saw x seen)) 1 0) 0
        ≤ refused_on (link_after x seen e (out_in g log e))
    refused_more log legal (Claim i) seen may e l =
        let open' = (out_kept g game log legal i).clear_open may.0 may.2 in grind (arith, nat_tests)
    refused_more log legal (Feed i k) seen may e l = let past = may.0 in grind (arith, nat_tests)
    refused_more log legal x seen may e l = grind (arith, nat_tests)

    abbrev pub all_refused : Log → ℕ
    all_refused log = sum_below (graph_edges g) (λ e. refused_on (out_in g log e).link)

    refusal_among : (x : Event) (seen : ℕ) (s : Part) → Met g x s → cond (is_refusal g s (saw x seen)) 1 0
        ≤ sum_below (graph_edges g) (λ e. cond (eqb (edge_of x) e) (cond (is_refusal g s (saw x seen)) 1 0) 0)
    refusal_among (Claim i) seen s may = let a = one_term (graph_edges g) i (cond (is_refusal g s (saw (Claim i) seen)) 1 0) may.0 in
        omega arith
    refusal_among _ seen s may = omega arith

    pub refusal_step : (x : Step) (log : Log) → IsLegalLog g (x ∷ log)
        → cond (is_refusal g (part_in g log (part_of g x.event)) x) 1 0 + all_refused log ≤ all_refused (x ∷ log)
    refusal_step x log legal =
        let may = met_here g x log legal in
        let more : ℕ → ℕ = (λ e. cond (eqb (edge_of x.event) e)
        (cond (is_refusal g (part_in g log (part_of g x.event)) x) 1 0) 0) in
        let a = sum_below_le (graph_edges g) (λ e. refused_on (out_in g log e).link + more e)
        (λ e. refused_on (out_in g (x ∷ log) e).link) (λ e l. let b = refused_more log legal.0 x.event x.seen may e l in
        let c = ap refused_on (link_step g x log e) in omega arith) in
        let d = sum_below_add (graph_edges g) (λ e. refused_on (out_in g log e).link) more in
        let all = refusal_among x.event x.seen (part_in g log (part_of g x.event)) may in
        omega arith

    refusals_noted : (log : Log) → IsLegalLog g log → refusals_in g log ≤ all_refused log
    refusals_noted [] legal = omega arith
    refusals_noted (x ∷ log) legal = let a = refusals_noted log legal.0 in let b = refusal_step x log legal in omega arith

    pub few_refusals : (log : Log) → IsLegalLog g log → refusals_in g log ≤ graph_edges g
    few_refusals log legal =
        let a = refusals_noted log legal in
        let b = sum_below_le (graph_edges g) (λ e. refused_on (out_in g log e).link) (λ e. 1)
        (λ e l. one_at_most (out_in g log e).link.refused) in
        let c = ones (graph_edges g) in
        omega arith

    -- ---- by whole plays, and by distances

    -- what bounds every firing sequence bounds a whole play
    bounds_by : (log : Log) → IsLegalLog g log → (most : ℕ → ℕ)
        → ((vs : List ℕ) → IsFiringSequence g.game.graph (chips_given g log) vs → (v : ℕ) → v < g.game.graph.vertices
        → counts vs v ≤ most v) → AreFiringBounds g log (λ v. min g.game.limit (most v))
    bounds_by log legal most all =
        let play = continued g.game.graph (chips_given g log) g.game.limit [] tt (λ v. omega arith) in
        record {
          firings = play.0;
          whole = play.1;
          enough = λ v l. (let a = all play.0 play.1.sequence v l in let b = play.1.within v in omega arith);
        }

    -- one number for all, if no vertex is further from the sink
    pub distance_bounds : (log : Log) → IsLegalLog g log → (distance : ℕ) → IsGreatestDistance g.game.graph distance
        → AreFiringBounds g log (λ v. min g.game.limit
        (fires_at_distance g.game.graph (sum (played_game g log).start) distance))
    distance_bounds log legal distance is = bounds_by log legal _ (λ vs ok v l.
        let a = fires_below g.game.graph game.graph_fits (chips_given g log) distance is vs ok v l in
        rw (← given_sum g game some_ring log) at a)

    pub few_steps : (log : Log) → IsLegalLog g log → (fired : ℕ → ℕ) → AreFiringBounds g log fired
        → work_in g log ≤ steps_at_most g.game (length (recorded g game some_ring log)) fired
    few_steps log legal fired bounds = work_bound log legal fired (λ v l.
        let a = least_action g.game.graph (chips_given g log) g.game.limit bounds.firings bounds.whole.sequence
        bounds.whole.ended (firings log) (is_sequence g game some_ring log legal) (is_within g game some_ring log legal) v in
        let b = counts_are g log v in let c = bounds.enough v l in omega arith)

    pub distances_bound : (log : Log) → IsLegalLog g log → (distance : ℕ → ℕ)
        → ((v : ℕ) → v < g.game.graph.vertices → IsDistance g.game.graph v (distance v))
        → AreFiringBounds g log (fires_at_most g.game (recorded g game some_ring log) distance)
    distances_bound log legal distance are = bounds_by log legal _ (λ vs ok v l.
        let a = fires_at g.game.graph game.graph_fits (chips_given g log) v (distance v) (are v l) vs ok in
        let h = ap (λ (n : ℕ). fires_at_distance g.game.graph n (distance v))
        (sym (given_sum g game some_ring log) ∙ (played_has_more g game some_ring log legal).total) in
        omega arith)
