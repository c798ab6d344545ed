-- Serves Replaying.antt, Laws.antt.
-- The rows of a legal log, in its order, are an interleaving: what was taken is what the firings sent.
use Rattle.std.proofs.Common.{◌≡◌, ◌≢◌, ℕ, zero, suc, ◌+◌, ◌-◌, ◌*◌, ◌<◌, ◌≤◌, true, cond, eqb, ltb, List, [], ◌∷◌}
use Rattle.std.proofs.Common.{◌++◌, length, map, sum, get_or, option_to_list, Some, slice_index, refl, sym, ap, ◌∙◌}
use Rattle.std.proofs.Common.{subst, arith, append_assoc, append-nil, eq-eqb, ne_eqb, lt-ltb, le-ltb, mul_comm, mul-add}
use Rattle.std.proofs.Common.{add-mul, mul-zero, mul-pos, inr, filter, ⊎_elim, length-append}
use Rattle.std.proofs.lemmas.Bool.Decides.{nat_tests}
use Rattle.std.proofs.lemmas.List.{map-append, length_push, nil_from_length, get_or_past}
use Rattle.std.proofs.lemmas.List.FromFn.{get_or-map-range_with_len, length-map-range_with_len}
use Rattle.std.proofs.lemmas.List.Sums.{sum_by-cons, sum_by-append}
use Rattle.std.proofs.lemmas.Option.{slice_get-get_or}
use mathlib.Core.Logic.{dite}
use native.Mathlib.Decide.{ℕ_discrete, dec_lt}
use Rattle.chip_graph.specs.Multigraph.{edge_at, degree}
use Rattle.chip_graph.specs.ChipGame.{ChipGame, IsGame}
use Rattle.chip_link.specs.declared.trace.TraceRow.{TraceRow}
use Rattle.chip_link.specs.declared.trace.TraceRow.TheVariants as Row
use Rattle.chip_link.specs.Link.{Tail, sent_counts}
use Rattle.chip_link.specs.Laws.{IsPrefix}
use Rattle.chip_link.proofs.SoundsLemmas.{length-sent_counts}
use Rattle.chip_part.specs.Setting.{Setting}
use Rattle.chip_part.specs.Edges.{mult_of, start_of}
use Rattle.chip_part.specs.Part.{first_put}
use Rattle.chip_part.specs.Kept.{Met, KeepsOut}
use Rattle.chip_part.specs.Steps.{fired_after, chips_after, link_after, pending_after, got_after}
use Rattle.chip_part.proofs.EdgeLemmas.{tail_graph}
use Rattle.chip_part.proofs.OpeningLemmas.{first_few, first_is}
use Rattle.chip_part.proofs.PartLemmas.{out_zero}
use Rattle.chip_core.specs.Core.{Log, Step, Event, Take, Fire, Clear, Claim, Put, Feed, Part, Out, Into, part_of}
use Rattle.chip_core.specs.Core.{part_in, out_in, into_in, fired_by, sees, IsLegalLog, tail_of, head_of, root_edge}
use Rattle.chip_core.specs.Core.{all_edges, graph_edges}
use Rattle.chip_core.specs.Histories.{done_by}
use Rattle.chip_core.specs.Positions.{chips_given, played_game, fed_of}
use Rattle.chip_core.proofs.LogLemmas.{met_here, head_inside, part_kept}
use Rattle.chip_core.proofs.GivenLemmas.{given_each, fed_to, root_sends, unfed_played, unfed_records}
use Rattle.chip_core.proofs.GivenLemmas as given
use Rattle.chip_core.proofs.NumberLemmas.{take_finds, few_root_claims}
use Rattle.chip_net.specs.Traces.{row_of}
use Rattle.chip_net.specs.Traces as traces
use Rattle.chip_net.proofs.ActingLemmas.{rows_push}
use Rattle.chip_trace.specs.Interleaving.{fires, chips_taken, takes_of, opening, messages, goes_into, next_message}
use Rattle.chip_trace.specs.Interleaving.{is_row_enabled, Placed, rows_of, AreRowsEnabled, trace_of, IsInterleaving, with_firing}
use Rattle.chip_trace.specs.Interleaving.{row_firings}
use Rattle.chip_trace.proofs.PrefixLemmas.{slice_get_keeps}
use Rattle.chip_trace.proofs.RowLemmas.{fires-append, chips_taken-append, takes_of-append, rows_of-append, AreMet-push}
use Rattle.chip_run.specs.Replaying.{row_at_vertex, rows_in, traces_in, times_of, HasOneEach, AreGivenOnce}
use Rattle.chip_run.specs.Laws.{LogsFit, UnfedLogsFit}
use Rattle.std.specs.List.{enumerate_from, count_by}
use Rattle.chip_graph.specs.More.{brought_to}
use Rattle.chip_run.specs.Feeding.{has_chips, feeds_of}
use Rattle.std.proofs.lemmas.Bool.{cond-true, cond-false}

-- ---- how many feeds are for a vertex

abbrev many_of : ℕ → List (ℕ × ℕ) → ℕ
many_of v feeds = count_by (λ feed. eqb feed.0 v) feeds

-- of vertices from n on, of each at most one, and each brings chips
record AreOnce (v n : ℕ) (feeds : List (ℕ × ℕ)) : Type 0 where
  one : many_of v feeds ≤ 1
  later : v < n → many_of v feeds ≡ 0
  some : many_of v feeds ≤ brought_to feeds v

once : (v n : ℕ) (chips : List ℕ) → AreOnce v n (filter has_chips (enumerate_from n chips))
once v n [] = record { one = omega arith; later = λ l. refl; some = omega arith }
once v n (c ∷ chips) =
    let feeds : List (ℕ × ℕ) = filter has_chips (enumerate_from (n + 1) chips) in
    let all = once v (n + 1) chips in
    let a = sum_by-cons (λ (f : ℕ × ℕ). cond (eqb f.0 v) 1 0) (n, c) feeds in
    let b = sum_by-cons (λ (f : ℕ × ℕ). cond (eqb f.0 v) f.1 0) (n, c) feeds in
    record { one = grind (arith, nat_tests); later = λ l. grind (arith, nat_tests); some = grind (arith, nat_tests) }

-- ---- the messages of a root edge where no vertex is given chips more than once

module _ (g : Setting) (game : IsGame g.game) (some_ring : 0 < g.ring) where
  fed_count : (x : Event) (s : Part) → Met g x s → (v : ℕ) → length (fed_to g x v) ≡ many_of v (fed_of g x)
  fed_count (Feed i k) s may v =
      let past = may.0 in
      let a = sum_by-cons (λ (f : ℕ × ℕ). cond (eqb f.0 v) 1 0) (i - graph_edges g, k) [] in grind (arith, nat_tests)
  fed_count _ s may v = refl

  claims_are : (log : Log) → IsLegalLog g log → (v : ℕ) → length (sent_counts (out_in g log (root_edge g v)).link)
      ≡ length (first_put g (root_edge g v)) + many_of v (given.recorded g game some_ring log)
  claims_are [] legal v = let a = ap length (append-nil (first_put g (root_edge g v))) in omega arith
  claims_are (x ∷ log) legal v =
      let a = ap length (root_sends g game some_ring x log legal v) in
      let b = length-append (sent_counts (out_in g log (root_edge g v)).link) (fed_to g x.event v) in
      let c = fed_count x.event (part_in g log (part_of g x.event)) (met_here g x log legal) v in
      let d = claims_are log legal.0 v in
      let f = ap (many_of v) (given.recorded_step g game some_ring x log legal) in
      let h = sum_by-append (λ (f : ℕ × ℕ). cond (eqb f.0 v) 1 0) (given.recorded g game some_ring log)
      (fed_of g x.event) in
      omega arith

  -- a vertex starts with chips or is fed, once
  pub given_once : (log : Log) → IsLegalLog g log → (chips : List ℕ)
      → given.recorded g game some_ring log ≡ feeds_of chips → AreGivenOnce g.game (feeds_of chips) → HasOneEach g log
  given_once log legal chips is given v l =
      let a = claims_are log legal v in
      let b = length-sent_counts (out_in g log (root_edge g v)).link in
      let c = ap (many_of v) is in
      let first = ap length (first_is g v) in
      let feeds = once v 0 chips in
      ⊎_elim (λ (none : start_of g v ≡ 0). grind (arith, nat_tests))
      (λ (none : brought_to (feeds_of chips) v ≡ 0). grind (arith, nat_tests)) (given v l)

-- ---- rows of one vertex, placed

placed_here : (v : ℕ) (rows : List TraceRow) → rows_of (map (row_at_vertex v) rows) v ≡ rows
placed_here v [] = refl
placed_here v (row ∷ rows) = grind (arith, nat_tests, placed_here v rows)

placed_else : (u v : ℕ) (rows : List TraceRow) → u ≢ v → rows_of (map (row_at_vertex u) rows) v ≡ []
placed_else u v [] ne = refl
placed_else u v (row ∷ rows) ne = grind (arith, nat_tests, placed_else u v rows ne)

-- the firings of v in a list are those of its rows
times_push : (u v : ℕ) (row : TraceRow) (fired : List (ℕ × ℕ)) (rows : List TraceRow)
    → times_of v fired ≡ sum (fires rows)
    → times_of v (with_firing u row fired) ≡ sum (fires (cond (eqb u v) (row ∷ rows) rows))
times_push u v (Row.Take edge count) fired rows is = grind (arith, nat_tests)
times_push u v (Row.Fire k) fired rows is =
    let a = sum_by-cons (λ (f : ℕ × ℕ). cond (eqb f.0 v) f.1 0) (u, k) fired in
    let b = sum_by-cons (λ (n : ℕ). n) k (fires rows) in grind (arith, nat_tests)

times_are : (xs : List Placed) (v : ℕ) → times_of v (row_firings xs) ≡ sum (fires (rows_of xs v))
times_are [] v = refl
times_are (x ∷ xs) v = times_push x.vertex v x.row (row_firings xs) (rows_of xs v) (times_are xs v)

-- ---- what one event adds

fired_more : (x : Event) (seen fired : ℕ) → fired + sum (fires (row_of x seen)) ≡ fired_after x fired
fired_more (Take e) seen fired = grind (arith, nat_tests)
fired_more (Fire v k) seen fired = let a = sum_by-cons (λ (y : ℕ). y) k [] in omega arith
fired_more x seen fired = omega arith

taken_more : (x : Event) (seen e : ℕ) (i : Into)
    → length i.got + takes_of e (row_of x seen) ≡ length (got_after x seen e i)
taken_more (Take j) seen e i = grind (arith, nat_tests, length_push i.got seen)
taken_more x seen e i = omega arith

-- a batch as one message, if there is one
opens : (n : ℕ) → 0 < n → opening n ≡ n ∷ []
opens zero some = absurd (omega arith)
opens (suc n) some = refl

-- what was sent and what is left to send of a batch, as messages
abbrev due : Tail → ℕ → List ℕ
due t pending = sent_counts t ++ opening pending

-- one message has all chips
one_message : (xs : List ℕ) → length xs ≤ 1 → length xs ≤ sum xs → xs ≡ opening (sum xs)
one_message [] few some = refl
one_message (zero ∷ []) few some = grind arith
one_message (suc x ∷ []) few some = grind arith
one_message (x ∷ y ∷ xs) few some = absurd (omega arith)

-- what v recorded says what its part did
record RowsTell (g : Setting) (v : ℕ) (rows : List TraceRow) (s : Part) : Type 0 where
  fired : sum (fires rows) ≡ s.fired
  chips : chips_taken rows ≡ s.chips + degree g.game.graph v * s.fired
  taken : (e : ℕ) → takes_of e rows ≡ length (s.into e).got
  -- what was sent on an edge of the graph, and what is left to send on it, is the result of the firings
  sent : (e : ℕ) → e < graph_edges g → tail_of g e ≡ v
      → map (λ k. k * mult_of g e) (fires rows) ≡ due (s.out e).link (s.out e).pending
  -- only a vertex records anything
  outside : g.game.graph.vertices ≤ v → rows ≡ []

module _ (g : Setting) where
  -- what v recorded in a log
  abbrev recorded : Log → ℕ → List TraceRow
  recorded log v = traces.trace_rows_of (done_by g v log)

  -- the rows of v in a log are those that it recorded
  rows_are : (log : Log) (v : ℕ) → rows_of (rows_in g log) v ≡ recorded log v
  rows_are [] v = refl
  rows_are (x ∷ log) v =
      let p : ℕ = part_of g x.event in
      let more : List TraceRow = row_of x.event x.seen in
      let a = rows_of-append (rows_in g log) (map (row_at_vertex p) more) v in
      let b = rows_are log v in
      let d = rows_push (done_by g v log) x in
      grind (arith, nat_tests, placed_here p more, placed_else p v more, append-nil (rows_of (rows_in g log) v))

  chips_more : (x : Event) (seen : ℕ) (s : Part) → Met g x s → (let d : ℕ = degree g.game.graph (part_of g x) in
      s.chips + d * s.fired + chips_taken (row_of x seen) ≡ chips_after g x seen s.chips + d * fired_after x s.fired)
  chips_more (Take e) seen s may = grind (arith, nat_tests)
  chips_more (Fire v k) seen s may = let d : ℕ = degree g.game.graph v in
      let a = mul-add d s.fired k in let b = mul_comm d k in let paid = may.7 in omega arith
  chips_more x seen s may = omega arith

  module _ (game : IsGame g.game) where
    -- one event of the tail: what it fires is due, and nothing else
    due_more : (x : Event) (seen e : ℕ) (s : Part) → e < graph_edges g → tail_of g e ≡ part_of g x → Met g x s
        → KeepsOut g e (s.out e).link (s.out e).pending s.fired
        → due (s.out e).link (s.out e).pending ++ map (λ k. k * mult_of g e) (fires (row_of x seen))
        ≡ due (link_after x seen e (s.out e)) (pending_after g x seen e (s.out e))
    due_more (Take j) seen e s inside mine may keeps =
        grind (arith, nat_tests, append-nil (due (s.out e).link (s.out e).pending))
    due_more (Fire v k) seen e s inside mine may keeps =
        let none : (s.out e).pending ≡ 0 = out_zero g v (λ i. (s.out i).pending) may.3 e (omega arith) mine in
        let some = mul-pos may.5 (game.graph_fits.edges_fit e inside).some_chips in
        let made = opens (k * mult_of g e) some in
        rw (none, append-nil (sent_counts (s.out e).link), eq-eqb (tail_of g e) v mine, made) refl
    due_more (Clear j) seen e s inside mine may keeps =
        grind (arith, nat_tests, append-nil (due (s.out e).link (s.out e).pending))
    due_more (Put j) seen e s inside mine may keeps = let o : Out = s.out e in
        grind (arith, nat_tests, append-nil (due o.link o.pending), append-nil (sent_counts o.link))
    due_more (Feed j k) seen e s inside mine may keeps = let past = may.0 in
        grind (arith, nat_tests, append-nil (due (s.out e).link (s.out e).pending))
    due_more (Claim j) seen e s inside mine may keeps = let o : Out = s.out e in dite (ℕ_discrete j e)
        (λ same.
        let pends = keeps.clear_pends inside (subst (λ (i : ℕ). (s.out i).link.clear ≡ true) same may.2) in
        let free = keeps.free_hand inside pends in
        grind (
          arith,
          nat_tests,
          append-nil (due o.link o.pending),
          append-nil o.link.put,
          opens o.pending pends,
          append-nil (o.link.put ++ o.pending ∷ []),
        ))
        (λ other. grind (arith, nat_tests, append-nil (due o.link o.pending)))
    due_more x seen e s inside mine may keeps = append-nil (due (s.out e).link (s.out e).pending)

    outside_more : (x : Event) (seen : ℕ) (s : Part) → Met g x s → g.game.graph.vertices ≤ part_of g x
        → row_of x seen ≡ []
    outside_more (Take e) seen s may past = let l = head_inside g game e may in absurd (omega arith)
    outside_more (Fire v k) seen s may past = let l = may.0 in absurd (omega arith)
    outside_more x seen s may past = refl

    tells : (log : Log) → IsLegalLog g log → (v : ℕ) → RowsTell g v (recorded log v) (part_in g log v)
    tells [] legal v = record {
      fired = refl;
      chips = (let a = mul-zero (degree g.game.graph v) in omega arith);
      taken = λ e. refl;
      sent = λ e inside mine. sym (append-nil (first_put g e ++ []) ∙ append-nil (first_put g e)
          ∙ nil_from_length (first_put g e) (first_few g e inside));
      outside = λ past. refl;
    }
    tells (x ∷ log) legal v =
        let p : ℕ = part_of g x.event in
        let s : Part = part_in g log p in
        let rows : List TraceRow = recorded log p in
        let more : List TraceRow = row_of x.event x.seen in
        let may = met_here g x log legal in
        let told = tells log legal.0 p in
        let fires_are = fires-append rows more in dite (ℕ_discrete p v)
        (λ same. subst (λ (u : ℕ). RowsTell g u (recorded (x ∷ log) u) (part_in g (x ∷ log) u)) same
        (rw (eq-eqb p p refl, rows_push (done_by g p log) x) (record {
          fired = (let a = ap sum fires_are in let b = sum_by-append (λ (n : ℕ). n) (fires rows) (fires more) in
              let c = fired_more x.event x.seen s.fired in omega arith);
          chips = (let a = chips_taken-append rows more in let b = chips_more x.event x.seen s may in omega arith);
          taken = λ e. (let a = takes_of-append e rows more in let b = told.taken e in
              let c = taken_more x.event x.seen e (s.into e) in omega arith);
          sent = λ e inside mine. rw (
            fires_are,
            map-append (λ (k : ℕ). k * mult_of g e) (fires rows) (fires more),
            told.sent e inside mine,
          )
              (due_more x.event x.seen e s inside mine may ((part_kept g game log legal.0 p).outs e mine));
          outside = λ past. rw (told.outside past) (outside_more x.event x.seen s may past);
        })))
        (λ other. rw (ne_eqb p v other) (tells log legal.0 v))

    pub times_fired : (log : Log) → IsLegalLog g log → (v : ℕ) → times_of v (row_firings (rows_in g log)) ≡ fired_by g log v
    times_fired log legal v = times_are (rows_in g log) v ∙ rw (rows_are log v) (tells log legal v).fired

    traces_are : (log : Log) → IsLegalLog g log → (v : ℕ) → rows_of (rows_in g log) v ≡ trace_of (traces_in g log) v
    traces_are log legal v = let n : ℕ = g.game.graph.vertices in rows_are log v ∙ dite (dec_lt v n)
        (λ l. sym (get_or-map-range_with_len (recorded log) 0 n v v [] l (omega arith)))
        (λ past. (tells log legal v).outside (omega arith) ∙ sym (get_or_past (traces_in g log) v []
        (let a = length-map-range_with_len (recorded log) 0 n in omega arith)))

  -- ---- each row is enabled

  module _ (game : IsGame g.game) (some_ring : 0 < g.ring) (start : List ℕ) where
    -- on each root edge at most one message was sent, with the chips of its vertex in this list
    abbrev Opens : Log → Type 0
    Opens log = (v : ℕ) → v < g.game.graph.vertices
        → IsPrefix (sent_counts (out_in g log (root_edge g v)).link) (opening (slice_index start v))

    opens_before : (x : Step) (log : Log) → IsLegalLog g (x ∷ log) → Opens (x ∷ log) → Opens log
    opens_before x log legal opened v l =
        let fed : List ℕ = fed_to g x.event v in
        let later = opened v l in (
          fed ++ later.0,
          rw (
            ← append_assoc (sent_counts (out_in g log (root_edge g v)).link) fed later.0,
            ← root_sends g game some_ring x log legal v,
          ) later.1,
        )

    -- the game that starts with this list
    abbrev whole : ChipGame
    whole = record { graph = g.game.graph; start = start; limit = g.game.limit }

    -- what was sent on an edge is a prefix of its messages by the firings
    begun : (log : Log) → IsLegalLog g log → Opens log → (e : ℕ) → e < all_edges g
        → IsPrefix (sent_counts (out_in g log e).link) (messages whole (λ u. fires (recorded log u)) e)
    begun log legal opened e below =
        let m : ℕ = length g.game.graph.edges in
        let first : List ℕ = opening (slice_index start (e - m)) in
        let made : ℕ → List ℕ = λ u. map (λ k. k * mult_of g e) (fires (recorded log u)) in
        let own : List ℕ = made (edge_at g.game.graph e).tail in
        dite (dec_lt e m)
        (λ l. (
          opening (out_in g log e).pending,
          sym ((tells game log legal (tail_of g e)).sent e l refl)
              ∙ ap made (tail_graph g e l) ∙ sym (cond-true (ltb e m) own first (lt-ltb e m l)),
        ))
        (λ n.
        let at : root_edge g (e - m) ≡ e = omega arith in
        let sent = subst (λ (i : ℕ). IsPrefix (sent_counts (out_in g log i).link) first) at
        (opened (e - m) (omega arith)) in
        (sent.0, sent.1 ∙ sym (cond-false (ltb e m) own first (le-ltb e m (omega arith)))))

    take_met : (log : Log) → IsLegalLog g log → Opens log → (e seen : ℕ) → e < all_edges g
        → seen ≡ sees g log (Take e) → seen ≢ 0 → is_row_enabled whole (recorded log) (head_of g e) (Row.Take e seen) ≡ true
    take_met log legal opened e seen below is some =
        let t : Tail = (out_in g log e).link in
        let n : ℕ = length (into_in g log e).got in
        let found : ℕ = get_or t.put n 0 in
        let all = begun log legal opened e below in
        let there : n < length t.put = (take_finds g game some_ring log legal e (λ z. some (is ∙ z))).0 in
        let next : next_message whole (recorded log) (head_of g e) e ≡ Some found =
        rw ((tells game log legal (head_of g e)).taken e, ← all.1) (slice_get_keeps (sent_counts t) all.0 n found
        (slice_get_keeps t.put (option_to_list t.held) n found (slice_get-get_or t.put n 0 there))) in
        let goes : goes_into g.game.graph (head_of g e) e ≡ true = grind (arith, nat_tests) in
        rw (goes, next) (eq-eqb found seen (sym is))

    fire_met : (log : Log) → IsLegalLog g log → (v k : ℕ) → Met g (Fire v k) (part_in g log v)
        → is_row_enabled whole (recorded log) v (Row.Fire k) ≡ true
    fire_met log legal v k may =
        let d : ℕ = degree g.game.graph v in
        let told = tells game log legal v in
        let inner = may.1 in let some = may.5 in let within = may.6 in let paid = may.7 in
        let a = add-mul (fired_by g log v) k d in let b = mul_comm (fired_by g log v) d in
        let enough : (sum (fires (recorded log v)) + k) * d ≤ chips_taken (recorded log v) =
        rw told.fired (omega arith) in
        grind (arith, nat_tests)

    -- it is enabled after the rows of the log
    met_behind : (log : Log) (v : ℕ) (row : TraceRow) → AreRowsEnabled whole [] (rows_in g log)
        → is_row_enabled whole (recorded log) v row ≡ true → AreRowsEnabled whole [] (rows_in g log ++ row_at_vertex v row ∷ [])
    met_behind log v row all met = AreMet-push whole [] (rows_in g log) (row_at_vertex v row) all
        (subst (λ (used : ℕ → List TraceRow). is_row_enabled whole used v row ≡ true) (λ i u. sym (rows_are log u) i) met)

    met_more : (x : Event) (seen : ℕ) (log : Log) → IsLegalLog g log → Opens log
        → Met g x (part_in g log (part_of g x)) → seen ≡ sees g log x → AreRowsEnabled whole [] (rows_in g log)
        → AreRowsEnabled whole [] (rows_in g log ++ map (row_at_vertex (part_of g x)) (row_of x seen))
    met_more (Take e) seen log legal opened may is all = dite (ℕ_discrete seen 0)
        (λ none. rw (eq-eqb seen 0 none, append-nil) all)
        (λ some. rw (ne_eqb seen 0 some)
        (met_behind log (head_of g e) (Row.Take e seen) all (take_met log legal opened e seen may is some)))
    met_more (Fire v k) seen log legal opened may is all =
        met_behind log v (Row.Fire k) all (fire_met log legal v k may)
    met_more x seen log legal opened may is all = rw append-nil all

    all_met : (log : Log) → IsLegalLog g log → Opens log → AreRowsEnabled whole [] (rows_in g log)
    all_met [] legal opened = tt
    all_met (x ∷ log) legal opened = let before = opens_before x log legal opened in
        met_more x.event x.seen log legal.0 before (met_here g x log legal) legal.1.1 (all_met log legal.0 before)

  module _ (game : IsGame g.game) (some_ring : 0 < g.ring) (log : Log) (legal : IsLegalLog g log) where
    one_opens : HasOneEach g log → Opens game some_ring (played_game g log).start log
    one_opens one v l =
        let e : ℕ = root_edge g v in
        let t : Tail = (out_in g log e).link in
        let few = one v l in
        let long = length-sent_counts t in
        let some = few_root_claims g game some_ring log legal e (omega arith) in
        let at : e - graph_edges g ≡ v = omega arith in
        let given = ap (chips_given g log) at in (
          [],
          append-nil (sent_counts t) ∙ one_message (sent_counts t) (omega arith) (omega arith)
              ∙ ap opening (sym (given_each g game some_ring log v l)),
        )

    pub interleaves : HasOneEach g log → IsInterleaving (played_game g log) (traces_in g log) (rows_in g log)
    interleaves one = record {
      whole = traces_are game log legal;
      met = all_met game some_ring (played_game g log).start log legal (one_opens one);
    }

pub logs_fit : LogsFit
logs_fit g game some_ring log legal one = (interleaves g game some_ring log legal one, times_fired g game log legal)

pub unfed_logs_fit : UnfedLogsFit
unfed_logs_fit g game some_ring log legal unfed =
    let none = unfed_records g game some_ring unfed log legal in
    let one = given_once g game some_ring log legal [] none (λ v l. inr refl) in
    rw (unfed_played g game some_ring unfed log legal) at (interleaves g game some_ring log legal one)
