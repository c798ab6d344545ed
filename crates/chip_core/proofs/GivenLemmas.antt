-- Serves Core.antt.
-- What was given to each vertex: all that was sent on its root edge, at the opening and by feeding.
use Rattle.chip_core.proofs.Names.{nat_tests, ◌≡◌, ◌≢◌, ℕ, ◌+◌, ◌-◌, ◌<◌, ◌≤◌, true, false, cond, eqb, List, [], ◌∷◌}
use Rattle.chip_core.proofs.Names.{◌++◌, sum, slice_index, None, refl, sym, ap, ◌∙◌, arith, append-nil}
use Rattle.chip_core.proofs.Names.{append_assoc, true≢false, get_or_past, ext_get_or, fill_by_all}
use Rattle.chip_core.proofs.Names.{get_or-map-range_with_len, length-map-range_with_len, sum_by-cons, sum_by-append}
use Rattle.chip_core.proofs.Names.{dite, dec_lt, IsGame, max_total, sum_below, brought_to, all_brought, HasMore}
use Rattle.chip_core.proofs.Names.{cond_no, sum_below_ext, sum_by_place, sum_below_one, sum_below_add, sum_below_none}
use Rattle.chip_core.proofs.Names.{edge_word, sent_counts, claims_of, after_claim, Setting, start_of, Part}
use Rattle.chip_core.proofs.Names.{all_fed, AreGiven, link_after, stop_after, Met, opening_tail, tail_root, first_sent}
use Rattle.chip_core.proofs.Names.{first_fed, Log, Step, Event, Clear, Claim, Put, Seal, Feed, part_of, part_in, out_in}
use Rattle.chip_core.proofs.Names.{stop_in, sees, IsLegalLog, tail_of, root, root_edge, graph_edges, chips_given}
use Rattle.chip_core.proofs.Names.{played_game, fed_of, fed_in, done_by, GivenByTheRecord}
use Rattle.chip_core.proofs.LogLemmas.{link_step, stop_step, part_kept, out_kept, edge_sound, met_here}

module _ (g : Setting) where
  -- ---- no root edge is ever sealed

  stop_after_at : (x : Event) (seen e : ℕ) (log : Log) → Met g x (part_in g log (part_of g x)) → graph_edges g ≤ e
      → stop_in g log e ≡ None → stop_after x seen e (stop_in g log e) ≡ None
  stop_after_at (Seal i) seen e log may past none = let inside : i < graph_edges g = may in grind (arith, nat_tests)
  stop_after_at x seen e log may past none = none

  pub never_sealed : (log : Log) → IsLegalLog g log → (e : ℕ) → graph_edges g ≤ e → stop_in g log e ≡ None
  never_sealed [] legal e past = refl
  never_sealed (x ∷ log) legal e past = stop_step g x log e
      ∙ stop_after_at x.event x.seen e log (met_here g x log legal) past
      (never_sealed log legal.0 e past)

  -- so a feed sees the number of claims
  pub feed_sees : (log : Log) → IsLegalLog g log → (e k : ℕ) → graph_edges g ≤ e
      → sees g log (Feed e k) ≡ claims_of (out_in g log e).link
  feed_sees log legal e k past =
      let a = never_sealed log legal e past in
      let b : edge_word (claims_of (out_in g log e).link) false ≡ claims_of (out_in g log e).link = omega arith in cc

  -- what an event feeds to a vertex
  abbrev pub fed_to : Event → ℕ → List ℕ
  fed_to (Feed i k) v = cond (eqb i (root_edge g v)) (k ∷ []) []
  fed_to _ v = []

  module _ (game : IsGame g.game) (some_ring : 0 < g.ring) where
    -- ---- a feed sends its message

    pub feed_sends : (log : Log) → IsLegalLog g log → (e k : ℕ) → Met g (Feed e k) (part_in g log (tail_of g e))
        → sent_counts (after_claim k (sees g log (Feed e k)) (out_in g log e).link)
        ≡ sent_counts (out_in g log e).link ++ k ∷ []
    feed_sends log legal e k may =
        let t = (out_in g log e).link in
        let empty : t.held ≡ None = (edge_sound g game some_ring log legal e).quiet may.5 in
        let saw = feed_sees log legal e k may.0 in let put = append-nil t.put in grind (arith, nat_tests)

    -- ---- a feed increases what was given

    brought_one : (u v k : ℕ) → brought_to ((u, k) ∷ []) v ≡ cond (eqb u v) k 0
    brought_one u v k = let a = sum_by-cons (λ (p : ℕ × ℕ). cond (eqb p.0 v) p.1 0) (u, k) [] in omega arith

    sends : (x : Event) (log : Log) → IsLegalLog g log → Met g x (part_in g log (part_of g x)) → (v : ℕ)
        → sent_counts (link_after x (sees g log x) (root_edge g v) (out_in g log (root_edge g v)))
        ≡ sent_counts (out_in g log (root_edge g v)).link ++ fed_to x v
    sends (Feed i k) log legal may v = let sent = feed_sends log legal i k may in
        let same = append-nil (sent_counts (out_in g log (root_edge g v)).link) in grind (arith, nat_tests)
    sends (Claim i) log legal may v = let own = may.0 in
        let same = append-nil (sent_counts (out_in g log (root_edge g v)).link) in grind (arith, nat_tests)
    sends (Clear i) log legal may v =
        let same = append-nil (sent_counts (out_in g log (root_edge g v)).link) in grind (arith, nat_tests)
    sends (Put i) log legal may v =
        let same = append-nil (sent_counts (out_in g log (root_edge g v)).link) in grind (arith, nat_tests)
    sends _ log legal may v = sym (append-nil (sent_counts (out_in g log (root_edge g v)).link))

    -- a step sends on a root edge what it feeds there
    pub root_sends : (x : Step) (log : Log) → IsLegalLog g (x ∷ log) → (v : ℕ)
        → sent_counts (out_in g (x ∷ log) (root_edge g v)).link
        ≡ sent_counts (out_in g log (root_edge g v)).link ++ fed_to x.event v
    root_sends x log legal v =
        let a = link_step g x log (root_edge g v) in let b = sends x.event log legal.0 (met_here g x log legal) v in
        cc

    fed_sum : (x : Event) (s : Part) → Met g x s → (v : ℕ) → sum (fed_to x v) ≡ brought_to (fed_of g x) v
    fed_sum (Feed i k) s may v =
        let past = may.0 in let one = brought_one (i - graph_edges g) v k in grind (arith, nat_tests)
    fed_sum _ s may v = refl

    pub started_step : (x : Step) (log : Log) → IsLegalLog g (x ∷ log) → (v : ℕ)
        → chips_given g (x ∷ log) v ≡ chips_given g log v + brought_to (fed_of g x.event) v
    started_step x log legal v =
        let a = ap sum (root_sends x log legal v) in
        let b = sum_by-append (λ (n : ℕ). n) (sent_counts (out_in g log (root_edge g v)).link) (fed_to x.event v) in
        let c = fed_sum x.event (part_in g log (part_of g x.event))
        (met_here g x log legal) v in omega arith

    none_outside : (x : Event) (s : Part) → Met g x s → (v : ℕ) → g.game.graph.vertices ≤ v → brought_to (fed_of g x) v ≡ 0
    none_outside (Feed e k) s may v past = let inside = may.1 in let own = may.0 in
        brought_one (e - graph_edges g) v k ∙ cond_no (e - graph_edges g) v k 0 (λ z. absurd (omega arith))
    none_outside _ s may v past = refl

    -- nothing was given to numbers that are no vertices
    pub started_outside : (log : Log) → IsLegalLog g log → (v : ℕ) → g.game.graph.vertices ≤ v → chips_given g log v ≡ 0
    started_outside [] legal v past = let each = game.start_fits in first_sent g v ∙ get_or_past g.game.start v 0 (omega arith)
    started_outside (x ∷ log) legal v past =
        let a = started_step x log legal v in let b = started_outside log legal.0 v past in
        let c = none_outside x.event (part_in g log (part_of g x.event)) (met_here g x log legal) v past in omega arith

    pub started_grows : (x : Step) (log : Log) → IsLegalLog g (x ∷ log) → (v : ℕ)
        → chips_given g log v ≤ chips_given g (x ∷ log) v
    started_grows x log legal v = let a = started_step x log legal v in omega arith

    -- ---- by the root's own record

    fed_push : (xs : List Step) (x : Step) → fed_in g (xs ++ x ∷ []) ≡ fed_in g xs ++ fed_of g x.event
    fed_push [] x = append-nil (fed_of g x.event)
    fed_push (y ∷ ys) x =
        let a = fed_push ys x in let b = append_assoc (fed_of g y.event) (fed_in g ys) (fed_of g x.event) in cc

    -- only the root feeds
    fed_elsewhere : (x : Event) (s : Part) → Met g x s → part_of g x ≢ root g → fed_of g x ≡ []
    fed_elsewhere (Feed e k) s may other = absurd (other (tail_root g e may.0))
    fed_elsewhere x s may other = refl

    abbrev pub recorded : Log → List (ℕ × ℕ)
    recorded log = fed_in g (done_by g (root g) log)

    -- a step adds what it feeds
    pub recorded_step : (x : Step) (log : Log) → IsLegalLog g (x ∷ log)
        → recorded (x ∷ log) ≡ recorded log ++ fed_of g x.event
    recorded_step x log legal = let push = fed_push (done_by g (root g) log) x in let same = append-nil (recorded log) in
        let none = fed_elsewhere x.event (part_in g log (part_of g x.event)) (met_here g x log legal) in
        grind (arith, nat_tests)

    -- what a vertex was given is its start and its recorded feeds
    pub started_recorded : (log : Log) → IsLegalLog g log → (v : ℕ)
        → chips_given g log v ≡ start_of g v + brought_to (recorded log) v
    started_recorded [] legal v = let a = first_sent g v in omega arith
    started_recorded (x ∷ log) legal v =
        let a = started_step x log legal v in
        let b = started_recorded log legal.0 v in
        let c = recorded_step x log legal in
        let d = sum_by-append (λ (p : ℕ × ℕ). cond (eqb p.0 v) p.1 0) (recorded log) (fed_of g x.event) in
        grind (arith, nat_tests)

    nothing_fed : sum_below g.game.graph.vertices (brought_to []) ≡ all_brought []
    nothing_fed = sum_below_none g.game.graph.vertices (brought_to []) (λ v l. refl)

    -- a feed is of one vertex
    fed_once : (x : Event) (s : Part) → Met g x s
        → sum_below g.game.graph.vertices (brought_to (fed_of g x)) ≡ all_brought (fed_of g x)
    fed_once (Feed e k) s may =
        let past = may.0 in
        let inside = may.1 in
        let v : ℕ = e - graph_edges g in
        let one = sum_below_one g.game.graph.vertices (brought_to ((v, k) ∷ [])) v (omega arith)
        (λ u l ne. (let b = brought_one v u k in grind (arith, nat_tests))) in
        let here = brought_one v v k in
        let all = sum_by-cons (λ (p : ℕ × ℕ). p.1) (v, k) [] in grind (arith, nat_tests)
    fed_once x s may = nothing_fed

    total_recorded : (log : Log) → IsLegalLog g log
        → sum_below g.game.graph.vertices (chips_given g log) ≡ sum g.game.start + all_brought (recorded log)
    total_recorded [] legal =
        let a = first_fed g game in
        let b = sum_below_ext g.game.graph.vertices (chips_given g []) (λ v. sum (sent_counts (opening_tail g (root_edge g v))))
        (λ v l. refl) in
        omega arith
    total_recorded (x ∷ log) legal =
        let may = met_here g x log legal in
        let a = sum_below_ext g.game.graph.vertices (chips_given g (x ∷ log))
        (λ v. chips_given g log v + brought_to (fed_of g x.event) v) (λ v l. started_step x log legal v) in
        let b = sum_below_add g.game.graph.vertices (chips_given g log) (brought_to (fed_of g x.event)) in
        let c = fed_once x.event (part_in g log (part_of g x.event)) may in
        let d = total_recorded log legal.0 in
        let f = ap all_brought (recorded_step x log legal) in
        let h = sum_by-append (λ (p : ℕ × ℕ). p.1) (recorded log) (fed_of g x.event) in
        omega arith

    -- ---- all that was given

    pub given_each : (log : Log) (v : ℕ) → v < g.game.graph.vertices
        → slice_index (played_game g log).start v ≡ chips_given g log v
    given_each log v l = get_or-map-range_with_len (chips_given g log) 0 g.game.graph.vertices v v 0 l (omega arith)

    pub given_is : (log : Log) → IsLegalLog g log → slice_index (played_game g log).start ≡ chips_given g log
    given_is log legal j v = (dite (dec_lt v g.game.graph.vertices) (λ l. given_each log v l)
        (λ nl. let n = length-map-range_with_len (chips_given g log) 0 g.game.graph.vertices in
        let a = get_or_past (played_game g log).start v 0 (omega arith) in
        let b = started_outside log legal v (omega arith) in cc)) j

    pub given_sum : (log : Log) → sum (played_game g log).start ≡ sum_below g.game.graph.vertices (chips_given g log)
    given_sum log =
        let a = sum_by_place (played_game g log).start in
        let b = length-map-range_with_len (chips_given g log) 0 g.game.graph.vertices in
        let c = sum_below_ext g.game.graph.vertices (slice_index (played_game g log).start) (chips_given g log)
        (given_each log) in cc

    -- it is what the root sent
    pub root_gave : (log : Log) → sum (played_game g log).start ≡ all_fed g (part_in g log (root g))
    root_gave log =
        let a = given_sum log in let b = sum_below_ext g.game.graph.vertices (chips_given g log) (λ v. sum
        (sent_counts ((part_in g log (root g)).out (root_edge g v)).link)) (λ v l. (let c = tail_root g
        (root_edge g v) (omega arith) in cc)) in cc

    pub given_within : (log : Log) → IsLegalLog g log → sum (played_game g log).start ≤ max_total
    given_within log legal = let a = root_gave log in
        let b = (part_kept g game log legal (root g)).fed_within refl in omega arith

    -- so the game played is within the limits
    pub played_is_game : (log : Log) → IsLegalLog g log → IsGame (played_game g log)
    played_is_game log legal = record {
      graph_fits = game.graph_fits;
      start_fits = length-map-range_with_len (chips_given g log) 0 g.game.graph.vertices;
      few_chips = given_within log legal;
      low_limit = game.low_limit;
    }

    pub played_has_more : (log : Log) → IsLegalLog g log
        → HasMore g.game (recorded log) (played_game g log)
    played_has_more log legal = record {
      same_graph = refl;
      same_limit = refl;
      start_each = (let a = length-map-range_with_len (chips_given g log) 0 g.game.graph.vertices in cc);
      start = λ v l. (let b = given_each log v (let n = game.start_fits in omega arith) in
          let c = started_recorded log legal v in cc);
      total = (let d = given_sum log in let f = total_recorded log legal in cc);
    }

    -- ---- without feeding

    module _ (off : g.fed ≡ false) where
      pub unfed_started : (log : Log) → IsLegalLog g log → (v : ℕ) → chips_given g log v ≡ start_of g v
      unfed_started log legal v =
          let a = (out_kept g game log legal (root_edge g v)).root_unfed (omega arith) off in
          let b = first_sent g v in cc

      pub unfed_start : (log : Log) → IsLegalLog g log → (played_game g log).start ≡ g.game.start
      unfed_start log legal =
          let long = length-map-range_with_len (chips_given g log) 0 g.game.graph.vertices in
          ext_get_or 0 (played_game g log).start g.game.start (cc)
          (λ v l. given_each log v (omega arith) ∙ unfed_started log legal v)

      pub unfed_played : (log : Log) → IsLegalLog g log → played_game g log ≡ g.game
      unfed_played log legal j = record { graph = g.game.graph; start = unfed_start log legal j; limit = g.game.limit }

      pub unfed_closes : (log : Log) → IsLegalLog g log → (part_in g log (root g)).ended ≡ true
      unfed_closes log legal = (part_kept g game log legal (root g)).unfed_ended off

      feeds_none : (x : Event) (log : Log) → IsLegalLog g log → Met g x (part_in g log (part_of g x)) → fed_of g x ≡ []
      feeds_none (Feed e k) log legal may = absurd (true≢false (let a = unfed_closes log legal in
          let b = tail_root g e may.0 in cc))
      feeds_none x log legal may = refl

      pub unfed_records : (log : Log) → IsLegalLog g log → recorded log ≡ []
      unfed_records [] legal = refl
      unfed_records (x ∷ log) legal = recorded_step x log legal
          ∙ ap (λ (l : List (ℕ × ℕ)). l ++ fed_of g x.event) (unfed_records log legal.0)
          ∙ feeds_none x.event log legal.0 (met_here g x log legal)

pub given_by_the_record : GivenByTheRecord
given_by_the_record = played_has_more

-- what was given to each vertex is the start of the game played
pub given_start : (g : Setting) (log : Log) (given : List ℕ) → AreGiven g (part_in g log (root g)) given
    → given ≡ (played_game g log).start
given_start g log given are = fill_by_all (chips_given g log) given g.game.graph.vertices 0 are.0
    (λ v l. (let a = are.1 v l in let b = tail_root g (root_edge g v) (omega arith) in cc))
