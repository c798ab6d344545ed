-- Serves Closing.antt.
-- Schedules that try everything often enough close the root. After that nothing counts, and the words are unchanged
-- except for seals.
use Rattle.chip_core.proofs.Names.{nat_tests, rules, ◌≡◌, ◌≢◌, ℕ, ◌+◌, ◌<◌, ◌≤◌, cond, List, [], ◌∷◌, ◌++◌, length}
use Rattle.chip_core.proofs.Names.{sym, ap, ◌∙◌, subst, arith, ⊎_elim, refl, ◌⊎◌, zero, suc, None, inl, inr}
use Rattle.chip_core.proofs.Names.{true≢false, append-nil, Contains, append_assoc, Contains-append_left}
use Rattle.chip_core.proofs.Names.{Contains-append_right, IsGame, sum_below_ext, Setting, Log}
use Rattle.chip_core.proofs.Names.{Step, Part, part_of, part_in, IsLegalLog, IsClosed, tail_of, head_of}
use Rattle.chip_core.proofs.Names.{stopper, all_edges, Event, Clear, Claim, Put, Feed, out_in, sees, step, log_after}
use Rattle.chip_core.proofs.Names.{graph_edges, unmet_rule, Take, Ack, Fire, Halt, Settle, acting_part}
use Rattle.chip_core.proofs.Names.{events_in, chips_given, fed_of, work_in, refusals_in, is_refusal}
use Rattle.chip_core.proofs.Names.{steps_at_most, fed_so_far, AreFiringBounds, StirsNothing, HasEnd, AsksForEverything}
use Rattle.chip_core.proofs.Names.{IsIdleBetween, HasStretches, RootHasPut, HasRound, HasRounds, dite}
use Rattle.chip_core.proofs.Names.{ℕ_discrete, Met, saw, link_after, tail_root, rules_met}
use Rattle.chip_core.proofs.Names.{contains_cases}
use Rattle.chip_core.proofs.LogLemmas.{link_step, head_inside, tail_cases, legal_before, in_pieces, end_stays, met_here}
use Rattle.chip_core.proofs.OrderLemmas.{all_counts}
use Rattle.chip_core.proofs.ClosingLemmas.{still, still_closed, still_run, Rests, rested}
use Rattle.chip_core.proofs.IdleLemmas.{counts_here, work_grows}
use Rattle.chip_core.proofs.WorkLemmas.{edge_work, vertex_work, refused_on, work_step, refusal_step, few_steps}
use Rattle.chip_core.proofs.WorkLemmas.{few_refusals}
use Rattle.chip_core.proofs.GivenLemmas.{recorded_step, started_step}
use Rattle.chip_core.proofs.ReachingLemmas.{step_legal, run_legal, run_from}
use Rattle.chip_core.proofs.ReplyLemmas.{log_after-append}
use Rattle.chip_core.proofs.DueLemmas.{tells_in, run_grows, by_rule, made, asked_closes}
use Rattle.chip_core.proofs.RoundLemmas.{round_closes, take_made, settle_made}

module _ (g : Setting) (game : IsGame g.game) (some_ring : 0 < g.ring) where
  -- two logs leave the same parts except for the stopper's
  abbrev Stays : Log → Log → Type 0
  Stays a b = (p : ℕ) → p ≢ stopper g → part_in g a p ≡ part_in g b p

  no_stopper : (p : ℕ) → p ≤ g.game.graph.vertices → p ≢ stopper g
  no_stopper p l is = let same : p ≡ stopper g = is in absurd (omega arith)

  at_tail : (a b : Log) → Stays a b → (e : ℕ) → part_in g a (tail_of g e) ≡ part_in g b (tail_of g e)
  at_tail a b same e = same (tail_of g e) (no_stopper (tail_of g e)
      (⊎_elim (λ at. omega arith) (λ l. omega arith) (tail_cases g game e)))

  at_head : (a b : Log) → Stays a b → (e : ℕ) → e < all_edges g → part_in g a (head_of g e) ≡ part_in g b (head_of g e)
  at_head a b same e l = let inside = head_inside g game e l in same (head_of g e) (no_stopper (head_of g e) (omega arith))

  step_idle : (x : Step) (log : Log) → IsLegalLog g (x ∷ log) → IsClosed g log
      → (◌≡◌ {A = ℕ} (cond (counts_here g log x) 1 0) 0)
      × (◌≡◌ {A = ℕ} (cond (is_refusal g (part_in g log (part_of g x.event)) x) 1 0) 0)
  step_idle x log legal closed =
      let same = still g game some_ring log legal.0 closed x legal in
      let edges = sum_below_ext (all_edges g) (edge_work g (x ∷ log)) (edge_work g log) (λ e l.
      let tail = at_tail (x ∷ log) log same e in let head = at_head (x ∷ log) log same e l in
      grind (arith, nat_tests)) in
      let vertices = sum_below_ext g.game.graph.vertices (vertex_work g (x ∷ log)) (vertex_work g log)
      (λ v l. (let part = same v (no_stopper v (omega arith)) in cc)) in
      let refused = sum_below_ext (graph_edges g) (λ e. refused_on (out_in g (x ∷ log) e).link)
      (λ e. refused_on (out_in g log e).link) (λ e l. (let tail = at_tail (x ∷ log) log same e in cc)) in
      let a = work_step g game some_ring x log legal in let b = refusal_step g game some_ring x log legal in
      (omega arith, omega arith)

  record After (log xs : Log) : Type 0 where
    closed : IsClosed g (xs ++ log)
    same : Stays (xs ++ log) log
    no_work : work_in g (xs ++ log) ≡ work_in g log
    no_refusals : refusals_in g (xs ++ log) ≡ refusals_in g log

  after : (xs log : Log) → IsLegalLog g (xs ++ log) → IsClosed g log → After log xs
  after [] log legal closed = record { closed = closed; same = λ p ne. refl; no_work = refl; no_refusals = refl }
  after (x ∷ xs) log legal closed =
      let rest = after xs log legal.0 closed in
      let idle = step_idle x (xs ++ log) legal rest.closed in
      let a = idle.0 in let b = idle.1 in
      let c = rest.no_work in let d = rest.no_refusals in
      record {
        closed = still_closed g game some_ring (xs ++ log) legal.0 rest.closed x legal;
        same = λ p ne. still g game some_ring (xs ++ log) legal.0 rest.closed x legal p ne ∙ rest.same p ne;
        no_work = omega arith;
        no_refusals = omega arith;
      }

  pub nothing_stirs : (log : Log) → IsLegalLog g log → IsClosed g log → (xs : Log) → IsLegalLog g (xs ++ log) → StirsNothing g log xs
  nothing_stirs log before closed xs legal =
      let is = after xs log legal closed in
      let new : Log = xs ++ log in
      record {
        no_work = is.no_work;
        no_refusals = is.no_refusals;
        words = λ value shown stops. record {
          edges = λ e l.
              let link = ap (λ (s : Part). (s.out e).link) (sym (at_tail new log is.same e)) in
              let got = ap (λ (s : Part). (s.into e).got) (sym (at_head new log is.same e l)) in
              rw (← link) (rw (← got) (rw (stops e) (shown.edges e l)));
          acks = λ e l. (let head = at_head new log is.same e l in let was = shown.acks e l in cc);
          fired = λ v l. (let part = is.same v (no_stopper v (omega arith)) in let was = shown.fired v l in cc);
        };
        acks = λ e l. (let c = all_counts g game some_ring new legal is.closed e l in
            let c1 = c.1 in let c2 = c.2 in let c3 = c.3 in omega arith);
      }

module _ (g : Setting) (game : IsGame g.game) (some_ring : 0 < g.ring) where
  -- ---- once the end is noted nothing is fed

  -- what is given, and that it is all
  pub record Ends (log after : Log) : Type 0 where
    pub end : HasEnd g after
    pub fed : fed_so_far g after ≡ fed_so_far g log
    pub given : chips_given g after ≡ chips_given g log
    pub put : RootHasPut g log → RootHasPut g after

  fed_none : (log : Log) → HasEnd g log → (x : Event) → Met g x (part_in g log (part_of g x)) → fed_of g x ≡ []
  fed_none log end (Feed e k) may = absurd (true≢false (let a = tail_root g e may.0 in cc))
  fed_none log end x may = refl

  put_stays : (log : Log) → HasEnd g log → RootHasPut g log → (x : Event) (seen : ℕ) → Met g x (part_in g log (part_of g x))
      → (e : ℕ) → graph_edges g ≤ e → e < all_edges g → (link_after x seen e (out_in g log e)).held ≡ None
  put_stays log end put (Clear i) seen may e past l = let was = put e past l in grind (arith, nat_tests)
  put_stays log end put (Put i) seen may e past l = let was = put e past l in grind (arith, nat_tests)
  put_stays log end put (Claim i) seen may e past l = let own = may.0 in let was = put e past l in grind (arith, nat_tests)
  put_stays log end put (Feed i k) seen may e past l = absurd (true≢false (let a = tail_root g i may.0 in cc))
  put_stays log end put _ seen may e past l = put e past l

  -- one step more
  ends_step : (x : Step) (log : Log) → IsLegalLog g (x ∷ log) → HasEnd g log → Ends log (x ∷ log)
  ends_step x log legal end =
      let may = met_here g x log legal in
      let none = fed_none log end x.event may in
      record {
        end = end_stays g x log end;
        fed = (let all = recorded_step g game some_ring x log legal in let was = append-nil (fed_so_far g log) in cc);
        given = λ j v. (let a = started_step g game some_ring x log legal v in
            let same : chips_given g (x ∷ log) v ≡ chips_given g log v = grind (arith, nat_tests) in same) j;
        put = λ put e past l. rw (link_step g x log e) (put_stays log end put x.event x.seen may e past l);
      }

  ends_same : (log : Log) → HasEnd g log → Ends log log
  ends_same log end = record { end = end; fed = refl; given = refl; put = λ put. put }

  ends_then : (a b c : Log) → Ends a b → Ends b c → Ends a c
  ends_then a b c ab bc = search (rules, arith, nat_tests)

  ends_run : (xs : List Event) (log : Log) → IsLegalLog g log → HasEnd g log → Ends log (log_after g log xs)
  ends_run [] log legal end = ends_same log end
  ends_run (x ∷ xs) log legal end =
      let one : Ends log (step g log x).0 = by_rule g log x
      (λ none. rw (made g log x none) (ends_step (saw x (sees g log x)) log (legal, (none, refl)) end))
      (λ same. subst (Ends log) (sym same) (ends_same log end)) in
      ends_then log (step g log x).0 (log_after g (step g log x).0 xs) one
      (ends_run xs (step g log x).0 (step_legal g log x legal) one.end)

  pub ends_longer : (xs log : Log) → IsLegalLog g (xs ++ log) → HasEnd g log → Ends log (xs ++ log)
  ends_longer [] log legal end = ends_same log end
  ends_longer (x ∷ xs) log legal end =
      let rest = ends_longer xs log legal.0 end in
      ends_then log (xs ++ log) (x ∷ xs ++ log) rest (ends_step x (xs ++ log) legal rest.end)

  -- ---- the bound holds on

  pub bounds_stay : (log after : Log) → Ends log after → (fired : ℕ → ℕ) → AreFiringBounds g log fired
      → AreFiringBounds g after fired
  bounds_stay log after ends fired bounds = record {
    firings = bounds.firings;
    whole = rw ends.given bounds.whole;
    enough = bounds.enough;
  }

  pub few_after : (log after : Log) → Ends log after → IsLegalLog g after → (fired : ℕ → ℕ) → AreFiringBounds g log fired
      → work_in g after ≤ steps_at_most g.game (length (fed_so_far g log)) fired
  few_after log after ends legal fired bounds =
      let same = ends.fed in
      let few = few_steps g game some_ring after legal fired (bounds_stay log after ends fired bounds) in
      grind (arith, nat_tests)

  -- ---- stretches that try everything

  stretches_tell : (n : ℕ) (xs : List Event) (log : Log) → IsLegalLog g log → HasEnd g log → HasStretches g n log xs
      → IsClosed g (log_after g log xs) ⊎ (n + tells_in g log ≤ tells_in g (log_after g log xs))
  stretches_tell zero xs log legal end has = inr (let a = run_grows g log xs in omega arith)
  stretches_tell (suc n) xs log legal end (front, stretch, rest, is, asks, more) =
      let one : Log = log_after g log front in
      let two : Log = log_after g one stretch in
      let one_legal = run_legal g log front legal in
      let two_legal = run_legal g one stretch one_legal in
      let one_ends = ends_run front log legal end in
      let two_ends = ends_run stretch one one_legal one_ends.end in
      let same : log_after g log xs ≡ log_after g two rest = (let c = log_after-append g log front
      (stretch ++ rest) in let d = log_after-append g one stretch rest in cc) in
      let told = ap (tells_in g) same in
      let a = run_grows g log front in let b = run_grows g one stretch in
      ⊎_elim
      (λ closed. inl (subst (IsClosed g) (sym same) closed))
      (λ tells. dite (ℕ_discrete (tells_in g two) (tells_in g one))
      (λ idle. inl (subst (IsClosed g) (sym same) (still_run g game some_ring two two_legal
      (asked_closes g game some_ring one one_legal stretch (asks idle) idle two_ends.end) rest).0))
      (λ worked. inr (omega arith)))
      (stretches_tell n rest two two_legal two_ends.end more)

  pub fair_schedules_close : (log : Log) → IsLegalLog g log → HasEnd g log → (fired : ℕ → ℕ) → AreFiringBounds g log fired → (n : ℕ)
      → steps_at_most g.game (length (fed_so_far g log)) fired + graph_edges g < n → (xs : List Event) → HasStretches g n log xs
      → IsClosed g (log_after g log xs)
  fair_schedules_close log legal end fired all n more xs has = ⊎_elim (λ closed. closed)
      (λ tells.
      let after_legal = run_legal g log xs legal in
      let a = few_after log (log_after g log xs) (ends_run xs log legal end) after_legal fired all in
      let b = few_refusals g game some_ring (log_after g log xs) after_legal in
      absurd (omega arith))
      (stretches_tell n xs log legal end has)

  -- ---- rounds of whole turns

  longer_closed : (xs log : Log) → IsLegalLog g (xs ++ log) → IsClosed g log → IsClosed g (xs ++ log)
  longer_closed [] log legal closed = closed
  longer_closed (x ∷ xs) log legal closed =
      still_closed g game some_ring (xs ++ log) legal.0 (longer_closed xs log legal.0 closed) x legal

  rounds_tell : (n : ℕ) (xs before : Log) → IsLegalLog g (xs ++ before) → HasEnd g before → RootHasPut g before
      → HasRounds g n before xs → IsClosed g (xs ++ before) ⊎ (n + work_in g before ≤ work_in g (xs ++ before))
  rounds_tell zero xs before legal end put has = inr (let a = work_grows g xs before in omega arith)
  rounds_tell (suc n) xs before legal end put (front, round, rest, is, has, more) =
      let one : Log = front ++ before in
      let two : Log = round ++ one in
      let same = in_pieces front round rest xs before is in
      let all_legal : IsLegalLog g (rest ++ two) = subst (IsLegalLog g) same legal in
      let two_legal = legal_before g rest two all_legal in
      let one_legal = legal_before g round one two_legal in
      let one_ends = ends_longer front before one_legal end in
      let two_ends = ends_longer round one two_legal one_ends.end in
      let two_put = two_ends.put (one_ends.put put) in
      let worked = ap (work_in g) same in
      let a = work_grows g front before in let b = work_grows g round one in
      ⊎_elim
      (λ closed. inl (subst (IsClosed g) (sym same) closed))
      (λ tells. dite (ℕ_discrete (work_in g two) (work_in g one))
      (λ idle. inl (subst (IsClosed g) (sym same) (longer_closed rest two all_legal
      (round_closes g game some_ring one round has two_legal idle two_put two_ends.end))))
      (λ some. inr (omega arith)))
      (rounds_tell n rest two all_legal two_ends.end two_put more)

  -- ---- as stretches of events

  events-append : (xs ys : Log) → events_in (xs ++ ys) ≡ events_in ys ++ events_in xs
  events-append [] ys = sym (append-nil (events_in ys))
  events-append (x ∷ xs) ys =
      let a = events-append xs ys in let b = append_assoc (events_in ys) (events_in xs) (x.event ∷ []) in cc

  events_have : (xs : Log) (x : Step) → Contains xs x → Contains (events_in xs) x.event
  events_have [] x has = let l = has.1 in absurd (omega arith)
  events_have (y ∷ ys) x has = ⊎_elim
      (λ is. Contains-append_right (events_in ys) (y.event ∷ []) x.event (0, omega arith, cc))
      (λ later. Contains-append_left (events_in ys) (y.event ∷ []) x.event (events_have ys x later)) (contains_cases y ys x has)

  refusals_grow : (xs log : Log) → refusals_in g log ≤ refusals_in g (xs ++ log)
  refusals_grow [] log = omega arith
  refusals_grow (x ∷ xs) log = let a = refusals_grow xs log in omega arith

  -- a round in which nothing counts closes the root, and then of these only takes and settles are enabled
  module _ (before xs : Log) (round : HasRound g before xs) (legal : IsLegalLog g (xs ++ before)) (end : HasEnd g (xs ++ before))
      (put : RootHasPut g (xs ++ before)) (told : IsIdleBetween g before (log_after g before (events_in xs))) where
    abbrev now : Log
    now = xs ++ before

    is_now : log_after g before (events_in xs) ≡ now
    is_now = run_from g xs before legal

    none : work_in g now ≡ work_in g before
    none = let a = work_grows g xs before in let b = refusals_grow xs before in
        let c = ap (work_in g) is_now in let d = ap (refusals_in g) is_now in omega arith

    closed : IsClosed g now
    closed = round_closes g game some_ring before xs round legal none put end

    unmet : (x : Event) → (unmet_rule g x (acting_part g now x) ≡ None → ⊥)
        → unmet_rule g x (acting_part g (log_after g before (events_in xs)) x) ≢ None
    unmet x not_met = rw is_now not_met

    may_not : (x : Event) → (unmet_rule g x (acting_part g now x) ≡ None) → Rests g x (sees g now x) (part_in g now (part_of g x))
    may_not x may = rested g game some_ring now legal closed x (sees g now x) (legal, (may, refl))

    all_asked : AsksForEverything g before (events_in xs)
    all_asked = record {
      takes = λ e l. inl (let made = take_made g game some_ring before xs round legal none put e l in
          events_have xs (saw (Take e) made.0) made.1);
      acks = λ e l. inr (unmet (Ack e) (λ may. (let c = (all_counts g game some_ring now legal closed e l).1 in
          let some = (rules_met g (Ack e) (part_in g now (head_of g e)) may).1 in absurd (omega arith))));
      settles = λ e l. inl (let made = settle_made g game some_ring before xs round legal none put e l in
          events_have xs (saw (Settle e) made.0) made.1);
      puts = λ e l. inr (unmet (Put e) (may_not (Put e)));
      fires = λ v l. inr (unmet (Fire v 1) (may_not (Fire v 1)));
      halts = λ v l. inr (unmet (Halt v) (may_not (Halt v)));
      sends = λ e l. (
        events_in xs,
        [],
        sym (append-nil (events_in xs)),
        inr (unmet (Clear e) (may_not (Clear e))),
        inr (unmet (Claim e) (may_not (Claim e))),
      );
    }

  all_stretches : (n : ℕ) (xs before : Log) → IsLegalLog g (xs ++ before) → HasEnd g before → RootHasPut g before
      → HasRounds g n before xs → HasStretches g n before (events_in xs)
  all_stretches zero xs before legal end put has = tt
  all_stretches (suc n) xs before legal end put (front, round, rest, is, has, more) =
      let one : Log = front ++ before in
      let two : Log = round ++ one in
      let all_legal : IsLegalLog g (rest ++ two) = subst (IsLegalLog g) (in_pieces front round rest xs before is) legal in
      let two_legal = legal_before g rest two all_legal in
      let one_legal = legal_before g round one two_legal in
      let one_ends = ends_longer front before one_legal end in
      let two_ends = ends_longer round one two_legal one_ends.end in
      let two_put = two_ends.put (one_ends.put put) in
      let at_one = run_from g front before one_legal in (
        events_in front,
        events_in round,
        events_in rest,
        (let a = events-append rest (round ++ front) in let b = events-append round front in
            let c = append_assoc (events_in front) (events_in round) (events_in rest) in cc),
        rw at_one (all_asked one round has two_legal two_ends.end two_put),
        rw (at_one, run_from g round one two_legal) (all_stretches n rest two all_legal two_ends.end two_put more),
      )

  pub rounds_are_stretches : (before : Log) → IsLegalLog g before → HasEnd g before → RootHasPut g before → (n : ℕ) (xs : Log)
      → IsLegalLog g (xs ++ before) → HasRounds g n before xs
      → (log_after g before (events_in xs) ≡ xs ++ before) × HasStretches g n before (events_in xs)
  rounds_are_stretches before earlier end put n xs legal has =
      (run_from g xs before legal, all_stretches n xs before legal end put has)

  pub fair_rounds_close : (before : Log) → IsLegalLog g before → HasEnd g before → RootHasPut g before → (fired : ℕ → ℕ)
      → AreFiringBounds g before fired → (n : ℕ) → steps_at_most g.game (length (fed_so_far g before)) fired < n → (xs : Log)
      → IsLegalLog g (xs ++ before) → HasRounds g n before xs → IsClosed g (xs ++ before)
  fair_rounds_close before earlier end put fired all n more xs legal has = ⊎_elim (λ closed. closed)
      (λ tells. let a = few_after before (xs ++ before) (ends_longer xs before legal end) legal fired all in
      absurd (omega arith))
      (rounds_tell n xs before legal end put has)
