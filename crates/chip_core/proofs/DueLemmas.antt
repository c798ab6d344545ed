-- Serves Detection.antt, Closing.antt. If the end is noted and no part has anything to do the root is closed; so until
-- then some event advances, and if everything is tried and nothing advances, it is closed.
use Rattle.chip_core.proofs.Names.{nat_tests, rules, ◌≡◌, ◌≢◌, ◌⊎◌, ℕ, ◌+◌, ◌<◌, ◌≤◌, true, false, not, ◌&&◌, eqb}
use Rattle.chip_core.proofs.Names.{List, [], ◌∷◌, length, Option, Some, None, option_to_list, Contains, refl, sym, ap}
use Rattle.chip_core.proofs.Names.{◌∙◌, arith, inl, inr, ⊎_elim, eqb-true, eq-eqb, zero, suc, Bool, cond, ltb}
use Rattle.chip_core.proofs.Names.{is_some, ltb-true, lt-ltb, ◌++◌, append-nil, append_assoc, ltb-false, eqb-false}
use Rattle.chip_core.proofs.Names.{not-true, and_parts, IsGame, tested_none, cond_yes, cond_no, by_test, tested_term}
use Rattle.chip_core.proofs.Names.{claims_of, Tail, after_clear, none_held, Setting, Cause, Part, is_running}
use Rattle.chip_core.proofs.Names.{may_ack_on, pending_of, unput_count, is_passive, is_legal, refusals, cause}
use Rattle.chip_core.proofs.Names.{tail_inside as own_edge, may_le, Log, Out, part_in}
use Rattle.chip_core.proofs.Names.{out_in, into_in, IsLegalLog, IsClosed, tail_of, head_of}
use Rattle.chip_core.proofs.Names.{all_edges, graph_edges, Event, Part, Take, Ack, Fire, Clear, Claim, Put, Halt}
use Rattle.chip_core.proofs.Names.{Settle, unmet_rule, fired_by, sees, Rule, Feed, step, log_after}
use Rattle.chip_core.proofs.Names.{HasEnd, Advances, AsksFor, AsksForEverything, dite}
use Rattle.chip_core.proofs.Names.{ℕ_discrete, dec_lt, SealedEdge, FiringLimit, saw, link_after, tail_graph, met_rules}
use Rattle.chip_core.proofs.Names.{running, rules_met, some_of, is_none_of, acting_part, counts_as_work, is_refusal}
use Rattle.chip_core.proofs.Names.{work_in, refusals_in}
use Rattle.chip_core.proofs.Names.{contains_cases}
use Rattle.chip_core.proofs.LogLemmas.{part_kept, head_inside, edge_counts, tail_inside, link_step}
use Rattle.chip_core.proofs.InstanceLemmas.{net, was, events_of, is_network, legal_there, shows, may_same}
use Rattle.chip_core.proofs.OrderLemmas.{quiescent_there, closed_here}
use Rattle.chip_diffusing.proofs.DueLemmas as diffusing
use Rattle.chip_core.proofs.NumberLemmas.{empty_is}
use Rattle.chip_core.proofs.ReachingLemmas.{step_legal, run_legal}
use Rattle.chip_core.proofs.ReplyLemmas.{log_after-append}
use Rattle.chip_core.proofs.IdleLemmas.{Alike, idle_alike}

-- a vertex with nothing to do is passive
idle_passive : (g : Setting) (v : ℕ) (s : Part) → unput_count g v s ≡ 0 → (s.halt ≡ None → pending_of g v s ≡ 0)
    → (s.halt ≡ None → pending_of g v s ≡ 0 → is_legal g v s ≡ false) → is_passive g v s ≡ true
idle_passive g v s unput pending legal = grind (arith, nat_tests)

module _ (g : Setting) where
  -- no part has anything to do after this log
  pub record Quiet (log : Log) : Type 0 where
    pub taken : (e : ℕ) → e < all_edges g → length (into_in g log e).got ≡ length (out_in g log e).link.put
    pub put : (e : ℕ) → e < all_edges g → (out_in g log e).link.held ≡ None
    pub settled : (e : ℕ) → e < all_edges g → (into_in g log e).acked ≤ (out_in g log e).settled
    pub acked : (e : ℕ) → e < all_edges g → may_ack_on g (head_of g e) (part_in g log (head_of g e)) e ≡ 0
    pub fired : (v : ℕ) → v < g.game.graph.vertices → (part_in g log v).halt ≡ None
        → pending_of g v (part_in g log v) ≡ 0 → is_legal g v (part_in g log v) ≡ false
    pub sent : (e : ℕ) → e < graph_edges g → (part_in g log (tail_of g e)).halt ≡ None
        → claims_of (out_in g log e).link ≢ length (into_in g log e).got + g.ring → (out_in g log e).pending ≡ 0

  module _ (game : IsGame g.game) (some_ring : 0 < g.ring) (log : Log) (legal : IsLegalLog g log) (quiet : Quiet log) where
    -- an edge, by the part of its tail
    by_tail : {A : Type 0} (field : Out → A) (e v : ℕ) → tail_of g e ≡ v
        → field ((part_in g log v).out e) ≡ field (out_in g log e)
    by_tail field e v at = cc

    no_unput : (v : ℕ) → unput_count g v (part_in g log v) ≡ 0
    no_unput v = tested_none (all_edges g) (λ i. eqb (tail_of g i) v)
        (λ i. length (option_to_list ((part_in g log v).out i).link.held))
        (λ i l on. (let a = by_tail (λ o. length (option_to_list o.link.held)) i v (eqb-true (tail_of g i) v on) in
        let b = quiet.put i l in cc))

    no_pending : (v : ℕ) → v < g.game.graph.vertices → (part_in g log v).halt ≡ None
        → pending_of g v (part_in g log v) ≡ 0
    no_pending v inside runs = tested_none (all_edges g) (λ i. eqb (tail_of g i) v)
        (λ i. ((part_in g log v).out i).pending)
        (λ i l on.
        let at = eqb-true (tail_of g i) v on in
        let own : i < graph_edges g = own_edge g i (omega arith) in
        let here = by_tail (λ o. o.pending) i v at in
        let none = quiet.sent i own (cc) (λ full. (let b = quiet.taken i l in
        let c = none_held (out_in g log i).link (quiet.put i l) in absurd (omega arith))) in cc)

    all_taken : (e : ℕ) → e < all_edges g → claims_of (out_in g log e).link ≤ length (into_in g log e).got
    all_taken e l = let a = quiet.taken e l in let b = none_held (out_in g log e).link (quiet.put e l) in omega arith

    -- so no part of the computation that this is has anything to acknowledge or to settle
    pub quiet_closes : HasEnd g log → IsClosed g log
    quiet_closes end = closed_here g game some_ring log legal (diffusing.quiet_closes (net g)
        (is_network g game some_ring) (was g log)
        (record {
          heard = λ e l. let a = quiet.settled e l in let b = (shows g log).acked e l in
              let c = (shows g log).settled e l in omega arith;
          given = λ e l. may_same g e (head_of g e) (part_in g log (head_of g e)) l refl (head_inside g game e l)
              ∙ quiet.acked e l;
        })
        (events_of g log) (legal_there g game some_ring log legal)
        (quiescent_there g game some_ring log legal (λ v inside. idle_passive g v (part_in g log v) (no_unput v)
        (no_pending v inside) (quiet.fired v inside)) all_taken end))

-- the first number that passes a test, or none does
find : (n : ℕ) (test : ℕ → Bool) → ((k : ℕ) × (k < n) × (test k ≡ true)) ⊎ ((k : ℕ) → k < n → test k ≡ false)
find zero test = inr (λ k l. absurd (omega arith))
find (suc n) test = ⊎_elim (λ some. let l = some.1 in inl (some.0, omega arith, some.2))
    (λ none. by_test (test n) (λ on. inl (n, omega arith, on))
    (λ off. inr (λ k l. let old = none k in grind (arith, nat_tests))))
    (find n test)

-- an element of a list is between a front and a back
parted : {X : Type 0} (xs : List X) (x : X) → Contains xs x
    → (front : List X) × (back : List X) × (xs ≡ front ++ x ∷ back)
parted [] x has = let a = has.1 in absurd (omega arith)
parted {X = X} (y ∷ ys) x has = ⊎_elim (λ is. ([], ys, cc))
    (λ later. let at = parted ys x later in (y ∷ at.0, at.1, cc)) (contains_cases y ys x has)

module _ (g : Setting) where
  abbrev pub reply_counts : Log → Event → Bool
  reply_counts log x = counts_as_work g (acting_part g log x) (saw x (sees g log x))

  abbrev pub is_refused : Log → Event → Bool
  is_refused log x = is_refusal g (acting_part g log x) (saw x (sees g log x))

  -- the event is enabled, and it counts or is refused
  abbrev Tells : Log → Event → Type 0
  Tells log x = (unmet_rule g x (acting_part g log x) ≡ None)
      × ((reply_counts log x ≡ true) ⊎ (is_refused log x ≡ true))

  -- the event is enabled, and it counts
  abbrev pub Works : Log → Event → Type 0
  Works log x = (unmet_rule g x (acting_part g log x) ≡ None) × (reply_counts log x ≡ true)

  module _ (game : IsGame g.game) (some_ring : 0 < g.ring) (log : Log) (legal : IsLegalLog g log) where
    pub take_works : (e : ℕ) → e < all_edges g → length (into_in g log e).got < length (out_in g log e).link.put
        → Works log (Take e)
    take_works e l more = (
      met_rules g (Take e) (part_in g log (head_of g e)) l,
      (let a = (empty_is g game some_ring log legal e).0 in grind (arith, nat_tests)),
    )

    pub put_works : (e : ℕ) → e < all_edges g → is_some (out_in g log e).link.held ≡ true → Works log (Put e)
    put_works e l some = (met_rules g (Put e) (part_in g log (tail_of g e)) (l, some_of _ some), refl)

    pub settle_works : (e : ℕ) → e < all_edges g → (out_in g log e).settled < (into_in g log e).acked
        → Works log (Settle e)
    settle_works e l more = (met_rules g (Settle e) (part_in g log (tail_of g e)) l, lt-ltb 0 _ (omega arith))

    pub ack_works : (e : ℕ) → e < all_edges g → 0 < may_ack_on g (head_of g e) (part_in g log (head_of g e)) e
        → Works log (Ack e)
    ack_works e l some =
        let a = may_le g (head_of g e) e (part_in g log (head_of g e)) in
        (met_rules g (Ack e) (part_in g log (head_of g e)) (l, omega arith, some), refl)

    -- nothing is claimed and not put
    pub none_unput : ((e : ℕ) → e < all_edges g → (out_in g log e).link.held ≡ None) → (v : ℕ)
        → unput_count g v (part_in g log v) ≡ 0
    none_unput none v = tested_none (all_edges g) (λ e. eqb (tail_of g e) v)
        (λ e. length (option_to_list ((part_in g log v).out e).link.held))
        (λ e l on. (let a = eqb-true (tail_of g e) v on in let b = none e l in cc))

    module _ (v : ℕ) (vertex : v < g.game.graph.vertices) (runs : (part_in g log v).halt ≡ None) (unput : unput_count g v (part_in g log v) ≡ 0) where
      -- a legal vertex fires below its limit
      pub fires_once : pending_of g v (part_in g log v) ≡ 0 → is_legal g v (part_in g log v) ≡ true
          → fired_by g log v < g.game.limit → Works log (Fire v 1)
      fires_once none on below = (met_rules g (Fire v 1) (part_in g log v) (grind (arith, nat_tests)), refl)

      -- and halts at it
      pub limit_halts : pending_of g v (part_in g log v) ≡ 0 → is_legal g v (part_in g log v) ≡ true
          → g.game.limit ≤ fired_by g log v → Works log (Halt v)
      limit_halts none on past =
          let s : Part = part_in g log v in
          let kept = (part_kept g game log legal v).within in
          let why : (c : Cause) × (cause g v s ≡ Some c) = dite (ℕ_discrete (refusals g v s) 0)
          (λ zero. (FiringLimit, grind (arith, nat_tests))) (λ some. (SealedEdge, grind (arith, nat_tests))) in
          (met_rules g (Halt v) s (vertex, (λ at. grind (arith, nat_tests)), runs, unput, why), refl)

      -- a vertex with a refused claim halts
      pub refused_halts : (e : ℕ) → e < graph_edges g → tail_of g e ≡ v → ((part_in g log v).out e).link.refused ≡ true
          → Works log (Halt v)
      refused_halts e l at on =
          let s : Part = part_in g log v in
          let some = tested_term (all_edges g) (λ i. eqb (tail_of g i) v) (λ i. cond (s.out i).link.refused 1 0) e
          (omega arith) (eq-eqb _ _ at) in
          let why : cause g v s ≡ Some SealedEdge = grind (arith, nat_tests) in
          let other = (game.graph_fits.edges_fit e l).not_from_sink in
          let tail = tail_graph g e l in
          (met_rules g (Halt v) s (vertex, (λ z. other (cc)), runs, unput, (SealedEdge, why)), refl)

    -- a claim is accepted or refused
    pub claim_tells : (e : ℕ) → e < graph_edges g → (part_in g log (tail_of g e)).halt ≡ None
        → (out_in g log e).link.clear ≡ true
        → Tells log (Claim e)
    claim_tells e l runs clear =
        (met_rules g (Claim e) (part_in g log (tail_of g e)) (l, runs, clear), grind (arith, nat_tests))

    -- a look at an empty cell
    pub look_finds : (e : ℕ) → claims_of (out_in g log e).link ≢ length (into_in g log e).got + g.ring
        → sees g log (Clear e) ≡ 0
    look_finds e room = cond_no (claims_of (out_in g log e).link) (length (into_in g log e).got + g.ring) _ 0 room

    -- ---- never stuck

    abbrev Some_advance : Type 0
    Some_advance = (x : Event) × Advances g log x

    by_work : (x : Event) → Works log x → Some_advance
    by_work x works = (
      x,
      record {
        may = works.0;
        tells = cc;
      },
    )

    by_sending : (e : ℕ) → e < graph_edges g → ((i : ℕ) → i < all_edges g → (out_in g log i).link.held ≡ None)
        → (part_in g log (tail_of g e)).halt ≡ None
        → claims_of (out_in g log e).link ≢ length (into_in g log e).got + g.ring → 0 < (out_in g log e).pending
        → Some_advance
    by_sending e l none runs room pends = by_test (out_in g log e).link.refused
        (λ on. by_work (Halt (tail_of g e))
        (refused_halts (tail_of g e) (tail_inside g game e l) runs (none_unput none (tail_of g e)) e l refl on))
        (λ off. by_test (out_in g log e).link.clear
        (λ clear. let claim = claim_tells e l runs clear in
        ⊎_elim (λ counts. by_work (Claim e) (claim.0, counts))
        (λ refused. (Claim e, record { may = claim.0; tells = grind (arith, nat_tests) })) claim.1)
        (λ noted. let empty = look_finds e room in (
          Clear e,
          record {
            may = met_rules g (Clear e) (part_in g log (tail_of g e)) (inl (l, runs, off, pends));
            tells = grind (arith, nat_tests);
          },
        )))

    pub never_stuck : HasEnd g log → (IsClosed g log → ⊥) → (x : Event) × Advances g log x
    never_stuck end not_closed = ⊎_elim
        (λ t. by_work (Take t.0) (take_works t.0 t.1 (ltb-true _ _ t.2)))
        (λ no_take. ⊎_elim
        (λ t. by_work (Put t.0) (put_works t.0 t.1 t.2))
        (λ no_put. ⊎_elim
        (λ t. by_work (Settle t.0) (settle_works t.0 t.1 (ltb-true _ _ t.2)))
        (λ no_settle. ⊎_elim
        (λ t. by_work (Ack t.0) (ack_works t.0 t.1 (ltb-true _ _ t.2)))
        (λ no_ack.
        let none : (e : ℕ) → e < all_edges g → (out_in g log e).link.held ≡ None =
        (λ e l. is_none_of _ (no_put e l)) in
        ⊎_elim
        (λ t. let parts = and_parts _ _ t.2 in let more = and_parts _ _ parts.0 in
        dite (dec_lt (fired_by g log t.0) g.game.limit)
        (λ l. by_work (Fire t.0 1)
        (fires_once t.0 t.1 (running _ more.0) (none_unput none t.0) (eqb-true _ _ more.1) parts.1 l))
        (λ n. by_work (Halt t.0)
        (limit_halts t.0 t.1 (running _ more.0) (none_unput none t.0) (eqb-true _ _ more.1) parts.1 (omega arith))))
        (λ no_fire. ⊎_elim
        (λ t. let parts = and_parts _ _ t.2 in let more = and_parts _ _ parts.0 in
        by_sending t.0 t.1 none (running _ more.0) (eqb-false _ _ (not-true _ more.1)) (ltb-true _ _ parts.1))
        (λ no_send. absurd (not_closed (quiet_closes g game some_ring log legal record {
          taken = λ e l. (let a = no_take e l in let b = (edge_counts g game some_ring log legal e).2 in
              grind (arith, nat_tests));
          put = none;
          settled = λ e l. ltb-false _ _ (no_settle e l);
          acked = λ e l. (let a = ltb-false _ _ (no_ack e l) in omega arith);
          fired = λ v l runs idle. (let a = no_fire v l in grind (arith, nat_tests));
          sent = λ e l runs room. (let a = no_send e l in grind (arith, nat_tests));
        } end)))
        (find (graph_edges g) (λ e. (is_running (part_in g log (tail_of g e)).halt
        && not (eqb (claims_of (out_in g log e).link) (length (into_in g log e).got + g.ring)))
        && ltb 0 (out_in g log e).pending)))
        (find g.game.graph.vertices (λ v. (is_running (part_in g log v).halt && eqb (pending_of g v (part_in g log v)) 0)
        && is_legal g v (part_in g log v))))
        (find (all_edges g) (λ e. ltb 0 (may_ack_on g (head_of g e) (part_in g log (head_of g e)) e))))
        (find (all_edges g) (λ e. ltb (out_in g log e).settled (into_in g log e).acked)))
        (find (all_edges g) (λ e. is_some (out_in g log e).link.held)))
        (find (all_edges g) (λ e. ltb (length (into_in g log e).got) (length (out_in g log e).link.put)))

module _ (g : Setting) where
  -- the steps that count, and the refused claims
  abbrev pub tells_in : Log → ℕ
  tells_in log = work_in g log + refusals_in g log

  abbrev Idle : Log → Event → Type 0
  Idle log x = tells_in (step g log x).0 ≡ tells_in log

  -- the step of an enabled event
  pub made : (log : Log) (x : Event) → unmet_rule g x (acting_part g log x) ≡ None
      → (step g log x).0 ≡ saw x (sees g log x) ∷ log
  made log x none = cc

  tells_more : (log : Log) (x : Event) → unmet_rule g x (acting_part g log x) ≡ None
      → tells_in (step g log x).0 ≡ (cond (reply_counts g log x) 1 0 + work_in g log)
      + (cond (is_refused g log x) 1 0 + refusals_in g log)
  tells_more log x none = ap tells_in (made log x none)

  pub no_work : (log : Log) (x : Event) → Idle log x → Works g log x → ⊥
  no_work log x idle works = let a = tells_more log x works.0 in grind (arith, nat_tests)

  no_refusal : (log : Log) (x : Event) → Idle log x → unmet_rule g x (acting_part g log x) ≡ None
      → is_refused g log x ≡ true → ⊥
  no_refusal log x idle none on = let a = tells_more log x none in grind (arith, nat_tests)

  cases_rule : (o : Option Rule) → (o ≡ None) ⊎ ((r : Rule) × (o ≡ Some r))
  cases_rule None = inl refl
  cases_rule (Some r) = Rattle.std.proofs.Common.inr (r, refl)

  -- the effect of an event, whether or not it is enabled
  pub by_rule : {A : Type 0} (log : Log) (x : Event) → (unmet_rule g x (acting_part g log x) ≡ None → A)
      → ((step g log x).0 ≡ log → A) → A
  by_rule log x yes' no' = ⊎_elim yes'
      (λ r. no' (cc)) (cases_rule (unmet_rule g x (acting_part g log x)))

  pub step_grows : (log : Log) (x : Event) → tells_in log ≤ tells_in (step g log x).0
  step_grows log x = by_rule log x (λ none. let a = tells_more log x none in omega arith)
      (λ same. grind (arith, nat_tests))

  pub run_grows : (log : Log) (xs : List Event) → tells_in log ≤ tells_in (log_after g log xs)
  run_grows log [] = omega arith
  run_grows log (x ∷ xs) = let a = step_grows log x in let b = run_grows (step g log x).0 xs in omega arith

  -- two logs that leave the same parts, except for the notes of clear and the root's
  pub record Still (a b : Log) : Type 0 where
    pub parts : Alike g a b
    pub refused : (e : ℕ) → e < graph_edges g → (out_in g a e).link.refused ≡ (out_in g b e).link.refused

  same_still : (a b : Log) → a ≡ b → Still a b
  same_still a b same = record {
    parts = λ p. cc;
    refused = λ e l. cc;
  }

  then_still : (a b c : Log) → Still a b → Still b c → Still a c
  then_still a b c ab bc = search (rules, arith, nat_tests)

  back_still : (a b : Log) → Still a b → Still b a
  back_still a b ab = record { parts = λ p. sym (ab.parts p); refused = λ e l. (let d = ab.refused e l in cc) }

  module _ (game : IsGame g.game) (some_ring : 0 < g.ring) where
    -- the next cell of an edge is empty
    abbrev HasRoom : Log → ℕ → Type 0
    HasRoom log e = claims_of (out_in g log e).link ≢ length (into_in g log e).got + g.ring

    -- a step that neither counts nor is refused leaves the notes of a refusal, and the note that a cell with room is
    -- clear
    abbrev Notes : Log → ℕ → Tail → Type 0
    Notes log e t = (t.refused ≡ (out_in g log e).link.refused)
        × (HasRoom log e → (out_in g log e).link.clear ≡ true → t.clear ≡ true)

    idle_notes : (log : Log) → IsLegalLog g log → (x : Event) → Idle log x → unmet_rule g x (acting_part g log x) ≡ None
        → (e : ℕ) → e < graph_edges g → Notes log e (link_after x (sees g log x) e (out_in g log e))
    idle_notes log legal (Clear i) idle none e l =
        let empty = look_finds g game some_ring log legal i in grind (arith, nat_tests)
    idle_notes log legal (Claim i) idle none e l =
        let may = rules_met g (Claim i) (acting_part g log (Claim i)) none in
        absurd (⊎_elim (λ counts. no_work log (Claim i) idle (none, counts))
        (λ refused. no_refusal log (Claim i) idle none refused)
        (claim_tells g game some_ring log legal i may.0 may.1 may.2).1)
    idle_notes log legal (Put i) idle none e l = grind (arith, nat_tests)
    idle_notes log legal (Feed i k) idle none e l =
        let past = (rules_met g (Feed i k) (acting_part g log (Feed i k)) none).0 in grind (arith, nat_tests)
    idle_notes log legal _ idle none e l = (refl, (λ room clear. clear))

    notes_after : (log : Log) → IsLegalLog g log → (x : Event) → Idle log x → (e : ℕ) → e < graph_edges g
        → Notes log e (out_in g (step g log x).0 e).link
    notes_after log legal x idle e l = by_rule log x
        (λ none. rw (made log x none, link_step g (saw x (sees g log x)) log e)
        (idle_notes log legal x idle none e l))
        (λ same. rw same (refl, (λ room clear. clear)))

    -- such a step leaves all parts but for notes
    step_still : (log : Log) → IsLegalLog g log → (x : Event) → Idle log x → Still (step g log x).0 log
    step_still log legal x idle = record {
      parts = by_rule log x
          (λ none. rw (made log x none) (idle_alike g (saw x (sees g log x)) log (by_test (reply_counts g log x)
          (λ on. absurd (no_work log x idle (none, on))) (λ off. off))))
          (λ same. (same_still (step g log x).0 log same).parts);
      refused = λ e l. (notes_after log legal x idle e l).0;
    }

    run_still : (xs : List Event) (log : Log) → IsLegalLog g log → tells_in (log_after g log xs) ≡ tells_in log
        → Still (log_after g log xs) log
    run_still [] log legal idle = same_still log log refl
    run_still (x ∷ xs) log legal idle =
        let a = step_grows log x in let b = run_grows (step g log x).0 xs in
        let here : Idle log x = omega arith in
        then_still (log_after g (step g log x).0 xs) (step g log x).0 log
        (run_still xs (step g log x).0 (step_legal g log x legal) (omega arith)) (step_still log legal x here)

    room_still : (a b : Log) → Still a b → (e : ℕ) → HasRoom b e → HasRoom a e
    room_still a b ab e room full =
        let claims = ap (λ (s : Part). claims_of (s.out e).link) (ab.parts (tail_of g e)) in
        let got = ap (λ (s : Part). length (s.into e).got) (ab.parts (head_of g e)) in
        room (cc)

    -- the note that a cell with room is clear stays
    clear_stays : (e : ℕ) → e < graph_edges g → (xs : List Event) (log : Log) → IsLegalLog g log
        → tells_in (log_after g log xs) ≡ tells_in log → HasRoom log e → (out_in g log e).link.clear ≡ true
        → (out_in g (log_after g log xs) e).link.clear ≡ true
    clear_stays e l [] log legal idle room clear = clear
    clear_stays e l (y ∷ ys) log legal idle room clear =
        let a = step_grows log y in let b = run_grows (step g log y).0 ys in
        let here : Idle log y = omega arith in
        clear_stays e l ys (step g log y).0 (step_legal g log y legal) (omega arith)
        (room_still (step g log y).0 log (step_still log legal y here) e room)
        ((notes_after log legal y here e l).1 room clear)

    -- a run in which nothing counts or is refused
    module _ (log : Log) (legal : IsLegalLog g log) (xs : List Event) (idle : tells_in (log_after g log xs) ≡ tells_in log) where
      -- a moment of it
      module _ (front back : List Event) (is : xs ≡ front ++ back) where
        abbrev here : Log
        here = log_after g log front

        tells_here : (tells_in here ≡ tells_in log) × (tells_in (log_after g here back) ≡ tells_in here)
        tells_here =
            let a = run_grows log front in let b = run_grows here back in
            let c : tells_in (log_after g log xs) ≡ tells_in (log_after g here back) =
            (let d = log_after-append g log front back in cc) in
            (omega arith, omega arith)

        still_here : Still here (log_after g log xs)
        still_here = then_still here log (log_after g log xs) (run_still front log legal tells_here.0)
            (back_still (log_after g log xs) log (run_still xs log legal idle))

      -- whatever was tried, or is not enabled now, neither counted nor was refused at some moment
      asked_at : (x : Event) → AsksFor g log xs x
          → ((front back : List Event) → xs ≡ front ++ back → Tells g (log_after g log front) x) → ⊥
      asked_at x has tells = ⊎_elim
          (λ among.
          let at = parted xs x among in
          let m : Log = log_after g log at.0 in
          let a = (tells_here at.0 (x ∷ at.1) at.2).1 in
          let b = step_grows m x in let c = run_grows (step g m x).0 at.1 in
          let told = tells at.0 (x ∷ at.1) at.2 in
          ⊎_elim (λ counts. no_work m x (omega arith) (told.0, counts))
          (λ refused. no_refusal m x (omega arith) told.0 refused) told.1)
          (λ unmet. unmet (tells xs [] (sym (append-nil xs))).0) has

    module _ (log : Log) (legal : IsLegalLog g log) (xs : List Event) (asks : AsksForEverything g log xs)
        (idle : tells_in (log_after g log xs) ≡ tells_in log) where
      abbrev after : Log
      after = log_after g log xs

      after_legal : IsLegalLog g after
      after_legal = run_legal g log xs legal

      -- what every part has in the end, it had at each moment
      asked : (x : Event) → AsksFor g log xs x → ((m : Log) → IsLegalLog g m → Still m after → Works g m x) → ⊥
      asked x has works = asked_at log legal xs idle x has (λ front back is.
          let work = works (log_after g log front) (run_legal g log front legal) (still_here log legal xs idle front back is) in
          (work.0, inl work.1))

      all_put : (e : ℕ) → e < all_edges g → (out_in g after e).link.held ≡ None
      all_put e l = by_test (is_some (out_in g after e).link.held)
          (λ on. absurd (asked (Put e) (asks.puts e l) (λ m ok still.
          put_works g game some_ring m ok e l (ap (λ (s : Part). is_some (s.out e).link.held) (still.parts (tail_of g e))
          ∙ on))))
          (λ off. is_none_of (out_in g after e).link.held off)

      -- no vertex with something to send is left if a look and then a claim were tried
      module _ (e : ℕ) (l : e < graph_edges g) (runs : (part_in g after (tail_of g e)).halt ≡ None)
          (room : HasRoom after e) (pends : 0 < (out_in g after e).pending)
          (off : (out_in g after e).link.refused ≡ false) where
        has_run : (m : Log) → Still m after → (part_in g m (tail_of g e)).halt ≡ None
        has_run m still = let a = still.parts (tail_of g e) in grind (arith, nat_tests)

        may_look : (m : Log) → Still m after → unmet_rule g (Clear e) (acting_part g m (Clear e)) ≡ None
        may_look m still =
            let pending = ap (λ (s : Part). (s.out e).pending) (still.parts (tail_of g e)) in
            met_rules g (Clear e) (part_in g m (tail_of g e))
            (inl (l, has_run m still, (let a = still.refused e l in cc), omega arith))

        is_clear : (m : Log) → IsLegalLog g m → Still m after → (out_in g (step g m (Clear e)).0 e).link.clear ≡ true
        is_clear m ok still =
            let o : Out = out_in g m e in
            rw (made m (Clear e) (may_look m still)) (rw (link_step g (saw (Clear e) (sees g m (Clear e))) m e
            ∙ cond_yes e e (after_clear (sees g m (Clear e)) o.link) o.link refl) (eq-eqb _ 0
            (look_finds g game some_ring m ok e (room_still m after still e room))))

        -- the look that was tried was made, and noted
        noted : (front back : List Event) → xs ≡ front ++ back → AsksFor g log front (Clear e)
            → (out_in g (log_after g log front) e).link.clear ≡ true
        noted front back is = ⊎_elim
            (λ among.
            let at = parted front (Clear e) among in
            let m : Log = log_after g log at.0 in let next : Log = (step g m (Clear e)).0 in
            let m_legal = run_legal g log at.0 legal in
            let all : xs ≡ at.0 ++ Clear e ∷ (at.1 ++ back) =
            (let c = append_assoc at.0 (Clear e ∷ at.1) back in cc) in
            let m_still = still_here log legal xs idle at.0 (Clear e ∷ (at.1 ++ back)) all in
            let whole = (tells_here log legal xs idle front back is).0 in
            let tells = (tells_here log legal front whole at.0 (Clear e ∷ at.1) at.2).1 in
            let a = step_grows m (Clear e) in let b = run_grows next at.1 in
            let next_still = then_still next m after (step_still m m_legal (Clear e) (omega arith)) m_still in
            rw (at.2, log_after-append g log at.0 (Clear e ∷ at.1)) (clear_stays e l at.1 next (step_legal g m
            (Clear e) m_legal) (omega arith) (room_still next after next_still e room)
            (is_clear m m_legal m_still)))
            (λ unmet. absurd (unmet (may_look (log_after g log front) (still_here log legal xs idle front back is))))

        none_left : ⊥
        none_left =
            let sends = asks.sends e l in
            let m : Log = log_after g log sends.0 in
            let tells = tells_here log legal xs idle sends.0 sends.1 sends.2 in
            let m_legal = run_legal g log sends.0 legal in
            let m_still = still_here log legal xs idle sends.0 sends.1 sends.2 in
            asked_at m m_legal sends.1 tells.1 (Claim e) sends.4 (λ front back is.
            let first = (tells_here m m_legal sends.1 tells.1 front back is).0 in
            let still = then_still (log_after g m front) m after (run_still front m m_legal first) m_still in
            claim_tells g game some_ring (log_after g m front) (run_legal g m front m_legal) e l
            (has_run (log_after g m front) still)
            (clear_stays e l front m m_legal first (room_still m after m_still e room) (noted sends.0 sends.1 sends.2 sends.3)))

      -- no part has anything to do
      quiet : Quiet g after
      quiet = record {
        taken = λ e l. dite (dec_lt (length (into_in g after e).got) (length (out_in g after e).link.put))
            (λ more. absurd (asked (Take e) (asks.takes e l) (λ m ok still.
            let a = still.parts (head_of g e) in
            let b = ap (λ (s : Part). length (s.out e).link.put) (still.parts (tail_of g e)) in
            take_works g game some_ring m ok e l (grind (arith, nat_tests)))))
            (λ none. let c = (edge_counts g game some_ring after after_legal e).2 in omega arith);
        put = all_put;
        settled = λ e l. dite (dec_lt (out_in g after e).settled (into_in g after e).acked)
            (λ more. absurd (asked (Settle e) (asks.settles e l) (λ m ok still.
            let a = ap (λ (s : Part). (s.into e).acked) (still.parts (head_of g e)) in
            let b = ap (λ (s : Part). (s.out e).settled) (still.parts (tail_of g e)) in
            settle_works g game some_ring m ok e l (omega arith))))
            (λ none. omega arith);
        acked = λ e l. dite (ℕ_discrete (may_ack_on g (head_of g e) (part_in g after (head_of g e)) e) 0) (λ z. z)
            (λ some. absurd (asked (Ack e) (asks.acks e l) (λ m ok still.
            let a = ap (λ (s : Part). may_ack_on g (head_of g e) s e) (still.parts (head_of g e)) in
            ack_works g game some_ring m ok e l (omega arith))));
        fired = λ v vertex runs none. by_test (is_legal g v (part_in g after v))
            (λ on. absurd (dite (dec_lt (fired_by g after v) g.game.limit)
            (λ below. asked (Fire v 1) (asks.fires v vertex) (λ m ok still.
            let a = ap (λ (s : Part). s.fired) (still.parts v) in
            fires_once g game some_ring m ok v vertex (ap (λ (s : Part). s.halt) (still.parts v) ∙ runs)
            (unput m still v) (ap (pending_of g v) (still.parts v) ∙ none) (ap (is_legal g v) (still.parts v) ∙ on)
            (omega arith)))
            (λ past. asked (Halt v) (asks.halts v vertex) (λ m ok still.
            let a = ap (λ (s : Part). s.fired) (still.parts v) in
            limit_halts g game some_ring m ok v vertex (ap (λ (s : Part). s.halt) (still.parts v) ∙ runs)
            (unput m still v) (ap (pending_of g v) (still.parts v) ∙ none) (ap (is_legal g v) (still.parts v) ∙ on)
            (omega arith)))))
            (λ off. off);
        sent = λ e l runs room. dite (ℕ_discrete (out_in g after e).pending 0) (λ z. z)
            (λ some. absurd (by_test (out_in g after e).link.refused
            (λ on. asked (Halt (tail_of g e)) (asks.halts (tail_of g e) (tail_inside g game e l)) (λ m ok still.
            refused_halts g game some_ring m ok (tail_of g e) (tail_inside g game e l)
            (ap (λ (s : Part). s.halt) (still.parts (tail_of g e)) ∙ runs) (unput m still (tail_of g e)) e l refl
            (still.refused e l ∙ on)))
            (λ off. none_left e l runs room (omega arith) off)));
      }
        where
          unput : (m : Log) → Still m after → (v : ℕ) → unput_count g v (part_in g m v) ≡ 0
          unput m still v = ap (unput_count g v) (still.parts v) ∙ none_unput g game some_ring after after_legal all_put v

      pub asked_closes : HasEnd g after → IsClosed g after
      asked_closes end = quiet_closes g game some_ring after after_legal quiet end
