-- Serves Histories.antt, Closing.antt. The vertex after a whole turn of which no step counts. If every vertex made one,
-- and the root settled all its edges, the root is closed.
use Rattle.chip_core.proofs.Names.{nat_tests, eqb-false, rules, ◌≡◌, ◌≢◌, ◌⊎◌, ℕ, ◌+◌, ◌<◌, ◌≤◌, Bool, true, false, not}
use Rattle.chip_core.proofs.Names.{◌&&◌, cond, eqb, List, [], ◌∷◌, ◌++◌, length, Option, Some, None, is_some, Contains}
use Rattle.chip_core.proofs.Names.{refl, sym, ap, ◌∙◌, subst, arith, inl, inr, ⊎_elim, eqb-true, true≢false}
use Rattle.chip_core.proofs.Names.{Contains-append_left, Contains-append_right, Contains-push_cases, by_test, Setting}
use Rattle.chip_core.proofs.Names.{work_of, Part, is_running, refusals, may_ack_on, head_of, tail_of, Event, Take, Ack}
use Rattle.chip_core.proofs.Names.{Fire, Clear, Claim, Put, Halt, Settle, Step, does, saw, Phase, nothing, either_phase}
use Rattle.chip_core.proofs.Names.{each_phase, one_step, seeing, ins_of, outs_of, may_fire, batch_of, putting, sending}
use Rattle.chip_core.proofs.Names.{sending_all, after_claim_phase, is_at_limit, acknowledging_parent, turn, part_by}
use Rattle.chip_core.proofs.Names.{done_by, Spreads, of_takes, of_settles, of_firing, of_puts, of_sending_all, of_limit}
use Rattle.chip_core.proofs.Names.{of_acks, of_turn, among_new_outs, among_new_ins, counts_as_work, work_in, dite}
use Rattle.chip_core.proofs.Names.{dec_lt, IsGame, claims_of, nothing_left, Log, Step, Event, Part, Take, Clear, Settle}
use Rattle.chip_core.proofs.Names.{part_of, part_in, out_in, into_in, sees, does, IsLegalLog, IsClosed, tail_of}
use Rattle.chip_core.proofs.Names.{head_of, all_edges, graph_edges, HasEnd, RootHasPut, HasTurn, HasRound}
use Rattle.chip_core.proofs.Names.{is_none_of, contains_cases}
use Rattle.chip_core.proofs.IdleLemmas.{bare, idle_does, Alike, counts_here, idle_alike, one_more, work_grows}
use Rattle.chip_core.proofs.IdleLemmas.{idle_stretch}
use Rattle.chip_core.proofs.LogLemmas.{edge_counts, head_inside, tail_inside, in_pieces}
use Rattle.chip_core.proofs.DueLemmas.{Quiet, quiet_closes, Works, take_works, settle_works, none_unput, look_finds}
use Rattle.chip_core.proofs.ReachingLemmas.{part-append, part_own}

-- the number of these that count whatever they saw
abbrev sure : Event → ℕ
sure (Fire v k) = 1
sure (Put e) = 1
sure (Halt v) = 1
sure (Ack e) = 1
sure _ = 0

abbrev sure_in : List Step → ℕ
sure_in [] = 0
sure_in (x ∷ xs) = sure x.event + sure_in xs

sure_append : (xs ys : List Step) → sure_in (xs ++ ys) ≡ sure_in xs + sure_in ys
sure_append [] ys = omega arith
sure_append (x ∷ xs) ys = let a = sure_append xs ys in omega arith

sure_parts : (xs ys all : List Step) → all ≡ xs ++ ys → sure_in all ≡ sure_in xs + sure_in ys
sure_parts xs ys all is = let a = sure_append xs ys in cc

module _ (g : Setting) where
  sure_counts : (s : Part) (x : Event) (seen : ℕ) → sure x ≤ cond (counts_as_work g s (saw x seen)) 1 0
  sure_counts s (Fire v k) seen = omega arith
  sure_counts s _ seen = omega arith

  sure_below : (xs : List Step) (s : Part) → sure_in xs ≤ work_of g s xs
  sure_below [] s = omega arith
  sure_below (x ∷ xs) s = let a = sure_below xs (does g x s) in let b = sure_counts s x.event x.seen in omega arith

  pub work-append : (xs ys : List Step) (s : Part) → work_of g s (xs ++ ys) ≡ work_of g s xs + work_of g (part_by g s xs) ys
  work-append [] ys s = omega arith
  work-append (x ∷ xs) ys s = let a = work-append xs ys (does g x s) in omega arith

  -- steps of which none counts
  idle_part : (xs : List Step) (s : Part) → work_of g s xs ≡ 0 → bare (part_by g s xs) ≡ bare s
  idle_part [] s none = refl
  idle_part (x ∷ xs) s none =
      let idle = one_more g (counts_as_work g s x) (work_of g (does g x s) xs) 0 none (omega arith) in
      idle_part xs (does g x s) (omega arith) ∙ idle_does g x.event x.seen s idle

  -- ---- a phase leads to the part after its operations

  abbrev Makes : Phase → Type 0
  Makes p = (s : Part) (ds : List Step) (t : Part) → p s ds t → t ≡ part_by g s ds

  module _ (v : ℕ) where
    makes_parent : (p : Option ℕ) → Makes (acknowledging_parent g v p)
    makes_parent None s ds t (none, same) = cc
    makes_parent (Some e) s ds t phase = grind (arith, nat_tests)

    makes : Spreads g v Makes
    makes = record {
      none = λ s ds t (none, same). cc;
      chosen = λ p all s ds t. all s s ds t;
      both = λ p q first next s ds t (front, m, back, is, here, rest). (let a = next m back t rest in
          let b = first s front m here in let c = part-append g front back s in cc);
      event = λ x by next all s ds t (seen, rest, is, last). (let d = all seen s (does g
          (saw x seen) s) rest t last in cc);
      last = λ s. makes_parent s.parent s;
    }

    -- a turn leads to the part after its operations
    pub makes_turn : Makes (turn g v)
    makes_turn = of_turn g v Makes makes

    -- ---- what follows from its phases

    first_or_later : (P : ℕ → Type 0) (e : ℕ) (es : List ℕ) → P e → ((i : ℕ) → Contains es i → P i) → (i : ℕ)
        → Contains (e ∷ es) i → P i
    first_or_later P e es here later i at = ⊎_elim (λ same. subst P (sym same) here) (later i) (contains_cases e es i at)

    within : (front back ds : List Step) → ds ≡ front ++ back → (x : Step) → Contains front x → Contains ds x
    within front back ds is x has = rw is (Contains-append_left front back x has)

    later : (front back ds : List Step) → ds ≡ front ++ back → (x : Step) → Contains back x → Contains ds x
    later front back ds is x has = rw is (Contains-append_right front back x has)

    -- an operation of each of these edges was made
    pub each_made : (x : ℕ → Event) (es : List ℕ) (s : Part) (ds : List Step) (t : Part)
        → each_phase (λ e. one_step g v (x e)) es s ds t → (e : ℕ) → Contains es e
        → (seen : ℕ) × Contains ds (saw (x e) seen)
    each_made x [] s ds t ph e at = let a = at.1 in absurd (omega arith)
    each_made x (e ∷ es) s ds t (front, m, back, is, (seen, rest, now, last), more) j here = first_or_later
        (λ i. (n : ℕ) × Contains ds (saw (x i) n)) e es (
          seen,
          within front back ds is (saw (x e) seen)
              (within (saw (x e) seen ∷ []) rest front now (saw (x e) seen) (0, omega arith, refl)),
        )
        (λ i at. let found = each_made x es m back t more i at in
        (found.0, later front back ds is (saw (x i) found.0) found.1)) j here

    -- each edge out of the vertex was settled
    pub settles_all : (s : Part) (ds : List Step) (after : Part) → turn g v s ds after → v < g.game.graph.vertices
        → (e : ℕ) → tail_of g e ≡ v → (seen : ℕ) × Contains ds (saw (Settle e) seen)
    settles_all s ds after (f1, s1, r1, e1, p1, (f2, s2, r2, e2, p2, rest)) vertex e at =
        let found = each_made (λ i. Settle i) (outs_of g v) s1 f2 s2 p2 e (among_new_outs g v vertex e at) in
        (found.0, later f1 r1 ds e1 (saw (Settle e) found.0) (within f2 r2 r1 e2 (saw (Settle e) found.0) found.1))

    -- a choice of an operation that always counts
    not_chosen : (b : Bool) (x : Event) (s : Part) (ds : List Step) (t : Part)
        → either_phase b (one_step g v x) nothing s ds t → 0 < sure x → sure_in ds ≡ 0 → (b ≡ false) × (t ≡ s)
    not_chosen b x s ds t phase counts none = grind (arith, nat_tests)

    none_put : (es : List ℕ) (s : Part) (ds : List Step) (t : Part) → each_phase (putting g v) es s ds t
        → sure_in ds ≡ 0 → (t ≡ s) × ((e : ℕ) → Contains es e → is_some (s.out e).link.held ≡ false)
    none_put [] s ds t (empty, same) none = (same, λ e at. (let l = at.1 in absurd (omega arith)))
    none_put (e ∷ es) s ds t (front, m, back, is, first, rest) none =
        let both = sure_append front back in let all = ap sure_in is in
        let one = not_chosen (is_some (s.out e).link.held) (Put e) s front m first (omega arith) (omega arith) in
        let more = none_put es m back t rest (omega arith) in (
          cc,
          first_or_later (λ i. is_some (s.out i).link.held ≡ false) e es one.0
              (λ i at. rw (← one.1) (more.1 i at)),
        )

    -- the cell of an edge with something to send was read, and was not empty
    abbrev Looked : Part → List Step → ℕ → Type 0
    Looked s ds e = ((s.out e).pending ≡ 0) ⊎ ((seen : ℕ) × (seen ≢ 0) × Contains ds (saw (Clear e) seen))

    claim_counts : (e : ℕ) (s : Part) (ds : List Step) (t : Part) → seeing g v (Claim e) (after_claim_phase g v e) s ds t
        → 0 < sure_in ds
    claim_counts e s ds t phase = grind (arith, nat_tests)

    one_sent : (e : ℕ) (s : Part) (ds : List Step) (t : Part) → sending g v e s ds t → sure_in ds ≡ 0
        → is_running s.halt ≡ true
        → Looked s ds e × (t.halt ≡ s.halt) × ((i : ℕ) → (t.out i).pending ≡ (s.out i).pending)
    one_sent e s ds t ph none runs = by_test (is_running s.halt && not (eqb (s.out e).pending 0))
        (λ on. let made = rw on at ph in looked (eqb made.0 0) made.0 made.1 made.2 refl made.3)
        (λ off. let gone = rw off at ph in (
          inl (grind (arith, nat_tests)),
          cc,
          λ i. cc,
        ))
      where
        looked : (b : Bool) (seen : ℕ) (rest : List Step) → ds ≡ saw (Clear e) seen ∷ rest → eqb seen 0 ≡ b
            → either_phase b (seeing g v (Claim e) (after_claim_phase g v e)) nothing (does g (saw (Clear e) seen) s) rest t
            → Looked s ds e × (t.halt ≡ s.halt) × ((i : ℕ) → (t.out i).pending ≡ (s.out i).pending)
        looked true seen rest is empty last =
            let a = ap sure_in is in let b = claim_counts e (does g (saw (Clear e) seen) s) rest t last in
            absurd (omega arith)
        looked false seen rest is full (gone, same) = (
          inr (seen, eqb-false seen 0 full, rw is (0, omega arith, refl)),
          cc,
          λ i. rw same refl,
        )

    all_sent : (es : List ℕ) (s : Part) (ds : List Step) (t : Part) → each_phase (sending g v) es s ds t → sure_in ds ≡ 0
        → is_running s.halt ≡ true → (e : ℕ) → Contains es e → Looked s ds e
    all_sent [] s ds t ph none runs e at = let l = at.1 in absurd (omega arith)
    all_sent (e ∷ es) s ds t (front, m, back, is, first, rest) none runs j here =
        let both = sure_append front back in let all = ap sure_in is in
        let one = one_sent e s front m first (omega arith) runs in
        let more = all_sent es m back t rest (omega arith) (cc) in
        first_or_later (Looked s ds) e es
        (⊎_elim (λ z. inl z) (λ z. inr (z.0, z.1, within front back ds is (saw (Clear e) z.0) z.2)) one.0)
        (λ i at. ⊎_elim (λ z. inl (let a = one.2 i in cc))
        (λ z. inr (z.0, z.1, later front back ds is (saw (Clear i) z.0) z.2)) (more i at)) j here

    -- ---- the whole turn

    -- the first of two phases
    passed : (p : Phase) → Makes p → (s : Part) (front : List Step) (m : Part) (back ds : List Step) → ds ≡ front ++ back
        → p s front m → work_of g s ds ≡ 0 → (work_of g m back ≡ 0) × (bare m ≡ bare s)
    passed p first s front m back ds is here none =
        let mine = first s front m here in let all = work-append front back s in
        let idle : work_of g s front ≡ 0 = grind (arith, nat_tests) in let same = idle_part front s idle in
        (grind (arith, nat_tests), cc)

    -- what follows from a turn of which no step counts: what it tried, and that the vertex has nothing to do
    pub record Rested (ds : List Step) (after : Part) : Type 0 where
      pub takes : (e : ℕ) → Contains (ins_of g v) e → (seen : ℕ) × Contains ds (saw (Take e) seen)
      pub settles : (e : ℕ) → Contains (outs_of g v) e → (seen : ℕ) × Contains ds (saw (Settle e) seen)
      pub fires : may_fire g v after ≡ false
      pub puts : (e : ℕ) → Contains (outs_of g v) e → is_some (after.out e).link.held ≡ false
      pub sends : is_running after.halt ≡ true → (e : ℕ) → Contains (outs_of g v) e → Looked after ds e
      pub limit : is_at_limit g v after ≡ false

    sends_of : (s : Part) (ds : List Step) (t : Part) → sending_all g v s ds t → sure_in ds ≡ 0 → is_running s.halt ≡ true
        → (e : ℕ) → Contains (outs_of g v) e → Looked s ds e
    sends_of s ds t ph none runs e at =
        let either = rw runs at ph in
        by_test (eqb (refusals g v s) 0)
        (λ open'. all_sent (outs_of g v) s ds t (rw open' at either) none runs e at)
        (λ refused. let halt = rw refused at either in absurd (let is = halt.2 in grind (arith, nat_tests)))

    pub rested : (s : Part) (ds : List Step) (after : Part) → turn g v s ds after → work_of g s ds ≡ 0 → Rested ds after
    rested s ds after (
      f1,
      s1,
      r1,
      e1,
      p1,
      (
        f2,
        s2,
        r2,
        e2,
        p2,
        (f3, s3, r3, e3, p3, (f4, s4, r4, e4, p4, (f5, s5, r5, e5, p5, (f6, s6, r6, e6, p6, p7)))),
      ),
    ) none =
        let sure = sure_below ds s in
        let a1 = sure_parts f1 r1 ds e1 in let a2 = sure_parts f2 r2 r1 e2 in let a3 = sure_parts f3 r3 r2 e3 in
        let a4 = sure_parts f4 r4 r3 e4 in let a5 = sure_parts f5 r5 r4 e5 in let a6 = sure_parts f6 r6 r5 e6 in
        let b1 = passed _ (of_takes g v Makes makes 0) s f1 s1 r1 ds e1 p1 none in
        let b2 = passed _ (of_settles g v Makes makes 0) s1 f2 s2 r2 r1 e2 p2 b1.0 in
        let b3 = passed _ (of_firing g v Makes makes) s2 f3 s3 r3 r2 e3 p3 b2.0 in
        let b4 = passed _ (of_puts g v Makes makes 0) s3 f4 s4 r4 r3 e4 p4 b3.0 in
        let b5 = passed _ (of_sending_all g v Makes makes) s4 f5 s5 r5 r4 e5 p5 b4.0 in
        let b6 = passed _ (of_limit g v Makes makes) s5 f6 s6 r6 r5 e6 p6 b5.0 in
        let at6 : bare after ≡ bare s6 =
        (let a = of_acks g v Makes makes 0 s6 r6 after p7 in let b = idle_part r6 s6 b6.0 in cc) in
        let deep : (x : Step) → Contains f5 x → Contains ds x = (λ x has. later f1 r1 ds e1 x (later f2 r2 r1 e2 x
        (later f3 r3 r2 e3 x (later f4 r4 r3 e4 x (within f5 r5 r4 e5 x has))))) in
        let at5 = at6 ∙ b6.1 in let at4 = at5 ∙ b5.1 in let at3 = at4 ∙ b4.1 in let at2 = at3 ∙ b3.1 in
        record {
          takes = λ e at. (let found = each_made (λ i. Take i) (ins_of g v) s f1 s1 p1 e at in
              (found.0, within f1 r1 ds e1 (saw (Take e) found.0) found.1));
          settles = λ e at. (let found = each_made (λ i. Settle i) (outs_of g v) s1 f2 s2 p2 e at in
              (found.0, later f1 r1 ds e1 (saw (Settle e) found.0) (within f2 r2 r1 e2 (saw (Settle e) found.0) found.1)));
          fires = ap (may_fire g v) at2
              ∙ (not_chosen (may_fire g v s2) (Fire v (batch_of g v s2)) s2 f3 s3 p3 (omega arith) (omega arith)).0;
          puts = λ e at. ap (λ (p : Part). is_some (p.out e).link.held) at3
              ∙ (none_put (outs_of g v) s3 f4 s4 p4 (omega arith)).1 e at;
          sends = λ runs e at. ⊎_elim (λ z. inl (ap (λ (p : Part). (p.out e).pending) at4 ∙ z))
              (λ z. inr (z.0, z.1, deep (saw (Clear e) z.0) z.2))
              (sends_of s4 f5 s5 p5 (omega arith) (sym (ap (λ (p : Part). is_running p.halt) at4) ∙ runs) e at);
          limit = ap (is_at_limit g v) at5
              ∙ (not_chosen (is_at_limit g v s5) (Halt v) s5 f6 s6 p6 (omega arith) (omega arith)).0;
        }

module _ (g : Setting) where
  -- ---- the steps of one vertex

  work_own : (v : ℕ) (mid base : Log)
      → work_of g (part_in g base v) (done_by g v mid) + work_in g base ≤ work_in g (mid ++ base)
  work_own v [] base = omega arith
  work_own v (x ∷ mid) base =
      let c = work_own v mid base in
      let a = work-append g (done_by g v mid) (x ∷ []) (part_in g base v) in
      by_test (eqb (part_of g x.event) v)
      (λ on.
      let b = part_own g v mid base in let d = eqb-true (part_of g x.event) v on in grind (arith, nat_tests))
      (λ off. grind (arith, nat_tests))

  pub own_in : (v : ℕ) (mid : Log) (x : Step) → Contains (done_by g v mid) x → Contains mid x
  own_in v [] x has = let a = has.1 in absurd (omega arith)
  own_in v (y ∷ mid) x has = by_test (eqb (part_of g y.event) v)
      (λ on. ⊎_elim (λ m. Contains-append_right (y ∷ []) mid x (own_in v mid x m)) (λ is. (0, omega arith, is))
      (Contains-push_cases (done_by g v mid) y x (rw on at has)))
      (λ off. Contains-append_right (y ∷ []) mid x (own_in v mid x (rw off at has)))

  -- ---- the moment of a step in a stretch in which nothing counts

  record Moment (after : Log) (x : Step) (log : Log) : Type 0 where
    legal : IsLegalLog g log
    saw_it : x.seen ≡ sees g log x.event
    idle : counts_here g log x ≡ false
    alike : Alike g log after

  moment : (xs before : Log) → IsLegalLog g (xs ++ before) → work_in g (xs ++ before) ≡ work_in g before → (x : Step)
      → Contains xs x → (m : Log) × Moment (xs ++ before) x m
  moment [] before legal none x has = let a = has.1 in absurd (omega arith)
  moment (y ∷ ys) before legal none x has =
      let log : Log = ys ++ before in
      let a = work_grows g ys before in
      let uncounted = one_more g (counts_here g log y) (work_in g log) (work_in g before) none a in
      ⊎_elim
      (λ is. (
        log,
        rw is (record {
          legal = legal.0;
          saw_it = legal.1.1;
          idle = uncounted;
          alike = λ p. (let b = idle_alike g y log uncounted p in cc);
        }),
      ))
      (λ later. let found = moment ys before legal.0 (grind (arith, nat_tests)) x later in let m = found.1 in
      let alike : Alike g found.0 (y ∷ log) = λ p. m.alike p ∙ sym (idle_alike g y log uncounted p) in
      (found.0, search (rules, arith)))
      (contains_cases y ys x has)

  module _ (game : IsGame g.game) (some_ring : 0 < g.ring) (before xs : Log) (round : HasRound g before xs) (legal : IsLegalLog g (xs ++ before)) (none : work_in g (xs ++ before) ≡ work_in g before) (put : RootHasPut g (xs ++ before)) where
    abbrev after : Log
    after = xs ++ before

    -- what was made could not have counted
    not_made : (x : Event) (seen : ℕ) → Contains xs (saw x seen)
        → ((m : Log) → IsLegalLog g m → Alike g m after → Works g m x) → ⊥
    not_made x seen has works =
        let m = moment xs before legal none (saw x seen) has in
        let on = (works m.0 m.1.legal m.1.alike).1 in
        true≢false (cc)

    module _ (v : ℕ) (vertex : v < g.game.graph.vertices) where
      abbrev its : HasTurn g v before xs
      its = round.turns v vertex

      abbrev base : Log
      base = its.early ++ before

      abbrev s : Part
      s = part_in g base v

      abbrev ds : List Step
      ds = done_by g v its.middle

      all_is : after ≡ its.late ++ (its.middle ++ base)
      all_is = in_pieces its.early its.middle its.late xs before its.all_are

      idle : (work_of g s ds ≡ 0) × (work_in g (its.late ++ (its.middle ++ base)) ≡ work_in g (its.middle ++ base))
      idle =
          let a = work_grows g its.early before in let b = work_own v its.middle base in
          let c = work_grows g its.late (its.middle ++ base) in let d = ap (work_in g) all_is in
          let d' : work_in g after ≡ work_in g before = none in
          (omega arith, omega arith)

      -- the part after the turn has not changed since
      same : bare its.are_turn.0 ≡ bare (part_in g after v)
      same = rw (makes_turn g v s ds its.are_turn.0 its.are_turn.1 ∙ sym (part_own g v its.middle base)) (rw all_is
          (sym (idle_stretch g its.late (its.middle ++ base) idle.1 v)))

      rest : Rested g v ds its.are_turn.0
      rest = rested g v s ds its.are_turn.0 its.are_turn.1 idle.0

      its_step : (x : Step) → Contains ds x → Contains xs x
      its_step x has = rw its.all_are (Contains-append_right its.late (its.middle ++ its.early) x
          (Contains-append_left its.middle its.early x (own_in v its.middle x has)))

      none_left : (e : ℕ) → e < all_edges g → head_of g e ≡ v → may_ack_on g v (part_in g after v) e ≡ 0
      none_left e l at = sym (ap (λ (p : Part). may_ack_on g v p e) same)
          ∙ nothing_left g v s ds its.are_turn.0 its.are_turn.1 e at

    all_put : (e : ℕ) → e < all_edges g → (out_in g after e).link.held ≡ None
    all_put e l = dite (dec_lt e (graph_edges g))
        (λ own. let v : ℕ = tail_of g e in let vertex = tail_inside g game e own in
        is_none_of (out_in g after e).link.held (sym (ap (λ (p : Part). is_some (p.out e).link.held) (same v vertex))
        ∙ (rest v vertex).puts e (among_new_outs g v vertex e refl)))
        (λ past. put e (omega arith) l)

    pub take_made : (e : ℕ) → e < all_edges g → (seen : ℕ) × Contains xs (saw (Take e) seen)
    take_made e l =
        let v : ℕ = head_of g e in let vertex = head_inside g game e l in
        let found = (rest v vertex).takes e (among_new_ins g v vertex e refl) in
        (found.0, its_step v vertex (saw (Take e) found.0) found.1)

    pub settle_made : (e : ℕ) → e < all_edges g → (seen : ℕ) × Contains xs (saw (Settle e) seen)
    settle_made e l = dite (dec_lt e (graph_edges g))
        (λ own. let v : ℕ = tail_of g e in let vertex = tail_inside g game e own in
        let found = (rest v vertex).settles e (among_new_outs g v vertex e refl) in
        (found.0, its_step v vertex (saw (Settle e) found.0) found.1))
        (λ past. let found = round.settles e (omega arith) l in
        (found.0.seen, rw (← found.2) found.1))

    quiet : Quiet g after
    quiet = record {
      taken = λ e l. (let found = take_made e l in
          dite (dec_lt (length (into_in g after e).got) (length (out_in g after e).link.put))
          (λ more. absurd (not_made (Take e) found.0 found.1 (λ m ok alike.
          let a = alike (head_of g e) in
          let b = ap (λ (p : Part). length (p.out e).link.put) (alike (tail_of g e)) in
          take_works g game some_ring m ok e l (grind (arith, nat_tests)))))
          (λ all. let c = (edge_counts g game some_ring after legal e).2 in omega arith));
      put = all_put;
      settled = λ e l. (let found = settle_made e l in
          dite (dec_lt (out_in g after e).settled (into_in g after e).acked)
          (λ more. absurd (not_made (Settle e) found.0 found.1 (λ m ok alike.
          let a = ap (λ (p : Part). (p.into e).acked) (alike (head_of g e)) in
          let b = ap (λ (p : Part). (p.out e).settled) (alike (tail_of g e)) in
          settle_works g game some_ring m ok e l (omega arith))))
          (λ all. omega arith));
      acked = λ e l. none_left (head_of g e) (head_inside g game e l) e l refl;
      fired = λ v vertex runs idle. (
          let unput = none_unput g game some_ring after legal all_put v in
          let kept = (Rattle.chip_core.proofs.LogLemmas.part_kept g game after legal v).within in
          let no_fire = sym (ap (may_fire g v) (same v vertex)) ∙ (rest v vertex).fires in
          let no_limit = sym (ap (is_at_limit g v) (same v vertex)) ∙ (rest v vertex).limit in
          grind (arith, nat_tests));
      sent = λ e l runs room. (let v : ℕ = tail_of g e in let vertex = tail_inside g game e l in
          ⊎_elim (λ idle. sym (ap (λ (p : Part). (p.out e).pending) (same v vertex)) ∙ idle)
          (λ looked.
          let m = moment xs before legal none (saw (Clear e) looked.0)
          (its_step v vertex (saw (Clear e) looked.0) looked.2) in
          let claims = ap (λ (p : Part). claims_of (p.out e).link) (m.1.alike (tail_of g e)) in
          let got = ap (λ (p : Part). length (p.into e).got) (m.1.alike (head_of g e)) in
          absurd (looked.1 (m.1.saw_it ∙ look_finds g game some_ring m.0 m.1.legal e
          (λ full. room (sym claims ∙ full ∙ ap (λ (n : ℕ). n + g.ring) got)))))
          ((rest v vertex).sends (ap (λ (p : Part). is_running p.halt) (same v vertex) ∙ ap is_running runs) e
          (among_new_outs g v vertex e refl)));
    }

    pub round_closes : HasEnd g after → IsClosed g after
    round_closes end = quiet_closes g game some_ring after legal quiet end
