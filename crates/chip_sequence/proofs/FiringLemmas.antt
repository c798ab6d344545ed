-- Serves Sequence.antt, Counted.antt, Firing.antt.
-- Firings and firing sequences: counts, configurations by counts, several firings of one vertex, the diamond.
use Rattle.chip_sequence.proofs.Names.{◌≡◌, ◌≢◌, ℕ, zero, suc, ◌+◌, ◌-◌, ◌*◌, ◌<◌, ◌≤◌, cond, eqb, List, [], ◌∷◌, ◌++◌}
use Rattle.chip_sequence.proofs.Names.{replicate, refl, sym, ap, ◌∙◌, arith, mul-le-mul_left, Bool, rules, dite}
use Rattle.chip_sequence.proofs.Names.{ℕ_discrete, Multigraph, edge_at, sum_in, degree, cond_yes, tested_ext}
use Rattle.chip_sequence.proofs.Names.{tested_add, tested_scale, tested_le, IsLegal, fired_once, position_after}
use Rattle.chip_sequence.proofs.Names.{IsFiringSequence, counts, inflow, position_by_counts, IsBelowZero, nat_tests}
use Rattle.chip_graph.proofs.SumLemmas.{cond_no, tested_none}

-- ---- counts

-- the first vertex of a list counts once more
pub counts_here : (v u : ℕ) (vs : List ℕ) → v ≡ u → counts (v ∷ vs) u ≡ counts vs u + 1
counts_here v u vs e = cond_yes v u (counts vs u + 1) (counts vs u) e

-- the others do not
pub counts_else : (v u : ℕ) (vs : List ℕ) → v ≢ u → counts (v ∷ vs) u ≡ counts vs u
counts_else v u vs ne = cond_no v u (counts vs u + 1) (counts vs u) ne

-- both in one
pub counts_more : (v u : ℕ) (vs : List ℕ) → counts (v ∷ vs) u ≡ counts vs u + cond (eqb v u) 1 0
counts_more v u vs = grind (arith, nat_tests)

-- counts of a list in two parts
pub counts-append : (vs ws : List ℕ) (u : ℕ) → counts (vs ++ ws) u ≡ counts vs u + counts ws u
counts-append [] ws u = omega arith
counts-append (v ∷ vs) ws u = let rest = counts-append vs ws u in grind (arith, nat_tests)

-- counts of one vertex, k times
pub counts-replicate : (k v u : ℕ) → counts (replicate k v) u ≡ cond (eqb v u) k 0
counts-replicate zero v u = grind (arith, nat_tests)
counts-replicate (suc k) v u = grind (arith, nat_tests, counts_more v u (replicate k v), counts-replicate k v u)

module _ (G : Multigraph) where
  -- ---- what flows in

  -- what one firing of v brings to u
  unfoldable pub brings : ℕ → ℕ → ℕ
  brings v u = sum_in G u (λ e. cond (eqb (edge_at G e).tail v) (edge_at G e).mult 0)

  -- nothing flows in where nothing fired
  pub inflow_none : (f : ℕ → ℕ) → ((v : ℕ) → f v ≡ 0) → (u : ℕ) → inflow G f u ≡ 0
  inflow_none f none u = tested_none _ (λ e. eqb (edge_at G e).head u) _ (λ e l on. grind (arith, none))

  -- more firings, more inflow
  pub inflow_le : (f h : ℕ → ℕ) → ((w : ℕ) → f w ≤ h w) → (u : ℕ) → inflow G f u ≤ inflow G h u
  inflow_le f h p u = tested_le _ _ _ _ (λ e l on. mul-le-mul_left (edge_at G e).mult (p (edge_at G e).tail))

  -- equal counts, equal inflow
  pub inflow_ext : (f h : ℕ → ℕ) → ((w : ℕ) → f w ≡ h w) → (u : ℕ) → inflow G f u ≡ inflow G h u
  inflow_ext f h p u = ap (λ (k : ℕ → ℕ). inflow G k u) (λ i w. p w i)

  -- k more firings of v bring k times what one does
  pub inflow_more : (f h : ℕ → ℕ) (v k : ℕ) → h v ≡ f v + k → ((w : ℕ) → w ≢ v → h w ≡ f w) → (u : ℕ)
      → inflow G h u ≡ inflow G f u + brings v u * k
  unfolding brings
  inflow_more f h v k here else' u =
      let into : ℕ → Bool = λ e. eqb (edge_at G e).head u in
      let sent : ℕ → ℕ = λ e. cond (eqb (edge_at G e).tail v) (edge_at G e).mult 0 in
      let was : ℕ → ℕ = λ e. (edge_at G e).mult * f (edge_at G e).tail in
      let more : (w : ℕ) → h w ≡ f w + cond (eqb w v) k 0 = (λ w. let other = else' w in grind (arith, nat_tests)) in
      tested_ext _ into _ (λ e. was e + sent e * k)
      (λ e l on. let times = ap (λ (n : ℕ). (edge_at G e).mult * n) (more (edge_at G e).tail) in
      grind (arith, nat_tests))
      ∙ tested_add _ into was (λ e. sent e * k) ∙ ap (λ (n : ℕ). inflow G f u + n) (tested_scale _ into k sent)

  -- ---- one firing

  pub fired_here : (v : ℕ) (x : ℕ → ℕ) → fired_once G v x v ≡ (x v - degree G v) + brings v v
  unfolding brings
  fired_here v x = ap (λ (z : ℕ). z + brings v v) (cond_yes v v (x v - degree G v) (x v) refl)

  pub fired_else : (v u : ℕ) (x : ℕ → ℕ) → u ≢ v → fired_once G v x u ≡ x u + brings v u
  unfolding brings
  fired_else v u x ne = ap (λ (z : ℕ). z + brings v u) (cond_no u v (x u - degree G v) (x u) ne)

  -- both in one
  pub fired_is : (v u : ℕ) (x : ℕ → ℕ) → degree G v ≤ x v
      → fired_once G v x u + degree G u * cond (eqb v u) 1 0 ≡ x u + brings v u
  unfolding brings
  fired_is v u x can = let same = λ (e : u ≡ v). ap (degree G) e in grind (arith, nat_tests)

  -- the counts f lead from the configuration x to the configuration y
  abbrev pub IsLedTo : (x f y : ℕ → ℕ) → Type 0
  IsLedTo x f y = (u : ℕ) → y u + degree G u * f u ≡ x u + inflow G f u

  -- counts lead to only one configuration
  pub led_once : (x f h y z : ℕ → ℕ) → IsLedTo x f y → IsLedTo x h z → ((u : ℕ) → f u ≡ h u) → (u : ℕ) → y u ≡ z u
  led_once x f h y z to to' same u =
      let a = to u in let b = to' u in let c = inflow_ext f h same u in
      omega (arith, ap (λ (n : ℕ). degree G u * n) (same u))

  -- one more firing leads on to the configuration after it
  pub led_on : (x f y : ℕ → ℕ) (v : ℕ) → IsLedTo x f y → degree G v ≤ y v
      → IsLedTo x (λ w. f w + cond (eqb v w) 1 0) (fired_once G v y)
  led_on x f y v to can u =
      let a = to u in
      let b = inflow_more f (λ w. f w + cond (eqb v w) 1 0) v 1 (grind (arith, nat_tests))
      (λ w ne. grind (arith, nat_tests)) u in
      omega (arith, fired_is v u y can)

  -- ---- sequences

  -- a sequence leads by its counts to the configuration after it
  pub position_is : (vs : List ℕ) (x : ℕ → ℕ) → IsFiringSequence G x vs → IsLedTo x (counts vs) (position_after G x vs)
  position_is [] x ok u = omega (arith, inflow_none (counts []) (λ v. refl) u)
  position_is (v ∷ vs) x ok u =
      let a = position_is vs (fired_once G v x) ok.1 u in
      let b = inflow_more (counts vs) (counts (v ∷ vs)) v 1 (counts_here v v vs refl)
      (λ w ne. counts_else v w vs (λ z. ne (sym z))) u in
      let c = fired_is v u x ok.0.enough_chips in rw (counts_more v u vs) (omega arith)

  -- equal counts, equal configurations
  pub same_position : (x : ℕ → ℕ) (vs ws : List ℕ) → IsFiringSequence G x vs → IsFiringSequence G x ws
      → ((u : ℕ) → counts vs u ≡ counts ws u) → (u : ℕ) → position_after G x vs u ≡ position_after G x ws u
  same_position x vs ws ok ok' same =
      led_once x (counts vs) (counts ws) (position_after G x vs) (position_after G x ws) (position_is vs x ok)
      (position_is ws x ok') same

  -- the configuration after a list in two parts
  pub position-append : (vs ws : List ℕ) (x : ℕ → ℕ)
      → position_after G x (vs ++ ws) ≡ position_after G (position_after G x vs) ws
  position-append [] ws x = refl
  position-append (v ∷ vs) ws x = position-append vs ws (fired_once G v x)

  -- a sequence and one from its end are a sequence
  pub sequence-append : (vs ws : List ℕ) (x : ℕ → ℕ) → IsFiringSequence G x vs
      → IsFiringSequence G (position_after G x vs) ws → IsFiringSequence G x (vs ++ ws)
  sequence-append [] ws x ok ok' = ok'
  sequence-append (v ∷ vs) ws x ok ok' = (ok.0, sequence-append vs ws (fired_once G v x) ok.1 ok')

  -- only vertices fire
  pub counts_outside : (vs : List ℕ) (x : ℕ → ℕ) (u : ℕ) → IsFiringSequence G x vs → G.vertices ≤ u → counts vs u ≡ 0
  counts_outside [] x u ok l = refl
  counts_outside (v ∷ vs) x u ok l = let rest = counts_outside vs (fired_once G v x) u ok.1 l in
      let inside = ok.0.is_vertex in grind (arith, nat_tests)

  -- the sink never fires
  pub sink_never : (vs : List ℕ) (x : ℕ → ℕ) → IsFiringSequence G x vs → counts vs G.sink ≡ 0
  sink_never [] x ok = refl
  sink_never (v ∷ vs) x ok = counts_else v G.sink vs ok.0.not_sink ∙ sink_never vs (fired_once G v x) ok.1

  -- ---- the same vertex several times

  -- a vertex with the chips for k firings may fire k times in a row
  pub batch : (v k : ℕ) (x : ℕ → ℕ) → v < G.vertices → v ≢ G.sink → k * degree G v ≤ x v
      → IsFiringSequence G x (replicate k v)
  batch v zero x l ns can = tt
  batch v (suc k) x l ns can =
      let b = fired_here v x in let can' : degree G v ≤ x v = omega arith in
      (search rules, batch v k (fired_once G v x) l ns (omega arith))

  -- what it leaves
  pub batch_position : (v k : ℕ) (x : ℕ → ℕ) → v < G.vertices → v ≢ G.sink → k * degree G v ≤ x v → (u : ℕ)
      → position_after G x (replicate k v) u ≡ cond (eqb u v) (x u - k * degree G v) (x u) + brings v u * k
  batch_position v k x l ns can u =
      let a = rw (counts-replicate k v u) at (position_is (replicate k v) x (batch v k x l ns can) u) in
      let none = inflow_none (λ w. 0) (λ w. refl) u in
      let b = inflow_more (λ w. 0) (counts (replicate k v)) v k
      (let here = counts-replicate k v v in grind (arith, nat_tests))
      (λ w ne. let there = counts-replicate k v w in grind (arith, nat_tests)) u in
      dite (ℕ_discrete u v)
      (λ same. let times : degree G u * cond (eqb v u) k 0 ≡ degree G v * k = rw (cond_yes v u k 0 (sym same), same) in
      let enough : k * degree G v ≤ x u = rw same can in
      omega (arith, cond_yes u v (x u - k * degree G v) (x u) same))
      (λ other. let free : degree G u * cond (eqb v u) k 0 ≡ degree G u * 0 =
      rw (cond_no v u k 0 (λ e. other (sym e))) in
      omega (arith, cond_no u v (x u - k * degree G v) (x u) other))

  -- ---- the diamond

  -- other vertices only gain
  gains : (v u : ℕ) (x : ℕ → ℕ) → u ≢ v → x u ≤ fired_once G v x u
  gains v u x ne = let a = fired_else v u x ne in omega arith

  pub diamond : (x : ℕ → ℕ) (u v : ℕ) → u ≢ v → IsLegal G x u → IsLegal G x v → IsLegal G (fired_once G u x) v
      × IsLegal G (fired_once G v x) u
      × ((w : ℕ) → fired_once G v (fired_once G u x) w ≡ fired_once G u (fired_once G v x) w)
  diamond x u v ne can can' =
      let after_u : IsLegal G (fired_once G u x) v =
      (let more = gains u v x (λ z. ne (sym z)) in search (rules, arith)) in
      let after_v : IsLegal G (fired_once G v x) u = (let more = gains v u x ne in search (rules, arith)) in (
        after_u,
        after_v,
        same_position x (u ∷ v ∷ []) (v ∷ u ∷ []) (can, (after_u, tt)) (can', (after_v, tt))
            (λ w. grind (arith, nat_tests)),
      )

  -- ---- chips added to a configuration

  pub more_chips : (x y : ℕ → ℕ) → ((u : ℕ) → x u ≤ y u) → (vs : List ℕ) → IsFiringSequence G x vs
      → IsFiringSequence G y vs
  more_chips x y more [] ok = tt
  more_chips x y more (v ∷ vs) ok = let can = ok.0 in let here = more v in (
    search (rules, arith),
    more_chips (fired_once G v x) (fired_once G v y) (λ u. let there = more u in grind (arith, nat_tests)) vs ok.1,
  )

-- the configuration after a sequence is that by its counts
pub position_by_counts_law : (G : Multigraph) (x : ℕ → ℕ) (vs : List ℕ) → IsFiringSequence G x vs → (u : ℕ)
    → (IsBelowZero G x (counts vs) u → ⊥) × (position_after G x vs u ≡ position_by_counts G x (counts vs) u)
position_by_counts_law G x vs ok u = let a = position_is G vs x ok u in ((λ low. absurd (omega arith)), omega arith)
