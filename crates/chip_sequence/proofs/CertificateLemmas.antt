-- Serves Certificate.antt, Sequence.antt, Firing.antt.
-- Counts that are forced by a certificate, on the way, or by a sequence that could be played last.
use Rattle.chip_sequence.proofs.Names.{◌≡◌, ℕ, zero, suc, ◌+◌, ◌-◌, ◌*◌, ◌<◌, ◌≤◌, eqb, List, [], ◌∷◌, length}
use Rattle.chip_sequence.proofs.Names.{slice_index, refl, ap, ◌∙◌, arith, eq-eqb, mul-le-mul_right, cond, Bool}
use Rattle.chip_sequence.proofs.Names.{mul-le-mul_left, rules, dite, ℕ_discrete, dec_lt, sum_below, Multigraph, edge_at}
use Rattle.chip_sequence.proofs.Names.{degree, IsWalk, IsGraph, ChipGame, IsGame, tested_ext, tested_add, tested_term}
use Rattle.chip_sequence.proofs.Names.{tested_scale, IsLegal, fired_once, position_after, IsFiringSequence, counts}
use Rattle.chip_sequence.proofs.Names.{IsWholePlay, HasEndedWithin, inflow, IsAfter, AreForced, nat_tests}
use Rattle.std.proofs.Common.{mul-zero, mul_comm}
use Rattle.std.proofs.lemmas.List.{get_or_past}
use Rattle.chip_graph.proofs.SumLemmas.{sum_below_le, sum_below_none}
use Rattle.chip_sequence.specs.Certificate.{IsEarned, IsCertified, IsOnTheWay, IsScript}
use Rattle.chip_sequence.proofs.FiringLemmas.{inflow_le, inflow_none, IsLedTo, led_once, position_is, counts_here}
use Rattle.chip_sequence.proofs.FiringLemmas.{counts_more, led_on}
use Rattle.chip_sequence.proofs.EndLemmas.{least_from, least}
use Rattle.chip_sequence.proofs.BoundLemmas.{flows_through}

-- ---- sums

-- where no term is above the other's, and the sum is not below, the terms are equal
sum_below_tight : (n : ℕ) (f h : ℕ → ℕ) → ((e : ℕ) → e < n → f e ≤ h e) → sum_below n h ≤ sum_below n f → (e : ℕ)
    → e < n → h e ≤ f e
sum_below_tight zero f h p s e l = absurd (omega arith)
sum_below_tight (suc n) f h p s e l =
    let a = sum_below_le n f h (λ i m. p i (omega arith)) in
    let b = p n (omega arith) in
    dite (ℕ_discrete e n) (λ same. rw same (omega arith))
    (λ other. sum_below_tight n f h (λ i m. p i (omega arith)) (omega arith) e (omega arith))

-- a product with a factor 0 brings nothing
nothing_times : (d w : ℕ) → w ≡ 0 → d * w ≡ 0
nothing_times d w e = ap (λ (n : ℕ). d * n) e ∙ mul-zero d

module _ (G : Multigraph) where
  -- the inflow by two counts together
  pub inflow_add : (f h : ℕ → ℕ) (u : ℕ) → inflow G (λ z. f z + h z) u ≡ inflow G f u + inflow G h u
  inflow_add f h u =
      let into : ℕ → Bool = λ e. eqb (edge_at G e).head u in
      tested_ext _ into _ (λ e. (edge_at G e).mult * f (edge_at G e).tail + (edge_at G e).mult * h (edge_at G e).tail)
      (λ e l on. omega arith) ∙ tested_add _ into _ _

  -- ---- a certificate

  module _ (good : IsGraph G) where
    -- counts by which no vertex sends more than it gets
    module _ (w : ℕ → ℕ) (gains : (v : ℕ) → v < G.vertices → degree G v * w v ≤ inflow G w v) where
      -- no vertex gains by them
      balanced : (v : ℕ) → v < G.vertices → inflow G w v ≤ degree G v * w v
      balanced = sum_below_tight G.vertices (λ v. degree G v * w v) (inflow G w) gains
          (let a = flows_through G good w in omega arith)

      -- the head of an edge fires where its tail does
      onward : (e : ℕ) → e < length G.edges → 0 < w (edge_at G e).tail → 0 < w (edge_at G e).head
      onward e l some = dite (dec_lt 0 (w (edge_at G e).head)) (λ m. m) (λ none.
          let edge = good.edges_fit e l in
          let a = balanced (edge_at G e).head edge.head_is_vertex in
          let b = nothing_times (degree G (edge_at G e).head) (w (edge_at G e).head) (omega arith) in
          let c = tested_term (length G.edges) (λ i. eqb (edge_at G i).head (edge_at G e).head)
          (λ i. (edge_at G i).mult * w (edge_at G i).tail) e l
          (eq-eqb (edge_at G e).head (edge_at G e).head refl) in
          absurd (omega (arith, mul-le-mul_right (w (edge_at G e).tail) edge.some_chips)))

      -- so the sink does, where a walk leads to it
      onward_to_sink : (es : List ℕ) (v : ℕ) → IsWalk G v es G.sink → 0 < w v → 0 < w G.sink
      onward_to_sink [] v is some = rw is at some
      onward_to_sink (e ∷ es) v way some = onward_to_sink es (edge_at G e).head way.2 (onward e way.0 (rw way.1 some))

    module _ (x : ℕ → ℕ) (limit : ℕ) (f g : ℕ → ℕ) (forced : AreForced G x limit f)
        (certified : IsCertified G x limit f g) where
      pub certified_counts : AreForced G x limit g
      certified_counts vs ok ended u = dite (dec_lt (counts vs u) (g u))
          (λ more.
          let short : ℕ → ℕ = λ v. g v - counts vs v in
          let way = good.all_reach u (earned u more).is_vertex in
          let at_sink = onward_to_sink short gains way.0 u way.1 (omega arith) in
          absurd ((earned G.sink (omega arith)).not_sink refl))
          (λ enough. omega arith)
        where
          earned : (v : ℕ) → counts vs v < g v → IsEarned G x limit g v
          earned v more = certified v (let a = forced vs ok ended v in omega arith)

          gains : (v : ℕ) → v < G.vertices → degree G v * (g v - counts vs v) ≤ inflow G (λ w. g w - counts vs w) v
          gains v l = dite (dec_lt (counts vs v) (g v))
              (λ more.
              let why = earned v more in
              let within = why.within in
              let not_legal : position_after G x vs v < degree G v =
              dite (dec_lt (position_after G x vs v) (degree G v)) (λ short. short)
              (λ enough. let other = why.not_sink in absurd (omega (arith, ended v (search (rules, arith))))) in
              let split : g v ≡ counts vs v + (g v - counts vs v) = omega arith in
              let come = inflow_le G g (λ w. counts vs w + (g w - counts vs w)) (λ w. omega arith) v in
              omega (
                arith,
                ap (λ (n : ℕ). degree G v * n) split,
                why.one_missing,
                position_is G vs x ok v,
                inflow_add (counts vs) (λ w. g w - counts vs w) v,
              ))
              (λ enough. let a = nothing_times (degree G v) (g v - counts vs v) (omega arith) in omega arith)

  -- ---- on the way

  module _ (x : ℕ → ℕ) (limit : ℕ) where
    -- counts on the way lead to their configuration
    pub led : (y f : ℕ → ℕ) → IsOnTheWay G x limit y f → IsLedTo G x f y
    led y f is u = let a = is.none_below u in let b = is.position u in omega arith

    -- forced counts that lead to a configuration are on the way
    pub on_the_way : (y f : ℕ → ℕ) → IsLedTo G x f y → AreForced G x limit f → IsOnTheWay G x limit y f
    on_the_way y f to forced = record {
      none_below = λ u low. absurd (omega (arith, to u));
      position = λ u. omega (arith, to u);
      forced = forced;
    }

    -- counts on the way stay so with equal chips and counts
    pub same_way : (y f y' f' : ℕ → ℕ) → IsOnTheWay G x limit y f → ((u : ℕ) → y' u ≡ y u) → ((u : ℕ) → f' u ≡ f u)
        → IsOnTheWay G x limit y' f'
    same_way y f y' f' is same same' =
        let here : y' ≡ y = (λ i u. same u i) in let here' : f' ≡ f = (λ i u. same' u i) in rw (here, here') is

    -- counts of 0 are forced
    pub none_forced : AreForced G x limit (λ v. 0)
    none_forced vs ok ended u = omega arith

    -- the start is on the way
    pub start_on_the_way : IsOnTheWay G x limit x (λ v. 0)
    start_on_the_way =
        on_the_way x (λ v. 0) (λ u. omega (arith, inflow_none G (λ v. 0) (λ v. refl) u)) none_forced

    module _ (y f : ℕ → ℕ) (is : IsOnTheWay G x limit y f) where
      pub playing_on : (vs : List ℕ) → IsFiringSequence G y vs → ((u : ℕ) → f u + counts vs u ≤ limit)
          → IsOnTheWay G x limit (position_after G y vs) (λ u. f u + counts vs u)
      playing_on vs ok within = on_the_way (position_after G y vs) (λ u. f u + counts vs u)
          (λ u. omega (arith, led y f is u, position_is G vs y ok u, inflow_add f (counts vs) u))
          (λ ws ws_ok ws_ended. least_from G x limit (counts ws) (position_after G x ws) (position_is G ws x ws_ok)
          ws_ended vs f y (led y f is) (is.forced ws ws_ok ws_ended) ok within)

      module _ (rests : (v : ℕ) → IsLegal G y v → f v ≡ limit) (vs : List ℕ) (play : IsWholePlay G x limit vs) where
        end_counts : (u : ℕ) → f u ≡ counts vs u
        end_counts u = omega (
          arith,
          is.forced vs play.sequence play.ended u,
          least G x limit f y (led y f is) rests vs play.sequence play.within u,
        )

        pub end_of_the_way : ((u : ℕ) → f u ≡ counts vs u) × ((u : ℕ) → y u ≡ position_after G x vs u)
        end_of_the_way = (
          end_counts,
          led_once G x f (counts vs) y (position_after G x vs) (led y f is)
              (position_is G vs x play.sequence) end_counts,
        )

-- ---- the check of a certificate

-- nothing flows into numbers that are no vertices
pub inflow_outside : (G : Multigraph) → IsGraph G → (f : ℕ → ℕ) (u : ℕ) → G.vertices ≤ u → inflow G f u ≡ 0
inflow_outside G good f u past = sum_below_none (length G.edges) _
    (λ e l. let inside = (good.edges_fit e l).head_is_vertex in grind (arith, nat_tests))

module _ (g : ChipGame) (ok : IsGame g) (fired : List ℕ) where
  -- the counts lead to the chips that they leave
  pub led_after : (chips : List ℕ) → length fired ≡ g.graph.vertices → IsAfter g fired chips
      → IsLedTo g.graph (slice_index g.start) (slice_index fired) (slice_index chips)
  led_after chips each after u = dite (dec_lt u g.graph.vertices)
      (λ l. let a = after.none_below u l in let b = after.by_counts u l in omega arith)
      (λ past. let none : slice_index fired u ≡ 0 = get_or_past fired u 0 (omega arith) in
      omega (
        arith,
        get_or_past chips u 0 (omega (arith, after.chips_each)),
        get_or_past g.start u 0 (omega (arith, ok.start_fits)),
        nothing_times (degree g.graph u) (slice_index fired u) none,
        inflow_outside g.graph ok.graph_fits (slice_index fired) u (omega arith),
      ))

module _ (G : Multigraph) where
  -- the inflow by counts m times as large
  inflow_times : (f : ℕ → ℕ) (m u : ℕ) → inflow G (λ z. m * f z) u ≡ m * inflow G f u
  inflow_times f m u =
      tested_ext _ _ _ (λ e. (edge_at G e).mult * f (edge_at G e).tail * m) (λ e l on. omega arith)
      ∙ tested_scale _ (λ e. eqb (edge_at G e).head u) m _ ∙ mul_comm (inflow G f u) m

  module _ (x : ℕ → ℕ) (limit : ℕ) (f g q : ℕ → ℕ) (bs : List ℕ) (script : IsScript G x limit f g q bs) (vs : List ℕ)
      (ok : IsFiringSequence G x vs) (ended : HasEndedWithin G x limit vs) where
    -- the counts are not passed by the next firing of the script
    not_passed : (k : ℕ) (c y : ℕ → ℕ) (w : ℕ) → IsLedTo G q c y
        → ((v : ℕ) → g v + c v ≤ counts vs v + (k + 1) * counts bs v) → IsLegal G y w → c w < counts bs w
        → g w + c w < counts vs w + (k + 1) * counts bs w
    not_passed k c y w to low can some = dite (dec_lt (g w + c w) (counts vs w + (k + 1) * counts bs w)) (λ l. l)
        (λ nl.
        let level : g w + c w ≡ counts vs w + (k + 1) * counts bs w = omega (arith, low w) in
        let fires : 0 < counts bs w = omega arith in
        let a = inflow_add G g c w in
        let b = inflow_le G (λ z. g z + c z) (λ z. counts vs z + (k + 1) * counts bs z) low w in
        let d = inflow_add G (counts vs) (λ z. (k + 1) * counts bs z) w in
        let e = inflow_times (counts bs) (k + 1) w in
        let enough : degree G w ≤ position_after G x vs w = omega (
          arith,
          ap (λ (n : ℕ). degree G w * n) level,
          mul-le-mul_left k (script.few_in w fires),
          to w,
          script.covered w fires,
          position_is G vs x ok w,
        ) in
        let full = ended w (record { is_vertex = can.is_vertex; not_sink = can.not_sink; enough_chips = enough }) in
        absurd (omega (arith, script.within w fires)))

    -- so on along the script: c of it has fired, and cs is left
    along : (k : ℕ) (cs : List ℕ) (c y : ℕ → ℕ) → IsLedTo G q c y → ((v : ℕ) → c v + counts cs v ≡ counts bs v)
        → ((v : ℕ) → g v + c v ≤ counts vs v + (k + 1) * counts bs v) → IsFiringSequence G y cs → (v : ℕ)
        → g v + counts bs v ≤ counts vs v + (k + 1) * counts bs v
    along k [] c y to rest low goes v = let a = rest v in let b = low v in omega arith
    along k (w ∷ cs) c y to rest low goes v =
        let h : ℕ → ℕ = λ z. c z + cond (eqb w z) 1 0 in
        let less = not_passed k c y w to low goes.0 (omega (arith, rest w, counts_here w w cs refl)) in
        let low' : (z : ℕ) → g z + h z ≤ counts vs z + (k + 1) * counts bs z =
        (λ z. grind (arith, nat_tests, low z, less)) in
        along k cs h (fired_once G w y) (led_on G q c y w to goes.0.enough_chips)
        (λ z. omega (arith, rest z, counts_more w z cs)) low' goes.1 v

    -- what is short by k scripts is short by none
    again : (k : ℕ) → ((v : ℕ) → g v ≤ counts vs v + k * counts bs v) → (v : ℕ) → g v ≤ counts vs v
    again zero low v = let a = low v in omega arith
    again (suc k) low v = again k
        (λ z. omega (
          arith,
          along k bs (λ i. 0) q (λ i. omega (arith, inflow_none G (λ j. 0) (λ j. refl) i))
              (λ i. omega arith) (λ i. omega (arith, low i)) script.sequence z,
        ))
        v

  pub script_counts : (x : ℕ → ℕ) (limit : ℕ) (f g q : ℕ → ℕ) (bs : List ℕ) → AreForced G x limit f
      → IsScript G x limit f g q bs → AreForced G x limit g
  script_counts x limit f g q bs forced script vs ok ended v = again x limit f g q bs script vs ok ended limit
      (λ z. dite (dec_lt (f z) (g z))
      (λ more.
      let some = script.all_fire z more in
      omega (arith, script.within z some, mul-le-mul_left limit some))
      (λ enough. omega (arith, forced vs ok ended z)))
      v
