-- Serves Recurrent.antt, Laws.antt.
-- The laws of recurrent configurations.
use Rattle.chip_group.proofs.Names.{◌≡◌, ◌↔◌, ℕ, zero, suc, ◌+◌, ◌-◌, ◌*◌, ◌<◌, ◌≤◌, cond, eqb, List, [], ◌∷◌}
use Rattle.chip_group.proofs.Names.{refl, sym, ap, ◌∙◌, arith, mul-add, add-mul, mul_assoc, mul-le-mul_right}
use Rattle.chip_group.proofs.Names.{nat_tests, dite, dec_lt, Multigraph, edge_at, degree, IsGraph, sum_below}
use Rattle.chip_group.proofs.Names.{tested_ext, tested_scale, sum_below_term, inflow, fired_once}
use Rattle.chip_group.proofs.Names.{position_after, counts, IsFiringSequence, HasEnded, IsLedTo, led_on, position_is}
use Rattle.chip_group.proofs.Names.{counts_more, inflow_le, inflow_none, inflow_add, some_degree}
use Rattle.chip_group.proofs.Names.{EachNonSink, AgreeOffSink, IsStable, FiresTo, StabilizesTo, IsRecurrent, most_stable}
use Rattle.chip_group.proofs.Names.{IsReachedFromMost, TakesAway, IsBurningScript, AreEquivalent, IsSuperstable}
use Rattle.chip_group.proofs.Names.{IsStableSum, IsIdentity, twice_most, IsSandpileGroup}
use Rattle.chip_group.proofs.FiresToLemmas.{stable_below, agree, then_fires, then_counts, from, with_more, by_counts}
use Rattle.chip_group.proofs.FiresToLemmas.{some_end, one_end, one_odometer, joins, inflow_same, fires_all}

module _ (G : Multigraph) where
  inflow_times : (f : ℕ → ℕ) (k u : ℕ) → inflow G (λ v. f v * k) u ≡ inflow G f u * k
  inflow_times f k u = tested_ext _ (λ e. eqb (edge_at G e).head u) _ _
      (λ e l on. sym (mul_assoc (edge_at G e).mult (f (edge_at G e).tail) k))
      ∙ tested_scale _ (λ e. eqb (edge_at G e).head u) k _

  -- ---- least action, where the end may be negative

  -- if these counts leave each vertex with less than its degree, no sequence fires a vertex more often
  module _ (x most : ℕ → ℕ)
      (low_end : EachNonSink G (λ v. x v + inflow G most v < degree G v * most v + degree G v)) where
    most_from : (vs : List ℕ) (f y : ℕ → ℕ) → IsLedTo G x f y → ((u : ℕ) → f u ≤ most u) → IsFiringSequence G y vs
        → (u : ℕ) → f u + counts vs u ≤ most u
    most_from [] f y to low ok u = let a = low u in omega arith
    most_from (v ∷ vs) f y to low ok u =
        let h : ℕ → ℕ = λ w. f w + cond (eqb v w) 1 0 in
        let can = ok.0 in
        let less : f v < most v =
        dite (dec_lt (f v) (most v))
        (λ l. l)
        (λ nl.
        let b = low v in
        let level : f v ≡ most v = omega arith in
        let c = ap (λ (n : ℕ). degree G v * n) level in
        let a = to v in
        let d = inflow_le G f most low v in
        let e = low_end v can.is_vertex can.not_sink in
        absurd (omega arith)) in
        let low' : (w : ℕ) → h w ≤ most w = (λ w. grind (arith, nat_tests, low w, less)) in
        let rest = most_from vs h (fired_once G v y) (led_on G x f y v to can.enough_chips) low' ok.1 u in
        omega (arith, counts_more v u vs)

    pub most_fired : {y : ℕ → ℕ} (way : FiresTo G x y) (u : ℕ) → counts way.firings u ≤ most u
    most_fired way u =
        let none = inflow_none G (λ z. 0) (λ z. refl) in
        omega (
          arith,
          most_from way.firings (λ w. 0) x (λ w. omega (arith, none w)) (λ w. omega arith) way.sequence u,
        )

  module _ (good : IsGraph G) where
    -- ---- enough chips stabilize to a recurrent configuration

    large_recurrent : {w c : ℕ → ℕ} → EachNonSink G (λ v. most_stable G v ≤ w v) → StabilizesTo G w c → IsRecurrent G c
    large_recurrent {w} {c} large way = record {
      stable = way.stable;
      reached = λ x.
          let end = some_end G good x in
          let p : ℕ → ℕ = end.0 in
          let y : ℕ → ℕ = λ v. w v - p v in
          let low = stable_below G end.1.stable in
          let full : AgreeOffSink G (λ v. p v + y v) w = (λ v l ns. omega (arith, large v l ns, low v l ns)) in
          (y, then_fires G (with_more G y end.1.fires_to) (from G way.fires_to full));
    }

    -- chips that some firings take away, at least any given number and each degree more
    some_script : (x : ℕ → ℕ)
        → (h : ℕ → ℕ) × (e : ℕ → ℕ) × TakesAway G h e × EachNonSink G (λ v. x v + degree G v ≤ e v)
    some_script x =
        let full : ℕ → ℕ = λ v. x v + (degree G v + degree G v) in
        let end = some_end G good full in
        let low = stable_below G end.1.stable in
        let counted = by_counts G end.1.fires_to in (
          counts end.1.fires_to.firings,
          (λ v. full v - end.0 v),
          (λ v l ns. omega (arith, low v l ns, counted v l ns)),
          λ v l ns. omega (arith, low v l ns),
        )

    -- ---- sums with recurrent configurations

    pub recurrent_sum : (c d e : ℕ → ℕ) → IsRecurrent G c → IsStableSum G c d e → IsRecurrent G e
    recurrent_sum c d e rec sum = record {
      stable = sum.stable;
      reached = λ x.
          let there = rec.reached x in
          let y : ℕ → ℕ = there.0 in
          let way = then_fires G (with_more G d there.1) sum.fires_to in
          ((λ v. y v + d v), from G way (λ v l ns. omega arith));
    }

    -- a recurrent configuration absorbs some chips, at least any given number
    absorbs : (c : ℕ → ℕ) → IsRecurrent G c → (x : ℕ → ℕ) → (e : ℕ → ℕ) × ((v : ℕ) → x v ≤ e v) × IsStableSum G c e c
    absorbs c rec x =
        let there = rec.reached (λ v. c v + x v) in
        let y : ℕ → ℕ = there.0 in (
          (λ v. x v + y v),
          (λ v. omega arith),
          record { fires_to = from G there.1 (λ v l ns. omega arith); stable = rec.stable },
        )

    -- what one recurrent configuration absorbs, each other absorbs
    all_absorb : (c d e : ℕ → ℕ) → IsRecurrent G d → IsStableSum G c e c → IsStableSum G d e d
    all_absorb c d e rec sum =
        let there = rec.reached c in
        let y : ℕ → ℕ = there.0 in
        let with_d : FiresTo G (λ v. (c v + y v) + e v) (λ v. d v + e v) = with_more G e there.1 in
        let round : FiresTo G (λ v. (c v + y v) + e v) d =
        from G (then_fires G (with_more G y sum.fires_to) there.1) (λ v l ns. omega arith) in
        let out : StabilizesTo G (λ v. (c v + y v) + e v) d = record { fires_to = round; stable = rec.stable } in
        record { fires_to = joins G good out with_d; stable = rec.stable }

    pub recurrent_from_most : (c : ℕ → ℕ) → IsRecurrent G c ↔ IsReachedFromMost G c
    recurrent_from_most c = (
      (λ rec.
          let there = rec.reached (most_stable G) in
          (there.0, record { fires_to = there.1; stable = rec.stable })),
      λ reached. large_recurrent (λ v l ns. omega arith) reached.1,
    )

    -- ---- the burning test and duality

    recurrent_burns : (s b c : ℕ → ℕ) → TakesAway G s b → IsRecurrent G c → IsStableSum G c b c
    recurrent_burns s b c takes rec =
        let all = absorbs c rec (λ v. degree G v * s v) in
        let e : ℕ → ℕ = all.0 in
        let big : (v : ℕ) → degree G v * s v ≤ e v = all.1 in
        let start : ℕ → ℕ = λ v. (c v + e v) + b v in
        let burns = fires_all G good start s (λ v. c v + e v) (λ v l ns. omega (arith, big v))
        (λ v l ns. omega (arith, takes v l ns)) in
        let out : StabilizesTo G start c =
        record { fires_to = then_fires G burns.0 all.2.fires_to; stable = rec.stable } in
        record { fires_to = joins G good out (with_more G b all.2.fires_to); stable = rec.stable }

    -- counts that lead from one configuration to the same other one are equal
    one_script : (f h : ℕ → ℕ)
        → EachNonSink G (λ v. inflow G f v + degree G v * h v ≡ inflow G h v + degree G v * f v) → AgreeOffSink G f h
    one_script f h same v l ns =
        let w : ℕ → ℕ = λ u. degree G u * f u + degree G u * h u in
        let p : ℕ → ℕ = λ u. (w u + inflow G f u) - degree G u * f u in
        let by_f = fires_all G good w f p (λ u m ms. omega arith) (λ u m ms. omega arith) in
        let by_h = fires_all G good w h p (λ u m ms. omega arith) (λ u m ms. omega (arith, same u m ms)) in
        omega (arith, one_odometer G good by_f.0 by_h.0 v, by_f.1 v l ns, by_h.1 v l ns)

    -- the chips of a script burn off any number of times
    again : (b c : ℕ → ℕ) → IsStableSum G c b c → (k : ℕ) → FiresTo G (λ v. c v + b v * k) c
    again b c sum zero = agree G (λ v l ns. omega arith)
    again b c sum (suc k) =
        from G (then_fires G (with_more G (λ v. b v * k) sum.fires_to) (again b c sum k)) (λ v l ns. omega arith)

    -- what a script takes away if it is fired k times
    takes_times : (s b : ℕ → ℕ) → TakesAway G s b → (k : ℕ) → TakesAway G (λ v. s v * k) (λ v. b v * k)
    takes_times s b takes k u m ms = omega (
      arith,
      ap (λ (n : ℕ). n * k) (takes u m ms),
      inflow_times s k u,
      add-mul (b u) (inflow G s u) k,
      mul_assoc (degree G u) (s u) k,
    )

    -- the inflow of a difference of counts
    inflow_less : (f all : ℕ → ℕ) → EachNonSink G (λ v. f v ≤ all v) → (u : ℕ)
        → inflow G (λ v. all v - f v) u + inflow G f u ≡ inflow G all u
    inflow_less f all few u = omega (
      arith,
      inflow_same G good (λ t. (all t - f t) + f t) all (λ t n ts. omega (arith, few t n ts)) u,
      inflow_add G (λ t. all t - f t) f u,
    )

    -- the degrees of a difference of counts
    degrees_less : (f all : ℕ → ℕ) (u : ℕ) → f u ≤ all u
        → degree G u * (all u - f u) + degree G u * f u ≡ degree G u * all u
    degrees_less f all u few =
        let whole : (all u - f u) + f u ≡ all u = omega arith in
        omega (arith, mul-add (degree G u) (all u - f u) (f u), ap (λ (n : ℕ). degree G u * n) whole)

    burnt_superstable : (s b c : ℕ → ℕ) → IsBurningScript G s b → IsStable G c → IsStableSum G c b c
        → IsSuperstable G (λ v. most_stable G v - c v)
    burnt_superstable s b c script rests sum f able v l ns =
        let k : ℕ = sum_below G.vertices f in
        let start : ℕ → ℕ = λ u. c u + b u * k in
        let all : ℕ → ℕ = λ u. s u * k in
        let most : ℕ → ℕ = λ u. all u - f u in
        let burnt = again b c sum k in
        let few : EachNonSink G (λ u. f u ≤ all u) =
        (λ u m ms. omega (
          arith,
          sum_below_term G.vertices f u m,
          mul-le-mul_right k (script.each_fires u m ms),
        )) in
        let all_is : AgreeOffSink G (counts burnt.firings) all = one_script (counts burnt.firings) all
        (λ u m ms. omega (arith, by_counts G burnt u m ms, takes_times s b script.takes k u m ms)) in
        let low_end : EachNonSink G (λ u. start u + inflow G most u < degree G u * most u + degree G u) =
        (λ u m ms. omega (
          arith,
          able u m ms,
          stable_below G rests u m ms,
          takes_times s b script.takes k u m ms,
          inflow_less f all few u,
          degrees_less f all u (few u m ms),
        )) in
        omega (arith, most_fired start most low_end burnt v, all_is v l ns, few v l ns)

    superstable_recurrent : (c : ℕ → ℕ) → IsStable G c → IsSuperstable G (λ v. most_stable G v - c v) → IsRecurrent G c
    superstable_recurrent c rests none =
        let script = some_script (λ v. 0) in
        let h : ℕ → ℕ = script.0 in
        let e : ℕ → ℕ = script.1 in
        let takes : TakesAway G h e = script.2 in
        let start : ℕ → ℕ = λ u. c u + e u in
        let end = some_end G good start in
        let way = end.1.fires_to in
        let g : ℕ → ℕ = counts way.firings in
        let low = stable_below G rests in
        let low' = stable_below G end.1.stable in
        let few : (u : ℕ) → g u ≤ h u =
        most_fired start h (λ u m ms. omega (arith, takes u m ms, low u m ms)) way in
        let nothing : EachNonSink G (λ u. h u - g u ≡ 0) =
        none (λ u. h u - g u) (λ u m ms. omega (
          arith,
          takes u m ms,
          low u m ms,
          by_counts G way u m ms,
          low' u m ms,
          inflow_less g h (λ t n ts. few t) u,
          degrees_less g h u (few u),
        )) in
        let same : AgreeOffSink G g h = (λ u m ms. omega (arith, nothing u m ms, few u)) in
        let back : AgreeOffSink G end.0 c =
        (λ u m ms. omega (
          arith,
          by_counts G way u m ms,
          takes u m ms,
          inflow_same G good g h same u,
          ap (λ (n : ℕ). degree G u * n) (same u m ms),
        )) in
        large_recurrent (λ u m ms. omega (arith, script.3 u m ms))
        (record { fires_to = then_fires G way (agree G back); stable = rests })

    pub burning_test : (s b : ℕ → ℕ) → IsBurningScript G s b → (c : ℕ → ℕ) → IsStable G c
        → IsRecurrent G c ↔ IsStableSum G c b c
    burning_test s b script c rests = (
      recurrent_burns s b c script.takes,
      λ sum. superstable_recurrent c rests (burnt_superstable s b c script rests sum),
    )

    recurrent_superstable : (c : ℕ → ℕ) → IsRecurrent G c → IsSuperstable G (λ v. most_stable G v - c v)
    recurrent_superstable c rec f able v l ns =
        let all = absorbs c rec (λ u. degree G u * f u) in
        let e : ℕ → ℕ = all.0 in
        let big : (u : ℕ) → degree G u * f u ≤ e u = all.1 in
        let start : ℕ → ℕ = λ u. c u + e u in
        let p : ℕ → ℕ = λ u. (start u + inflow G f u) - degree G u * f u in
        let by_f = fires_all G good start f p (λ u m ms. omega (arith, big u)) (λ u m ms. omega (arith, big u)) in
        let rest = joins G good all.2 by_f.0 in
        let r : ℕ → ℕ = counts rest.firings in
        let low_end : EachNonSink G (λ u. start u + inflow G r u < degree G u * r u + degree G u) =
        (λ u m ms. omega (
          arith,
          able u m ms,
          big u,
          stable_below G rec.stable u m ms,
          by_counts G rest u m ms,
        )) in
        let whole = then_fires G by_f.0 rest in
        omega (arith, most_fired start r low_end whole v, then_counts G by_f.0 rest v, by_f.1 v l ns)

    pub duality : (c : ℕ → ℕ) → IsStable G c → IsRecurrent G c ↔ IsSuperstable G (λ v. most_stable G v - c v)
    duality c rests = (recurrent_superstable c, superstable_recurrent c rests)

    -- ---- one recurrent configuration in each class

    pub one_recurrent : (c d : ℕ → ℕ) → IsRecurrent G c → IsRecurrent G d → AreEquivalent G c d → AgreeOffSink G c d
    one_recurrent c d rec rec' (f, g, same) =
        let all = absorbs c rec (λ v. degree G v * f v + degree G v * g v) in
        let e : ℕ → ℕ = all.0 in
        let big : (v : ℕ) → degree G v * f v + degree G v * g v ≤ e v = all.1 in
        let p : ℕ → ℕ = λ v. (c v + e v + inflow G f v) - degree G v * f v in
        let by_f = fires_all G good (λ v. c v + e v) f p (λ v l ns. omega (arith, big v)) (λ v l ns. omega (arith, big v)) in
        let by_g = fires_all G good (λ v. d v + e v) g p (λ v l ns. omega (arith, big v))
        (λ v l ns. omega (arith, big v, same v l ns)) in
        let to_c : StabilizesTo G p c = record { fires_to = joins G good all.2 by_f.0; stable = rec.stable } in
        let to_d : StabilizesTo G p d =
        record { fires_to = joins G good (all_absorb c d e rec' all.2) by_g.0; stable = rec'.stable } in
        one_end G good to_c to_d

    pub some_recurrent : (x : ℕ → ℕ) → (c : ℕ → ℕ) × IsRecurrent G c × AreEquivalent G x c
    some_recurrent x =
        let script = some_script (λ v. 0) in
        let e : ℕ → ℕ = script.1 in
        let end = some_end G good (λ v. x v + e v) in
        let way = end.1.fires_to in (
          end.0,
          large_recurrent (λ v l ns. omega (arith, script.3 v l ns)) end.1,
          (counts way.firings, script.0, λ v l ns. omega (arith, by_counts G way v l ns, script.2 v l ns)),
        )

    -- ---- burning scripts and the identity

    pub some_burning_script : (x : ℕ → ℕ) → AgreeOffSink G x (λ v. degree G v + degree G v) → (vs : List ℕ)
        → IsFiringSequence G x vs → HasEnded G x vs
        → IsBurningScript G (counts vs) (λ v. x v - position_after G x vs v)
    some_burning_script x twice vs ok ended =
        let low = stable_below G ended in record {
          each_fires = λ v l ns.
              dite (dec_lt 0 (counts vs v))
              (λ some. some)
              (λ none.
              let zero_times : counts vs v ≡ 0 = omega arith in
              let no_degree = ap (λ (n : ℕ). degree G v * n) zero_times in
              absurd (omega (arith, position_is G vs x ok v, low v l ns, twice v l ns, some_degree G good v l ns)));
          takes = λ v l ns. omega (arith, position_is G vs x ok v, low v l ns, twice v l ns);
        }

    -- a recurrent configuration equivalent to zero is the identity
    pub neutral : (e : ℕ → ℕ) → IsRecurrent G e → AreEquivalent G (λ v. 0) e → IsIdentity G e
    neutral e rec (f, g, same) = record {
      recurrent = rec;
      neutral = λ c rec'.
          let end = some_end G good (λ v. c v + e v) in
          let d : ℕ → ℕ = end.0 in
          let way = end.1.fires_to in
          let fired : ℕ → ℕ = counts way.firings in
          let equivalent : AreEquivalent G c d = (
            (λ v. fired v + f v),
            g,
            λ v l ns. omega (
              arith,
              same v l ns,
              by_counts G way v l ns,
              inflow_add G fired f v,
              mul-add (degree G v) (fired v) (f v),
            ),
          ) in
          let one = one_recurrent c d rec' (recurrent_sum c e d rec' end.1) equivalent in
          let back : FiresTo G d c = agree G (λ v l ns. sym (one v l ns)) in
          record { fires_to = then_fires G way back; stable = rec'.stable };
    }

    pub large_script : (s b : ℕ → ℕ) → TakesAway G s b → EachNonSink G (λ v. most_stable G v ≤ b v) → (x c : ℕ → ℕ)
        → IsStableSum G x b c
        → IsRecurrent G c × AreEquivalent G x c × (AgreeOffSink G x (λ v. 0) → IsIdentity G c)
    large_script s b takes large x c sum =
        let rec = large_recurrent (λ v l ns. omega (arith, large v l ns)) sum in
        let same : (y : ℕ → ℕ) → AgreeOffSink G x y → AreEquivalent G y c =
        (λ y is. (
          counts sum.fires_to.firings,
          s,
          λ v l ns. omega (
            arith,
            is v l ns,
            takes v l ns,
            by_counts G sum.fires_to v l ns,
          ),
        )) in
        (rec, same x (λ v l ns. refl), λ none. neutral c rec (same (λ v. 0) none))

    pub identity_by_twice : (p e : ℕ → ℕ) → StabilizesTo G (twice_most G) p
        → StabilizesTo G (λ v. twice_most G v - p v) e → IsIdentity G e
    identity_by_twice p e first last =
        let low = stable_below G first.stable in
        let b : ℕ → ℕ = λ v. twice_most G v - p v in
        let sum : IsStableSum G (λ v. 0) b e =
        record { fires_to = from G last.fires_to (λ v l ns. omega arith); stable = last.stable } in
        (large_script (counts first.fires_to.firings) b
        (λ v l ns. omega (arith, low v l ns, by_counts G first.fires_to v l ns))
        (λ v l ns. omega (arith, low v l ns)) (λ v. 0) e sum).2 (λ v l ns. refl)

    -- ---- the group

    inverse : (c : ℕ → ℕ) → IsRecurrent G c
        → (d : ℕ → ℕ) × IsRecurrent G d × ((e : ℕ → ℕ) → IsStableSum G c d e → IsIdentity G e)
    inverse c rec =
        let script = some_script c in
        let h : ℕ → ℕ = script.0 in
        let found = some_recurrent (λ v. script.1 v - c v) in
        let d : ℕ → ℕ = found.0 in
        let f : ℕ → ℕ = found.2.0 in
        let g : ℕ → ℕ = found.2.1 in (
          d,
          found.1,
          λ e sum.
              let fired : ℕ → ℕ = counts sum.fires_to.firings in
              neutral e (recurrent_sum c d e rec sum) (
                (λ v. f v + fired v),
                (λ v. g v + h v),
                λ v l ns. omega (
                  arith,
                  found.2.2 v l ns,
                  script.2 v l ns,
                  script.3 v l ns,
                  by_counts G sum.fires_to v l ns,
                  inflow_add G f fired v,
                  inflow_add G g h v,
                  mul-add (degree G v) (f v) (fired v),
                  mul-add (degree G v) (g v) (h v),
                ),
              ),
        )

    associative : (c d e c_d d_e sum : ℕ → ℕ) → IsStableSum G c d c_d → IsStableSum G d e d_e → IsStableSum G c_d e sum
        → IsStableSum G c d_e sum
    associative c d e c_d d_e sum left right all =
        let start : ℕ → ℕ = λ v. (c v + d v) + e v in
        let out : StabilizesTo G start sum =
        record { fires_to = then_fires G (with_more G e left.fires_to) all.fires_to; stable = all.stable } in
        let by_right : FiresTo G start (λ v. d_e v + c v) =
        from G (with_more G c right.fires_to) (λ v l ns. omega arith) in
        record { fires_to = from G (joins G good out by_right) (λ v l ns. omega arith); stable = all.stable }

    pub sandpile_group : IsSandpileGroup G
    sandpile_group = record {
      sums = λ c d rec rec'.
          let end = some_end G good (λ v. c v + d v) in
          (end.0, recurrent_sum c d end.0 rec end.1, end.1);
      one_sum = λ c c' d d' e e' same same' sum sum'.
          let again' : IsStableSum G c d e' =
          record { fires_to = from G sum'.fires_to (λ v l ns. omega (arith, same v l ns, same' v l ns)); stable = sum'.stable } in
          one_end G good sum again';
      commutative = λ c d e sum.
          record { fires_to = from G sum.fires_to (λ v l ns. omega arith); stable = sum.stable };
      associative = associative;
      identity = let found = some_recurrent (λ v. 0) in (found.0, neutral found.0 found.1 found.2);
      inverses = inverse;
    }
