-- Serves Recurrent.antt.
-- What firing sequences lead to, up to the chips on the sink.
use Rattle.chip_group.proofs.Names.{◌≡◌, ◌≢◌, ℕ, zero, suc, ◌+◌, ◌*◌, ◌<◌, ◌≤◌, eqb, List, [], ◌∷◌, ◌++◌}
use Rattle.chip_group.proofs.Names.{replicate, refl, sym, ap, ◌∙◌, arith, nat_tests, dite, ℕ_discrete, dec_le, mul_comm}
use Rattle.chip_group.proofs.Names.{Multigraph, edge_at, degree, IsGraph, tested_ext, inflow, IsLegal, fired_once}
use Rattle.chip_group.proofs.Names.{position_after, counts, IsFiringSequence, position_is, position-append}
use Rattle.chip_group.proofs.Names.{sequence-append, counts-append, counts-replicate, more_chips, batch, ends, same_ends}
use Rattle.chip_group.proofs.Names.{EachNonSink, AgreeOffSink, IsStable, FiresTo, StabilizesTo}

module _ (G : Multigraph) where
  -- ---- configurations that agree off the sink

  alike_legal : (x y : ℕ → ℕ) → AgreeOffSink G x y → (v : ℕ) → IsLegal G x v → IsLegal G y v
  alike_legal x y same v can =
      let a = same v can.is_vertex can.not_sink in
      record { is_vertex = can.is_vertex; not_sink = can.not_sink; enough_chips = omega arith }

  alike_fired : (v : ℕ) (x y : ℕ → ℕ) → AgreeOffSink G x y → AgreeOffSink G (fired_once G v x) (fired_once G v y)
  alike_fired v x y same u l ns = rw (same u l ns) refl

  -- the same sequences lead from them to configurations that agree
  alike_sequence : (vs : List ℕ) (x y : ℕ → ℕ) → AgreeOffSink G x y → IsFiringSequence G x vs
      → IsFiringSequence G y vs × AgreeOffSink G (position_after G x vs) (position_after G y vs)
  alike_sequence [] x y same ok = (tt, same)
  alike_sequence (v ∷ vs) x y same ok =
      let rest = alike_sequence vs (fired_once G v x) (fired_once G v y) (alike_fired v x y same) ok.1 in
      ((alike_legal x y same v ok.0, rest.0), rest.1)

  pub stable_below : {c : ℕ → ℕ} → IsStable G c → EachNonSink G (λ v. c v < degree G v)
  stable_below {c} rests v l ns =
      dite (dec_le (degree G v) (c v))
      (λ can. absurd (rests v (record { is_vertex = l; not_sink = ns; enough_chips = can })))
      (λ low. omega arith)

  -- ---- what fires to what

  pub agree : {x y : ℕ → ℕ} → AgreeOffSink G x y → FiresTo G x y
  agree same = record { firings = []; sequence = tt; ends_at = same }

  -- one after the other
  pub then_fires : {x y z : ℕ → ℕ} → FiresTo G x y → FiresTo G y z → FiresTo G x z
  then_fires {x} {y} {z} first next =
      let there = alike_sequence next.firings y (position_after G x first.firings)
      (λ v l ns. sym (first.ends_at v l ns)) next.sequence in
      record {
        firings = first.firings ++ next.firings;
        sequence = sequence-append G first.firings next.firings x first.sequence there.0;
        ends_at = λ v l ns. rw (position-append G first.firings next.firings x)
            (sym (there.1 v l ns) ∙ next.ends_at v l ns);
      }

  pub then_counts : {x y z : ℕ → ℕ} (first : FiresTo G x y) (next : FiresTo G y z) (u : ℕ)
      → counts (then_fires first next).firings u ≡ counts first.firings u + counts next.firings u
  unfolding then_fires
  then_counts first next u = counts-append first.firings next.firings u

  -- from a configuration that agrees
  pub from : {x y z : ℕ → ℕ} → FiresTo G y z → AgreeOffSink G x y → FiresTo G x z
  from way same = then_fires (agree same) way

  -- with some chips added at both ends
  pub with_more : {x y : ℕ → ℕ} (d : ℕ → ℕ) → FiresTo G x y → FiresTo G (λ v. x v + d v) (λ v. y v + d v)
  with_more {x} {y} d way =
      let more : IsFiringSequence G (λ v. x v + d v) way.firings =
      more_chips G x (λ v. x v + d v) (λ u. omega arith) way.firings way.sequence in
      record {
        firings = way.firings;
        sequence = more;
        ends_at = λ v l ns. omega (
          arith,
          position_is G way.firings x way.sequence v,
          position_is G way.firings (λ w. x w + d w) more v,
          way.ends_at v l ns,
        );
      }

  -- by how often each vertex fires
  pub by_counts : {x y : ℕ → ℕ} (way : FiresTo G x y)
      → EachNonSink G (λ v. y v + degree G v * counts way.firings v ≡ x v + inflow G (counts way.firings) v)
  by_counts {x} {y} way v l ns = omega (arith, position_is G way.firings x way.sequence v, way.ends_at v l ns)

  module _ (good : IsGraph G) where
    -- ---- stabilizations

    pub some_end : (x : ℕ → ℕ) → (c : ℕ → ℕ) × StabilizesTo G x c
    some_end x =
        let end = ends G good x [] tt in (
          position_after G x end.0,
          record {
            fires_to = record { firings = end.0; sequence = end.1; ends_at = λ v l ns. refl };
            stable = end.2;
          },
        )

    -- two stabilizations of one configuration have one odometer and agree
    same_end : {x c d : ℕ → ℕ} (one : StabilizesTo G x c) (other : StabilizesTo G x d)
        → ((u : ℕ) → counts one.fires_to.firings u ≡ counts other.fires_to.firings u) × AgreeOffSink G c d
    same_end {x} {c} {d} one other =
        let vs = one.fires_to.firings in
        let ws = other.fires_to.firings in
        let to = one.fires_to.ends_at in
        let to' = other.fires_to.ends_at in
        let rest : (u : ℕ) → IsLegal G (position_after G x vs) u → ⊥ =
        (λ u can. one.stable u (alike_legal (position_after G x vs) c to u can)) in
        let rest' : (u : ℕ) → IsLegal G (position_after G x ws) u → ⊥ =
        (λ u can. other.stable u (alike_legal (position_after G x ws) d to' u can)) in
        let same = same_ends G good x vs ws one.fires_to.sequence rest other.fires_to.sequence rest' in
        (same.0, λ v l ns. sym (to v l ns) ∙ same.1 v ∙ to' v l ns)

    pub one_end : {x c d : ℕ → ℕ} → StabilizesTo G x c → StabilizesTo G x d → AgreeOffSink G c d
    one_end one other = (same_end one other).1

    -- firings that lead from one configuration to one other have one odometer
    pub one_odometer : {x y : ℕ → ℕ} (one other : FiresTo G x y) (u : ℕ) → counts one.firings u ≡ counts other.firings u
    one_odometer {x} {y} one other u =
        let end = some_end y in
        let first : StabilizesTo G x end.0 =
        record { fires_to = then_fires one end.1.fires_to; stable = end.1.stable } in
        let second : StabilizesTo G x end.0 =
        record { fires_to = then_fires other end.1.fires_to; stable = end.1.stable } in
        omega (
          arith,
          (same_end first second).0 u,
          then_counts one end.1.fires_to u,
          then_counts other end.1.fires_to u,
        )

    -- whatever is reached on the way fires to the stabilization
    pub joins : {x p c : ℕ → ℕ} → StabilizesTo G x c → FiresTo G x p → FiresTo G p c
    joins {x} {p} {c} out way =
        let end = some_end p in
        let last : StabilizesTo G x end.0 =
        record { fires_to = then_fires way end.1.fires_to; stable = end.1.stable } in
        then_fires end.1.fires_to (agree (one_end last out))

    -- ---- counts

    -- the sink's firings do not count
    pub inflow_same : (f h : ℕ → ℕ) → AgreeOffSink G f h → (u : ℕ) → inflow G f u ≡ inflow G h u
    inflow_same f h same u = tested_ext _ (λ e. eqb (edge_at G e).head u) _ _
        (λ e l on. let inside = good.edges_fit e l in
        ap (λ (n : ℕ). (edge_at G e).mult * n) (same (edge_at G e).tail inside.tail_is_vertex inside.not_from_sink))

    -- where the chips suffice for all firings of f, the vertices may fire one after another
    fires_below : (w f : ℕ → ℕ) → EachNonSink G (λ v. degree G v * f v ≤ w v) → (n : ℕ) → n ≤ G.vertices
        → (vs : List ℕ) × IsFiringSequence G w vs × ((u : ℕ) → u < n → u ≢ G.sink → counts vs u ≡ f u)
        × ((u : ℕ) → n ≤ u → counts vs u ≡ 0)
    fires_below w f can zero l = ([], tt, (λ u m ns. absurd (omega arith)), λ u m. refl)
    fires_below w f can (suc n) l =
        let before = fires_below w f can n (omega arith) in
        let vs : List ℕ = before.0 in
        let ok : IsFiringSequence G w vs = before.1 in
        dite (ℕ_discrete n G.sink)
        (λ same. (
          vs,
          ok,
          (λ u m ns. before.2 u (let other : u ≢ n = (λ e. ns (e ∙ same)) in omega arith) ns),
          λ u m. before.3 u (omega arith),
        ))
        (λ other.
        let now = position_is G vs w ok n in
        let none = ap (λ (k : ℕ). degree G n * k) (before.3 n (omega arith)) in
        let enough = can n (omega arith) other in
        let row = batch G n (f n) (position_after G w vs) (omega arith) other
        (omega (arith, mul_comm (f n) (degree G n))) in (
          vs ++ replicate (f n) n,
          sequence-append G vs (replicate (f n) n) w ok row,
          (λ u m ns.
              let a = counts-append vs (replicate (f n) n) u in
              let b = counts-replicate (f n) n u in
              let c = before.2 u in
              let d = before.3 u in
              grind (arith, nat_tests)),
          λ u m.
              let a = counts-append vs (replicate (f n) n) u in
              let b = counts-replicate (f n) n u in
              let d = before.3 u (omega arith) in
              grind (arith, nat_tests),
        ))

    -- so they lead where the counts lead
    pub fires_all : (w f y : ℕ → ℕ) → EachNonSink G (λ v. degree G v * f v ≤ w v)
        → EachNonSink G (λ v. y v + degree G v * f v ≡ w v + inflow G f v)
        → (way : FiresTo G w y) × AgreeOffSink G (counts way.firings) f
    fires_all w f y can to =
        let all = fires_below w f can G.vertices (omega arith) in (
          record {
            firings = all.0;
            sequence = all.1;
            ends_at = λ v l ns. omega (
              arith,
              to v l ns,
              position_is G all.0 w all.1 v,
              inflow_same (counts all.0) f all.2 v,
              ap (λ (n : ℕ). degree G v * n) (all.2 v l ns),
            );
          },
          all.2,
        )
