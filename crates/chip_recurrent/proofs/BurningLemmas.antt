-- Serves Burning.antt.
-- The least burning script by an odometer.
use Rattle.chip_recurrent.proofs.Names.{◌≡◌, ℕ, ◌+◌, ◌-◌, ◌*◌, ◌<◌, eqb, min, ap, arith}
use Rattle.chip_recurrent.proofs.Names.{mul-add, dite, dec_lt, Multigraph, edge_at, degree, IsGraph}
use Rattle.chip_recurrent.proofs.Names.{tested_ext, tested_none, tested_zero, in_degree, inflow, counts, some_degree}
use Rattle.chip_recurrent.proofs.Names.{EachNonSink, StabilizesTo, IsBurningScript, stable_below, by_counts}
use Rattle.chip_recurrent.proofs.Names.{inflow_same, inflow_add, most_fired}
use Rattle.chip_recurrent.specs.Burning.{IsLeastScript, burning_start}

module _ (G : Multigraph) (good : IsGraph G) where
  -- if each vertex fires once more, each edge brings its multiplicity more
  inflow_once_more : (f : ℕ → ℕ) (u : ℕ) → inflow G (λ v. f v + 1) u ≡ inflow G f u + in_degree G u
  inflow_once_more f u =
      let once : inflow G (λ v. 1) u ≡ in_degree G u =
      tested_ext _ (λ e. eqb (edge_at G e).head u) _ _ (λ e l on. omega arith) in
      omega (arith, inflow_add G f (λ v. 1) u)

  -- nothing flows in where no edge leads in
  no_inflow : (f : ℕ → ℕ) (u : ℕ) → in_degree G u ≡ 0 → inflow G f u ≡ 0
  no_inflow f u none = tested_none _ (λ e. eqb (edge_at G e).head u) _
      (λ e l on.
      let a = tested_zero _ (λ e. eqb (edge_at G e).head u) _ none e l on in
      let b = (good.edges_fit e l).some_chips in absurd (omega arith))

  -- a burning script leaves each vertex stable that begins with one chip less than edges lead in
  script_enough : (f c : ℕ → ℕ) → IsBurningScript G f c → EachNonSink G (λ v. burning_start G v + inflow G (λ u. f u - 1) v
      < degree G v * (f v - 1) + degree G v)
  script_enough f c script v l ns =
      let less : ℕ → ℕ = λ u. f u - 1 in
      let whole : inflow G f v ≡ inflow G (λ u. less u + 1) v =
      inflow_same G good f (λ u. less u + 1) (λ u m ms. omega (arith, script.each_fires u m ms)) v in
      let counted = mul-add (degree G v) (less v) 1 in
      let same : f v ≡ less v + 1 = omega (arith, script.each_fires v l ns) in
      let spent = ap (λ (n : ℕ). degree G v * n) same in
      let flow = inflow_once_more less v in
      let takes = script.takes v l ns in
      let some = some_degree G good v l ns in
      dite (dec_lt 0 (in_degree G v))
      (λ enters. omega arith)
      (λ none. let nothing = no_inflow less v (omega arith) in omega arith)

  pub least_script : {s b ends : ℕ → ℕ} (end : StabilizesTo G (burning_start G) ends)
      → EachNonSink G (λ v. s v ≡ counts end.fires_to.firings v + 1)
      → EachNonSink G (λ v. b v ≡ degree G v - (ends v + min (in_degree G v) 1)) → IsLeastScript G s b
  least_script {s} {b} {ends} end once_more rest = record {
    script = record {
      each_fires = λ v l ns. omega (arith, once_more v l ns);
      takes = λ v l ns.
          let fired : ℕ → ℕ = counts end.fires_to.firings in
          let whole : inflow G s v ≡ inflow G (λ u. fired u + 1) v =
          inflow_same G good s (λ u. fired u + 1) once_more v in
          let spent = ap (λ (n : ℕ). degree G v * n) (once_more v l ns) in
          omega (
            arith,
            rest v l ns,
            stable_below G end.stable v l ns,
            by_counts G end.fires_to v l ns,
            inflow_once_more fired v,
            mul-add (degree G v) (fired v) 1,
          );
    };
    least = λ f c script v l ns.
        let low = most_fired G (burning_start G) (λ u. f u - 1) (script_enough f c script) end.fires_to v in
        omega (arith, once_more v l ns, script.each_fires v l ns);
  }
