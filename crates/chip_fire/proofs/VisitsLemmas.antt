-- Serves Search.antt.
-- The visits of rounds.
use Rattle.std.proofs.Common.{◌≡◌, ℕ, ◌+◌, ◌-◌, ◌*◌, ◌/◌, ◌≤◌, Bool, true, false, List, [], eqb}
use Rattle.std.proofs.Common.{length, slice_index, sym, ap, subst, arith, eqb-true, lit<, mul_comm, mul-le-mul_left, mul-le-mul_right}
use Rattle.std.proofs.Math.Nat.{mul-add, add-mul, div-le_self, div-mul-le_self, div-le_of_le-mul, mul_right_comm}
use Rattle.chip_graph.specs.ChipGame.{ChipGame}
use Rattle.chip_graph.proofs.SumLemmas.{by_test, sum_below_le}
use Rattle.chip_fire.specs.Rounds.{AreRounds, GoesRound, OnlyRise, firings_left}
use Rattle.chip_fire.proofs.PlayLemmas.{rise_more}
use Rattle.chip_fire.specs.Search.{FewVisits, places}

module _ (g : ChipGame) where
  -- none
  pub no_visits : (fired : List ℕ) (before : ℕ) → FewVisits g fired fired before before true
  no_visits fired before = record { more = omega arith; few = omega arith }

  -- some, and then more
  pub visits_more : (fired fired' fired'' : List ℕ) (before now after : ℕ) (goes_on : Bool)
      → FewVisits g fired fired' before now true → FewVisits g fired' fired'' now after goes_on
      → FewVisits g fired fired'' before after goes_on
  visits_more fired fired' fired'' before now after goes_on first last = record {
    more = (let a = first.more in let b = last.more in omega arith);
    few = (let a = first.few in let b = last.few in omega arith);
  }

  -- as few as from the start
  pub visits_from_start : (fired fired' : List ℕ) (after : ℕ) (goes_on : Bool) → FewVisits g fired fired' 0 after goes_on
      → FewVisits g [] fired' 0 after goes_on
  visits_from_start fired fired' after goes_on is = record {
    more = omega arith;
    few = (let a = is.few in let b = mul-le-mul_left (places g)
        (sum_below_le g.graph.vertices (λ v. g.limit - slice_index fired v) (λ v. g.limit - 0) (λ v l. omega arith)) in
        omega arith);
  }

  -- visits with which rounds go on have been few at the end too
  pub visits_at_end : (fired fired' : List ℕ) (before after : ℕ) → FewVisits g fired fired' before after true
      → FewVisits g fired fired' before after false
  visits_at_end fired fired' before after is = record { more = is.more; few = (let a = is.few in omega arith) }

  -- those of turns in which some vertex fired: each counts for as many as the game has vertices and edges at most
  pub few_turns : (fired fired' : List ℕ) (turns each before after : ℕ)
      → firings_left g.graph g.limit fired' + turns ≤ firings_left g.graph g.limit fired → each ≤ places g
      → before ≤ after → after ≤ before + turns * each → FewVisits g fired fired' before after true
  few_turns fired fired' turns each before after each_fires few more some = record {
    more = more;
    few = (let a = mul-le-mul_left (places g) each_fires in
        let b = mul-add (places g) (firings_left g.graph g.limit fired') turns in
        let c = mul-le-mul_left turns few in
        let d = mul_comm turns (places g) in omega arith);
  }

  -- fewer firings are left where none is taken back
  pub fewer_left : (fired fired' : List ℕ) → OnlyRise fired fired'
      → firings_left g.graph g.limit fired' ≤ firings_left g.graph g.limit fired
  fewer_left fired fired' rises = sum_below_le g.graph.vertices (λ v. g.limit - slice_index fired' v)
      (λ v. g.limit - slice_index fired v) (λ v l. let a = rises v in omega arith)

  -- a round after some turns
  pub goes_after : (fired mid chips' fired' : List ℕ) (any : Bool)
      → OnlyRise fired mid → GoesRound g mid chips' fired' any → GoesRound g fired chips' fired' any
  goes_after fired mid chips' fired' true rises is = record {
    begun = is.begun;
    rises = rise_more fired mid fired' rises is.rises;
    some_fired = (let a = is.some_fired in let b = fewer_left fired mid rises in omega arith);
    none_fired = is.none_fired;
  }
  goes_after fired mid chips' fired' false rises is = record {
    begun = is.begun;
    rises = rise_more fired mid fired' rises is.rises;
    some_fired = is.some_fired;
    none_fired = is.none_fired;
  }

  -- those of rounds: at each vertex in each round, and in the one that found the end, and at each edge in each turn
  pub few_rounds : (fired fired' : List ℕ) (n most turns before after v e m p x : ℕ) → AreRounds g fired fired' n 0 turns
      → v ≡ g.graph.vertices → e ≡ length g.graph.edges → m ≤ n + 1 → m ≤ most → n ≤ most → p ≤ m * v → x ≤ turns * e
      → before ≤ after → after ≤ before + p + x / v → FewVisits g fired fired' before after (eqb n most)
  few_rounds fired fired' n most turns before after v e m p x are is_v is_e low high made at_vertices at_edges more some =
      let fits = are.counted (lit< tt) in
      let told : turns ≤ are.turns = omega arith in
      let all = mul-le-mul_left (places g) are.each_fires in
      let apart = mul-add (places g) (firings_left g.graph g.limit fired') are.turns in
      let both = add-mul g.graph.vertices (length g.graph.edges) are.turns in
      let rounds = mul-le-mul_left g.graph.vertices are.some_each in
      let edges = mul-le-mul_left (length g.graph.edges) told in
      let edges' = mul_comm turns e in
      let edges'' : e * turns ≡ length g.graph.edges * turns = ap (λ (k : ℕ). k * turns) is_e in
      let part = div-le_self x v in
      let vertices = mul_comm m v in
      let vertices' : v * m ≡ g.graph.vertices * m = ap (λ (k : ℕ). k * m) is_v in
      by_test (eqb n most)
      (λ t.
      let same : n ≡ most = eqb-true n most t in
      let within : m ≤ n = omega arith in
      let few = mul-le-mul_left g.graph.vertices within in
      subst (FewVisits g fired fired' before after) (sym t) (record { more = more; few = omega arith }))
      (λ t.
      let few = mul-le-mul_left g.graph.vertices low in
      let one = mul-add g.graph.vertices n 1 in
      subst (FewVisits g fired fired' before after) (sym t) (record { more = more; few = omega arith }))

  -- rounds make at most so many visits, and one more at each vertex and edge
  pub visits_of_rounds : (fired fired' : List ℕ) (n most turns v e m p x : ℕ) → AreRounds g fired fired' n 0 turns
      → v ≡ g.graph.vertices → e ≡ length g.graph.edges → n ≤ m → m ≤ most / (v + e) + 1 → p ≤ m * v → x ≤ turns * e
      → p + x / v ≤ most + places g
  visits_of_rounds fired fired' n most turns v e m p x are is_v is_e made few at_vertices at_edges =
      let fits = are.counted (lit< tt) in
      let told : turns ≤ are.turns = omega arith in
      let once : turns ≤ n * v = rw is_v (let a = are.once_each in omega arith) in
      let each = mul-le-mul_right v made in
      let in_all : turns ≤ m * v = omega arith in
      let a = mul-le-mul_right (v + e) few in
      let b = add-mul (most / (v + e)) 1 (v + e) in
      let c = mul-add m v e in
      let d = div-mul-le_self most (v + e) in
      let f = mul-le-mul_right e in_all in
      let h : m * v * e ≡ m * e * v = mul_right_comm m v e in
      let i : x ≤ v * (m * e) = (let k = mul_comm v (m * e) in omega arith) in
      let j = div-le_of_le-mul v i in
      omega arith

  -- none from the start on
  pub none_from_start : (fired : List ℕ) → FewVisits g [] fired 0 0 true
  none_from_start fired = visits_from_start fired fired 0 true (no_visits fired 0)

  -- visits of a play that goes on beside what it made alone
  pub visits_beside : (fired fired' : List ℕ) (alone beside after : ℕ) (goes_on : Bool)
      → FewVisits g [] fired 0 (alone + beside) true → FewVisits g fired fired' beside after goes_on
      → FewVisits g [] fired' 0 (alone + after) goes_on
  visits_beside fired fired' alone beside after goes_on first last = record {
    more = omega arith;
    few = (let a = first.few in let b = last.few in omega arith);
  }
