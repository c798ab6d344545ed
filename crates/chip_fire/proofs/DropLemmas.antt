-- Serves Avalanches.antt, Pile.antt.
-- Drops on a pile: how they are played, and their avalanches.
use Rattle.std.proofs.Common.{◌≡◌, ℕ, ◌+◌, ◌-◌, ◌<◌, ◌≤◌, cond, eqb, min, List, [], ◌∷◌, ◌++◌, length, map, sum, get_or, set}
use Rattle.std.proofs.Common.{slice_index, refl, sym, ap, ◌∙◌, subst, arith, get_or-set_same, get_or-set_other, ◌≢◌}
use Rattle.std.proofs.Common.{length-set, mul-zero, zero, suc, ◌^◌, true, take, mul-le-mul_right}
use Rattle.std.proofs.Common.{Contains}
use Rattle.std.proofs.lemmas.Bool.Decides.{nat_tests}
use Rattle.std.proofs.lemmas.List.Sums.{sum_by-cons}
use Rattle.std.proofs.lemmas.List.{get_or_past, get_or_read, take_all, ext_get_or}
use Rattle.std.proofs.lemmas.List.Elements.{All-tail, All-from_get_or, Contains-get_or}
use mathlib.Core.Logic.{dite}
use native.Mathlib.Decide.{ℕ_discrete}
use Rattle.chip_graph.specs.Limits.{max_total, max_vertices, max_limit}
use Rattle.chip_graph.specs.Sums.{sum_below}
use Rattle.chip_graph.specs.Multigraph.{Multigraph, IsGraph, degree}
use Rattle.chip_graph.specs.ChipGame.{ChipGame, IsGame}
use Rattle.chip_graph.specs.More.{HasMore}
use Rattle.chip_graph.proofs.SumLemmas.{sum_below_add, sum_below_ext, sum_below_none, sum_below_move, sum_by_place}
use Rattle.chip_sequence.specs.Sequence.{position_after, IsFiringSequence, counts, HasEnded}
use Rattle.chip_sequence.specs.Certificate.{IsOnTheWay}
use Rattle.chip_sequence.specs.Play.{IsPlayed}
use Rattle.chip_sequence.specs.declared.outcome.Outcome.{Outcome}
use Rattle.chip_sequence.specs.Stages.{LeadsTo}
use Rattle.chip_sequence.proofs.FiringLemmas.{counts_here, counts_else, position_is, sink_never, more_chips}
use Rattle.chip_sequence.proofs.EndLemmas.{continued}
use Rattle.chip_sequence.proofs.BoundLemmas.{chips_are_kept, ends}
use Rattle.chip_sequence.proofs.CertificateLemmas.{end_of_the_way, same_way, playing_on, start_on_the_way}
use Rattle.chip_sequence.proofs.StageLemmas.{leads_both, ends_alike, played_is_stage}
use Rattle.chip_sequence.proofs.AfterLemmas.{sum_small}
use Rattle.chip_fire.specs.Rounds.{IsBegun, IsAtRest}
use Rattle.chip_fire.specs.WorkList.{HasSupport}
use Rattle.chip_fire.specs.declared.avalanche.Avalanche.{Avalanche}
use Rattle.chip_fire.specs.declared.avalanche.Room.{Room}
use Rattle.chip_fire.specs.declared.pile.BegunDrop.{BegunDrop}
use Rattle.chip_fire.specs.declared.pile.Pile.{Pile}
use Rattle.chip_fire.specs.Avalanches.{dropped, IsAvalanche, AreAvalanches, DropsAddUp}
use Rattle.chip_fire.specs.Pile.{IsRoom, KeepsRoom, IsPile, IsBegunDrop, sum_between}
use Rattle.chip_fire.specs.Measured.{IsRow, HasRow}
use Rattle.chip_sequence.specs.Firing.{IsStable}

-- ---- the room of a drop

-- room with the counts of now is such room between drops
pub keeps_room : (n : ℕ) (fired : List ℕ) (r : Room) → length fired ≡ n → IsRoom n fired r → KeepsRoom n fired r
keeps_room n fired r each room = record {
  before_each = ap length room.before ∙ each;
  room = record { before = refl; support_each = room.support_each; list_room = room.list_room; row = room.row };
  current = λ is. room.before;
}

-- and if it is current it has the counts of now
pub is_current : (n : ℕ) (fired : List ℕ) (r : Room) → KeepsRoom n fired r → r.is_current ≡ true → IsRoom n fired r
is_current n fired r keeps is = record {
  before = keeps.current is;
  support_each = keeps.room.support_each;
  list_room = keeps.room.list_room;
  row = keeps.room.row;
}

-- ---- the work list of a drop, and the avalanche by it

-- if all vertices are listed, those that fired are
pub all_supported : (n : ℕ) (fired fired' vs : List ℕ) (m : ℕ) → length vs ≡ n → length vs ≤ m
    → ((v : ℕ) → v < length vs → get_or vs v 0 ≡ v) → HasSupport n fired fired' (take m vs)
all_supported n fired fired' vs m each all are = rw (take_all m vs all) (record {
  vertices = All-from_get_or (λ (v : ℕ). v < n) vs 0 (λ i l. let a = are i l in omega arith);
  each = λ v l ne. subst (Contains vs) (are v (omega arith)) (Contains-get_or vs v 0 (omega arith));
})

-- few firings of few vertices
pub few_between : (n : ℕ) (before fired : List ℕ) → n ≤ max_vertices → ((v : ℕ) → slice_index fired v ≤ max_limit)
    → (sum_between (λ k. k) n before fired ≤ 2 ^ 61) × (sum_between (λ k. min k 1) n before fired ≤ n)
few_between n before fired few low =
    let a = sum_small n max_limit (λ v. true) (λ v. slice_index fired v - slice_index before v)
    (λ v l. let b = low v in omega arith) in
    let b = mul-le-mul_right max_limit few in
    let c = sum_small n 1 (λ v. true) (λ v. min (slice_index fired v - slice_index before v) 1) (λ v l. omega arith) in
    (omega arith, omega arith)

-- nothing is between equal counts
pub none_between : (h : ℕ → ℕ) → h 0 ≡ 0 → (n : ℕ) (fired : List ℕ) → sum_between h n fired fired ≡ 0
none_between h none n fired = sum_below_none n _
    (λ v l. ap h (let a : get_or fired v 0 - get_or fired v 0 ≡ 0 = omega arith in a) ∙ none)

module _ (n : ℕ) (now fired : List ℕ) (each : length now ≡ n) where
  -- a vertex whose count is made the later one drops out of the sum of what is between
  pub dropped_out : (h : ℕ → ℕ) → h 0 ≡ 0 → (v : ℕ) → v < n
      → sum_between h n (set now v (get_or fired v 0)) fired + h (get_or fired v 0 - get_or now v 0)
      ≡ sum_between h n now fired
  dropped_out h none v l =
      let now' : List ℕ = set now v (get_or fired v 0) in
      let a = sum_below_move n (λ u. h (get_or fired u 0 - get_or now' u 0))
      (λ u. h (get_or fired u 0 - get_or now u 0)) v l
      (λ u m ne. ap (λ (k : ℕ). h (get_or fired u 0 - k)) (get_or-set_other now v u (get_or fired v 0) 0 ne)) in
      let b = get_or-set_same now v (get_or fired v 0) 0 (omega arith) in
      let c : get_or fired v 0 - get_or now' v 0 ≡ 0 = omega arith in
      let d = ap h c ∙ none in omega arith

  -- and out of the list of those that are not alike
  pub support_step : (v : ℕ) (vs : List ℕ) → v < n → HasSupport n now fired (v ∷ vs)
      → HasSupport n (set now v (get_or fired v 0)) fired vs
  support_step v vs inside so_far = record {
    vertices = All-tail (λ (u : ℕ). u < n) v vs so_far.vertices;
    each = λ u l ne. dite (ℕ_discrete v u)
        (λ e. absurd (ne (rw (← e) (get_or-set_same now v (get_or fired v 0) 0 (omega arith)))))
        (λ apart. rest u apart (so_far.each u l
        (λ same. ne (get_or-set_other now v u (get_or fired v 0) 0 (λ z. apart (sym z)) ∙ same))));
  }
    where
      rest : (u : ℕ) → v ≢ u → Contains (v ∷ vs) u → Contains vs u
      rest u apart (zero, l, e) = absurd (apart e)
      rest u apart (suc k, l, e) = (k, (let a : k < length vs = omega arith in a), e)

  -- after the last one all are alike
  pub tallied_all : length fired ≡ n → HasSupport n now fired [] → now ≡ fired
  tallied_all long so_far = ext_get_or 0 now fired (each ∙ sym long)
      (λ v l. dite (ℕ_discrete (get_or now v 0) (get_or fired v 0)) (λ e. e)
      (λ ne. let a = (so_far.each v (omega arith) ne).1 in absurd (omega arith)))

-- ---- what a play leads to, and the avalanche of a drop

-- a list has as many firings as all vertices have in it
length_counts : (G : Multigraph) (vs : List ℕ) (x : ℕ → ℕ) → IsFiringSequence G x vs
    → length vs ≡ sum_below G.vertices (counts vs)
length_counts G [] x ok = sym (sum_below_none G.vertices (counts []) (λ e l. refl))
length_counts G (v ∷ vs) x ok =
    let a = length_counts G vs _ ok.1 in
    let b = sum_below_move G.vertices (counts (v ∷ vs)) (counts vs) v ok.0.is_vertex
    (λ e l ne. counts_else v e vs (λ z. ne (sym z))) in
    let c = counts_here v v vs refl in omega arith

-- a play at rest was led there
pub rest_leads : (g : ChipGame) (chips fired : List ℕ) → IsBegun g chips fired → IsAtRest g chips fired
    → LeadsTo g.graph (slice_index g.start) (slice_index fired) (slice_index chips)
rest_leads g chips fired begun rests =
    let (vs, whole) = continued g.graph (slice_index g.start) g.limit [] tt (λ v. omega arith) in
    let end = end_of_the_way _ _ _ _ _ begun.on_the_way rests vs whole in
    (vs, record { sequence = whole.sequence; counted = end.0; position = end.1 })

-- who was led there within the limit is on the way
led_way : (G : Multigraph) (x : ℕ → ℕ) (limit : ℕ) (y f : ℕ → ℕ) → LeadsTo G x f y → ((v : ℕ) → f v ≤ limit)
    → IsOnTheWay G x limit y f
led_way G x limit y f (vs, one) low =
    same_way G x limit _ _ y f (playing_on G x limit x (λ v. 0) (start_on_the_way G x limit) vs one.sequence
    (λ u. let a = low u in let b = one.counted u in omega arith))
    one.position (λ u. let a = one.counted u in omega arith)

-- no chip is lost on the way
led_kept : (G : Multigraph) → IsGraph G → (xs ys : List ℕ) (f : ℕ → ℕ) → length xs ≡ G.vertices
    → length ys ≡ G.vertices → LeadsTo G (slice_index xs) f (slice_index ys) → sum ys ≡ sum xs
led_kept G good xs ys f each each' (vs, one) =
    let a = chips_are_kept G good (slice_index xs) vs one.sequence in
    let b = sum_below_ext G.vertices (slice_index ys) _ (λ v l. one.position v) in
    cc (sum_by_place xs, sum_by_place ys)

-- what leads from x to y leads with d more from the one to the other
leads_more : (G : Multigraph) (x y f d x' y' : ℕ → ℕ) → LeadsTo G x f y → ((u : ℕ) → x' u ≡ x u + d u)
    → ((u : ℕ) → y' u ≡ y u + d u) → LeadsTo G x' f y'
leads_more G x y f d x' y' (vs, one) start here =
    let ok = more_chips G x x' (λ u. let a = start u in omega arith) vs one.sequence in
    let there : (u : ℕ) → y' u ≡ position_after G x' vs u = (λ u. let a = start u in let b = here u in
    let c = one.position u in let e = position_is G vs x one.sequence u in let h = position_is G vs x' ok u in
    omega arith) in
    (vs, record { sequence = ok; counted = one.counted; position = there })

module _ (G : Multigraph) (good : IsGraph G) (x f y f' z : ℕ → ℕ) (one : LeadsTo G x f y) (two : LeadsTo G x f' z)
    (stable : IsStable G z) where
  -- each sequence that ends from y fires what is between the counts, and ends at z
  drop_ends : (vs : List ℕ) → IsFiringSequence G y vs → HasEnded G y vs → ((v : ℕ) → f v + counts vs v ≡ f' v)
      × ((v : ℕ) → z v ≡ position_after G y vs v)
  drop_ends vs ok ended =
      let there : z ≡ position_after G x two.0 = (λ i u. two.1.position u i) in
      let alike = ends_alike G good x f y one vs ok ended two.0 two.1.sequence (rw there at stable) in
      ((λ v. alike.0 v ∙ sym (two.1.counted v)), (λ v. two.1.position v ∙ sym (alike.1 v)))

  -- the avalanche by what is between the counts
  drop_tells : (a : Avalanche) → a.size ≡ sum_below G.vertices (λ v. f' v - f v)
      → a.extent ≡ sum_below G.vertices (λ v. min (f' v - f v) 1) → a.lost ≡ z G.sink - y G.sink → IsAvalanche G y a z
  drop_tells a size extent lost = record {
    ends = ends G good y [] tt;
    tells = λ vs ok ended.
        let to = drop_ends vs ok ended in
        let between : (λ (v : ℕ). f' v - f v) ≡ counts vs = (λ i v. let e = to.0 v in
        let d : f' v - f v ≡ counts vs v = omega arith in d i) in
        let b = rw (sink_never G vs y ok, mul-zero (degree G G.sink)) at (position_is G vs y ok G.sink) in
        let e = to.1 G.sink in
        record {
          size = size ∙ ap (sum_below G.vertices) between ∙ sym (length_counts G vs y ok);
          extent = extent ∙ ap (λ (h : ℕ → ℕ). sum_below G.vertices (λ v. min (h v) 1)) between;
          lost = omega arith;
        };
    leaves = λ vs ok ended. (drop_ends vs ok ended).1;
  }

-- c chips more on v, which has `added`, of a pile
module _ (p : Pile) (pile : IsPile p) (g' : ChipGame) (v c added : ℕ) (more : HasMore p.game ((v, c) ∷ []) g')
    (inside : v < p.game.graph.vertices) (few : sum p.game.start + c ≤ max_total)
    (was : added ≡ get_or p.chips.items v added) where
  -- the chips with the drop
  abbrev now : List ℕ
  now = set p.chips.items v (added + c)

  here : (u : ℕ) → slice_index now u ≡ dropped (slice_index p.chips.items) v c u
  here u =
      let long = pile.begun.in_range.chips_each in
      let a = get_or-set_same p.chips.items v (added + c) 0 (omega arith) in
      let b = get_or_read p.chips.items v added (omega arith) was 0 in
      grind (arith, nat_tests, get_or-set_other p.chips.items v u (added + c) 0)

  pub chips_dropped : slice_index now ≡ dropped (slice_index p.chips.items) v c
  chips_dropped i u = here u i

  start_more : (u : ℕ) → slice_index g'.start u ≡ slice_index p.game.start u + cond (eqb v u) c 0
  start_more u =
      let a = more.start_each in let b = pile.game.start_fits in
      grind (arith, nat_tests, more.start u, get_or_past g'.start u 0, get_or_past p.game.start u 0)

  -- the counts lead to them
  pub led_drop : LeadsTo g'.graph (slice_index g'.start) (slice_index p.fired.items)
      (dropped (slice_index p.chips.items) v c)
  led_drop = rw more.same_graph (leads_more _ _ _ _ (λ u. cond (eqb v u) c 0) _ _
      (rest_leads _ _ _ pile.begun pile.at_rest) start_more (λ u. refl))

  -- how many chips the sink has
  pub arrived_drop : (sink arrived : ℕ) → sink ≡ g'.graph.sink → arrived ≡ get_or now sink arrived
      → arrived ≡ dropped (slice_index p.chips.items) v c g'.graph.sink
  arrived_drop sink arrived is_sink is =
      let fits = pile.game.graph_fits.sink_is_vertex in
      let each = length-set p.chips.items v (added + c) ∙ pile.begun.in_range.chips_each in
      let same = ap (λ (G : Multigraph). G.sink) more.same_graph in
      let inside : sink < length now = omega arith in
      rw (← is_sink) (get_or_read now sink arrived inside is 0 ∙ here sink)

  -- so the play goes on
  pub begun_drop : IsBegun g' now p.fired.items
  begun_drop =
      let in_range = pile.begun.in_range in
      let each = length-set p.chips.items v (added + c) ∙ in_range.chips_each in
      let there : slice_index now ≡ dropped (slice_index p.chips.items) v c = (λ i u. here u i) in
      let led : LeadsTo p.game.graph (slice_index g'.start) (slice_index p.fired.items) (slice_index now) =
      rw (there, ← more.same_graph) led_drop in
      let kept : sum now ≡ sum g'.start =
      led_kept _ in_range.graph_fits _ _ _ (more.start_each ∙ pile.game.start_fits) each led in
      let total = more.total in
      rw (more.same_graph, more.same_limit)
      (record { in_range = grind arith; on_the_way = led_way _ _ _ _ _ led in_range.low_counts })

-- if no vertex is legal where the play of a drop ends, this is its avalanche
pub drop_told : (g : ChipGame) (ds : List (ℕ × ℕ)) (x : ℕ → ℕ) (d : BegunDrop) → IsBegunDrop g ds x d
    → (chips' fired' : List ℕ) → IsBegun d.pile.game chips' fired' → IsStable d.pile.game.graph (slice_index chips')
    → (a : Avalanche) → a.size ≡ sum_between (λ k. k) (length fired') d.pile.room.before.items fired'
    → a.extent ≡ sum_between (λ k. min k 1) (length fired') d.pile.room.before.items fired'
    → (left : ℕ) → left ≡ get_or chips' d.pile.game.graph.sink left → a.lost ≡ left - d.arrived
    → IsStable g.graph (slice_index chips') × IsAvalanche g.graph x a (slice_index chips')
drop_told g ds x d is chips' fired' begun stable a size extent left is_left lost =
    let two = rest_leads d.pile.game chips' fired' begun (λ u can. absurd (stable u can)) in
    let each : length fired' ≡ d.pile.game.graph.vertices = grind arith in
    rw (← is.adds.same_graph) (
      stable,
      drop_tells _ is.game.graph_fits _ _ _ _ _ is.led two stable a (rw each at size) (rw each at extent)
          (grind (arith, get_or_read chips' d.pile.game.graph.sink left, is.arrived)),
    )

-- and a row of what fired in it is that of the drop
pub row_told : (g : ChipGame) (ds : List (ℕ × ℕ)) (x : ℕ → ℕ) (d : BegunDrop) → IsBegunDrop g ds x d
    → (chips' fired' : List ℕ) → IsBegun d.pile.game chips' fired' → IsStable d.pile.game.graph (slice_index chips')
    → (vertices times : List ℕ)
    → IsRow (λ v. slice_index fired' v - slice_index d.pile.room.before.items v) vertices times
    → HasRow g.graph x vertices times
row_told g ds x d is chips' fired' begun stable vertices times row =
    let two = rest_leads d.pile.game chips' fired' begun (λ u can. absurd (stable u can)) in
    rw (← is.adds.same_graph) (λ vs ok ended.
    let to = drop_ends _ is.game.graph_fits _ _ _ _ _ is.led two stable vs ok ended in
    let between : (λ (v : ℕ). slice_index fired' v - slice_index d.pile.room.before.items v) ≡ counts vs = (λ i v.
    let e = to.0 v in let h : slice_index fired' v - slice_index d.pile.room.before.items v ≡ counts vs v = omega arith in
    h i) in
    subst (λ (h : ℕ → ℕ). IsRow h vertices times) between row)

-- the outcome of a game is where its play may begin
module _ (g : ChipGame) (ok : IsGame g) (o : Outcome) (played : IsPlayed g o) where
  pub played_begun : IsBegun g o.chips.items o.fired.items
  played_begun =
      let way = led_way _ _ _ _ _ (played_is_stage g o played) played.low_counts in
      record { in_range = grind arith; on_the_way = way }

  pub played_rests : IsAtRest g o.chips.items o.fired.items
  played_rests v can =
      let (vs, play) = played.ends in
      let there : slice_index o.chips.items ≡ position_after g.graph (slice_index g.start) vs =
      (λ i u. played.position vs play u i) in
      played.counted vs play v ∙ play.ended v (rw there at can)

-- one more avalanche
pub told_more : (G : Multigraph) (x : ℕ → ℕ) (told : List ((ℕ × ℕ) × Avalanche)) (y : ℕ → ℕ) (t : (ℕ × ℕ) × Avalanche)
    (z : ℕ → ℕ) → AreAvalanches G x told y → IsAvalanche G (dropped y t.0.0 t.0.1) t.1 z
    → AreAvalanches G x (told ++ t ∷ []) z
told_more G x [] y t z are is =
    (z, subst (λ (p : ℕ → ℕ). IsAvalanche G (dropped p t.0.0 t.0.1) t.1 z) (λ i v. are v i) is, (λ v. refl))
told_more G x (u ∷ told) y t z (w, one, are) is = (w, one, told_more G w told y t z are is)

pub drops_add_up : DropsAddUp
drops_add_up G good x f y one stable [] z are x' start vs ok ended =
    let same = leads_more G x y f (λ u. 0) x' y one (λ u. let a = start u in omega arith) (λ u. omega arith) in
    let alike = ends_alike G good x' f y same [] tt stable vs ok ended in (
      (let a = sum_below_ext G.vertices f (counts vs) (λ v l. let b = alike.0 v in omega arith) in
          let b = length_counts G vs x' ok in omega arith),
      (λ v. are v ∙ alike.1 v),
    )
drops_add_up G good x f y one stable ((d, a) ∷ told) z (z', is, are) x' start vs ok ended =
    let (ws, fires, rests) = is.ends in
    let there : z' ≡ position_after G (dropped y d.0 d.1) ws = (λ i v. is.leaves ws fires rests v i) in
    let both = leads_both G (dropped x d.0 d.1) f (dropped y d.0 d.1) (counts ws) z'
    (leads_more G x y f (λ u. cond (eqb d.0 u) d.1 0) _ _ one (λ u. refl) (λ u. refl))
    (ws, record { sequence = fires; counted = λ v. refl; position = is.leaves ws fires rests }) in
    let rest = drops_add_up G good (dropped x d.0 d.1) (λ v. f v + counts ws v) z' both
    (subst (IsStable G) (sym there) rests) told z are x'
    (λ v. let e = start v in
    let b = sum_by-cons (λ (pair : ℕ × ℕ). cond (eqb pair.0 v) pair.1 0) d (map (λ t. t.0) told) in omega arith)
    vs ok ended in (
      (let e = rest.0 in let b = sum_below_add G.vertices f (counts ws) in
          let c = length_counts G ws (dropped y d.0 d.1) fires in let h = (is.tells ws fires rests).size in
          let k = sum_by-cons (λ (t : (ℕ × ℕ) × Avalanche). t.1.size) (d, a) told in omega arith),
      rest.1,
    )
