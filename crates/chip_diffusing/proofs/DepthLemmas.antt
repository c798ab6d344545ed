-- Serves Ending.antt, Laws.antt. Once it is over each round removes the lowest level of the tree.
use Rattle.std.proofs.Common.{Bool, true, Option, ◌+◌, ◌≡◌, ◌≢◌, ◌⊎◌, ℕ, zero, suc, ◌-◌, ◌<◌, ◌≤◌, eqb, List, [], ◌∷◌, cond}
use Rattle.std.proofs.Common.{Some, None, Contains, refl, sym, ap, ◌∙◌, subst, arith, inl, inr, ⊎_elim}
use Rattle.std.proofs.lemmas.Bool.Decides.{nat_tests}
use mathlib.Core.Logic.{dite}
use native.Mathlib.Decide.{ℕ_discrete}
use Rattle.chip_detect.specs.Books.{Books, IsSound, in_edges, out_edges, owed, all_owed, outstanding, deficit}
use Rattle.chip_detect.specs.Acknowledging.{acknowledgeable_count, may_ack}
use Rattle.chip_detect.proofs.ChangesLemmas.{open_within_total, total_adds}
use Rattle.chip_diffusing.specs.Network.{Network, IsNetwork, IsOutOf}
use Rattle.chip_diffusing.specs.Computation.{World, IsQuiescent, HasClosedRoot, sent_on, got_on, acked_on}
use Rattle.chip_diffusing.specs.Computation.{settled_on}
use Rattle.chip_diffusing.specs.Ending.{IsEngagementTree, Goes, HasMoment, HasMomentRound, HasMomentRounds}
use Rattle.chip_diffusing.specs.Laws.{DepthCloses, DepthIsCounted}
use Rattle.chip_diffusing.proofs.KeptLemmas.{IsKept, legal_kept, sum_none}
use Rattle.chip_diffusing.proofs.QuiescentLemmas.{IsLater, later, then_later}
use Rattle.chip_diffusing.proofs.OrderLemmas.{owes_on}
use Rattle.chip_detect.proofs.ListLemmas.{place_in, few_places, none_some, cases_option, contained, contains_first}
use Rattle.chip_detect.proofs.ListLemmas.{contains_later, contains_cases, contains_nothing}

-- ---- the books of one process

-- if nothing may be acknowledged on an edge, nothing is owed there, or it is the parent edge
little : (e : ℕ) (parent : Option ℕ) (here all waiting : ℕ) (passive : Bool)
    → acknowledgeable_count e parent here all waiting passive ≡ 0 → (here ≡ 0) ⊎ (parent ≡ Some e)
little e None here all waiting passive none = inl none
little e (Some q) here all waiting passive none = grind (arith, nat_tests)

idle_little : (b : Books) (e : ℕ) (passive : Bool) → may_ack b e passive ≡ 0 → (owed b e ≡ 0) ⊎ (b.parent ≡ Some e)
idle_little b e passive none = little e b.parent (owed b e) (all_owed b) (deficit b) passive none

-- a passive process that waits for nothing and may acknowledge nothing isn't engaged
rests : (b : Books) (passive : Bool) → IsSound b → passive ≡ true → deficit b ≡ 0
    → ((e : ℕ) → Contains (in_edges b) e → may_ack b e passive ≡ 0) → b.parent ≡ None
rests b passive sound is none idle = ⊎_elim (λ z. z) (λ some. absurd (engaged some.0 some.1)) (cases_option b.parent)
  where
    elsewhere : (q : ℕ) → b.parent ≡ Some q → (i : ℕ) → owed b i ≡ cond (eqb q i) (0 + owed b q) 0
    elsewhere q parent i = let on = owes_on b i in let may = idle i in let few = idle_little b i passive in
        grind (arith, nat_tests)

    engaged : (q : ℕ) → b.parent ≡ Some q → ⊥
    engaged q parent =
        let owes = sound.engaged q parent in
        let on = owes_on b q owes in
        let total = total_adds (λ i. 0) (owed b) (in_edges b) q (owed b q) sound.ins.ascending on (elsewhere q parent) in
        let zeros = sum_none (λ i. 0) (in_edges b) (λ e m. refl) in
        let all : all_owed b ≡ owed b q = omega arith in
        let may = idle q on in absurd (grind (arith, nat_tests))

-- ---- rounds

module _ (net : Network) (is : IsNetwork net) (level : ℕ → ℕ) where
  -- parents have a higher level than their tails, and no more than `most`
  record Low (w : World) (most : ℕ) : Type 0 where
    below : (p : ℕ) → p < net.parts → (e : ℕ) → (w p).books.parent ≡ Some e
        → (level (net.tail e) < level p) × (level p ≤ most)

  -- messages are owed only on parent edges
  abbrev Rested : World → Type 0
  Rested w = (e : ℕ) → e < net.edges → (got_on net w e ≤ acked_on net w e) ⊎ ((w (net.head e)).books.parent ≡ Some e)

  -- a neutral process owes nothing
  none_owed : (w : World) → IsKept net w → (e : ℕ) → e < net.edges → (w (net.head e)).books.parent ≡ None
      → got_on net w e ≤ acked_on net w e
  none_owed w kept e l none =
      let all = (kept.sound (net.head e) (is.heads e l)).neutral none in
      let a = open_within_total (w (net.head e)).books.ins e in omega arith

  module _ (a : World) (kept : IsKept net a) (quiescent : IsQuiescent net a) (b : World) (round : HasMomentRound net a b) where
    to_end : IsLater net is a b
    to_end = later net is a kept quiescent round.goes.0 b round.goes.1

    module _ (p : ℕ) (l : p < net.parts) (other : p ≡ net.root → ⊥) where
      abbrev turn : HasMoment net a b p
      turn = round.turns p l other

      abbrev m : World
      m = turn.moment

      to_moment : IsLater net is a m
      to_moment = later net is a kept quiescent turn.before.0 m turn.before.1

      from_moment : IsLater net is m b
      from_moment = later net is m to_moment.kept to_moment.quiescent turn.after.0 b turn.after.1

    -- after a round messages are owed only on parent edges
    round_rests : Rested b
    round_rests e l =
        let h : ℕ = net.head e in
        let inside = is.heads e l in
        let other = is.none_to_root e l in
        let here = to_moment h inside other in
        let on = from_moment h inside other in
        let kept_m = here.kept in
        ⊎_elim
        (λ none. (let x = on.got h e in let y = on.acked h e in inl (omega arith)))
        (λ parent. ⊎_elim (λ gone. inl (none_owed b to_end.kept e l gone))
        (λ some. let was = on.parent h some.0 some.1 in let same : some.0 ≡ e = cc in inr (some.1 ∙ ap Some same))
        (cases_option (b h).books.parent))
        (idle_little (m h inside other h).books e (m h inside other h).passive
        ((turn h inside other).given e (l, refl)))

    round_keeps : (most : ℕ) → Low a most → Low b most
    round_keeps most low = record { below = λ p l e at. low.below p l e (to_end.parent p e at) }

    -- and it removes the lowest level
    round_lowers : (most : ℕ) → Low a (suc most) → Rested a → Low b most
    round_lowers most low rested = record {
      below = λ p l e at. (let was = low.below p l e (to_end.parent p e at) in let w1 = was.1 in
          (was.0, (dite (ℕ_discrete (level p) (suc most)) (λ z. absurd (lowest p l e at z)) (λ n. omega arith))));
    }
      where
        lowest : (p : ℕ) → p < net.parts → (e : ℕ) → (b p).books.parent ≡ Some e → level p ≡ suc most → ⊥
        lowest p l e at high = none_some e (m p l other p).books.parent free parent
          where
            other : p ≡ net.root → ⊥
            other z = none_some e (b p).books.parent (ap (λ (q : ℕ). (b q).books.parent) z ∙ to_end.kept.free) at

            parent : (m p l other p).books.parent ≡ Some e
            parent = (from_moment p l other).parent p e at

            -- its messages are all acknowledged since before the round
            acked : (i : ℕ) → i < net.edges → net.tail i ≡ p → got_on net a i ≤ acked_on net a i
            acked i li tail = ⊎_elim (λ none. none)
                (λ child. let c = low.below (net.head i) (is.heads i li) i child in
                let c0 = c.0 in let c1 = c.1 in let t = ap level tail in absurd (omega arith))
                (rested i li)

            waits : (i : ℕ) → Contains (out_edges (m p l other p).books) i → outstanding (m p l other p).books i ≡ 0
            waits i has =
                let here = to_moment p l other in
                let o = (here.kept.outs p l).none_else i has in
                let heard = (turn p l other).heard i o in
                let x = acked i o.0 o.1 in
                let y = quiescent.delivered i o.0 in
                let s : sent_on net (m p l other) i ≡ sent_on net a i = here.sent (net.tail i) i in
                let z : outstanding (m p l other (net.tail i)).books i ≡ 0 = omega arith in
                subst (λ (q : ℕ). outstanding (m p l other q).books i ≡ 0) o.1 z

            free : (m p l other p).books.parent ≡ None
            free =
                let here = to_moment p l other in
                rests (m p l other p).books (m p l other p).passive (here.kept.sound p l) (here.quiescent.passive p l)
                (sum_none (outstanding (m p l other p).books) (out_edges (m p l other p).books) waits)
                (λ i has. (turn p l other).given i ((here.kept.ins p l).none_else i has))

  module _ (w : World) (kept : IsKept net w) (quiescent : IsQuiescent net w) (depth : ℕ) (low : Low w depth) where
    record After (k : ℕ) (v : World) : Type 0 where
      way : IsLater net is w v
      rested : Rested v
      lower : Low v (depth - k)

    after_rounds : (k : ℕ) → k ≤ depth → (v : World) → HasMomentRounds net (suc k) w v → After k v
    after_rounds zero few v (u, same, round) =
        let kept_u : IsKept net u = subst (IsKept net) same kept in
        let quiescent_u : IsQuiescent net u = subst (IsQuiescent net) same quiescent in
        let low_u : Low u depth = subst (λ (x : World). Low x depth) same low in
        record {
          way = subst (λ (x : World). IsLater net is x v) (sym same) (to_end u kept_u quiescent_u v round);
          rested = round_rests u kept_u quiescent_u v round;
          lower = subst (Low v) (let z : depth ≡ depth - 0 = omega arith in z)
              (round_keeps u kept_u quiescent_u v round depth low_u);
        }
    after_rounds (suc k) few v (u, rounds, round) =
        let before = after_rounds k (omega arith) u rounds in
        let kept_u = before.way.kept in
        let quiescent_u = before.way.quiescent in
        record {
          way = then_later net is w u v before.way (to_end u kept_u quiescent_u v round);
          rested = round_rests u kept_u quiescent_u v round;
          lower = round_lowers u kept_u quiescent_u v round (depth - suc k)
              (subst (Low u) (let z : depth - k ≡ suc (depth - suc k) = omega arith in z) before.lower) before.rested;
        }

    no_parent : (v : World) → Low v 0 → (p : ℕ) → p < net.parts → (v p).books.parent ≡ None
    no_parent v flat p l = ⊎_elim (λ z. z)
        (λ some. let c = flat.below p l some.0 some.1 in let c0 = c.0 in let c1 = c.1 in absurd (omega arith))
        (cases_option (v p).books.parent)

    closes : (v end : World) → HasMomentRounds net (suc depth) w v → Goes net v end
        → ((e : ℕ) → IsOutOf net net.root e → acked_on net v e ≤ settled_on net end e) → HasClosedRoot net end
    closes v end rounds goes heard =
        let all = after_rounds depth (omega arith) v rounds in
        let flat : Low v 0 = subst (Low v) (let z : depth - depth ≡ 0 = omega arith in z) all.lower in
        let last = later net is v all.way.kept all.way.quiescent goes.0 end goes.1 in
        record {
          ended = last.quiescent.passive net.root is.root;
          settled = sum_none (outstanding (end net.root).books) (out_edges (end net.root).books)
              (λ i has.
              let o = (last.kept.outs net.root is.root).none_else i has in
              let x = none_owed v all.way.kept i o.0 (no_parent v flat (net.head i) (is.heads i o.0)) in
              let y = all.way.quiescent.delivered i o.0 in
              let s : sent_on net end i ≡ sent_on net v i = last.sent (net.tail i) i in
              let h = heard i o in
              let z : outstanding (end (net.tail i)).books i ≡ 0 = omega arith in
              subst (λ (q : ℕ). outstanding (end q).books i ≡ 0) o.1 z);
        }

pub depth_closes : DepthCloses
depth_closes net is log w legal quiescent depth deep v end rounds goes heard =
    closes net is deep.level w (legal_kept net is log w legal) quiescent depth (record { below = deep.below }) v end rounds
    goes heard

-- ---- the place in a detection order as a level

outside : (vs : List ℕ) (v : ℕ) → (Contains vs v → ⊥) → place_in vs v ≡ 0
unfolding place_in
outside [] v out = refl
outside (u ∷ us) v out =
    let other : v ≢ u = (λ z. out (subst (Contains (u ∷ us)) (sym z) (contains_first u us))) in
    let rest = outside us v (λ m. out (contains_later u us v m)) in
    grind (arith, nat_tests)

module _ (net : Network) (is : IsNetwork net) (w : World) where
  never_root : (vs : List ℕ) → IsEngagementTree net w vs → Contains vs net.root → ⊥
  never_root [] tree has = contains_nothing net.root has
  never_root (v ∷ vs) tree has = ⊎_elim
      (λ z. is.none_to_root tree.2.0 tree.2.1.into.0 (tree.2.1.into.1 ∙ sym z))
      (λ z. never_root vs tree.0 z) (contains_cases v vs net.root has)

  -- the parent edge of the latest process comes from an earlier one or from the root, and so do the others
  from_rest : (u : ℕ) (us : List ℕ) → IsEngagementTree net w (u ∷ us) → (v e : ℕ) → (w v).books.parent ≡ Some e
      → (Contains us v → (w v).books.parent ≡ Some e → (net.tail e ≡ net.root) ⊎ Contains us (net.tail e))
      → (v ≡ u) ⊎ Contains us v → (net.tail e ≡ net.root) ⊎ Contains us (net.tail e)
  from_rest u us tree v e at rest (inr has) = rest has at
  from_rest u us tree v e at rest (inl z) =
      let mine : (w v).books.parent ≡ Some tree.2.0 = ap (λ (q : ℕ). (w q).books.parent) z ∙ tree.2.1.parent in
      let same : tree.2.0 ≡ e = cc in
      subst (λ (i : ℕ). (net.tail i ≡ net.root) ⊎ Contains us (net.tail i)) same tree.2.1.from_earlier

  -- the parent edge of a process of the tree comes from the root or from a process of it
  from_tree : (vs : List ℕ) → IsEngagementTree net w vs → (v e : ℕ) → Contains vs v → (w v).books.parent ≡ Some e
      → (net.tail e ≡ net.root) ⊎ Contains vs (net.tail e)
  from_tree [] tree v e has at = absurd (contains_nothing v has)
  from_tree (u ∷ us) tree v e has at = ⊎_elim (λ r. inl r) (λ c. inr (contains_later u us (net.tail e) c))
      (from_rest u us tree v e at (from_tree us tree.0 v e) (contains_cases u us v has))

  places_fall : (vs : List ℕ) → IsEngagementTree net w vs → (v e : ℕ) → Contains vs v → (w v).books.parent ≡ Some e
      → place_in vs (net.tail e) < place_in vs v
  unfolding place_in
  places_fall [] tree v e has at = absurd (contains_nothing v has)
  places_fall (u ∷ us) tree v e has at =
      let cases = contains_cases u us v has in
      let few = few_places us (net.tail e) in
      let rest = places_fall us tree.0 v e in
      let other : net.tail e ≢ u = (λ y. ⊎_elim
      (λ r. never_root (u ∷ us) tree (subst (Contains (u ∷ us)) (sym y ∙ r) (contains_first u us)))
      (λ c. tree.1 (subst (Contains us) y c)) (from_rest u us tree v e at (from_tree us tree.0 v e) cases)) in
      grind (arith, nat_tests)

pub depth_is_counted : DepthIsCounted
depth_is_counted net is log w legal ps order =
    let kept = legal_kept net is log w legal in record {
      level = place_in ps;
      below = λ p l e at. (
        ⊎_elim (λ has. places_fall net is w ps order.tree p e has at)
            (λ out. absurd (dite (ℕ_discrete p net.root)
            (λ z. none_some e (w p).books.parent (ap (λ (q : ℕ). (w q).books.parent) z ∙ kept.free) at)
            (λ other. none_some e (w p).books.parent (order.others p l other out).no_parent at)))
            (contained ps p),
        few_places ps p,
      );
    }
