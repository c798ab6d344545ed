-- Serves Roots.antt.
-- A feed of the root: each of its three events is due when it is made, and nothing is held after it.
use Rattle.chip_net.proofs.Names.{◌≡◌, ℕ, ◌+◌, ◌<◌, ◌≤◌, false, cond, eqb, [], ◌∷◌, Some, refl}
use Rattle.chip_net.proofs.Names.{arith, inr, max_total}
use Rattle.chip_net.proofs.Names.{sum_below_ext, Tail, claims_of, sent_counts}
use Rattle.chip_net.proofs.Names.{Setting, root_edge, graph_edges, all_edges, all_fed, saw, Done, Full, met_rules, Step}
use Rattle.chip_net.proofs.Names.{Clear, Put, Feed, Part, does, RootKnown, root_part}
use Rattle.chip_net.proofs.Names.{root_after, has_ended, all_given, IsDueForRoot, RootMakesEvent, HoldsNothing, FeedsChips}
use Rattle.chip_net.proofs.Names.{nat_tests, eq-eqb, append_assoc}
use Rattle.chip_net.proofs.ViewingLemmas.{part_append}
use Rattle.chip_net.proofs.RootingLemmas.{root_step, holds_by, by_look}

-- the reply to a look
pub look_done : (seen claims place : ℕ) → Done place ≡ cond (eqb seen 0) (Done claims) Full → (seen ≡ 0) × (place ≡ claims)
look_done seen claims place is = grind (arith, nat_tests)

-- `count` chips may be fed to a vertex, whose root edge is e
pub record MayFeed (r : RootKnown) (vertex e count : ℕ) : Type 0 where
  pub inside : vertex < r.net.setting.game.graph.vertices
  pub edge_is : e ≡ root_edge r.net.setting vertex
  pub free : HoldsNothing r
  pub some : 1 ≤ count
  pub not_ended : has_ended r ≡ false
  pub few : all_given r + count ≤ max_total
  pub given : all_fed r.net.setting (root_part r) ≡ all_given r

module _ {r : RootKnown} {vertex e count : ℕ} (f : MayFeed r vertex e count) where
  abbrev g : Setting
  g = r.net.setting

  abbrev s : Part
  s = root_part r

  past : graph_edges g ≤ e
  past = omega arith

  below : e < all_edges g
  below = omega arith

  pub look_due : IsDueForRoot r (Clear e)
  look_due = (
    past,
    met_rules g (Clear e) s (inr (past, below, f.not_ended, rw f.edge_is (f.free vertex f.inside))),
  )

  abbrev look : Step
  look = saw (Clear e) 0

  abbrev s1 : Part
  s1 = does g look s

  same_fed : all_fed g s1 ≡ all_fed g s
  same_fed = sum_below_ext _ _ _
      (λ v l. rw (by_look sent_counts 0 (λ t. refl) e (root_edge g v) (s.out (root_edge g v))))

  same_claims : claims_of (s1.out e).link ≡ claims_of (s.out e).link
  same_claims = by_look claims_of 0 (λ t. refl) e e (s.out e)

  module _ {r1 : RootKnown} {seen1 : ℕ} (made1 : RootMakesEvent r r1 (Clear e) seen1) (zero : seen1 ≡ 0) where
    first : r1 ≡ root_after r (look ∷ [])
    first = rw zero at made1.record_is

    pub due2 : IsDueForRoot r1 (Feed e count)
    due2 = rw first (
      past,
      rw (root_step r look) (met_rules g (Feed e count) s1 (
        past,
        below,
        f.not_ended,
        omega arith,
        (let a = same_fed in omega arith),
        rw (eq-eqb e e refl),
      )),
    )

    module _ {r2 : RootKnown} {seen2 : ℕ} (made2 : RootMakesEvent r1 r2 (Feed e count) seen2) where
      abbrev feed : Step
      feed = saw (Feed e count) seen2

      -- it saw the number of messages sent before
      place2 : seen2 ≡ claims_of (s.out e).link
      place2 = rw (first, root_step r look, same_claims) at made2.fits

      second : r2 ≡ root_after r (look ∷ feed ∷ [])
      second = rw (made2.record_is, first, append_assoc)

      abbrev s2 : Part
      s2 = does g feed s1

      claimed : (s2.out e).link.held ≡ Some count
      claimed = let place = place2 in let same = same_claims in grind (arith, nat_tests)

      pub due3 : IsDueForRoot r2 (Put e)
      due3 = rw second (past, rw part_append (met_rules g (Put e) s2 (below, (count, claimed))))

      module _ {r3 : RootKnown} {seen3 : ℕ} (made3 : RootMakesEvent r2 r3 (Put e) seen3) where
        abbrev put : Step
        put = saw (Put e) 0

        third : r3 ≡ root_after r (look ∷ feed ∷ put ∷ [])
        third = rw (made3.record_is, made3.noted_is, second, append_assoc)

        pub free3 : HoldsNothing r3
        free3 = rw third (λ v l. rw part_append (let none = f.free v l in grind (arith, nat_tests)))

        pub feeds : (place : ℕ) → place ≡ claims_of (s.out e).link → FeedsChips r r3 vertex count place
        feeds place place_is = record {
          not_ended = f.not_ended;
          within = f.few;
          place_is = rw f.edge_is at place_is;
          record_is = rw (place2, ← place_is, f.edge_is) at third;
        }

  pub free1 : {r1 : RootKnown} {seen : ℕ} → RootMakesEvent r r1 (Clear e) seen → HoldsNothing r1
  free1 {seen = seen} made = holds_by made (by_look (λ (t : Tail). t.held) seen (λ t. refl) e) f.free
