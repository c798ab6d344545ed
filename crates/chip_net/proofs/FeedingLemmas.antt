-- Serves Roots.antt.
-- Feeding: what the root may feed, and the game with all that it fed.
use Rattle.chip_net.proofs.Names.{◌≡◌, ℕ, ◌+◌, ◌<◌, ◌≤◌, Bool, true, false, not, sum, Option, Some, None, refl}
use Rattle.chip_net.proofs.Names.{sym, ap, arith, leb, le-leb, lt-ltb, ne_eqb, leb-true, true≢false, Result, Ok}
use Rattle.chip_net.proofs.Names.{Err, leb-false, and_from, max_total, all_brought, Setting, root, graph_edges}
use Rattle.chip_net.proofs.Names.{all_edges, all_fed, Rule, need, unmet_rule, Feed, NoSuch, Ended, Zero, TooMuch}
use Rattle.chip_net.proofs.Names.{NotCleared, Act, verdict, Root, fed_in, root_gave}
use Rattle.chip_net.proofs.Names.{played_has_more, by_history, FeedFault, View, did_in, part_of_view, RootKnown}
use Rattle.chip_net.proofs.Names.{root_part, has_ended, all_given, IsRoot, feed_fault, AllowsFeed}

-- what the root was given is what it has fed, by a log with its steps
pub given_is_fed : {g : Setting} {view : View} {state : Root} → IsRoot g view state
    → all_fed g (part_of_view g (root g) view) ≡ sum g.game.start + all_brought (fed_in g (did_in (root g) view))
given_is_fed {g = g} keeps =
    let log = keeps.in_log.log in
    rw (keeps.in_log.has, ← by_history g log (root g), ← root_gave g keeps.setting.game keeps.setting.some_ring log)
    (played_has_more g keeps.setting.game keeps.setting.some_ring log keeps.in_log.legal).total

-- ---- what the root may feed

abbrev pub or_fault : Option FeedFault → Result (Unit {0}) FeedFault
or_fault None = Ok tt
or_fault (Some fault) = Err fault

abbrev pub feed_answer : Result Act Rule → Result (Unit {0}) FeedFault
feed_answer (Ok act) = Ok tt
feed_answer (Err rule) = or_fault (feed_fault rule)

module _ (r : RootKnown) (count : ℕ) (given : all_fed r.net.setting (root_part r) ≡ all_given r) where
  by_rules : (there ended some fits clear : Bool) (act : Act) → there ≡ true → some ≡ true → has_ended r ≡ ended
      → leb (all_fed r.net.setting (root_part r) + count) max_total ≡ fits
      → AllowsFeed r count (feed_answer (verdict (need there NoSuch (need (not ended) Ended (need some Zero
      (need fits TooMuch (need clear NotCleared None))))) act))
  by_rules false ended some fits clear act t z e f = absurd (true≢false (sym t))
  by_rules true true some fits clear act t z e f = e
  by_rules true false false fits clear act t z e f = absurd (true≢false (sym z))
  by_rules true false true false clear act t z e f = (e, (let a = leb-false _ _ f in omega arith))
  by_rules true false true true false act t z e f = (e, (let a = leb-true _ _ f in omega arith), given)
  by_rules true false true true true act t z e f = (e, (let a = leb-true _ _ f in omega arith), given)

  pub allows_feed : (edge : ℕ) → graph_edges r.net.setting ≤ edge → edge < all_edges r.net.setting → 0 < count
      → (act : Act) → AllowsFeed r count (feed_answer (verdict (unmet_rule r.net.setting (Feed edge count) (root_part r)) act))
  allows_feed edge past inside some act = by_rules _ _ _ _ _ act
      (and_from _ _ (le-leb (graph_edges r.net.setting) edge past) (lt-ltb edge (all_edges r.net.setting) inside))
      (ap not (ne_eqb count 0 (λ z. (let a : count ≡ 0 = z in omega arith)))) refl refl
