-- Serves Root.antt.
-- The root's feeder: what it keeps of the root edges, and how a look, a claim and a put there change it.
use Rattle.std.proofs.lemmas.Bool.Decides.{nat_tests}
use Rattle.std.proofs.Common.{rules, ◌≡◌, ◌≢◌, ℕ, ◌+◌, ◌-◌, ◌<◌, ◌≤◌, ◌^◌, true, false, cond, eqb, List, [], ◌∷◌}
use Rattle.std.proofs.Common.{length, sum, get_or, set, slice_index, Option, Some, None, option_to_list, refl, sym, ap}
use Rattle.std.proofs.Common.{◌∙◌, subst, arith, eq-eqb, length-set, get_or-set_same, get_or-set_other, length-append}
use Rattle.std.proofs.Common.{le-leb}
use Rattle.std.proofs.Math.Nat.{mod-eq_of_lt}
use Rattle.std.proofs.lemmas.Bool.{leb-true}
use Rattle.std.proofs.lemmas.List.Sums.{sum_by-append}
use mathlib.Core.Logic.{dite}
use native.Mathlib.Decide.{ℕ_discrete}
use Rattle.chip_graph.specs.Limits.{max_total}
use Rattle.chip_graph.proofs.SumLemmas.{cond_yes, cond_no, sum_below_term, sum_below_le, sum_below_move, tested_move}
use Rattle.chip_link.specs.Ends.{TailState, new_tail, may_clear, claim_words, tail_after_clear, tail_after_claim}
use Rattle.chip_link.specs.Ends.{tail_after_put}
use Rattle.chip_link.specs.Link.{Tail, claims_of, sent_counts, tail_state, after_clear, after_claim, after_put}
use Rattle.chip_link.specs.Words.{claims_in}
use Rattle.chip_link.proofs.StatesLemmas.{tail_clears, tail_claims, tail_puts}
use Rattle.chip_graph.specs.ChipGame.{IsGame}
use Rattle.chip_part.specs.Setting.{Setting}
use Rattle.chip_part.specs.Edges.{graph_edges, all_edges, root_edge, tail_of, root}
use Rattle.chip_part.specs.Part.{Part, opening_part, outstanding_on, deficit_of, all_fed}
use Rattle.chip_part.specs.Rules.{Clear, Put, Settle, Feed, End}
use Rattle.chip_part.specs.declared.reply.Reply.TheVariants.{Done, Sealed}
use Rattle.chip_part.specs.declared.reply.Reply.{Reply}
use Rattle.chip_part.specs.Steps.{does, reply_of, saw}
use Rattle.chip_actor.specs.Root.{Feeder, Feeds, KeepsTail, Root, RootStandsFor, SomeRoot, RootCanDo, RootMakes, tail_at}
use Rattle.chip_actor.specs.Root.{with_tail, after_feed, look_reply, feed_reply, IsOpeningFeeder, ended_root}
use Rattle.chip_part.proofs.EdgeLemmas.{tail_root}
use Rattle.chip_part.proofs.RuleLemmas.{rules_met, met_rules, root_clear}
use Rattle.chip_part.proofs.OpeningLemmas.{first_sent, first_fed}
use Rattle.chip_actor.proofs.RootLemmas.{first_claims, all_outstanding}

-- ---- one tail

-- a look while no message is claimed and not put
pub look_keeps : (t : Tail) (seen : ℕ) → KeepsTail t → t.held ≡ None → KeepsTail (after_clear seen t)
look_keeps t seen kept none = search (rules, arith, nat_tests)

-- a store
put_sum : (t : Tail) → sum (sent_counts (after_put t)) ≡ sum (sent_counts t)
put_sum t = let all = sum_by-append (λ (x : ℕ). x) (sent_counts t) [] in omega arith

pub put_claims : (t : Tail) → claims_of (after_put t) ≡ claims_of t
put_claims t = let all = length-append t.put (option_to_list t.held) in omega arith

pub put_keeps : (t : Tail) → KeepsTail t → KeepsTail (after_put t)
put_keeps t kept = let a = put_sum t in let b = put_claims t in let c = kept.counted in search (rules, arith, nat_tests)

-- a claim that is taken
module _ (t : Tail) (count : ℕ) (none : t.held ≡ None) where
  abbrev pub claimed : Tail
  claimed = record t { held = Some count; clear = false }

  pub claim_is : after_claim count (claims_of t) t ≡ claimed
  claim_is = cond_yes (claims_of t) (claims_of t) _ _ refl

  pub claim_claims : claims_of claimed ≡ claims_of t + 1
  claim_claims = let was = ap (λ (h : Option ℕ). length (option_to_list h)) none in omega arith

  pub claim_sum : sum (sent_counts claimed) ≡ sum (sent_counts t) + count
  claim_sum =
      let now = sum_by-append (λ (x : ℕ). x) t.put (count ∷ []) in
      let was = sum_by-append (λ (x : ℕ). x) t.put (option_to_list t.held) in
      let one : sum (count ∷ []) ≡ 0 + count = refl in
      grind (arith, nat_tests)

  pub claim_keeps : KeepsTail t → 0 < count → KeepsTail claimed
  claim_keeps kept some = let a = claim_sum in let b = claim_claims in let c = kept.counted in
      search (rules, arith, nat_tests)

-- ---- what it keeps

module _ (g : Setting) (s : Part) (f : Feeder) (feeds : Feeds g s f) (v : ℕ) (l : v < g.game.graph.vertices) where
  abbrev link : Tail
  link = (s.out (root_edge g v)).link

  pub tail_is : tail_at f v ≡ tail_state (root_edge g v) g.ring link
  tail_is = feeds.tails v l (new_tail 0 1)

  pub few_given : sum (sent_counts link) ≤ max_total
  few_given =
      let one = sum_below_term g.game.graph.vertices (λ u. sum (sent_counts (s.out (root_edge g u)).link)) v l in
      let all = feeds.within in omega arith

  pub few_claims : claims_of link ≤ max_total
  few_claims = let a = few_given in let b = (feeds.kept v l).counted in omega arith

  pub given_low : slice_index f.given v ≤ f.fed
  given_low =
      let one = sum_below_term g.game.graph.vertices (λ u. sum (sent_counts (s.out (root_edge g u)).link)) v l in
      let here = feeds.given.1 v l in let all = feeds.fed in omega arith

  pub may_look : link.held ≡ None → may_clear (tail_state (root_edge g v) g.ring link) ≡ true
  may_look none = let few = few_claims in let never = (feeds.kept v l).sealed_never in grind (arith, nat_tests)

-- ---- one tail changes

module _ (g : Setting) (s s' : Part) (f f' : Feeder) (feeds : Feeds g s f) (v : ℕ) (l : v < g.game.graph.vertices) (t' : Tail)
    (here : (s'.out (root_edge g v)).link ≡ t')
    (rest : (i : ℕ) → root_edge g v ≢ i → (s'.out i).link ≡ (s.out i).link)
    (settled : (i : ℕ) → (s'.out i).settled ≡ (s.out i).settled) (ended : s'.ended ≡ s.ended)
    (extra more : ℕ)
    (claims : claims_of t' ≡ claims_of (s.out (root_edge g v)).link + extra)
    (sums : sum (sent_counts t') ≡ sum (sent_counts (s.out (root_edge g v)).link) + more) where
  at_root : tail_of g (root_edge g v) ≡ root g
  at_root = tail_root g (root_edge g v) (omega arith)

  apart : (u : ℕ) → u ≢ v → root_edge g v ≢ root_edge g u
  apart u other z = other (let a : u ≡ v = omega arith in a)

  pub all_fed_now : all_fed g s' ≡ all_fed g s + more
  all_fed_now =
      let moved = sum_below_move g.game.graph.vertices (λ u. sum (sent_counts (s'.out (root_edge g u)).link))
      (λ u. sum (sent_counts (s.out (root_edge g u)).link)) v l
      (λ u m other. ap (λ (t : Tail). sum (sent_counts t)) (rest (root_edge g u) (apart u other))) in
      let now = ap (λ (t : Tail). sum (sent_counts t)) here in
      omega arith

  pub deficit_now : deficit_of g (root g) s' ≡ deficit_of g (root g) s + extra
  deficit_now =
      let low = feeds.settled_few v l in
      let moved = tested_move (all_edges g) (λ e. eqb (tail_of g e) (root g)) (λ e. outstanding_on (s'.out e))
      (λ e. outstanding_on (s.out e)) (root_edge g v) (omega arith) (eq-eqb _ _ at_root)
      (λ e m other on. (λ j. claims_of (rest e (λ z. other (sym z)) j) - settled e j)) in
      let now = ap claims_of here in let same = settled (root_edge g v) in
      omega arith

  pub given_now : (given : List ℕ) → length given ≡ length f.given
      → ((u : ℕ) → u < g.game.graph.vertices
      → slice_index given u ≡ slice_index f.given u + cond (eqb v u) more 0)
      → (u : ℕ) → u < g.game.graph.vertices → slice_index given u ≡ sum (sent_counts (s'.out (root_edge g u)).link)
  given_now given long each u m =
      let a = each u m in let c = feeds.given.1 u m in
      dite (ℕ_discrete v u) (λ same. grind (arith, nat_tests))
      (λ other. let d = rest (root_edge g u) (apart u (λ z. other (sym z))) in grind (arith, nat_tests))

  pub feeds_now : (state : TailState) → state ≡ tail_state (root_edge g v) g.ring t' → f'.tails ≡ set f.tails v state
      → length f'.given ≡ length f.given
      → ((u : ℕ) → u < g.game.graph.vertices
      → slice_index f'.given u ≡ slice_index f.given u + cond (eqb v u) more 0)
      → f'.fed ≡ f.fed + more → f'.ended ≡ f.ended → KeepsTail t' → all_fed g s + more ≤ max_total → extra ≤ more
      → Feeds g s' f'
  feeds_now state is tails long each all same kept few low =
      let fed = all_fed_now in let owed = deficit_now in
      record {
        ended = same ∙ feeds.ended ∙ sym ended;
        fed = (let was = feeds.fed in omega arith);
        within = omega arith;
        few_outstanding = (let was = feeds.few_outstanding in omega arith);
        tails_each = ap (λ (ts : List TailState). length ts) tails ∙ length-set f.tails v state ∙ feeds.tails_each;
        tails = λ u m d. ap (λ (ts : List TailState). get_or ts u d) tails ∙ dite (ℕ_discrete u v)
            (λ y.
            let inside = feeds.tails_each in
            ap (λ (w : ℕ). get_or (set f.tails v state) w d) y
            ∙ get_or-set_same f.tails v state d (omega arith) ∙ is
            ∙ ap (tail_state (root_edge g v) g.ring) (sym here)
            ∙ ap (λ (w : ℕ). tail_state (root_edge g w) g.ring (s'.out (root_edge g w)).link) (sym y))
            (λ n. get_or-set_other f.tails v u state d n ∙ feeds.tails u m d
            ∙ ap (tail_state (root_edge g u) g.ring) (sym (rest (root_edge g u) (apart u n))));
        given = (long ∙ feeds.given.0, given_now f'.given long each);
        kept = λ u m. dite (ℕ_discrete u v) (λ y. rw (y, here) kept)
            (λ n. rw (rest (root_edge g u) (apart u n)) (feeds.kept u m));
        settled_few = λ u m.
            let low = feeds.settled_few u m in let still = settled (root_edge g u) in
            dite (ℕ_discrete u v) (λ y. grind (arith, nat_tests))
            (λ n. let now = rest (root_edge g u) (apart u n) in grind (arith, nat_tests));
      }

-- ---- the events of a root that feeds

module _ (g : Setting) (s : Part) (r : Root) (stands : RootStandsFor g s r) (v : ℕ) (l : v < g.game.graph.vertices) where
  abbrev f : Feeder
  f = r.feeder

  pub feeds_here : Feeds g s f
  feeds_here = stands.feeder

  abbrev edge : ℕ
  edge = root_edge g v

  abbrev tail : Tail
  tail = (s.out edge).link

  -- what is settled stays
  root_now : (s' : Part) → ((i : ℕ) → (s'.out i).settled ≡ (s.out i).settled) → (n : ℕ) → n ≡ deficit_of g (root g) s'
      → (f' : Feeder) → Feeds g s' f' → RootStandsFor g s' (record r { outstanding = n; feeder = f' })
  root_now s' settled n counted f' feeds =
      let still = λ (u : ℕ) (m : u < g.game.graph.vertices). stands.settled u m ∙ sym (settled (root_edge g u)) in
      search (rules, arith, nat_tests)

  pub looked : (seen : ℕ) → tail.held ≡ None → (f' : Feeder) → f' ≡ with_tail v (tail_after_clear seen) f
      → RootStandsFor g (does g (saw (Clear edge) seen) s) (record r { feeder = f' })
  looked seen none f' is =
      let s' : Part = does g (saw (Clear edge) seen) s in
      let here : (s'.out edge).link ≡ after_clear seen tail = cond_yes edge edge _ _ refl in
      let rest : (i : ℕ) → edge ≢ i → (s'.out i).link ≡ (s.out i).link = (λ i n. cond_no edge i _ _ n) in
      let same : claims_of (after_clear seen tail) ≡ claims_of tail + 0 = omega arith in
      let sums : sum (sent_counts (after_clear seen tail)) ≡ sum (sent_counts tail) + 0 = omega arith in
      let owed = deficit_now g s s' f f' feeds_here v l (after_clear seen tail) here rest (λ i. refl) refl 0 0 same
      sums in
      let was = stands.outstanding in
      root_now s' (λ i. refl) r.outstanding (omega arith) f'
      (feeds_now g s s' f f' feeds_here v l (after_clear seen tail) here rest (λ i. refl) refl 0 0 same sums
      (tail_after_clear seen (tail_at f v))
      (ap (tail_after_clear seen) (tail_is g s f feeds_here v l)
      ∙ tail_clears edge g.ring tail seen (may_look g s f feeds_here v l none))
      (ap (λ (x : Feeder). x.tails) is) (ap (λ (x : Feeder). length x.given) is)
      (λ u m. (let a = ap (λ (x : Feeder). slice_index x.given u) is in grind (arith, nat_tests)))
      (let a = ap (λ (x : Feeder). x.fed) is in omega arith) (ap (λ (x : Feeder). x.ended) is)
      (look_keeps tail seen (feeds_here.kept v l) none) (let low = feeds_here.within in omega arith) (omega arith))

  pub look_replies : (seen : ℕ) → tail.held ≡ None
      → look_reply (claim_words (tail_after_clear seen (tail_at f v))) ≡ reply_of g (Clear edge) seen s
  look_replies seen none =
      (λ j. look_reply (claim_words (tail_after_clear seen (tail_is g s f feeds_here v l j))))
      ∙ ap (λ (t : TailState). look_reply (claim_words t))
      (tail_clears edge g.ring tail seen (may_look g s f feeds_here v l none))
      ∙ grind (arith, nat_tests)

  pub is_put : (f' : Feeder) → f' ≡ with_tail v tail_after_put f → (seen : ℕ)
      → RootStandsFor g (does g (saw (Put edge) seen) s) (record r { feeder = f' })
  is_put f' is seen =
      let s' : Part = does g (saw (Put edge) seen) s in
      let here : (s'.out edge).link ≡ after_put tail = cond_yes edge edge _ _ refl in
      let rest : (i : ℕ) → edge ≢ i → (s'.out i).link ≡ (s.out i).link = (λ i n. cond_no edge i _ _ n) in
      let same : claims_of (after_put tail) ≡ claims_of tail + 0 = (let a = put_claims tail in omega arith) in
      let sums : sum (sent_counts (after_put tail)) ≡ sum (sent_counts tail) + 0 =
      (let a = put_sum tail in omega arith) in
      let owed = deficit_now g s s' f f' feeds_here v l (after_put tail) here rest (λ i. refl) refl 0 0 same sums in
      let was = stands.outstanding in
      root_now s' (λ i. refl) r.outstanding (omega arith) f'
      (feeds_now g s s' f f' feeds_here v l (after_put tail) here rest (λ i. refl) refl 0 0 same sums
      (tail_after_put (tail_at f v))
      (ap tail_after_put (tail_is g s f feeds_here v l) ∙ tail_puts edge g.ring tail)
      (ap (λ (x : Feeder). x.tails) is) (ap (λ (x : Feeder). length x.given) is)
      (λ u m. (let a = ap (λ (x : Feeder). slice_index x.given u) is in grind (arith, nat_tests)))
      (let a = ap (λ (x : Feeder). x.fed) is in omega arith) (ap (λ (x : Feeder). x.ended) is)
      (put_keeps tail (feeds_here.kept v l)) (let low = feeds_here.within in omega arith) (omega arith))

  pub is_fed : (count : ℕ) → 0 < count → all_fed g s + count ≤ max_total → tail.clear ≡ true → (f' : Feeder)
      → f' ≡ after_feed v count (claims_of tail) f
      → RootStandsFor g (does g (saw (Feed edge count) (claims_of tail)) s)
      (record r { outstanding = r.outstanding + 1; feeder = f' })
  is_fed count some few clear f' is =
      let s' : Part = does g (saw (Feed edge count) (claims_of tail)) s in
      let none = (feeds_here.kept v l).quiet clear in
      let here : (s'.out edge).link ≡ claimed tail count none = cond_yes edge edge _ _ refl ∙ claim_is tail count none in
      let rest : (i : ℕ) → edge ≢ i → (s'.out i).link ≡ (s.out i).link = (λ i n. cond_no edge i _ _ n) in
      let more = claim_claims tail count none in
      let sums = claim_sum tail count none in
      let owed = deficit_now g s s' f f' feeds_here v l (claimed tail count none) here rest (λ i. refl) refl 1 count more
      sums in
      let was = stands.outstanding in
      let there = tail_is g s f feeds_here v l in
      root_now s' (λ i. refl) (r.outstanding + 1) (omega arith) f'
      (feeds_now g s s' f f' feeds_here v l (claimed tail count none) here rest (λ i. refl) refl 1 count more sums
      (tail_after_claim (claims_of tail) count (tail_at f v))
      (ap (tail_after_claim (claims_of tail) count) there ∙ tail_claims edge g.ring tail count (claims_of tail) none
      ∙ ap (tail_state edge g.ring) (claim_is tail count none))
      (ap (λ (x : Feeder). x.tails) is)
      (ap (λ (x : Feeder). length x.given) is ∙ length-set f.given v (slice_index f.given v + count))
      (λ u m. ap (λ (x : Feeder). slice_index x.given u) is ∙ (let inside = feeds_here.given.0 in
      let a = get_or-set_same f.given v (slice_index f.given v + count) 0 (omega arith) in
      let b = get_or-set_other f.given v u (slice_index f.given v + count) 0 in grind (arith, nat_tests)))
      (ap (λ (x : Feeder). x.fed) is) (ap (λ (x : Feeder). x.ended) is)
      (claim_keeps tail count none (feeds_here.kept v l) some) few (omega arith))

-- ---- by the number of the edge

-- an edge of the root is that of some vertex
module _ (g : Setting) (s : Part) (r : Root) (stands : RootStandsFor g s r) (e : ℕ)
    (past : graph_edges g ≤ e) (inside : e < all_edges g) where
  abbrev pub vertex : ℕ
  vertex = e - graph_edges g

  pub is_vertex : vertex < g.game.graph.vertices
  is_vertex = omega arith

  pub its_edge : root_edge g vertex ≡ e
  its_edge = omega arith

  pub same_vertex : e - r.graph_edges ≡ vertex
  same_vertex = ap (λ (n : ℕ). e - n) stands.edges

pub look_made : (r : Root) (f' : Feeder) (e seen : ℕ) (reply : Reply)
    → reply ≡ look_reply (claim_words (tail_after_clear seen (tail_at r.feeder (e - r.graph_edges))))
    → f' ≡ with_tail (e - r.graph_edges) (tail_after_clear seen) r.feeder
    → RootMakes r (record r { feeder = f' }) (Clear e) seen reply
look_made r f' e seen reply replied is = λ g s stands can.
    let met = root_clear g e s (leb-true _ _ can.0) can.1 in
    let v : ℕ = e - graph_edges g in
    let l = is_vertex g s r stands e met.0 met.1 in
    let own = its_edge g s r stands e met.0 met.1 in
    let same = same_vertex g s r stands e met.0 met.1 in
    let none = subst (λ (i : ℕ). (s.out i).link.held ≡ None) (sym own) met.3 in
    subst (λ (i : ℕ). RootStandsFor g (does g (saw (Clear i) seen) s) (record r { feeder = f' })
    × (reply ≡ reply_of g (Clear i) seen s)) own (
      looked g s r stands v l seen none f' (is ∙ ap (λ (n : ℕ). with_tail n (tail_after_clear seen) r.feeder) same),
      replied ∙ ap (λ (n : ℕ). look_reply (claim_words (tail_after_clear seen (tail_at r.feeder n)))) same
          ∙ look_replies g s r stands v l seen none,
    )

pub put_made : (r : Root) (f' : Feeder) (e seen : ℕ) (reply : Reply)
    → reply ≡ Done (sum (option_to_list (tail_at r.feeder (e - r.graph_edges)).held))
    → f' ≡ with_tail (e - r.graph_edges) tail_after_put r.feeder
    → RootMakes r (record r { feeder = f' }) (Put e) seen reply
put_made r f' e seen reply replied is = λ g s stands can.
    let past = leb-true (graph_edges g) e can.0 in
    let met = rules_met g (Put e) s can.1 in
    let inside = met.0 in
    let v : ℕ = e - graph_edges g in
    let l = is_vertex g s r stands e past inside in
    let own = its_edge g s r stands e past inside in
    let same = same_vertex g s r stands e past inside in
    let feeds = feeds_here g s r stands v l in
    subst (λ (i : ℕ). RootStandsFor g (does g (saw (Put i) seen) s) (record r { feeder = f' })
    × (reply ≡ reply_of g (Put i) seen s)) own (
      is_put g s r stands v l f' (is ∙ ap (λ (n : ℕ). with_tail n tail_after_put r.feeder) same) seen,
      replied ∙ ap (λ (n : ℕ). Done (sum (option_to_list (tail_at r.feeder n).held))) same
          ∙ ap (λ (t : TailState). Done (sum (option_to_list t.held))) (tail_is g s r.feeder feeds v l),
    )

pub feed_made : (r : Root) (f' : Feeder) (e count seen : ℕ) (reply : Reply)
    → reply ≡ feed_reply count (tail_at r.feeder (e - r.graph_edges)) → f' ≡ after_feed (e - r.graph_edges) count seen r.feeder
    → RootMakes r (record r { outstanding = r.outstanding + 1; feeder = f' }) (Feed e count) seen reply
feed_made r f' e count seen reply replied is = λ g s stands can.
    let met = rules_met g (Feed e count) s can.1 in
    let v : ℕ = e - graph_edges g in
    let l = is_vertex g s r stands e met.0 met.1 in
    let own = its_edge g s r stands e met.0 met.1 in
    let same = same_vertex g s r stands e met.0 met.1 in
    let feeds = feeds_here g s r stands v l in
    let n : ℕ = claims_of (s.out (root_edge g v)).link in
    let sees : seen ≡ n = can.2 ∙ ap (λ (i : ℕ). claims_of (s.out i).link) (sym own) in
    let clear = subst (λ (i : ℕ). (s.out i).link.clear ≡ true) (sym own) met.5 in
    subst (λ (i : ℕ). RootStandsFor g (does g (saw (Feed i count) seen) s)
    (record r { outstanding = r.outstanding + 1; feeder = f' }) × (reply ≡ reply_of g (Feed i count) seen s)) own (
      subst (λ (w : ℕ). RootStandsFor g (does g (saw (Feed (root_edge g v) count) w) s)
          (record r { outstanding = r.outstanding + 1; feeder = f' })) (sym sees)
          (is_fed g s r stands v l count met.3 met.4 clear f' (is ∙ (λ j. after_feed (same j) count (sees j) r.feeder))),
      replied ∙ ap (λ (u : ℕ). feed_reply count (tail_at r.feeder u)) same
          ∙ ap (feed_reply count) (tail_is g s r.feeder feeds v l) ∙ sym (cond_yes seen n _ Sealed sees),
    )

-- what a feed requires of the feeder
pub may_feed : (r : Root) (e count seen : ℕ)
    → SomeRoot r (λ g s. RootCanDo g s (Feed e count) seen)
    → (seen ≡ (tail_at r.feeder (e - r.graph_edges)).claims) × (claims_in seen ≡ seen)
    × (slice_index r.feeder.given (e - r.graph_edges) ≤ r.feeder.fed)
may_feed r e count seen (g, s, stands, can) =
    let met = rules_met g (Feed e count) s can.1 in
    let v : ℕ = e - graph_edges g in
    let l = is_vertex g s r stands e met.0 met.1 in
    let own = its_edge g s r stands e met.0 met.1 in
    let same = same_vertex g s r stands e met.0 met.1 in
    let feeds = feeds_here g s r stands v l in
    let few = few_claims g s r.feeder feeds v l in
    let sees : seen ≡ claims_of (s.out (root_edge g v)).link = can.2 ∙ ap (λ (i : ℕ). claims_of (s.out i).link) (sym own)
    in
    subst (λ (n : ℕ). (seen ≡ (tail_at r.feeder n).claims) × (claims_in seen ≡ seen) × (slice_index r.feeder.given n ≤ r.feeder.fed))
    (sym same) (
      sees ∙ ap (λ (t : TailState). t.claims) (sym (tail_is g s r.feeder feeds v l)),
      small_word seen (omega arith),
      given_low g s r.feeder feeds v l,
    )
  where
    small_word : (n : ℕ) → n < 2 ^ 63 → claims_in n ≡ n
    small_word n less = mod-eq_of_lt less

-- ---- the opening

module _ (g : Setting) (game : IsGame g.game) where
  pub feeder_opens : (f : Feeder) → IsOpeningFeeder g f → Feeds g (opening_part g) f
  feeder_opens f opening = record {
    ended = opening.ended;
    fed = opening.fed ∙ sym (first_fed g game);
    within = (let all = first_fed g game in let few = game.few_chips in omega arith);
    few_outstanding =
        let owed = all_outstanding g game in
        let low = sum_below_le g.game.graph.vertices (λ v. cond (eqb (slice_index g.game.start v) 0) 0 1)
        (λ v. sum (sent_counts ((opening_part g).out (root_edge g v)).link))
        (λ v l. let sent = first_sent g v in grind (arith, nat_tests)) in
        omega arith;
    tails_each = opening.tails_each;
    tails = λ v l d. opening.tails v l d
        ∙ (λ j. let t : TailState = record {
          edge = root_edge g v;
          ring = g.ring;
          claims = sym (first_claims g v) j;
          held = None;
          clear = false;
          refused = false;
        } in t);
    given = (
      ap (λ (xs : List ℕ). length xs) opening.given ∙ game.start_fits,
      λ v l. ap (λ (xs : List ℕ). slice_index xs v) opening.given ∙ sym (first_sent g v),
    );
    kept = λ v l. record {
      sealed_never = refl;
      counted = (let sent = first_sent g v in let n = first_claims g v in grind (arith, nat_tests));
      quiet = λ on. refl;
    };
    settled_few = λ v l. omega arith;
  }

-- ---- the end

abbrev ended_part : Part → Part
ended_part s = record s { ended = true }

module _ (g : Setting) (s : Part) where
  still_feeds : (f : Feeder) → Feeds g s f → Feeds g (ended_part s) (record f { ended = true })
  still_feeds f feeds = search (rules, arith, nat_tests)

  end_stands : (r : Root) → RootStandsFor g s r → RootStandsFor g (ended_part s) (ended_root r)
  end_stands r stands = let feeder = still_feeds r.feeder stands.feeder in search (rules, arith, nat_tests)

  -- then the first root edge may be settled
  end_can : (r : Root) → RootStandsFor g s r → (seen : ℕ) → RootCanDo g s End seen
      → RootCanDo g (ended_part s) (Settle r.graph_edges) seen
  end_can r stands seen can =
      let some = stands.game.graph_fits.some_vertex in
      let first : root_edge g 0 ≡ r.graph_edges = (let e = stands.edges in omega arith) in
      subst (λ (e : ℕ). RootCanDo g (ended_part s) (Settle e) seen) first
      (le-leb _ _ (omega arith), met_rules g (Settle (root_edge g 0)) (ended_part s) (omega arith), can.2)

pub end_settles : (r : Root) (seen : ℕ) → SomeRoot r (λ g s. RootCanDo g s End seen)
    → SomeRoot (ended_root r) (λ g s. RootCanDo g s (Settle r.graph_edges) seen)
end_settles r seen (g, s, stands, can) = (g, ended_part s, end_stands g s r stands, end_can g s r stands seen can)

pub end_made : (r after : Root) (seen : ℕ) (reply : Reply)
    → RootMakes (ended_root r) after (Settle r.graph_edges) seen reply → RootMakes r after End seen reply
end_made r after seen reply makes = λ g s stands can.
    let first : r.graph_edges ≡ root_edge g 0 = (let e = stands.edges in omega arith) in
    subst (λ (e : ℕ). RootStandsFor g (does g (saw (Settle e) seen) (ended_part s)) after
    × (reply ≡ reply_of g (Settle e) seen (ended_part s))) first
    (makes g (ended_part s) (end_stands g s r stands) (end_can g s r stands seen can))
