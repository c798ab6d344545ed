-- Serves Soon.antt, Detection.antt. Rounds of the core are rounds of its computation, so soon after the end they close
-- the root by the theorem on those.
use Rattle.chip_core.proofs.Names.{◌≡◌, ℕ, zero, suc, ◌+◌, ◌-◌, ◌<◌, ◌≤◌, List, [], ◌∷◌, ◌++◌, length, Some, None}
use Rattle.chip_core.proofs.Names.{Contains, refl, sym, ap, ◌∙◌, subst, arith, ⊎_elim, append_assoc, length-drop}
use Rattle.chip_core.proofs.Names.{Contains-append_left, Contains-append_right, dite, dec_lt, IsGame, cond_yes}
use Rattle.chip_core.proofs.Names.{claims_of, sent_counts, length-sent_counts, Setting, owed_on, saw, Part, settled_after}
use Rattle.chip_core.proofs.Names.{nothing_left, Log, Step, Event, Settle, part_in, out_in, into_in, IsLegalLog}
use Rattle.chip_core.proofs.Names.{IsClosed, head_of, all_edges, graph_edges, messages_from}
use Rattle.chip_core.proofs.Names.{counts_in_flight, IsTree, IsDetectionOrder, done_by, HasTurn, HasRounds}
use Rattle.chip_core.proofs.Names.{HasTerminated, IsTreeAtMostDeep, CoreDepthCloses, DepthClosesLater}
use Rattle.chip_core.proofs.Names.{CoreDepthIsCounted, nat_tests, cases_option, contains_cases, acks_left, CoreFewAreLeft}
use Rattle.chip_core.proofs.Names.{Take, Ack, Fire, Clear, Claim, Put, Halt, Seal, Read, Feed, End, part_of, sees, rules_met}
use Rattle.chip_core.proofs.Names.{get_or_past, true≢false, root_edge, tail_root, tail_of, Advances, AllAdvance, sum_below}
use Rattle.chip_core.proofs.LogLemmas.{part_kept, settled_step, acked_step, head_inside, tail_inside, tail_cases, edge_counts}
use Rattle.chip_core.proofs.LogLemmas.{acked_grows, settled_grows, legal_before, in_pieces}
use Rattle.chip_core.proofs.RoundLemmas.{makes_turn, settles_all, own_in}
use Rattle.chip_core.proofs.ReachingLemmas.{part_own}
use Rattle.chip_core.proofs.InstanceLemmas.{net, was, events_of, is_network, legal_there, one_event, shows}
use Rattle.chip_core.proofs.InstanceLemmas.{may_same, owes_same, event_by, idle, tail_part}
use Rattle.chip_core.proofs.OrderLemmas.{quiescent_there, closed_here}
use Rattle.chip_diffusing.specs.Computation as diffusing
use Rattle.chip_diffusing.specs.Ending as rounds
use Rattle.chip_diffusing.proofs.KeptLemmas.{legal_kept}
use Rattle.chip_diffusing.proofs.QuiescentLemmas.{leads_on, one_later}
use Rattle.chip_diffusing.proofs.DueLemmas as due
use Rattle.chip_diffusing.proofs.DepthLemmas as theorem

no_messages : (e place : ℕ) (counts : List ℕ) → messages_from e place counts ≡ [] → length counts ≡ 0
no_messages e place [] is = refl
no_messages e place (c ∷ cs) is = absurd (grind (arith, nat_tests))

module _ (g : Setting) where
  -- ---- acknowledgements and settles are never undone

  acked_on : (xs log : Log) (e : ℕ) → (into_in g log e).acked ≤ (into_in g (xs ++ log) e).acked
  acked_on [] log e = omega arith
  acked_on (x ∷ xs) log e = let a = acked_on xs log e in let b = acked_step g x (xs ++ log) e in
      let c = acked_grows g x.event (part_in g (xs ++ log) (head_of g e)) e (into_in g (xs ++ log) e) in omega arith

  -- after a settle, all that was acknowledged before is settled
  settle_seen : (xs log : Log) → IsLegalLog g (xs ++ log) → (x : Step) → Contains xs x → (e : ℕ) → x.event ≡ Settle e
      → (into_in g log e).acked ≤ (out_in g (xs ++ log) e).settled
  settle_seen [] log legal x has e is = let a = has.1 in absurd (omega arith)
  settle_seen (y ∷ ys) log legal x has e is = ⊎_elim
      (λ same.
      let old = out_in g (ys ++ log) e in
      let its : y.event ≡ Settle e = cc in
      let a = settled_step g y (ys ++ log) e ∙ ap (λ (z : Event). settled_after g z y.seen e old) its in
      let b = cond_yes e e (old.settled + (y.seen - old.settled)) old.settled refl in
      let c : y.seen ≡ (into_in g (ys ++ log) e).acked = cc in
      let d = acked_on ys log e in omega arith)
      (λ later. let a = settle_seen ys log legal.0 x later e is in let b = settled_step g y (ys ++ log) e in
      let c = settled_grows g y.event y.seen e (out_in g (ys ++ log) e) in omega arith)
      (contains_cases y ys x has)

  module _ (game : IsGame g.game) (some_ring : 0 < g.ring) where
    -- only a vertex has a parent
    engaged_inside : (log : Log) → IsLegalLog g log → (p e : ℕ) → (part_in g log p).parent ≡ Some e
        → p < g.game.graph.vertices
    engaged_inside log legal p e is = let a = (part_kept g game log legal p).parents e is in
        subst (λ (q : ℕ). q < g.game.graph.vertices) a.1 (head_inside g game e a.0)

    -- ---- more steps lead on

    abbrev Goes : diffusing.World → diffusing.World → Type 0
    Goes = rounds.Goes (net g)

    goes_on : (a b c : diffusing.World) → Goes a b → Goes b c → Goes a c
    goes_on a b c one two = (two.0 ++ one.0, leads_on (net g) (is_network g game some_ring) a b c one.0 two.0 one.1 two.1)

    goes : (xs log : Log) → IsLegalLog g (xs ++ log) → Goes (was g log) (was g (xs ++ log))
    goes [] log legal = ([], refl)
    goes (x ∷ xs) log legal = let before = goes xs log legal.0 in
        (_ ∷ before.0, (was g (xs ++ log), before.1, one_event g game some_ring x.event x.seen (xs ++ log) legal))

    -- ---- turns and rounds

    module _ (before front round : Log) (legal : IsLegalLog g (round ++ (front ++ before))) where
      abbrev end : Log
      end = round ++ (front ++ before)

      turn_there : (v : ℕ) → v < g.game.graph.vertices → HasTurn g v (front ++ before) round
          → rounds.HasMoment (net g) (was g before) (was g end) v
      turn_there v vertex turn =
          let base : Log = turn.early ++ (front ++ before) in
          let made : Log = turn.middle ++ base in
          let same : end ≡ turn.late ++ made =
          in_pieces turn.early turn.middle turn.late round (front ++ before) turn.all_are in
          let all : IsLegalLog g (turn.late ++ made) = subst (IsLegalLog g) same legal in
          let made_legal = legal_before g turn.late made all in
          let base_legal = legal_before g turn.middle base made_legal in
          let first = goes front before (legal_before g turn.early (front ++ before) base_legal) in
          let second = goes turn.early (front ++ before) base_legal in
          let third = goes turn.middle base made_legal in
          let its = makes_turn g v (part_in g base v) (done_by g v turn.middle) turn.are_turn.0 turn.are_turn.1 in
          record {
            moment = was g made;
            before = goes_on (was g before) (was g base) (was g made)
                (goes_on (was g before) (was g (front ++ before)) (was g base) first second) third;
            after = subst (λ (l : Log). Goes (was g made) (was g l)) (sym same) (goes turn.late made all);
            heard = λ e out.
                let found = settles_all g v (part_in g base v) (done_by g v turn.middle) turn.are_turn.0 turn.are_turn.1
                vertex e out.1 in
                let a = settle_seen turn.middle base made_legal (saw (Settle e) found.0)
                (own_in g v turn.middle (saw (Settle e) found.0) found.1) e refl in
                let b = acked_on turn.early (front ++ before) e in let c = acked_on front before e in
                let d = (shows g before).acked e out.0 in let f = (shows g made).settled e out.0 in omega arith;
            given = λ e into.
                let own = part_own g v turn.middle base in
                let none = nothing_left g v (part_in g base v) (done_by g v turn.middle) turn.are_turn.0 turn.are_turn.1 e
                into.1 in
                may_same g e v (part_in g made v) into.0 into.1 vertex ∙ (cc);
          }

      -- the stopper has nothing to do
      round_there : ((v : ℕ) → v < g.game.graph.vertices → HasTurn g v (front ++ before) round)
          → rounds.HasMomentRound (net g) (was g before) (was g end)
      round_there turns =
          let whole = goes_on (was g before) (was g (front ++ before)) (was g end)
          (goes front before (legal_before g round (front ++ before) legal)) (goes round (front ++ before) legal) in
          record {
            goes = whole;
            turns = λ p l other. dite (dec_lt p g.game.graph.vertices) (λ v. turn_there p v (turns p v)) (λ past. record {
              moment = was g end;
              before = whole;
              after = ([], refl);
              heard = λ e out. ⊎_elim (λ z. absurd (other (sym out.1 ∙ z))) (λ z. let a = out.1 in absurd (omega arith))
                  (tail_cases g game e);
              given = λ e into. let a = head_inside g game e into.0 in let b = into.1 in absurd (omega arith);
            });
          }

    first_round : (n : ℕ) (a b c : diffusing.World) → rounds.HasMomentRound (net g) a b → rounds.HasMomentRounds (net g) n b c
        → rounds.HasMomentRounds (net g) (suc n) a c
    first_round zero a b c one same = (a, refl, subst (rounds.HasMomentRound (net g) a) same one)
    first_round (suc n) a b c one (w, more, last) = (w, first_round n a b w one more, last)

    -- n rounds at the end of these steps, after k rounds
    record Parted (k n : ℕ) (xs log : Log) : Type 0 where
      rest : Log
      mid : Log
      all_is : xs ++ log ≡ rest ++ mid
      before : rounds.HasMomentRounds (net g) k (was g log) (was g mid)
      left : HasRounds g n mid rest

    parted : (k m n : ℕ) → m ≡ k + n → (xs log : Log) → IsLegalLog g (xs ++ log) → HasRounds g m log xs → Parted k n xs log
    parted zero m n is xs log legal has = let same : m ≡ n = omega arith in record {
      rest = xs;
      mid = log;
      all_is = refl;
      before = refl;
      left = subst (λ (i : ℕ). HasRounds g i log xs) same has;
    }
    parted (suc k) zero n is xs log legal has = absurd (omega arith)
    parted (suc k) (suc m) n is xs log legal (front, round, back, all_are, has, more) =
        let mid : Log = round ++ (front ++ log) in
        let same = in_pieces front round back xs log all_are in
        let all = subst (IsLegalLog g) same legal in
        let later = parted k m n (omega arith) back mid all more in
        record {
          rest = later.rest;
          mid = later.mid;
          all_is = same ∙ later.all_is;
          before = first_round k (was g log) (was g mid) (was g later.mid)
              (round_there log front round (legal_before g back mid all) has.turns) later.before;
          left = later.left;
        }

    -- ---- by the theorem

    over_there : (log : Log) → IsLegalLog g log → HasTerminated g log → diffusing.IsQuiescent (net g) (was g log)
    over_there log legal over = quiescent_there g game some_ring log legal over.passive (λ e l.
        let got : ℕ = length (into_in g log e).got in
        let a = no_messages e got (counts_in_flight g log e) (over.delivered e l) in
        let b = length-drop got (sent_counts (out_in g log e).link) in
        let c = length-sent_counts (out_in g log e).link in omega arith) over.end

    -- one round more than the tree is deep, after which the root settles all its edges
    closes : (log : Log) → IsLegalLog g log → HasTerminated g log → (depth : ℕ) → IsTreeAtMostDeep g log depth
        → (mid xs : Log) → IsLegalLog g (xs ++ mid) → rounds.HasMomentRounds (net g) (suc depth) (was g log) (was g mid)
        → ((e : ℕ) → graph_edges g ≤ e → e < all_edges g → (x : Step) × Contains xs x × (x.event ≡ Settle e))
        → IsClosed g (xs ++ mid)
    closes log legal over depth deep mid xs new has settles =
        closed_here g game some_ring (xs ++ mid) new (theorem.depth_closes (net g) (is_network g game some_ring)
        (events_of g log) (was g log) (legal_there g game some_ring log legal)
        (over_there log legal over) depth
        (record { level = deep.level; below = λ p l e is. deep.below p (engaged_inside log legal p e is) e is })
        (was g mid) (was g (xs ++ mid)) has (goes xs mid new)
        (λ e out.
        let root_is = out.1 in
        let past : graph_edges g ≤ e = dite (dec_lt e (graph_edges g))
        (λ own. absurd (let a = tail_inside g game e own in omega arith)) (λ n. omega arith) in
        let x = settles e past out.0 in let a = settle_seen xs mid new x.0 x.1 e x.2 in
        let b = (shows g mid).acked e out.0 in let c = (shows g (xs ++ mid)).settled e out.0 in omega arith))

    -- ---- few steps are left

    module _ (log : Log) (legal : IsLegalLog g log) (over : diffusing.IsQuiescent (net g) (was g log)) where
      all_got : (e : ℕ) → e < all_edges g → claims_of (out_in g log e).link ≤ length (into_in g log e).got
      all_got e l = let a = over.delivered e l in let b = (shows g log).sent e l in let c = (shows g log).got e l in omega arith

      -- a step that advances acknowledges, or settles something new
      news : (x : Event) (seen : ℕ) → IsLegalLog g (saw x seen ∷ log) → Advances g log x
          → rounds.TellsNews (net g) (was g log) (event_by g x seen (part_in g log (part_of g x)))
      news (Take e) seen next advance =
          let l = rules_met g (Take e) (part_in g log (head_of g e)) next.1.0 in
          let c = edge_counts g game some_ring log legal e in let c3 = c.3 in let a = all_got e l in
          let none : sees g log (Take e) ≡ 0 = get_or_past (out_in g log e).link.put (length (into_in g log e).got) 0 (omega arith) in
          let tells = advance.tells in absurd (grind (arith, nat_tests))
      news (Ack e) seen next advance = (rules_met g (Ack e) (part_in g log (head_of g e)) next.1.0).2
      news (Put e) seen next advance =
          let may = rules_met g (Put e) (part_in g log (tail_of g e)) next.1.0 in
          let c = edge_counts g game some_ring log legal e in let c2 = c.2 in let c3 = c.3 in let a = all_got e may.0 in
          let some = may.1.1 in absurd (grind (arith, nat_tests))
      news (Settle e) seen next advance =
          let l = rules_met g (Settle e) (part_in g log (tail_of g e)) next.1.0 in
          let is : seen ≡ sees g log (Settle e) = next.1.1 in
          let a = (shows g log).settled e l in let tells = advance.tells in grind (arith, nat_tests)
      news End seen next advance =
          let e : ℕ = root_edge g 0 in
          let some = game.graph_fits.some_vertex in
          let at = ap (λ (p : ℕ). ((part_in g log p).out e).settled) (tail_root g e (omega arith)) in
          let is : seen ≡ sees g log End = next.1.1 in
          let a = (shows g log).settled e (omega arith) in let tells = advance.tells in grind (arith, nat_tests)
      news (Seal e) seen next advance = absurd (true≢false (sym advance.tells))
      news (Read v) seen next advance = absurd (true≢false (sym advance.tells))
      news (Fire v k) seen next advance =
          let l = (rules_met g (Fire v k) (part_in g log v) next.1.0).0 in
          absurd (idle g game some_ring log (Fire v k) seen next (over.passive v (omega arith)))
      news (Halt v) seen next advance =
          let l = (rules_met g (Halt v) (part_in g log v) next.1.0).0 in
          absurd (idle g game some_ring log (Halt v) seen next (over.passive v (omega arith)))
      news (Clear e) seen next advance = absurd (idle g game some_ring log (Clear e) seen next
          (over.passive (tail_of g e) (tail_part g game some_ring e)))
      news (Claim e) seen next advance = absurd (idle g game some_ring log (Claim e) seen next
          (over.passive (tail_of g e) (tail_part g game some_ring e)))
      news (Feed e k) seen next advance = absurd (idle g game some_ring log (Feed e k) seen next
          (over.passive (tail_of g e) (tail_part g game some_ring e)))

    -- such steps are events that are due
    due_there : (xs log : Log) → IsLegalLog g (xs ++ log) → diffusing.IsQuiescent (net g) (was g log) → AllAdvance g log xs
        → diffusing.IsQuiescent (net g) (was g (xs ++ log)) × ((events : diffusing.Log) × (length events ≡ length xs)
        × rounds.LeadsDue (net g) (was g log) events (was g (xs ++ log)))
    due_there [] log legal over all = (over, ([], refl, refl))
    due_there (x ∷ xs) log legal over all =
        let before = due_there xs log legal.0 over all.0 in
        let now : Log = xs ++ log in
        let event = event_by g x.event x.seen (part_in g now (part_of g x.event)) in
        let step = one_event g game some_ring x.event x.seen now legal in
        let kept = legal_kept (net g) (is_network g game some_ring) (events_of g now) (was g now)
        (legal_there g game some_ring now legal.0) in (
          (one_later (net g) (is_network g game some_ring) (was g now) kept before.0 (was g (x ∷ now)) event step).quiescent,
          (
            event ∷ before.1.0,
            ap suc before.1.1,
            (was g now, before.1.2, (step.may, news now legal.0 before.0 x.event x.seen legal all.1), step),
          ),
        )

    -- ---- the core's trees are trees of the computation

    module _ (log : Log) (legal : IsLegalLog g log) where
      tree_there : (vs : List ℕ) → IsTree g log vs → rounds.IsEngagementTree (net g) (was g log) vs
      tree_there [] tree = tt
      tree_there (v ∷ vs) tree =
          let e : ℕ = tree.2.0 in
          let p = tree.2.1 in
          let s : Part = part_in g log v in
          let here = owes_same g e v s p.is_edge p.head in
          let owes : 0 < owed_on (s.into e) = subst (λ (q : ℕ). 0 < owed_on ((part_in g log q).into e)) p.head p.owes in (
            tree_there vs tree.0,
            tree.1,
            (
              e,
              record { parent = p.parent; into = (p.is_edge, p.head); from_earlier = p.from_earlier; owes = omega arith },
            ),
          )

      order_there : (vs : List ℕ) → IsDetectionOrder g log vs → rounds.IsEngagementOrder (net g) (was g log) vs
      order_there vs order = record {
        tree = tree_there vs order.tree;
        others = λ p l other out.
            let kept = legal_kept (net g) (is_network g game some_ring) (events_of g log) (was g log)
            (legal_there g game some_ring log legal) in
            let none : (part_in g log p).parent ≡ None = ⊎_elim (λ z. z)
            (λ some. (order.others p (engaged_inside log legal p some.0 some.1) out).no_parent)
            (cases_option (part_in g log p).parent) in
            let rest = kept.neutral p l other none in
            record {
              no_parent = none;
              passive = rest.0;
              nothing_owed = (kept.sound p l).neutral none;
              no_deficit = rest.1;
            };
      }

pub depth_closes : CoreDepthCloses
depth_closes g game some_ring log legal over depth tree xs last has order all_legal =
    let p = parted g game some_ring depth depth 0 (omega arith) xs log (legal_before g last (xs ++ log) all_legal) has in
    let turned : Log = order.front ++ (xs ++ log) in
    let same : last ++ (xs ++ log) ≡ order.back ++ turned =
    (let a = append_assoc order.back order.front (xs ++ log) in let b = order.all_are in cc) in
    let all = subst (IsLegalLog g) same all_legal in
    let its = p.all_is in
    let turned_legal = subst (λ (l : Log). IsLegalLog g (order.front ++ l)) its (legal_before g order.back turned all) in
    subst (IsClosed g) (sym same) (closes g game some_ring log legal over depth tree turned order.back all (
      was g p.mid,
      p.before,
      subst (λ (l : Log). rounds.HasMomentRound (net g) (was g p.mid) (was g (order.front ++ l))) (sym its)
          (round_there g game some_ring p.mid p.rest order.front turned_legal (λ v l.
          subst (λ (w : Log). HasTurn g v w order.front) its (order.turns v l))),
    ) order.settles)

pub depth_closes_later : DepthClosesLater
depth_closes_later g game some_ring log legal over depth tree xs has all_legal =
    let p = parted g game some_ring (suc depth) (suc (suc depth)) 1 (omega arith) xs log all_legal has in
    let (front, round, back, is, last, more) = p.left in
    subst (IsClosed g) (sym p.all_is) (closes g game some_ring log legal over depth tree p.mid p.rest
    (subst (IsLegalLog g) p.all_is all_legal) p.before (λ e past l. let x = last.settles e past l in (
      x.0,
      rw is (Contains-append_right back (round ++ front) x.0 (Contains-append_left round front x.0 x.1)),
      x.2,
    )))

pub depth_is_counted : CoreDepthIsCounted
depth_is_counted g game some_ring log legal vs order =
    let deep = theorem.depth_is_counted (net g) (is_network g game some_ring) (events_of g log) (was g log)
    (legal_there g game some_ring log legal) vs (order_there g game some_ring log legal vs order) in
    record { level = deep.level; below = λ v l e is. deep.below v (omega arith) e is }

same_sum : (n : ℕ) (f h : ℕ → ℕ) → ((e : ℕ) → e < n → f e ≡ h e) → rounds.sum_to n f ≡ sum_below n h
same_sum zero f h same = refl
same_sum (suc n) f h same = let a = same_sum n f h (λ e l. same e (omega arith)) in omega (arith, same n)

pub few_are_left : CoreFewAreLeft
few_are_left g game some_ring log legal over xs longer all =
    let quiescent = over_there g game some_ring log legal over in
    let way = (due_there g game some_ring xs log longer quiescent all).1 in
    let few = (due.few_are_left (net g) (is_network g game some_ring) (events_of g log) (was g log)
    (legal_there g game some_ring log legal) quiescent way.0 (was g (xs ++ log)) way.2).0 in
    let same : rounds.left (net g) (was g log) ≡ acks_left g log = same_sum (all_edges g) _ _ (λ e l.
    let a = (shows g log).sent e l in let b = (shows g log).acked e l in let c = (shows g log).settled e l in omega arith) in
    let one = way.1 in omega arith
