-- Serves Core.antt, Laws.antt.
-- The numbers of a legal log, and the cells and words that its events see: all are within the limits.
use Rattle.chip_core.proofs.Names.{nat_tests, ◌≡◌, ◌≢◌, ◌↔◌, ℕ, suc, ◌+◌, ◌-◌, ◌^◌, ◌<◌, ◌≤◌, ◌||◌, true, false}
use Rattle.chip_core.proofs.Names.{eqb, List, [], ◌∷◌, length, sum, drop, get_or, Option, Some, None, option_to_list}
use Rattle.chip_core.proofs.Names.{is_some, refl, sym, ap, ◌∙◌, subst, arith, eq-eqb, leb-true, true≢false, get_or_past}
use Rattle.chip_core.proofs.Names.{get_or_append_left, get_or-drop, length-drop, sum_by-cons, sum_by-append}
use Rattle.chip_core.proofs.Names.{get_or-le-sum_by, dite, dec_lt, max_total, IsGame, Setting, sum_below_term}
use Rattle.chip_core.proofs.Names.{tested_term, edge_word, ReadsAs, ReadsAsFired, claims_of, sent_counts, IsSealedAt}
use Rattle.chip_core.proofs.Names.{none_held, length-sent_counts, edge_word_reads, fired_word_reads, position_after}
use Rattle.chip_core.proofs.Names.{chips_are_kept, stop_after, FitsSeen, is_of_root, FitsRoot, tail_root, rules_met}
use Rattle.chip_core.proofs.Names.{root, Log, Event, Take, Clear, Claim, Put, Settle, Seal, Read, Feed, End, unmet_rule}
use Rattle.chip_core.proofs.Names.{part_of, part_in, out_in, into_in, stop_in, fired_by, word_of_part, sees}
use Rattle.chip_core.proofs.Names.{is_by_limit, IsLegalLog, tail_of, head_of, root_edge, all_edges, graph_edges}
use Rattle.chip_core.proofs.Names.{counts_in_flight, is_seal, was_sealed, chips_given, played_game, full_position}
use Rattle.chip_core.proofs.Names.{firings, CountsOf, NumbersOf, CellsOf, WordsOf, WordsTell, SealsStand}
use Rattle.chip_core.proofs.Names.{UnfedIsTheStart, FeedsAreSent}
use Rattle.chip_core.proofs.LogLemmas.{part_kept, out_kept, edge_sound, edge_counts, stop_step, head_inside, empty_hand}
use Rattle.chip_core.proofs.GivenLemmas.{given_sum, given_within, started_outside, never_sealed, feed_sees}
use Rattle.chip_core.proofs.GivenLemmas.{unfed_played, unfed_started, unfed_closes}
use Rattle.chip_core.proofs.PositionLemmas.{is_sequence, leads_to}

-- at most their sum, if each is above 0
length_sum : (xs : List ℕ) → ((p : ℕ) → p < length xs → 0 < get_or xs p 0) → length xs ≤ sum xs
length_sum [] some = omega arith
length_sum (x ∷ xs) some = let a = length_sum xs (λ p l. some (suc p) (omega arith)) in let b = some 0 (omega arith) in
    let c : 0 < x = b in let d = sum_by-cons (λ (y : ℕ). y) x xs in omega arith

held_sum : (held : Option ℕ) → ((count : ℕ) → held ≡ Some count → 0 < count)
    → length (option_to_list held) ≤ sum (option_to_list held)
held_sum None some = omega arith
held_sum (Some count) some = let a = some count refl in omega arith

module _ (g : Setting) where
  -- ---- seals

  seal_step : (x : Event) (seen e : ℕ) (stop : Option ℕ)
      → is_some (stop_after x seen e stop) ≡ (is_seal e x || is_some stop)
  seal_step (Seal i) seen e stop = grind (arith, nat_tests)
  seal_step (Take i) seen e stop = refl
  seal_step _ seen e stop = refl

  -- the stopper's part has a word exactly if a seal was made
  pub seals_stand : (log : Log) (e : ℕ) → was_sealed log e ≡ is_some (stop_in g log e)
  seals_stand [] e = refl
  seals_stand (x ∷ log) e =
      let a = seals_stand log e in let b = stop_step g x log e in
      let c = seal_step x.event x.seen e (stop_in g log e) in cc

  module _ (game : IsGame g.game) (some_ring : 0 < g.ring) (log : Log) (legal : IsLegalLog g log) where
    -- ---- chips

    -- no vertex ever has more chips than were given, chips in transit to it included
    pub full_position_most : (v : ℕ) → v < g.game.graph.vertices → full_position g log v ≤ sum (played_game g log).start
    full_position_most v l =
        let a = (leads_to g game some_ring log legal).position v l in
        let b = chips_are_kept g.game.graph game.graph_fits (chips_given g log) (firings log)
        (is_sequence g game some_ring log legal) in
        let c = sum_below_term g.game.graph.vertices
        (position_after g.game.graph (chips_given g log) (firings log)) v l in
        let d = given_sum g game some_ring log in
        omega arith

    -- and never more than the range of chips
    pub few_given : sum (played_game g log).start ≤ max_total
    few_given = given_within g game some_ring log legal

    -- the chips of a vertex and those in transit to it on one edge
    pub chips_with_flight : (e : ℕ) → e < all_edges g
        → (part_in g log (head_of g e)).chips + sum (counts_in_flight g log e)
        ≤ sum (played_game g log).start
    chips_with_flight e l =
        let a = full_position_most (head_of g e) (head_inside g game e l) in
        let b = tested_term (all_edges g) (λ i. eqb (head_of g i) (head_of g e))
        (λ i. sum (counts_in_flight g log i)) e l (eq-eqb (head_of g e) (head_of g e) refl) in
        omega arith

    -- ---- messages

    -- of a graph edge: one for each firing at most
    pub few_claims : (e : ℕ) → e < graph_edges g → claims_of (out_in g log e).link ≤ g.game.limit
    few_claims e l = let a = (out_kept g game log legal e).fewer l in
        let b = (part_kept g game log legal (tail_of g e)).within in omega arith

    -- of a root edge: at most one for each chip given
    pub few_root_claims : (e : ℕ) → graph_edges g ≤ e
        → claims_of (out_in g log e).link ≤ chips_given g log (e - graph_edges g)
    few_root_claims e l =
        let s = edge_sound g game some_ring log legal e in
        let t = (out_in g log e).link in
        let a = length_sum t.put s.counted in
        let b = held_sum t.held s.held_counted in
        let c = sum_by-append (λ (x : ℕ). x) t.put (option_to_list t.held) in
        let at : root_edge g (e - graph_edges g) ≡ e = omega arith in
        grind (arith, nat_tests)

    given_most : (v : ℕ) → chips_given g log v ≤ sum (played_game g log).start
    given_most v = dite (dec_lt v g.game.graph.vertices)
        (λ l. let a = given_sum g game some_ring log in
        let b = sum_below_term g.game.graph.vertices (chips_given g log) v l in omega arith)
        (λ n. let a = started_outside g game some_ring log legal v (omega arith) in omega arith)

    -- of any edge
    pub claims_most : (e : ℕ) → claims_of (out_in g log e).link ≤ 2 ^ 40
    claims_most e = dite (dec_lt e (graph_edges g))
        (λ l. let a = few_claims e l in let b = game.low_limit in omega arith)
        (λ n. let a = few_root_claims e (omega arith) in let b = given_most (e - graph_edges g) in
        let c = few_given in omega arith)

    pub fired_most : (v : ℕ) → fired_by g log v ≤ g.game.limit
    fired_most v = (part_kept g game log legal v).within

    pub numbers : NumbersOf g log
    numbers = record {
      chips = full_position_most;
      given = few_given;
      fired = fired_most;
      claims = few_claims;
      root_claims = few_root_claims;
    }

    -- ---- cells

    -- a take sees 0 exactly if all that was put is delivered
    pub empty_is : (e : ℕ) → (sees g log (Take e) ≡ 0)
        ↔ (length (into_in g log e).got ≡ length (out_in g log e).link.put)
    empty_is e =
        let s = edge_sound g game some_ring log legal e in
        let behind = s.behind in (
          (λ none. dite (dec_lt (length (into_in g log e).got) (length (out_in g log e).link.put))
              (λ l. (let a = s.counted (length (into_in g log e).got) l in absurd (omega arith))) (λ n. omega arith)),
          (λ all. get_or_past (out_in g log e).link.put (length (into_in g log e).got) 0 (omega arith)),
        )

    -- a take that finds a message: it is the first in flight
    pub take_finds : (e : ℕ) → sees g log (Take e) ≢ 0
        → (length (into_in g log e).got < length (out_in g log e).link.put)
        × (sees g log (Take e) ≤ sum (counts_in_flight g log e))
    take_finds e some =
        let t = (out_in g log e).link in
        let n : ℕ = length (into_in g log e).got in
        let behind = (edge_sound g game some_ring log legal e).behind in
        let l : n < length t.put = dite (dec_lt n (length t.put)) (λ h. h)
        (λ past. absurd (some (get_or_past t.put n 0 (omega arith)))) in
        let first : get_or (drop n (sent_counts t)) 0 0 ≡ get_or t.put n 0 = (let a = get_or-drop n
        (sent_counts t) 0 0 in let b : n + 0 ≡ n = omega arith in
        let c = get_or_append_left t.put (option_to_list t.held) 0 n l in cc) in
        let long = length-drop n (sent_counts t) in
        let all = length-sent_counts t in
        let sum_has = get_or-le-sum_by (λ (x : ℕ). x) (drop n (sent_counts t)) 0 0 (omega arith) in
        (l, omega arith)

    -- a clear with nothing claimed sees another number than 0 exactly if the ring is full
    pub full_is : (e : ℕ) → (out_in g log e).link.held ≡ None
        → (sees g log (Clear e) ≢ 0) ↔ (claims_of (out_in g log e).link ≡ length (into_in g log e).got + g.ring)
    full_is e empty =
        let s = edge_sound g game some_ring log legal e in
        let t = (out_in g log e).link in
        let got = (into_in g log e).got in
        let all_put = none_held t empty in (
          (λ some. grind (arith, nat_tests)),
          (λ full z. let a = s.counted (length got) (omega arith) in grind (arith, nat_tests)),
        )

    pub cells : (e : ℕ) → CellsOf g log e
    cells e = record {
      empty = empty_is e;
      full = λ met. full_is e (empty_hand g game some_ring log legal e
          (rules_met g (Clear e) (part_in g log (tail_of g e)) met));
    }

    -- ---- words

    edge_reads : (e : ℕ) → ReadsAs (edge_word (claims_of (out_in g log e).link) (is_some (stop_in g log e)))
        (claims_of (out_in g log e).link) (is_some (stop_in g log e))
    edge_reads e = let a = claims_most e in
        (edge_word_reads (claims_of (out_in g log e).link) (is_some (stop_in g log e)) (omega arith)).1

    fired_reads : (v : ℕ) → ReadsAsFired (word_of_part (part_in g log v)) (fired_by g log v)
        (is_some (part_in g log v).halt) (is_by_limit (part_in g log v).halt)
    fired_reads v =
        let s = part_in g log v in
        let a = fired_most v in let b = game.low_limit in
        (fired_word_reads s.fired (is_some s.halt) (is_by_limit s.halt) (omega arith)).1

    pub words : WordsOf g log
    words = record {
      unsealed = λ e off. (let a = seals_stand log e in
          let b : edge_word (claims_of (out_in g log e).link) false ≡ claims_of (out_in g log e).link = omega arith in
          cc);
      sealed = λ e on. ap (edge_word (claims_of (out_in g log e).link)) (sym (seals_stand log e) ∙ on);
      claims = λ e. (edge_reads e).claims_are;
      fired = λ v. (fired_reads v).fired_is;
      halted = λ v. (fired_reads v).halt_is;
      by_limit = λ v. (fired_reads v).cause_is;
    }

    -- ---- what an event sees keeps its part within the limits

    take_fits : (e : ℕ) → e < all_edges g → FitsSeen (part_in g log (head_of g e)) (Take e) (sees g log (Take e))
    take_fits e l some =
        let found = take_finds e some in
        let a = chips_with_flight e l in
        let b = claims_most e in
        let c = few_given in
        let d = found.0 in let f = found.1 in
        (omega arith, omega arith)

    settle_fits : (e : ℕ) → FitsSeen (part_in g log (tail_of g e)) (Settle e) (sees g log (Settle e))
    settle_fits e =
        let c = edge_counts g game some_ring log legal e in
        let c0 = c.0 in let c1 = c.1 in let c2 = c.2 in let c3 = c.3 in
        (c0, omega arith)

    pub fits_seen : (x : Event) → part_of g x < g.game.graph.vertices
        → unmet_rule g x (part_in g log (part_of g x)) ≡ None
        → FitsSeen (part_in g log (part_of g x)) x (sees g log x)
    fits_seen (Take e) at met = take_fits e (rules_met g (Take e) (part_in g log (head_of g e)) met)
    fits_seen (Claim e) at met = (edge_reads e).claims_are
    fits_seen (Settle e) at met = settle_fits e
    fits_seen _ at met = tt

    -- the same of a settle of a root edge, by the root's part
    root_settle_fits : (e : ℕ) → graph_edges g ≤ e
        → FitsSeen (part_in g log (root g)) (Settle e) (sees g log (Settle e))
    root_settle_fits e past = let a = tail_root g e past in let b = settle_fits e in grind (arith, nat_tests)

    pub root_fits : (x : Event) → is_of_root g x ≡ true → unmet_rule g x (part_in g log (root g)) ≡ None
        → FitsRoot g (part_in g log (root g)) x (sees g log x)
    root_fits (Settle e) own met = root_settle_fits e (leb-true (graph_edges g) e own)
    root_fits End own met = root_settle_fits (root_edge g 0) (omega arith)
    root_fits (Feed e k) own met =
        let past = (rules_met g (Feed e k) (part_in g log (root g)) met).0 in
        let a = feed_sees g log legal e k past in let b = tail_root g e past in cc
    root_fits (Clear e) own met = tt
    root_fits (Put e) own met = tt
    root_fits (Read v) own met = tt
    root_fits _ own met = absurd (true≢false (sym own))

    pub counts_of_edges : (e : ℕ) → CountsOf g log e
    counts_of_edges e = let c = edge_counts g game some_ring log legal e in
        record { settled = c.0; acked = c.1; delivered = c.2; put = c.3; claimed = c.4 }

-- ---- the laws

pub words_tell : WordsTell
words_tell g game some_ring log legal = words g game some_ring log legal

pub seals_stand_law : SealsStand
seals_stand_law g game some_ring log legal e = (
  seals_stand g log e,
  λ word is. subst (IsSealedAt (claims_of (out_in g log e).link)) is
      (edge_sound g game some_ring log legal e).sealed_at,
)

pub unfed_is_the_start : UnfedIsTheStart
unfed_is_the_start g game some_ring log legal off = (
  unfed_played g game some_ring off log legal,
  unfed_started g game some_ring off log legal,
  unfed_closes g game some_ring off log legal,
)

pub feeds_are_sent : FeedsAreSent
feeds_are_sent g game some_ring log legal e k past = (
  let a = seals_stand g log e in let b = never_sealed g log legal e past in cc,
  feed_sees g log legal e k past,
)
