-- Serves Rounds.antt.
-- Turns and rounds feed nothing.
use Rattle.chip_world.proofs.Names.{◌≡◌, ◌≢◌, ℕ, zero, suc, ◌<◌, ◌≤◌, List, [], ◌∷◌, ◌++◌, reverse, Option, Some, None}
use Rattle.chip_world.proofs.Names.{refl, arith, append_assoc, append-nil, reverse_onto, IsGame}
use Rattle.chip_world.proofs.Names.{cond_no, Setting, root_edge, saw, AreOf, Log, Step, Settle, Rule, IsLegalLog}
use Rattle.chip_world.proofs.Names.{part_of, part_in, sees, root, tail_of, unmet_rule, answer, log_after, done_by}
use Rattle.chip_world.proofs.Names.{fed_so_far, recorded_step, part_kept, run_legal, log_after-append, AreTurns}
use Rattle.chip_world.proofs.Names.{root_settles, AreOpenRounds}
use Rattle.chip_world.proofs.OwnTurnLemmas.{turn_is_own}

module _ (g : Setting) where
  -- an event made by one part is made by no other
  not_done : (v u : ℕ) → v ≢ u → (ds : List Step) → AreOf g v ds → (log : Log)
      → done_by g u (reverse ds ++ log) ≡ done_by g u log
  not_done v u other [] mine log = refl
  not_done v u other (x ∷ xs) mine log =
      rw (reverse_onto xs x [], append_assoc, not_done v u other xs mine.1 (x ∷ log))
      (cond_no (part_of g x.event) u (done_by g u log ++ x ∷ []) (done_by g u log) (λ z. other (cc)))

  module _ (game : IsGame g.game) (some_ring : 0 < g.ring) where
    -- a longer log without new feeds
    pub record FeedsNone (before after : Log) : Type 0 where
      pub legal : IsLegalLog g after
      pub same : fed_so_far g after ≡ fed_so_far g before

    none_made : (before after : Log) → IsLegalLog g before → after ≡ before → FeedsNone before after
    none_made before after legal same =
        record { legal = rw same legal; same = rw same }

    turns_feed_none : (n : ℕ) (before after : Log) → n ≤ g.game.graph.vertices → IsLegalLog g before
        → AreTurns g n before after → FeedsNone before after
    turns_feed_none zero before after few legal same = none_made before after legal same
    turns_feed_none (suc n) before after few legal (between, turns, last) =
        let old = turns_feed_none n before between (omega arith) legal turns in
        let mine = turn_is_own g n (part_in g between n) last.operations last.are_turn.0
        (λ e is. ((part_kept g game between old.legal n).parents e is).1) last.are_turn.1 in
        record {
          legal = last.all_fit;
          same = rw (
            last.all_made,
            not_done n (root g) (λ z. (let at : n ≡ root g = z in absurd (omega arith)))
                last.operations mine between,
          ) old.same;
        }

    settle_feeds_none : (e : ℕ) (log : Log) → IsLegalLog g log → (o : Option Rule)
        → unmet_rule g (Settle e) (part_in g log (tail_of g e)) ≡ o
        → fed_so_far g (answer g log (Settle e) o).0 ≡ fed_so_far g log
    settle_feeds_none e log legal (Some r) is = refl
    settle_feeds_none e log legal None is =
        rw (recorded_step g game some_ring (saw (Settle e) (sees g log (Settle e))) log (legal, (is, refl)), append-nil)

    settles_feed_none : (n : ℕ) (log : Log) → IsLegalLog g log
        → fed_so_far g (log_after g log (root_settles g n)) ≡ fed_so_far g log
    settles_feed_none zero log legal = refl
    settles_feed_none (suc n) log legal =
        let now : Log = log_after g log (root_settles g n) in
        rw (
          log_after-append g log (root_settles g n) (Settle (root_edge g n) ∷ []),
          settle_feeds_none (root_edge g n) now (run_legal g log (root_settles g n) legal) _ refl,
        )
        (settles_feed_none n log legal)

    pub rounds_feed_none : (n : ℕ) (before after : Log) → IsLegalLog g before → AreOpenRounds g n before after
        → FeedsNone before after
    rounds_feed_none zero before after legal same = none_made before after legal same
    rounds_feed_none (suc n) before after legal (between, rounds, not_closed, (middle, turns, settles)) =
        let old = rounds_feed_none n before between legal rounds in
        let vertices : ℕ = g.game.graph.vertices in
        let turned = turns_feed_none vertices between middle (omega arith) old.legal turns in
        record {
          legal = rw settles (run_legal g middle (root_settles g vertices) turned.legal);
          same = rw (settles, settles_feed_none vertices middle turned.legal, turned.same) old.same;
        }
