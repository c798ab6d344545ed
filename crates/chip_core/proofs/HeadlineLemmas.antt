-- Serves Core.antt, Messages.antt, Headline.antt.
-- The core theorem.
use Rattle.chip_core.proofs.Names.{◌≡◌, ℕ, ◌<◌, List, append-nil, IsGame, Setting, Log, Event}
use Rattle.chip_core.proofs.Names.{IsLegalLog, log_after, IsClosed, all_edges, to_deliver, delivered_on, Headline}
use Rattle.chip_core.proofs.OrderLemmas.{detection_order}
use Rattle.chip_core.proofs.PositionLemmas.{leads_to, none_below, by_counts, held_is}
use Rattle.chip_core.proofs.ReachingLemmas.{run_legal}
use Rattle.chip_core.proofs.MessageLemmas.{nothing_after_seal, sealed_before, left_is, delivers_prefix, sent_in_order}
use Rattle.chip_core.proofs.ClosingLemmas.{nothing_in_flight, all_ended, agrees, played, agrees_within, over, still_run}

module _ (g : Setting) (game : IsGame g.game) (some_ring : 0 < g.ring) (log : Log) (legal : IsLegalLog g log)
    (xs : List Event) where
  abbrev after : Log
  after = log_after g log xs

  after_legal : IsLegalLog g after
  after_legal = run_legal g log xs legal

  all_delivered : IsClosed g after → (e : ℕ) → e < all_edges g → delivered_on g log xs e ≡ to_deliver g log xs e
  all_delivered closed e l =
      let a = append-nil (delivered_on g log xs e) in
      let b = nothing_in_flight g game some_ring after after_legal closed e l in
      let c = left_is g game some_ring log xs e legal in cc

  pub core_theorem : Headline g log xs
  core_theorem = record {
    prefix = λ e. delivers_prefix g game some_ring log xs e legal;
    left = λ e. left_is g game some_ring log xs e legal;
    in_order = λ e. sent_in_order g game some_ring log xs e legal;
    sealed = nothing_after_seal g log xs;
    sealed_before = sealed_before g log xs;
    position = leads_to g game some_ring after after_legal;
    none_below = none_below g game some_ring after after_legal;
    by_counts = by_counts g game some_ring after after_legal;
    made = held_is g game some_ring after after_legal;
    order = detection_order g game some_ring after after_legal;
    everything_delivered = all_delivered;
    one_end = λ closed none. agrees g game some_ring after after_legal closed none;
    ended = λ closed none. all_ended g game some_ring after after_legal closed none;
    one_end_within = λ closed none. agrees_within g game some_ring after after_legal closed none;
    ended_within = λ closed none. played g game some_ring after after_legal closed none;
    over = λ closed none. over g game some_ring after after_legal closed none;
    still = still_run g game some_ring after after_legal;
  }
