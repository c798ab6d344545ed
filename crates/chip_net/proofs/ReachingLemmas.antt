-- Serves Laws.antt, Layout.antt.
-- By the rule of the table the world is reached.
use Rattle.chip_net.proofs.Names.{◌≡◌, ℕ, List, length, take, drop, take-append-drop, IsPrefix}
use Rattle.chip_net.proofs.Names.{Step, part_in, done_by, parts_by, never_sealed}
use Rattle.chip_net.proofs.Names.{counts_of_edges, edge_sound, by_history, reached_by_legal_logs}
use Rattle.chip_net.proofs.Names.{EveryMomentIsReached, EveryMomentDiffuses, Part, core_diffuses, subst}
use Rattle.chip_core.specs.Instance.{Shows}

-- `take` is a prefix
front : (got put : List ℕ) → got ≡ take (length got) put → IsPrefix got put
front got put is = (
  drop (length got) put,
  (let whole = take-append-drop (length got) put in cc),
)

pub every_moment : EveryMomentIsReached
every_moment g s kept =
    let did : ℕ → List Step = λ p. done_by g p kept.log in
    let parts : part_in g kept.log ≡ parts_by g did = (λ i p. by_history g kept.log p i) in
    let sound = edge_sound g kept.setting.game kept.setting.some_ring kept.log kept.legal in
    record {
      setting = kept.setting;
      did = did;
      reached = (reached_by_legal_logs g).0 kept.log kept.legal;
      owner = kept.owner;
      only_there = kept.each_part;
      there = kept.there;
      edges = λ e l. rw (← parts) (record {
        word = (kept.shown.edges e l).word_is;
        cells = (kept.shown.edges e l).ring_is;
        unsealed = never_sealed g kept.log kept.legal e;
        acks = kept.shown.acks e l;
        settled = (counts_of_edges g kept.setting.game kept.setting.some_ring kept.log kept.legal e).settled;
        prefix = front _ _ (sound e).prefix;
        sealed = (sound e).sealed_at;
      });
      fired = λ v l. rw (← by_history g kept.log v) (kept.shown.fired v l);
    }

pub every_moment_diffuses : EveryMomentDiffuses
unfolding every_moment
every_moment_diffuses g s kept =
    let d = (core_diffuses g kept.setting.game kept.setting.some_ring).1 in
    let parts : part_in g kept.log ≡ parts_by g (λ p. done_by g p kept.log) = (λ i p. by_history g kept.log p i) in (
      every_moment g s kept,
      d.events kept.log,
      d.world kept.log,
      d.legal kept.log kept.legal,
      subst (λ (ps : ℕ → Part). Shows g ps (d.world kept.log)) parts (d.shows kept.log),
    )
