-- Serves Finish.antt, Roots.antt.
-- The outcome that the root makes of its reads.
use Rattle.chip_net.proofs.Names.{nat_tests, ◌≡◌, ℕ, ◌<◌, ◌≤◌, sum, ◌&&◌, Bool, not, true, List, [], length, map}
use Rattle.chip_net.proofs.Names.{get_or, slice_index, Option, Some, None, is_some, refl, sym, ap}
use Rattle.chip_net.proofs.Names.{◌∙◌, subst, arith, range_with_len, get_or-map, length-map, ChipGame, max_total}
use Rattle.chip_net.proofs.Names.{Multigraph, HasMore, filter_below, Outcome, IsBelowZero, IsAfter}
use Rattle.chip_net.proofs.Names.{same_ends, fired_in, is_fired_word, Setting, IsSetting}
use Rattle.chip_net.proofs.Names.{Cause, SealedEdge, FiringLimit, root, root_edge, Part, opening_part, is_by_limit}
use Rattle.chip_net.proofs.Names.{AreGiven, Log, part_in, word_of_part, IsLegalLog, IsClosed, WordsOf, NoneHalted}
use Rattle.chip_net.proofs.Names.{NoneHaltedBySeal, done_by, part_by, chips_given, played_game, firings, fed_in}
use Rattle.chip_net.proofs.Names.{is_by_seal, AreFired, IsOutcomeOf, ComesTo, words_tell, by_history, given_is}
use Rattle.chip_net.proofs.Names.{given_start, given_within, played_has_more, unfed_played, all_ended, never_negative}
use Rattle.chip_net.proofs.Names.{comes, in_range, is_played, RootKnown, root_part, root_after, fed_by, reads_from}
use Rattle.chip_net.proofs.Names.{IsReadOut, ReadingsState, is_by_limit_at, is_by_seal_at, AreRead, IsReading, IsOneEnd}
use Rattle.chip_net.proofs.Names.{Finishes, Together, IsRun, ActorKnown, tail_root, sent_counts, false, stopper}
use Rattle.chip_net.proofs.Names.{unsealed_refuses, picked_none, picked_ext, picked_has, contains_nothing}
use Rattle.chip_net.proofs.ReadingLemmas.{reads_feed_none, reads_part, reads_say}

-- nothing passes if nothing is listed
none_picked : (test : ℕ → Bool) (n : ℕ) → filter_below test n ≡ [] → (v : ℕ) → v < n → test v ≡ true → ⊥
none_picked test n empty v l on = contains_nothing v (rw empty at (picked_has test n v l on))

-- ---- at the end

-- if the stopper did nothing, no seal halted a vertex
never_sealed : (g : Setting) (log : Log) → IsLegalLog g log → done_by g (stopper g) log ≡ [] → (v : ℕ)
    → is_by_seal (part_in g log v).halt ≡ false
never_sealed g log legal none = (unsealed_refuses g log legal (λ e. ap (λ (s : Part). s.stop e)
    (by_history g log (stopper g) ∙ ap (part_by g (opening_part g)) none))).1

-- every word of a vertex is a fired word
pub fired_word_is : (g : Setting) → IsSetting g → (log : Log) → IsLegalLog g log → (v word : ℕ)
    → word ≡ word_of_part (part_in g log v) → is_fired_word word ≡ true
fired_word_is g setting log legal v word is =
    let told = words_tell g setting.game setting.some_ring log legal in
    rw (is, told.halted v, told.by_limit v) (grind (arith, nat_tests))

seal_is : (h : Option Cause) → (is_some h && not (is_by_limit h)) ≡ is_by_seal h
seal_is h = grind (arith, nat_tests)

-- the outcome of a log is what the words of all vertices show, if the chips are those by the counts
module _ (g : Setting) (setting : IsSetting g) (log : Log) (legal : IsLegalLog g log) (words : List ℕ)
    (count_is : length words ≡ g.game.graph.vertices)
    (word_at : (v : ℕ) → v < g.game.graph.vertices → get_or words v 0 ≡ word_of_part (part_in g log v)) where
  say : WordsOf g log
  say = words_tell g setting.game setting.some_ring log legal

  pub fired_by_words : (fired : List ℕ) → fired ≡ map fired_in words → AreFired g log g.game.graph.vertices fired
  fired_by_words fired is = record {
    count_is = rw (is, length-map words fired_in) count_is;
    each = λ v l. rw (is, get_or-map fired_in words v 0, word_at v l) (say.fired v);
  }

  pub outcome_by_words : (o : Outcome) → AreRead words o.fired.items o.over.items o.sealed.items
      → IsAfter (played_game g log) o.fired.items o.chips.items → IsOutcomeOf g log o
  outcome_by_words o are chips = record {
    fired = fired_by_words o.fired.items are.fired;
    chips = chips;
    over = rw (are.over, count_is) (picked_ext (is_by_limit_at words) (λ v. is_by_limit (part_in g log v).halt)
        g.game.graph.vertices (λ v l. rw (word_at v l) (say.by_limit v)));
    sealed = rw (are.sealed, count_is) (picked_ext (is_by_seal_at words) (λ v. is_by_seal (part_in g log v).halt)
        g.game.graph.vertices
        (λ v l. rw (word_at v l, say.halted v, say.by_limit v) (seal_is (part_in g log v).halt)));
  }

module _ {old now : RootKnown} (setting : IsSetting old.net.setting) {readings : ReadingsState}
    (reading : IsReading old now readings old.net.setting.game.graph.vertices) (given : List ℕ)
    (are : AreGiven old.net.setting (root_part old) given) where
  abbrev h : Setting
  h = old.net.setting

  out : IsReadOut (root_after old (reads_from 0 reading.words)) reading.words
  out = rw reading.record_is at
      (reading.told (let a = setting.game.graph_fits.some_vertex in let c = reading.count_is in omega arith))

  -- the reads feed nothing: all feeds are in that log
  recorded : fed_in h (done_by h (root h) out.log) ≡ fed_by old
  recorded = rw (← out.has.0.root_did) (reads_feed_none h old.did 0 reading.words)

  -- what was given is the start of the game played
  start_is : given ≡ (played_game h out.log).start
  start_is = given_start h out.log given
      (rw (by_history h out.log (root h), ← out.has.0.root_did, reads_part old reading.words) are)

  pub few : sum given ≤ max_total
  few = rw start_is (given_within h setting.game setting.some_ring out.log out.legal)

  abbrev pub game : ChipGame
  game = record { graph = h.game.graph; start = given; limit = h.game.limit }

  same_game : played_game h out.log ≡ game
  same_game = λ j. let k : ChipGame = record {
    graph = h.game.graph;
    start = sym start_is j;
    limit = h.game.limit;
  } in k

  more : HasMore h.game (fed_by old) game
  more = rw (recorded, same_game) at (played_has_more h setting.game setting.some_ring out.log out.legal)

  from : chips_given h out.log ≡ slice_index game.start
  from = rw (← start_is) at (sym (given_is h setting.game setting.some_ring out.log out.legal))

  word_at : (v : ℕ) → v < h.game.graph.vertices → get_or reading.words v 0 ≡ word_of_part (part_in h out.log v)
  word_at v l = out.has.2 v (let c = reading.count_is in omega arith)

  module _ (fired : List ℕ) (fired_is : fired ≡ readings.fired) where
    are_fired : AreFired h out.log h.game.graph.vertices fired
    are_fired = fired_by_words h setting out.log out.legal reading.words reading.count_is word_at fired
        (fired_is ∙ reading.tallied.fired)

    pub none_negative : (v : ℕ) → IsBelowZero game.graph (λ u. get_or game.start u 0) (λ u. get_or fired u 0) v → ⊥
    none_negative v low = never_negative h setting.game setting.some_ring out.log out.legal fired are_fired v
        (subst (λ (z : Multigraph × (ℕ → ℕ)). IsBelowZero z.0 z.1 (slice_index fired) v)
        (λ i. (more.same_graph i, sym from i)) low)

  module _ (o : Outcome) (fired_is : o.fired.items ≡ readings.fired) (over_is : o.over.items ≡ readings.over)
      (sealed_is : o.sealed.items ≡ readings.sealed) (chips : IsAfter game o.fired.items o.chips.items) where
    read : AreRead reading.words o.fired.items o.over.items o.sealed.items
    read = record {
      fired = fired_is ∙ reading.tallied.fired;
      over = over_is ∙ reading.tallied.over;
      sealed = sealed_is ∙ reading.tallied.sealed;
    }

    outcome_is : IsOutcomeOf h out.log o
    outcome_is = outcome_by_words h setting out.log out.legal reading.words reading.count_is word_at o read
        (rw same_game chips)

    -- if no seal is listed, none halted a vertex
    no_seals : o.sealed.items ≡ [] → NoneHaltedBySeal h out.log
    no_seals empty v l seal = none_picked (λ u. is_by_seal (part_in h out.log u).halt) h.game.graph.vertices
        (rw outcome_is.sealed at empty) v l (rw seal)

    -- and if the limit's list is empty too, no vertex halted
    no_halts : o.over.items ≡ [] → o.sealed.items ≡ [] → NoneHalted h out.log
    no_halts over sealed v l = by_cause (part_in h out.log v).halt refl
      where
        by_cause : (c : Option Cause) → (part_in h out.log v).halt ≡ c → (part_in h out.log v).halt ≡ None
        by_cause None is = is
        by_cause (Some SealedEdge) is = absurd (no_seals sealed v l is)
        by_cause (Some FiringLimit) is = absurd (none_picked (λ u. is_by_limit (part_in h out.log u).halt)
            h.game.graph.vertices (rw outcome_is.over at over) v l (rw is))

    all_come : ComesTo h (slice_index game.start) (firings out.log) o
    all_come = rw from at (comes h setting.game setting.some_ring out.log out.legal o outcome_is)

    one_end : o.over.items ≡ [] → o.sealed.items ≡ [] → IsOneEnd game o
    one_end over sealed vs ok ended =
        let same = same_ends h.game.graph setting.game.graph_fits (slice_index game.start) (firings out.log) vs
        all_come.sequence
        (rw from at (all_ended h setting.game setting.some_ring out.log out.legal out.has.1 (no_halts over sealed)))
        ok ended in
        ((λ v. all_come.counted v ∙ same.0 v), (λ v. all_come.position v ∙ same.1 v))

    -- the root's view has the stopper's part, which did nothing
    unsealed : old.stopper_did ≡ Some [] → o.sealed.items ≡ []
    unsealed none = rw outcome_is.sealed (picked_none (λ v. is_by_seal (part_in h out.log v).halt)
        h.game.graph.vertices
        (λ v l on. let off = never_sealed h out.log out.legal (sym (out.has.0.stopper_did [] none)) v in absurd (cc)))

    pub finishes : Finishes old now o
    finishes = rw reading.record_is (record {
      game = game;
      more = more;
      unfed = λ off. rw same_game at (unfed_played h setting.game setting.some_ring off out.log out.legal);
      words = reading.words;
      one_each = reading.count_is;
      record_is = refl;
      read = read;
      chips = chips;
      read_out = out;
      of_log = outcome_is;
      comes = all_come;
      in_range = in_range h setting.game setting.some_ring out.log out.legal o outcome_is;
      played = λ empty. rw same_game at
          (is_played h setting.game setting.some_ring out.log out.legal o outcome_is out.has.1 (no_seals empty));
      one_end = one_end;
      unsealed = unsealed;
    })

-- ---- one log of all tokens

-- the root's steps determine the game played
same_played : (g : Setting) (log other : Log) → part_in g log (root g) ≡ part_in g other (root g)
    → played_game g other ≡ played_game g log
same_played g log other same =
    let sent : ℕ → Part → ℕ = λ v s. sum (sent_counts (s.out (root_edge g v)).link) in
    let by_root : (l : Log) (v : ℕ) → chips_given g l v ≡ sent v (part_in g l (root g)) =
    (λ l v. ap (λ (p : ℕ). sent v (part_in g l p)) (tail_root g (root_edge g v) (omega arith))) in
    let given : chips_given g other ≡ chips_given g log =
    (λ j v. (by_root other v ∙ ap (sent v) (sym same) ∙ sym (by_root log v)) j) in
    λ j. let k : ChipGame = record {
      graph = g.game.graph;
      start = map (given j) (range_with_len 0 g.game.graph.vertices);
      limit = g.game.limit;
    } in k

module _ (old receipt : RootKnown) (o : Outcome) (actors : List ActorKnown) (finishes : Finishes old receipt o)
    (met : Together receipt actors) where
  abbrev k : Setting
  k = receipt.net.setting

  net_is : receipt.net ≡ old.net
  net_is = rw finishes.record_is

  vertices_is : length finishes.words ≡ k.game.graph.vertices
  vertices_is = rw net_is finishes.one_each

  -- the reads are in the log, and each has the word of its vertex there
  tells : (v : ℕ) → v < k.game.graph.vertices → (v < k.game.graph.vertices) × IsClosed k met.1.log
      × (get_or finishes.words v 0 ≡ word_of_part (part_in k met.1.log v))
  tells v l = reads_say k met.0 met.1.log met.1.legal old.did finishes.words
      (sym (ap (λ (r : RootKnown). r.did) finishes.record_is) ∙ met.1.has.0.root_did) v (omega (arith, vertices_is))

  -- in both logs the root is the same
  root_same : part_in k met.1.log (root k) ≡ part_in k finishes.read_out.log (root k)
  root_same = rw (
    by_history k met.1.log (root k),
    ← met.1.has.0.root_did,
    by_history k finishes.read_out.log (root k),
    ← finishes.read_out.has.0.root_did,
  )

  pub one_run : IsRun receipt actors o
  one_run = record {
    log = met.1.log;
    legal = met.1.legal;
    agrees = met.1.has.0;
    actors_did = met.1.has.1;
    closed = (tells 0 (met.0.game.graph_fits.some_vertex)).1;
    outcome = outcome_by_words k met.0 met.1.log met.1.legal finishes.words vertices_is (λ v l. (tells v l).2) o
        finishes.read
        (rw (← same_played k met.1.log finishes.read_out.log root_same, net_is) finishes.of_log.chips);
  }
