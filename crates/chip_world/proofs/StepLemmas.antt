-- Serves SharedWords.antt, World.antt, Makers.antt.
-- One step of a world.
use Rattle.chip_world.proofs.Names.{◌≡◌, ℕ, ◌<◌, ◌≤◌, true, lt-ltb, leb-true, List, ◌∷◌}
use Rattle.chip_world.proofs.Names.{length, get_or, Option, Some, None, Result, Ok, Err, refl}
use Rattle.chip_world.proofs.Names.{arith, length-set, lt-leb, dite, dec_lt, Setting, claims_in}
use Rattle.chip_world.proofs.Names.{Act, Done, NotNow, Actor, StandsFor, act_of, event_of, verdict, Root, RootStandsFor}
use Rattle.chip_world.proofs.Names.{WhateverRoot, SomeRoot, RootCanDo, is_of_root, RootMakes, tail_root}
use Rattle.chip_world.proofs.Names.{rules_met, saw, Log, Step, Event, Clear, Put, Settle, Seal, Read, Feed, End, Part}
use Rattle.chip_world.proofs.Names.{Rule, Reply, unmet_rule, part_of, reply_of, part_in, word_of_part, sees}
use Rattle.chip_world.proofs.Names.{step, FitsLog, graph_edges, all_edges, root, stopper, part_here, part_else}
use Rattle.chip_world.proofs.Names.{EdgeState, words_of, with_edge, with_seal, seen_in, words_after, CanPerform}
use Rattle.chip_world.proofs.Names.{is_by_act, WorldState, ShowsEdge, IsActor, StandsForLog, root_fits}
use Rattle.chip_world.proofs.WordLemmas.{seal_shown, sees_seal, length-words_after, can_perform, root_sees_words}
use Rattle.chip_world.proofs.WordLemmas.{words_shown, read_shown}
use Rattle.chip_part.specs.declared.act.Act.TheVariants as Do

-- an operation that was returned is the event's, and every rule is met
given : (o : Option Rule) (needed act : Act) → Ok act ≡ verdict o needed → (o ≡ None) × (needed ≡ act)
given None needed act is = (refl, cc)
given (Some rule) needed act is = absurd (cc)

-- a rule that was returned is the first unmet one
withheld : (o : Option Rule) (needed : Act) (rule : Rule) → ◌≡◌ {A = Result Act Rule} (Err rule) (verdict o needed)
    → o ≡ Some rule
withheld None needed rule is = absurd (cc)
withheld (Some first) needed rule is = cc

-- a vertex makes its events by operations
pub by_act : (g : Setting) (v : ℕ) (act : Act) → v < g.game.graph.vertices → part_of g (event_of v act) ≡ v
    → is_by_act (event_of v act) ≡ true
by_act g v Do.End l at = absurd (omega arith)
by_act g v _ l at = refl

module _ (g : Setting) (log : Log) (w : WorldState) (stands : StandsForLog g log w) where
  -- a rule isn't met, and nothing changes
  pub refuses : (x : Event) (rule : Rule) → unmet_rule g x (part_in g log (part_of g x)) ≡ Some rule
      → StandsForLog g (step g log x).0 w × (NotNow rule ≡ (step g log x).1)
  refuses x rule is = rw is (stands, refl)

  -- the rules are met, and the world is that of the extended log
  pub accepts : (x : Event) (new : WorldState) (reply : Reply) → unmet_rule g x (part_in g log (part_of g x)) ≡ None
      → StandsForLog g (saw x (sees g log x) ∷ log) new
      → reply ≡ reply_of g x (sees g log x) (part_in g log (part_of g x))
      → StandsForLog g (step g log x).0 new × (reply ≡ (step g log x).1)
  accepts x new reply is after says = rw is (after, says)

  -- ---- the events of the stopper and of the root

  -- an event of no vertex leaves the actors
  actors_stay : (x : Step) → g.game.graph.vertices ≤ part_of g x.event → (v : ℕ) → v < g.game.graph.vertices → (d : Actor)
      → IsActor g (x ∷ log) v (get_or w.actors v d)
  actors_stay x past v l d = record {
    vertex_is = (stands.actors v l d).vertex_is;
    stands = rw (part_else g x log v (λ z. absurd (omega arith))) (stands.actors v l d).stands;
  }

  -- the same world except for its words and its root
  others_stay : (x : Step) → g.game.graph.vertices ≤ part_of g x.event → FitsLog g log x
      → (words : List EdgeState) (now : Root) → length words ≡ all_edges g
      → ((e : ℕ) → e < all_edges g → (d : EdgeState) → ShowsEdge g (x ∷ log) e (get_or words e d))
      → RootStandsFor g (part_in g (x ∷ log) (root g)) now
      → StandsForLog g (x ∷ log) (record w { words = words; root = now })
  others_stay x past fits words now each shown keeps = record {
    setting = stands.setting;
    is_setting = stands.is_setting;
    legal = (stands.legal, fits);
    actors_each = stands.actors_each;
    actors = actors_stay x past;
    words_each = each;
    words = shown;
    root_stands = keeps;
  }

  pub seal_makes : (e : ℕ) → e < graph_edges g → (claims : ℕ) → claims ≡ claims_in (words_of w.words e).word
      → StandsForLog g (step g log (Seal e)).0 (record w { words = with_edge e with_seal w.words })
      × (Done claims ≡ (step g log (Seal e)).1)
  seal_makes e l claims told =
      let x : Step = saw (Seal e) (sees g log (Seal e)) in
      let none : unmet_rule g (Seal e) (part_in g log (stopper g)) ≡ None = rw (lt-ltb e (graph_edges g) l) in
      accepts (Seal e) (record w { words = with_edge e with_seal w.words }) (Done claims) none
      (others_stay x (omega arith) (none, refl) (with_edge e with_seal w.words) w.root (rw length-set stands.words_each)
      (seal_shown g stands.is_setting.game stands.is_setting.some_ring log stands.legal w.words stands.words_each
      stands.words e none) (rw (part_else g x log (root g) (λ z. absurd (omega arith))) stands.root_stands))
      (rw (
        told,
        sees_seal g stands.is_setting.game stands.is_setting.some_ring log stands.legal w.words
            stands.words_each stands.words e l,
      ))

  -- ---- the events of the root that are operations

  module _ (x : Event) (own : is_of_root g x ≡ true) where
    abbrev rooted : Part
    rooted = part_in g log (root g)

    at_root : (y : Event) → is_of_root g y ≡ true → unmet_rule g y rooted ≡ None → part_of g y ≡ root g
    at_root (Clear e) mine met = tail_root g e (leb-true (graph_edges g) e mine)
    at_root (Put e) mine met = tail_root g e (leb-true (graph_edges g) e mine)
    at_root (Settle e) mine met = tail_root g e (leb-true (graph_edges g) e mine)
    at_root (Feed e k) mine met = tail_root g e (rules_met g (Feed e k) rooted met).0
    at_root (Read v) mine met = refl
    at_root End mine met = refl
    at_root _ mine met = absurd (cc)

    -- its rules are those of the root's part
    root_unmet : (y : Event) → is_of_root g y ≡ true
        → unmet_rule g y (part_in g log (part_of g y)) ≡ unmet_rule g y rooted
    root_unmet (Clear e) mine = rw (tail_root g e (leb-true (graph_edges g) e mine))
    root_unmet (Put e) mine = rw (tail_root g e (leb-true (graph_edges g) e mine))
    root_unmet (Settle e) mine = refl
    root_unmet (Feed e k) mine = dite (dec_lt e (graph_edges g)) (λ l. rw (lt-leb (graph_edges g) e l))
        (λ n. rw (tail_root g e (omega arith)))
    root_unmet (Read v) mine = refl
    root_unmet End mine = refl
    root_unmet _ mine = absurd (cc)

    -- the root's unmet rule is the core's
    pub root_refuses : (rule : Rule) → WhateverRoot w.root (λ g s. is_of_root g x ≡ true
        → ◌≡◌ {A = Result Act Rule} (Err rule) (verdict (unmet_rule g x s) (act_of g x s)))
        → StandsForLog g (step g log x).0 w × (NotNow rule ≡ (step g log x).1)
    root_refuses rule may = refuses x rule (rw (root_unmet x own)
        (withheld (unmet_rule g x rooted) (act_of g x rooted) rule (may g rooted stands.root_stands own)))

    module _ (operates : is_by_act x ≡ true) (act : Act) (may : WhateverRoot w.root (λ g s. is_of_root g x ≡ true
        → Ok act ≡ verdict (unmet_rule g x s) (act_of g x s))) where
      root_due : (unmet_rule g x rooted ≡ None) × (act_of g x rooted ≡ act)
      root_due = given (unmet_rule g x rooted) (act_of g x rooted) act (may g rooted stands.root_stands own)

      here : part_of g x ≡ root g
      here = at_root x own root_due.0

      met : unmet_rule g x (part_in g log (part_of g x)) ≡ None
      met = rw (root_unmet x own) root_due.0

      needed : act_of g x (part_in g log (part_of g x)) ≡ act
      needed = rw here root_due.1

      pub root_can_perform : CanPerform act w.words
      root_can_perform = rw needed at
          (can_perform g stands.is_setting.game stands.is_setting.some_ring log stands.legal w.words stands.words_each
          stands.words x operates met)

      module _ (seen : ℕ) (seen_is : seen ≡ seen_in act 0 w.words) where
        is_seen : seen ≡ sees g log x
        is_seen = rw (seen_is, ← needed)
            (root_sees_words g stands.is_setting.game stands.is_setting.some_ring log stands.legal w.words
            stands.words_each stands.words x own operates met)

        can : RootCanDo g rooted x seen
        can = (
          own,
          root_due.0,
          rw is_seen
              (root_fits g stands.is_setting.game stands.is_setting.some_ring log stands.legal x own root_due.0),
        )

        pub root_can_apply : SomeRoot w.root (λ g s. RootCanDo g s x seen)
        root_can_apply = (g, rooted, stands.root_stands, can)

        -- and so it makes the core's step
        pub root_makes : (new : Root) (reply : Reply) → RootMakes w.root new x seen reply
            → StandsForLog g (step g log x).0 (record w { words = words_after act w.words; root = new })
            × (reply ≡ (step g log x).1)
        root_makes new reply makes =
            let did : Step = saw x (sees g log x) in
            let made = makes g rooted stands.root_stands can in
            accepts x (record w { words = words_after act w.words; root = new }) reply met
            (others_stay did (let at = here in omega arith) (met, refl) (words_after act w.words) new
            (rw (length-words_after act w.words) stands.words_each)
            (λ e l d. rw needed at (words_shown g stands.is_setting.game stands.is_setting.some_ring log stands.legal
            w.words stands.words_each stands.words x operates met e l d))
            (rw (part_here g did log (root g) here) (rw is_seen at made.0))) (rw here (rw is_seen at made.1))

  -- ---- a read

  module _ (v : ℕ) (act : Act) (may : WhateverRoot w.root (λ g s. is_of_root g (Read v) ≡ true
      → Ok act ≡ verdict (unmet_rule g (Read v) s) (act_of g (Read v) s))) where
    read_met : unmet_rule g (Read v) (part_in g log (root g)) ≡ None
    read_met = (given (unmet_rule g (Read v) (part_in g log (root g))) (act_of g (Read v) (part_in g log (root g))) act
        (may g (part_in g log (root g)) stands.root_stands refl)).0

    pub read_inside : v < g.game.graph.vertices
    read_inside = (rules_met g (Read v) (part_in g log (root g)) read_met).0

    pub read_makes : (seen : ℕ) → seen ≡ word_of_part (part_in g log v) → (new : Root) (reply : Reply)
        → RootMakes w.root new (Read v) seen reply
        → StandsForLog g (step g log (Read v)).0 (record w { root = new }) × (reply ≡ (step g log (Read v)).1)
    read_makes seen is new reply makes =
        let did : Step = saw (Read v) (sees g log (Read v)) in
        let made = makes g (part_in g log (root g)) stands.root_stands (refl, read_met, tt) in
        accepts (Read v) (record w { root = new }) reply read_met
        (others_stay did (omega arith) (read_met, refl) w.words new stands.words_each
        (read_shown g stands.is_setting.game stands.is_setting.some_ring log stands.legal w.words stands.words_each
        stands.words v read_met)
        (rw (part_here g did log (root g) refl) made.0)) (rw is at made.1)

    -- the actor that is read
    pub read_stands : (a : Actor) → a ≡ get_or w.actors v a → StandsFor g (part_in g log v) a
    read_stands a actor_is = rw actor_is (stands.actors v read_inside a).stands
