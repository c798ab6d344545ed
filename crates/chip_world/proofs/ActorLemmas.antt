-- Serves World.antt, TurnWords.antt, Rounds.antt.
-- A world in which one of its vertices makes an event, or a whole turn, over the shared words.
use Rattle.chip_world.proofs.Names.{◌≡◌, ◌≢◌, ℕ, ◌<◌, List, [], ◌∷◌, ◌++◌, reverse, get_or, set, Option, Some, None}
use Rattle.chip_world.proofs.Names.{refl, sym, ◌∙◌, arith, length-set, get_or-set_same, get_or-set_other, ⊤}
use Rattle.chip_world.proofs.Names.{append_assoc, reverse_onto, dite, ℕ_discrete, Setting, Actor}
use Rattle.chip_world.proofs.Names.{StandsFor, SomePart, WhateverPart, AreOf, Meets, MakesTurnOver}
use Rattle.chip_world.proofs.Names.{MeetsEvent, MakesEvent, IsAnswered, Log, Step, Event, Reply, Rule, Part, part_of}
use Rattle.chip_world.proofs.Names.{part_in, unmet_rule, does, sees, word_of_part, root, answer, part_else}
use Rattle.chip_world.proofs.Names.{saw, vertex_of, WorldState, StandsForLog, IsActor, MakesStep, TurnWords, WordsHold}
use Rattle.chip_world.proofs.Names.{IsTurnAfter}
use Rattle.chip_world.proofs.VertexLemmas.{found}
use Rattle.chip_part.specs.declared.cursor.Cursor.TheVariants as At

-- the steps of one part leave every other unchanged
parts_stay : (g : Setting) (v u : ℕ) → u ≢ v → (more : List Step) → AreOf g v more → (log : Log)
    → part_in g (reverse more ++ log) u ≡ part_in g log u
parts_stay g v u other [] mine log = refl
parts_stay g v u other (x ∷ xs) mine log =
    rw (reverse_onto xs x [], append_assoc, parts_stay g v u other xs mine.1 (x ∷ log))
    (part_else g x log u (λ z. other (cc)))

module _ (g : Setting) (log : Log) (w : WorldState) (stands : StandsForLog g log w) where
  -- the vertex that makes an event, and its actor
  pub maker : (x : Event) (v : ℕ) (a : Actor) → vertex_of w.setting x ≡ Some v → a ≡ get_or w.actors v a
      → (part_of g x ≡ v) × (v < g.game.graph.vertices) × IsActor g log v a
  maker x v a found_at actor_is =
      let is = found g stands.is_setting.game x v (rw stands.setting at found_at) in
      (is.0, is.1, rw actor_is (stands.actors v is.1 a))

  module _ (v : ℕ) (inside : v < g.game.graph.vertices) (a : Actor) (actor_is : a ≡ get_or w.actors v a) where
    actor : IsActor g log v a
    actor = rw actor_is (stands.actors v inside a)

    -- the fired word of the vertex is known
    pub shows_word : SomePart a (λ g s. ⊤)
    shows_word = (g, part_in g log v, actor.stands, tt)

    module _ (fired : ℕ) (fired_is : WhateverPart a (λ g s. fired ≡ word_of_part s)) where
      abbrev shared : TurnWords
      shared = record { words = w.words; fired = fired }

      held : WordsHold shared g a.vertex log (part_in g log v)
      held = rw actor.vertex_is record {
        inside = inside;
        is_setting = stands.is_setting;
        legal = stands.legal;
        part_is = refl;
        words_each = stands.words_each;
        words = stands.words;
        fired_is = fired_is g (part_in g log v) actor.stands;
      }

      -- a turn may begin over the words, and an event of the vertex be made
      pub meets_turn : Meets (WordsHold shared) a (At.Take 0)
      meets_turn = (g, log, part_in g log v, held, actor.stands, tt)

      pub meets_event : (x : Event) → part_of g x ≡ v → MeetsEvent (WordsHold shared) a x
      meets_event x own = (g, log, part_in g log v, held, actor.stands, own ∙ sym actor.vertex_is)

      -- steps of the vertex lead to the world of the log extended by them
      module _ (new : TurnWords) (b : Actor) where
        abbrev pub after : WorldState
        after = record w { actors = set w.actors v b; words = new.words }

        leads : (more : List Step) (t : Part) → WordsHold new g v (reverse more ++ log) t → AreOf g v more
            → StandsFor g t b → b.vertex ≡ v → StandsForLog g (reverse more ++ log) after
        leads more t now mine b_stands vertex =
            let longer : Log = reverse more ++ log in
            let b_is : IsActor g longer v b = record { vertex_is = vertex; stands = rw now.part_is at b_stands } in
            record {
              setting = stands.setting;
              is_setting = stands.is_setting;
              legal = now.legal;
              actors_each = rw length-set stands.actors_each;
              actors = λ u l d. dite (ℕ_discrete u v)
                  (λ same.
                  rw (same, get_or-set_same w.actors v b d (let each = stands.actors_each in omega arith)) b_is)
                  (λ other. rw (get_or-set_other w.actors v u b d other) record {
                    vertex_is = (stands.actors u l d).vertex_is;
                    stands = rw (parts_stay g v u other more mine log) (stands.actors u l d).stands;
                  });
              words_each = now.words_each;
              words = now.words;
              root_stands = rw (parts_stay g v (root g) (λ z. (let l = inside in absurd (omega arith))) more mine log)
                  stands.root_stands;
            }

        pub turn_leads : (count : ℕ) → MakesTurnOver (WordsHold shared) a (WordsHold new) b count
            → (longer : Log) × StandsForLog g longer after × IsTurnAfter g v log longer
        turn_leads count makes =
            let made = rw actor.vertex_is at (makes g log (part_in g log v) held actor.stands) in
            let is = made.2 in (
              reverse made.0 ++ log,
              leads made.0 made.1 is.held is.mine is.stands is.vertex,
              record { operations = made.0; are_turn = (made.1, is.is_turn); all_made = refl; all_fit = is.held.legal },
            )

        pub event_leads : (x : Event) (reply : Reply) → part_of g x ≡ v
            → MakesEvent (WordsHold shared) a x (WordsHold new) b reply → MakesStep g log x after reply
        event_leads x reply own makes = rw own (by (unmet_rule g x (part_in g log v)) refl
            (rw actor.vertex_is at (makes g log (part_in g log v) held actor.stands (own ∙ sym actor.vertex_is))))
          where
            by : (o : Option Rule) → unmet_rule g x (part_in g log v) ≡ o
                → IsAnswered (WordsHold new) g v log (part_in g log v) x b reply o
                → StandsForLog g (answer g log x o).0 after × (reply ≡ (answer g log x o).1)
            by (Some rule) is (kept, says) = (leads [] (part_in g log v) kept.held tt kept.stands kept.vertex, says)
            by None is (seen, kept, says) =
                let as_seen : seen ≡ sees g log x = kept.held.legal.1.1 in (
                  rw as_seen at (leads (saw x seen ∷ []) (does g (saw x seen) (part_in g log v)) kept.held (own, tt)
                      kept.stands kept.vertex),
                  rw own (rw as_seen at says),
                )
