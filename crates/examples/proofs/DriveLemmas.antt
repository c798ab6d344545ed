-- Turns and rounds seal nothing, so a drive that closes plays the game.
use Rattle.std.proofs.Common.{◌≡◌, ℕ, zero, suc, ◌<◌, ◌≤◌, false, List, [], ◌∷◌, ◌++◌, reverse, Option, Some, None}
use Rattle.std.proofs.Common.{Result, Ok, Err, IfOk}
use Rattle.std.proofs.Common.{refl, sym, ap, ◌∙◌, subst, arith, append_assoc}
use Rattle.std.proofs.lemmas.List.{reverse-append}
use Rattle.chip_graph.specs.ChipGame.{ChipGame, IsGame}
use Rattle.chip_sequence.specs.Play.{IsPlayed}
use Rattle.chip_sequence.specs.declared.outcome.Outcome.{Outcome}
use Rattle.chip_part.specs.Setting.{Setting, setting_of}
use Rattle.chip_part.specs.Edges.{root_edge}
use Rattle.chip_actor.specs.Medium.{AreOf}
use Rattle.chip_core.specs.Core.{Log, Step, Event, Settle, Seal, Rule, IsLegalLog, part_of, part_in}
use Rattle.chip_core.specs.Core.{answer, log_after}
use Rattle.chip_core.specs.Headline.{NoneHaltedBySeal}
use Rattle.chip_core.specs.Messages.{is_seal}
use Rattle.chip_core.specs.Playing.{SealsNone}
use Rattle.chip_core.specs.Positions.{played_game}
use Rattle.chip_core.proofs.LogLemmas.{part_kept}
use Rattle.chip_core.proofs.NumberLemmas.{unfed_is_the_start}
use Rattle.chip_core.proofs.PlayingLemmas.{unsealed_halts_none}
use Rattle.chip_core.proofs.ReachingLemmas.{run_legal}
use Rattle.chip_core.proofs.ReplyLemmas.{log_after-append}
use Rattle.chip_world.specs.World.{WorldState, StandsForLog, WhateverLog}
use Rattle.chip_world.specs.Rounds.{AreTurns, root_settles, AreOpenRounds, IsDrive, LeadsWorld}
use Rattle.chip_world.specs.declared.world.driving.Drive.{Drive}
use Rattle.chip_world.specs.declared.fault.WorldFault.{WorldFault}
use Rattle.chip_world.proofs.OwnTurnLemmas.{turn_is_own}
use Rattle.examples.specs.Answers.{IsEveryEnd}
use Rattle.examples.proofs.EndLemmas.{every_end}

module _ (g : Setting) where
  -- a vertex makes no seal
  no_seal : (v : ℕ) → v < g.game.graph.vertices → (x : Event) → part_of g x ≡ v → (e : ℕ) → is_seal e x ≡ false
  no_seal v below (Seal i) is e = absurd (omega arith)
  no_seal v below x is e = refl

  turn_seals_none : (v : ℕ) → v < g.game.graph.vertices → (ds : List Step) → AreOf g v ds → (log : Log) → SealsNone log
      → SealsNone (reverse ds ++ log)
  turn_seals_none v below [] mine log none = none
  turn_seals_none v below (x ∷ xs) mine log none = subst SealsNone
      (sym (ap (λ (l : Log). l ++ log) (reverse-append (x ∷ []) xs) ∙ append_assoc (reverse xs) (x ∷ []) log))
      (turn_seals_none v below xs mine.1 (x ∷ log) (λ e. rw (no_seal v below x.event mine.0 e, none e) refl))

  turns_seal_none : (n : ℕ) (before after : Log) → IsGame g.game → n ≤ g.game.graph.vertices → IsLegalLog g before
      → AreTurns g n before after → SealsNone before → IsLegalLog g after × SealsNone after
  turns_seal_none zero before after game few legal same none =
      (subst (IsLegalLog g) (sym same) legal, subst SealsNone (sym same) none)
  turns_seal_none (suc n) before after game few legal (between, turns, last) none =
      let old = turns_seal_none n before between game (omega arith) legal turns none in
      let mine = turn_is_own g n (part_in g between n) last.operations last.are_turn.0
      (λ e is. ((part_kept g game between old.0 n).parents e is).1) last.are_turn.1 in
      let none_now = turn_seals_none n (omega arith) last.operations mine between old.1 in
      (last.all_fit, subst SealsNone (sym last.all_made) none_now)

  settle_seals_none : (e : ℕ) (log : Log) (o : Option Rule) → SealsNone log → SealsNone (answer g log (Settle e) o).0
  settle_seals_none e log (Some r) none = none
  settle_seals_none e log None none = none

  settles_seal_none : (n : ℕ) (log : Log) → SealsNone log → SealsNone (log_after g log (root_settles g n))
  settles_seal_none zero log none = none
  settles_seal_none (suc n) log none = subst SealsNone
      (sym (log_after-append g log (root_settles g n) (Settle (root_edge g n) ∷ [])))
      (settle_seals_none (root_edge g n) (log_after g log (root_settles g n)) _ (settles_seal_none n log none))

  rounds_seal_none : (n : ℕ) (before after : Log) → IsGame g.game → IsLegalLog g before → AreOpenRounds g n before after
      → SealsNone before → IsLegalLog g after × SealsNone after
  rounds_seal_none zero before after game legal same none =
      (subst (IsLegalLog g) (sym same) legal, subst SealsNone (sym same) none)
  rounds_seal_none (suc n) before after game legal (between, rounds, not_closed, (middle, turns, settles)) none =
      let old = rounds_seal_none n before between game legal rounds none in
      let turned = turns_seal_none g.game.graph.vertices between middle game (omega arith) old.0 turns old.1 in (
        subst (IsLegalLog g) (sym settles) (run_legal g middle (root_settles g g.game.graph.vertices) turned.0),
        subst SealsNone (sym settles) (settles_seal_none g.game.graph.vertices middle turned.1),
      )

-- the outcome of a drive from the opening is every end of the game
driven_end : (game : ChipGame) (ring : ℕ) (old new : WorldState) (rounds : ℕ) (drive : Drive) (o : Outcome)
    → StandsForLog (setting_of game ring) [] old → LeadsWorld old new (λ g before after. IsDrive g rounds before after drive)
    → WhateverLog new (λ g log. NoneHaltedBySeal g log → IsPlayed (played_game g log) o)
    → IsEveryEnd game o.fired.items o.chips.items
driven_end game ring old new rounds drive o opens leads plays =
    let g : Setting = setting_of game ring in
    let (after, stands, driven) = leads g [] opens in
    let is_game = stands.is_setting.game in let some_ring = stands.is_setting.some_ring in
    let none = (rounds_seal_none g driven.count [] after is_game tt driven.are_rounds (λ e. refl)).1 in
    let played = plays g after stands (unsealed_halts_none g is_game some_ring after stands.legal none) in
    subst (λ (k : ChipGame). IsEveryEnd k o.fired.items o.chips.items)
    (unfed_is_the_start g is_game some_ring after stands.legal refl).0 (every_end _ o played)

-- and so if its outcome is returned
pub actors_end : (game : ChipGame) (ring : ℕ) (old new : WorldState) (rounds : ℕ) (drive : Drive)
    (r : Result Outcome WorldFault) → StandsForLog (setting_of game ring) [] old
    → LeadsWorld old new (λ g before after. IsDrive g rounds before after drive)
    → IfOk r (λ o. WhateverLog new (λ g log. NoneHaltedBySeal g log → IsPlayed (played_game g log) o))
    → IfOk r (λ o. IsEveryEnd game o.fired.items o.chips.items)
actors_end game ring old new rounds drive (Ok o) opens leads plays =
    driven_end game ring old new rounds drive o opens leads plays
actors_end game ring old new rounds drive (Err f) opens leads plays = tt
