-- From the bytes of a graph file, a chips file and a report to whether this is the report of the game.
use Rattle.std.specs.Prelude.{◌≡◌, ◌≢◌, ◌⊎◌, ◌↔◌, ℕ, ◌<◌, List, codes, length, slice_index, Contains, Option, Result}
use Rattle.chip_graph.specs.Limits.{SizeLimits}
use Rattle.chip_graph.specs.ChipGame.{ChipGame}
use Rattle.chip_sequence.specs.Play.{IsPlayed}
use Rattle.chip_sequence.specs.Stages.{fired_in_all}
use Rattle.chip_sequence.specs.declared.outcome.Outcome.{Outcome}
use Rattle.chip_sequence.specs.declared.resumed.Resumed.{Resumed}
use Rattle.chip_sequence.specs.declared.resumed.ResumeFault.TheVariants.{Mismatch}
use Rattle.chip_command.specs.CommandAnswers.{Spec, bind, CommandAnswers, OrMemory}
use Rattle.chip_command.specs.Inputs.{reading_game}
use Rattle.chip_command.specs.declared.ended.Ended.{Ended}
use Rattle.chip_command.specs.declared.fault.Fault.{Fault}
use Rattle.chip_command.specs.declared.fault.Fault.TheVariants.{Resume, Differs}
use Rattle.chip_engine.specs.ResumeCommand.{reading_stage}

-- a stage and an outcome agree at v: how often it fired in all, its chips, and whether a limit or a seal halted it
pub record StageAgreesAt (told : Resumed) (o : Outcome) (v : ℕ) : Type 0 where
  pub fired : fired_in_all told v ≡ slice_index o.fired.items v
  pub chips : slice_index told.outcome.chips.items v ≡ slice_index o.chips.items v
  pub over : Contains told.outcome.over.items v ↔ Contains o.over.items v
  pub sealed : Contains told.outcome.sealed.items v ↔ Contains o.sealed.items v

-- v is the least vertex at which they differ
pub record IsFirstDisagreement (told : Resumed) (o : Outcome) (v : ℕ) : Type 0 where
  pub is_vertex : v < length o.fired.items
  pub differs : StageAgreesAt told o v → ⊥
  pub agrees_below : (u : ℕ) → u < v → StageAgreesAt told o u

-- verifying a stage says that it has the outcome of the game, whatever was fired before it; or it has another number of
-- vertices than the game, or another outcome, and this is the least vertex that differs, or there is no memory
abbrev pub verifying : ChipGame → Resumed → Spec (List ℕ × ℕ)
verifying g told = record {
  gives = λ (text, status). (o : Outcome) × IsPlayed g o × (length told.outcome.fired.items ≡ g.graph.vertices)
      × ((v : ℕ) → v < g.graph.vertices → StageAgreesAt told o v) × (text ≡ codes "verified\n") × (status ≡ 0);
  refuses = OrMemory (λ fault. ((length told.outcome.fired.items ≢ g.graph.vertices) × (fault ≡ Resume Mismatch))
      ⊎ ((o : Outcome) × IsPlayed g o × (length told.outcome.fired.items ≡ g.graph.vertices)
      × (v : ℕ) × (fault ≡ Differs v) × IsFirstDisagreement told o v));
}

-- the results of `verify` by these limits
abbrev pub VerifyAnswers : SizeLimits → (graph chips report : Option (List ℕ)) → ℕ → Option (List ℕ) → Option (List ℕ)
    → Result Ended Fault → Type 0
VerifyAnswers limits graph chips report limit old new result = CommandAnswers
    (bind (reading_game limits graph chips limit) (λ g. bind (reading_stage limits report) (verifying g)))
    old new result
