-- From the bytes of a graph file and a chips file to those of the recurrent representative of the chips, and from those of
-- a graph file to those of the identity of the sandpile group. What is written is a chips file.
use Rattle.std.specs.Prelude.{◌≡◌, ◌⊎◌, ℕ, List, length, slice_index, Option, Result}
use Rattle.chip_graph.specs.Limits.{SizeLimits, max_limit}
use Rattle.chip_graph.specs.Multigraph.{Multigraph}
use Rattle.chip_graph.specs.ChipGame.{ChipGame}
use Rattle.chip_graph.specs.declared.fault.GameFault.TheVariants as game_fault
use Rattle.chip_file.specs.ChipsText.{text_of_chips}
use Rattle.chip_group.specs.Recurrent.{IsRecurrent}
use Rattle.chip_recurrent.specs.Representatives.{IsRepresentative, IsFaultOfRepresentative, IsFoundIdentity}
use Rattle.chip_recurrent.specs.Representatives.{IsFaultOfIdentity}
use Rattle.chip_recurrent.specs.declared.classes.Form.TheVariants.{Recurrent}
use Rattle.chip_recurrent.specs.declared.fault.RowFault.{RowFault}
use Rattle.chip_recurrent.specs.declared.fault.RowFault.TheVariants as row_fault
use Rattle.chip_command.specs.CommandAnswers.{Spec, bind, CommandAnswers}
use Rattle.chip_command.specs.Inputs.{reading_game, reading_graph}
use Rattle.chip_command.specs.declared.ended.Ended.{Ended}
use Rattle.chip_command.specs.declared.fault.Fault.{Fault}
use Rattle.chip_command.specs.declared.fault.Fault.TheVariants.{Game, Stopped, NoMemory}

-- the fault of a command for that of a stabilization
abbrev pub fault_of_row : RowFault → Fault
fault_of_row (row_fault.Total row) = Game game_fault.Total
fault_of_row (row_fault.Stopped row) = Stopped row
fault_of_row row_fault.NoMemory = NoMemory

-- a stabilization has this fault
abbrev pub IsFaultBy : (RowFault → Type 0) → Fault → Type 0
IsFaultBy IsFault fault = (row : RowFault) × (fault ≡ fault_of_row row) × IsFault row

-- a status says whether P holds: 0 if it does, and else 2
abbrev pub TellsWhether : Type 0 → ℕ → Type 0
TellsWhether P status = ((status ≡ 0) × P) ⊎ ((status ≡ 2) × (P → ⊥))

-- finding the recurrent representative of the chips of a game gives it, and a status that says whether these chips are
-- recurrent; or it has a fault
abbrev pub representing : ChipGame → Spec (List ℕ × ℕ)
representing g = record {
  gives = λ (text, status). (c : List ℕ) × (length c ≡ g.graph.vertices)
      × IsRepresentative g.graph Recurrent (slice_index g.start) (slice_index c)
      × (text ≡ text_of_chips c) × TellsWhether (IsRecurrent g.graph (slice_index g.start)) status;
  refuses = IsFaultBy (IsFaultOfRepresentative g.graph Recurrent (slice_index g.start));
}

-- finding the identity gives it, with status 0; or it has a fault
abbrev pub identifying : Multigraph → Spec (List ℕ × ℕ)
identifying G = record {
  gives = λ (text, status). (c : List ℕ) × IsFoundIdentity G c × (text ≡ text_of_chips c) × (status ≡ 0);
  refuses = IsFaultBy (IsFaultOfIdentity G);
}

-- the results of `recurrent` by these limits
abbrev pub RecurrentAnswers : SizeLimits → (graph chips : Option (List ℕ)) → Option (List ℕ) → Option (List ℕ)
    → Result Ended Fault → Type 0
RecurrentAnswers limits graph chips old new result =
    CommandAnswers (bind (reading_game limits graph chips max_limit) representing) old new result

-- the results of `identity` by these limits
abbrev pub IdentityAnswers : SizeLimits → Option (List ℕ) → Option (List ℕ) → Option (List ℕ) → Result Ended Fault
    → Type 0
IdentityAnswers limits graph old new result = CommandAnswers (bind (reading_graph limits graph) identifying) old new result
