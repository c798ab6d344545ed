-- Serves Inputs.antt.
-- The game that the files of a command mean, and why they mean none.
use Rattle.std.proofs.Common.{◌≡◌, ℕ, ◌^◌, ◌==◌, nat_le, Bool, true, false, List, length, sum, Option, Some, None}
use Rattle.std.proofs.Common.{Result, Err, refl}
use Rattle.std.proofs.lemmas.Bool.{eqb-true, leb-true}
use Rattle.std.specs.Option.{IfSome}
use Rattle.std.specs.Io.KnownBytes.{Keeps}
use Rattle.chip_graph.specs.Limits.{SizeLimits}
use Rattle.chip_graph.specs.Multigraph.{IsGraph}
use Rattle.chip_graph.specs.ChipGame.{ChipGame, IsGame}
use Rattle.chip_graph.specs.Faults.{first_of_faults, fault_unless, fault_of_game}
use Rattle.chip_file.specs.Answer.{AnswersInput, ReadsText}
use Rattle.chip_file.specs.declared.fault.FileFault.{FileFault}
use Rattle.chip_command.specs.Faults.{fault_of_file}
use Rattle.chip_command.specs.Inputs.{reading}

-- what is known where the bytes are known
pub at_some : {A : Type 0} (P : A → Type 0) (o : Option A) (x : A) → o ≡ Some x → IfSome o P → P x
at_some P None x is known = cc
at_some P (Some y) x is known = let same : y ≡ x = cc in rw same at known

-- the result of reading where the text is known
pub known : {T : Type 0} {limits : SizeLimits} {M : List ℕ → T → Type 0} {F : List ℕ → FileFault → Type 0}
    {old new : Option (List ℕ)} {result : Result T FileFault} → ReadsText limits M F old new result
    → (text : List ℕ) → old ≡ Some text → AnswersInput limits text (M text) (F text) result
known reads text is = at_some _ _ text is reads.means

-- why it gives nothing
pub unread : {T : Type 0} {limits : SizeLimits} {M : List ℕ → T → Type 0} {F : List ℕ → FileFault → Type 0}
    {old new : Option (List ℕ)} {f : FileFault} → ReadsText limits M F old new (Err f)
    → (reading limits M F old).refuses (fault_of_file f)
unread {f = f} reads = λ text is. (f, refl, known reads text is)

-- where no fault is found, none is found first nor later
pub none_parts : {F : Type 0} (first later : Option F) → first_of_faults first later ≡ None
    → (first ≡ None) × (later ≡ None)
none_parts None later none = (refl, none)
none_parts (Some f) later none = cc

-- a test that finds no fault is passed
pub alone_passed : {F : Type 0} (test : Bool) (fault : F) → fault_unless test fault ≡ None → test ≡ true
alone_passed true fault none = refl
alone_passed false fault none = cc

-- and what comes after it finds none
pub passed : {F : Type 0} (test : Bool) (fault : F) (later : Option F)
    → first_of_faults (fault_unless test fault) later ≡ None → (test ≡ true) × (later ≡ None)
passed test fault later none =
    let parts = none_parts (fault_unless test fault) later none in (alone_passed test fault parts.0, parts.1)

-- a game without a fault on a graph is a game
pub is_game : (g : ChipGame) → IsGraph g.graph → fault_of_game g ≡ None → IsGame g
is_game g graph none =
    let length_is = passed (length g.start == g.graph.vertices) _ _ none in
    let total_is = passed (nat_le (sum g.start) (2 ^ 40)) _ _ length_is.1 in
    record {
      graph_fits = graph;
      start_fits = eqb-true _ _ length_is.0;
      few_chips = leb-true _ _ total_is.0;
      low_limit = leb-true _ _ (alone_passed (nat_le g.limit (2 ^ 40)) _ total_is.1);
    }

pub Keeps-same : (known : Option (List ℕ)) → Keeps known known
Keeps-same None = tt
Keeps-same (Some bytes) = refl
