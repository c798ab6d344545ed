-- The results of a command, by what it may write and why it may refuse.
use Rattle.std.specs.Prelude.{◌≡◌, ◌⊎◌, ℕ, List, false, MatchResult, Option, Result, Ok, Err}
use Rattle.std.specs.Io.KnownBytes.{Appends, Keeps}
use Rattle.chip_report.specs.Written.{WritesAll}
use Rattle.chip_report.specs.declared.write.WriteFault.{WriteFault}
use Rattle.chip_command.specs.Statuses.{number_of_status}
use Rattle.chip_command.specs.declared.answer.Answer.{Answer}
use Rattle.chip_command.specs.declared.ended.Ended.{Ended}
use Rattle.chip_command.specs.declared.fault.Fault.{Fault}
use Rattle.chip_command.specs.declared.fault.Fault.TheVariants.{Write, NoMemory}

-- what a computation may give, and for which faults it may refuse
pub record Spec (A : Type 0) : Type 1 where
  pub gives : A → Type 0
  pub refuses : Fault → Type 0

-- a computation, and then another, which depends on the result of the first
abbrev pub bind : {A B : Type 0} → Spec A → (A → Spec B) → Spec B
bind {A} first next = record {
  gives = λ b. (a : A) × first.gives a × (next a).gives b;
  refuses = λ fault. first.refuses fault ⊎ ((a : A) × first.gives a × (next a).refuses fault);
}

-- a result that a computation may have
abbrev pub MeetsSpec : {A : Type 0} → Spec A → Result A Fault → Type 0
MeetsSpec spec result = MatchResult result spec.gives spec.refuses

-- a command refuses for this reason, or there is no memory
abbrev pub OrMemory : (Fault → Type 0) → Fault → Type 0
OrMemory Refuses fault = Refuses fault ⊎ (fault ≡ NoMemory)

-- a command has a text to write, with its status; or it refuses
abbrev pub GivesAnswer : Spec (List ℕ × ℕ) → Result Answer Fault → Type 0
GivesAnswer spec result =
    MatchResult result (λ answer. spec.gives (answer.text.items, number_of_status answer.status)) spec.refuses

-- a text that it may write is written, with its status; or it refuses, and nothing is written; or the output failed
abbrev pub AnswersBy : Spec (List ℕ × ℕ) → Option (List ℕ) → Option (List ℕ) → Result Ended Fault → Type 0
AnswersBy spec old new (Ok ended) =
    (text : List ℕ) × spec.gives (text, ended.status) × Appends old new text × (ended.cut ≡ false)
AnswersBy spec old new (Err fault) =
    (spec.refuses fault × Keeps old new)
    ⊎ ((text : List ℕ) × (status : ℕ) × spec.gives (text, status)
    × (w : WriteFault) × (fault ≡ Write w) × WritesAll old new text (Err w))

-- the results of a command
pub record CommandAnswers (spec : Spec (List ℕ × ℕ)) (old new : Option (List ℕ))
    (result : Result Ended Fault) : Type 0 where
  pub answer : AnswersBy spec old new result
