-- Serves CommandAnswers.antt.
-- From the steps of a command to its results.
use Rattle.std.proofs.Common.{◌≡◌, ℕ, List, false, Option, Result, Ok, Err, inl, inr, ap}
use Rattle.std.specs.Result.{IsErrAnd}
use Rattle.chip_command.specs.CommandAnswers.{Spec, CommandAnswers}
use Rattle.chip_command.specs.Reports.{Delivers}
use Rattle.chip_command.specs.declared.ended.Ended.{Ended}
use Rattle.chip_command.specs.declared.fault.Fault.{Fault}
use Rattle.chip_command.proofs.InputLemmas.{Keeps-same}

-- a fault that is passed on
pub handed_on : {T : Type 0} {result : Result T Fault} (fault : Fault) → IsErrAnd result (λ f. f ≡ fault)
    → result ≡ Err fault
handed_on {result = Ok value} fault is = absurd is
handed_on {result = Err f} fault is = ap Err is

-- a command that refuses writes nothing
pub refused : {spec : Spec (List ℕ × ℕ)} {known : Option (List ℕ)} {result : Result Ended Fault} (fault : Fault)
    → IsErrAnd result (λ f. f ≡ fault) → spec.refuses fault → CommandAnswers spec known known result
refused {known = known} fault is why = rw (handed_on fault is) (record { answer = inl (why, Keeps-same known) })

-- the answer of a command is written, or the output fails
pub delivered : {spec : Spec (List ℕ × ℕ)} {old new : Option (List ℕ)} {result : Result Ended Fault}
    (text : List ℕ) (status : ℕ)
    → Delivers old new text (record { status = status; cut = false }) result → spec.gives (text, status)
    → CommandAnswers spec old new result
delivered {spec = spec} {result = Ok ended} text status went gives = record {
  answer = (text, rw went.0 gives, went.1, rw went.0);
}
delivered {result = Err fault} text status failed gives =
    record { answer = inr (text, status, gives, failed.0, failed.1, failed.2) }
