-- The judge's results for the rows of a diffusing computation.
use Rattle.std.specs.Prelude.{◌≡◌, ℕ, Bool, List, All, None}
use Rattle.chip_diffusing.specs.Network.{Network, IsNetwork}
use Rattle.chip_diffusing.specs.Computation.{World, Log, IsLegalLog, HasClosedRoot}
use Rattle.chip_log.specs.Log.{steps_of, IsInterleaving}
use Rattle.chip_log.specs.Order.{IsWellFormed}
use Rattle.chip_log.specs.Judged.{IsEnd, IsJudgedLog}
use Rattle.chip_log.specs.First.{IsFirstEarly}
use Rattle.chip_log.specs.declared.row.LogRow.{LogRow}
use Rattle.chip_log.specs.declared.past.Sizes.{Sizes}
use Rattle.chip_log.specs.declared.judged.ClaimVerdict.{ClaimVerdict}
use Rattle.chip_log.specs.declared.judged.JudgedLog.{JudgedLog}
use Rattle.chip_log.specs.declared.judged.LogEnd.TheVariants as end
use Rattle.chip_log.specs.declared.verdict.Verdict.TheVariants as verdict
use Rattle.chip_judged.specs.Rows.{rows_of_run}

-- the processes and the channels of a log: a channel is an edge
abbrev pub network_sizes : Network → Sizes
network_sizes net = record { processes = net.parts; channels = net.edges }

-- what holds of every legal log whose root is closed, and every order that keeps each process's rows in their order
abbrev pub ForEveryOrder : (Network → List LogRow → Type 0) → Type 0
ForEveryOrder P = (net : Network) → IsNetwork net → (log : Log) (w : World) (legal : IsLegalLog net log w)
    → HasClosedRoot net w → (rows : List LogRow) → ((p : ℕ) → steps_of p rows ≡ steps_of p (rows_of_run net log w legal))
    → P net rows

-- rows that the judge accepts and can order, and no claim in them is early: the computation was claimed to be over, and
-- it was
pub record AreJudgedRight (net : Network) (rows : List LogRow) : Type 0 where
  pub well_formed : IsWellFormed (network_sizes net) rows
  pub ordered : (order : List LogRow) × IsInterleaving rows order
  pub none_early : (with_past : Bool) → IsFirstEarly with_past rows None
  pub claimed : IsEnd rows end.Claimed

abbrev pub EveryLogIsJudgedRight : Type 0
EveryLogIsJudgedRight = ForEveryOrder AreJudgedRight

-- so the judge's verdict on each claim is that it is right, and the log ends with a claim
abbrev pub EveryAnswerIsRight : Type 0
EveryAnswerIsRight = ForEveryOrder (λ net rows. (with_past : Bool) (judged : JudgedLog) → IsJudgedLog with_past rows judged
    → All (λ (c : ClaimVerdict). c.verdict ≡ verdict.Right) judged.claims.items × (judged.end ≡ end.Claimed))
