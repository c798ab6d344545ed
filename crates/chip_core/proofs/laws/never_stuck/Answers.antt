use Rattle.chip_core.proofs.DueLemmas.{asked_closes}
use Rattle.chip_core.proofs.RoundLemmas.{round_closes}
use Rattle.chip_core.proofs.DueLemmas as due
use Rattle.chip_core.proofs.laws.never_stuck.Goals as goal

pub returns : goal.returns
returns c = record {
  advances = due.never_stuck;
  idle = λ g game some_ring log legal xs asks end idle. asked_closes g game some_ring log legal xs asks idle end;
  rounds = λ g game some_ring before earlier xs round legal end put none. round_closes g game some_ring before xs round legal none put end;
}
