use Rattle.chip_run.proofs.FitLemmas as fit_lemmas
use Rattle.chip_run.proofs.FitRunLemmas as fit
use Rattle.chip_run.proofs.laws.rows_fit.Goals as goal

pub returns-clause-logs : goal.returns-clause-logs
returns-clause-logs c = fit_lemmas.logs_fit

pub returns-clause-unfed : goal.returns-clause-unfed
returns-clause-unfed c = fit_lemmas.unfed_logs_fit

pub returns-clause-runs : goal.returns-clause-runs
returns-clause-runs c = fit.rows_fit

pub returns-clause-uncut : goal.returns-clause-uncut
returns-clause-uncut c = fit.uncut_traces_fit

pub returns-clause-fed : goal.returns-clause-fed
returns-clause-fed c = fit.fed_rows_fit
