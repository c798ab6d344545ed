use Rattle.std.proofs.Common.{ap, option_map, refl}
use Rattle.chip_command.specs.Statuses.{number_of_status}
use Rattle.chip_run.proofs.RunLemmas.{not_played, whole_fits}
use Rattle.chip_run.proofs.running.play.Goals as goal

pub returns-in-Ok-clause-played : goal.returns-in-Ok-clause-played
returns-in-Ok-clause-played g c =
    let finished = rw c.as_deref.ensures.value at c.in-Ok.ensures.finished in
    let answer = c.in_ok-answer-in-Ok.ensures in
    record {
      crew = c.in-Ok.finished;
      finished = finished;
      actors_are = refl;
      reports = (
        finished.whole,
        finished.whole_is,
        whole_fits c.args.game c.requires.game (option_map (λ fed. fed.items) c.args.feeds)
            finished.opened.can.total finished.whole finished.whole_is,
        (c.in-Ok.finished.outcome, finished.played c.requires.seal, answer.text, ap number_of_status answer.status),
      );
    }

pub returns-clause-fault : goal.returns-clause-fault
returns-clause-fault g c = not_played c.args.options.sharing c.args.game
    (option_map (λ fed. fed.items) c.args.feeds) c.args.options.plan (g.K.Gate.may_answer c.args.gate.now)
    c.requires.gate c.in-Err.fault _ (rw c.as_deref.ensures.value at c.in-Err.ensures.fault) c.fault_of_crew.ensures.fault
