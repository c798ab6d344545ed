use Rattle.std.proofs.Common.{◌∙◌, sym}
use Rattle.chip_core_tests.proofs.ActorAskLemmas.{ask_mine, ask_due, ask_made, ask_refused}
use Rattle.chip_core_tests.proofs.actor.ask.Goals as goal

pub apply-requires : goal.apply-requires
apply-requires c =
    let r = c.requires in
    let mine = ask_mine r.0 r.1 c.args.actor.now r.2 c.args.event c.args.seen r.3 in (
      r.0,
      r.1,
      r.2,
      ask_due r.0 r.1 c.args.actor.now r.2 c.args.event c.args.seen r.3 c.in-Ok.act
          (sym (c.may.ensures r.0 r.1 r.2 mine) ∙ c.in-Ok.is),
    )

pub returns-in-Ok : goal.returns-in-Ok
returns-in-Ok c = λ g s stands may.
    let mine = ask_mine g s c.args.actor.now stands c.args.event c.args.seen may in
    ask_made g s c.args.actor.now stands c.args.event c.args.seen may c.in-Ok.act (sym (c.may.ensures g s stands mine)
    ∙ c.in-Ok.is) c.apply.new.self c.apply.result c.apply.ensures

pub returns-in-Err : goal.returns-in-Err
returns-in-Err c = λ g s stands may.
    let mine = ask_mine g s c.args.actor.now stands c.args.event c.args.seen may in
    ask_refused g s c.args.actor.now stands c.args.event c.args.seen may c.in-Err.rule
    (sym (c.may.ensures g s stands mine) ∙ c.in-Err.is)
