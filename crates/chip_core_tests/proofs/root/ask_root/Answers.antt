use Rattle.std.proofs.Common.{◌∙◌, sym}
use Rattle.chip_core_tests.proofs.RootAskLemmas.{root_mine, root_may_do, root_made, root_refused}
use Rattle.chip_core_tests.proofs.root.ask_root.Goals as goal

pub apply-requires : goal.apply-requires
apply-requires c =
    let r = c.requires in
    let mine = root_mine r.0 r.1 c.args.root.now r.2 c.args.event c.args.seen r.3 in (
      r.0,
      r.1,
      r.2,
      root_may_do r.0 r.1 c.args.root.now r.2 c.args.event c.args.seen r.3 _
          (sym (c.may.ensures r.0 r.1 r.2 mine) ∙ c.in-Ok.is),
    )

pub returns-in-Ok : goal.returns-in-Ok
returns-in-Ok c = λ g s stands may.
    let mine = root_mine g s c.args.root.now stands c.args.event c.args.seen may in
    root_made g s c.args.root.now stands c.args.event c.args.seen may _ (sym (c.may.ensures g s stands mine) ∙ c.in-Ok.is)
    c.apply.new.self c.apply.result c.apply.ensures

pub returns-in-Err : goal.returns-in-Err
returns-in-Err c = λ g s stands may.
    let mine = root_mine g s c.args.root.now stands c.args.event c.args.seen may in
    root_refused g s c.args.root.now stands c.args.event c.args.seen may c.in-Err.rule
    (sym (c.may.ensures g s stands mine) ∙ c.in-Err.is)
