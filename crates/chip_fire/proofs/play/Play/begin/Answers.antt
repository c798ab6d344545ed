use Rattle.std.proofs.Common.{◌≡◌, length, eqb-true, ap, sym, ◌∙◌, arith}
use Rattle.chip_fire.proofs.ListedLemmas.{legal_inside, list_ends, none_counted}
use Rattle.chip_fire.proofs.play.Play.begin.Goals as goal

pub returns-then-is_empty-clause-course : goal.returns-then-is_empty-clause-course
returns-then-is_empty-clause-course c =
    let legal = rw (c.in-Ok-Some.field-0-is, c.graph.ensures.value, c.deref.ensures.value) at c.in-Ok-Some.ensures.listed in
    let none = eqb-true _ 0 (sym c.is_empty.ensures ∙ c.if-is_empty.true) in
    let empty : length c.in-Ok-Some.legal.items ≡ 0 = (let a = c.in-Ok-Some.legal.ok.0 in omega arith) in
    rw (← c.self.view_is) (none_counted _ _ (sym (ap length legal) ∙ empty))

pub waiting_at-requires : goal.waiting_at-requires
waiting_at-requires c =
    let legal = rw (c.in-Ok-Some.field-0-is, c.graph.ensures.value, c.deref.ensures.value) at c.in-Ok-Some.ensures.listed in
    rw (← c.self.view_is, c.deref-2.ensures.value) (legal_inside _ _ _ legal)

pub after_list-requires : goal.after_list-requires
after_list-requires c =
    let listed = c.work_off_listed-listing.ensures in list_ends _ _ _ _ _ _ _ _ _ listed.same listed.works
