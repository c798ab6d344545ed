use Rattle.chip_report.proofs.Names.{inr, refl, lit<, split_once_first, opening_bracket, closing_bracket}
use Rattle.chip_report.proofs.BracketLemmas.{none_opened, none_closed, taken}
use Rattle.chip_report.proofs.lists.Lists.take.Goals as goal

pub returns-in_default : goal.returns-in_default
returns-in_default c =
    let none = rw c.in_default.is at
    (split_once_first opening_bracket c.args.self.now.rest.now c.split_once.result c.split_once.ensures.cases
    (lit< tt)) in
    inr (refl, none_opened c.args.most c.args.self.now.rest.now none)

pub returns-in_default-split_once : goal.returns-in_default-split_once
returns-in_default-split_once c =
    let first = rw c.in-Some.is at
    (split_once_first opening_bracket c.args.self.now.rest.now c.split_once.result c.split_once.ensures.cases
    (lit< tt)) in
    let none = rw c.in_default-split_once.is at
    (split_once_first closing_bracket c.in-Some.opened.now c.split_once-2.result c.split_once-2.ensures.cases
    (lit< tt)) in
    inr (refl, none_closed c.args.most c.args.self.now.rest.now c.in-Some.opened.now first.2 none)

pub returns : goal.returns
returns c =
    let first = rw c.in-Some.is at
    (split_once_first opening_bracket c.args.self.now.rest.now c.split_once.result c.split_once.ensures.cases
    (lit< tt)) in
    let cut = rw c.in-Some-split_once.is at
    (split_once_first closing_bracket c.in-Some.opened.now c.split_once-2.result c.split_once-2.ensures.cases
    (lit< tt)) in
    taken c.args.most c.args.self.now.rest.now c.in-Some-split_once.rest.now c.in-Some-split_once.list.now
    c.numbers_of.result
    (rw first.2 at cut.1) (rw first.2 at cut.2)
    c.numbers_of.ensures
