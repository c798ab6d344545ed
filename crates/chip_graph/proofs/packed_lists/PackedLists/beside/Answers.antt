use Rattle.std.proofs.Common.{◌≤◌, length, ap, arith}
use Rattle.chip_graph.proofs.PackedListLemmas.{list_started, list_part, members_are, part_beside}
use Rattle.chip_graph.proofs.packed_lists.PackedLists.beside.Goals as goal

pub index-start-requires : goal.index-start-requires
index-start-requires g c =
    let counted = c.self.inside.starts.ok.0 in
    omega (arith, list_started _ _ _ c.args.i c.self.invariant c.self.view_is c.requires.inside)

pub overflow_add-i : goal.overflow_add-i
overflow_add-i g c =
    let started = list_started _ _ _ c.args.i c.self.invariant c.self.view_is c.requires.inside in
    let counted = c.self.inside.starts.ok in let small = c.self.inside.starts.small in omega arith

pub index-end-requires : goal.index-end-requires
index-end-requires g c =
    let counted = c.self.inside.starts.ok.0 in
    omega (arith, list_started _ _ _ c.args.i c.self.invariant c.self.view_is c.requires.inside)

pub offset_bounds-things-start : goal.offset_bounds-things-start
offset_bounds-things-start g c =
    let at = list_part _ _ _ c.args.i _ _ c.self.invariant c.self.view_is c.requires.inside c.index-start.ensures
    c.index-end.ensures in
    let all = ap length (members_are _ _ _ c.self.invariant c.self.view_is) in
    omega (arith, at.ordered, at.within, c.requires.one_each)

pub slice_bounds-result-count : goal.slice_bounds-result-count
slice_bounds-result-count g c =
    (list_part _ _ _ c.args.i _ _ c.self.invariant c.self.view_is c.requires.inside c.index-start.ensures
    c.index-end.ensures).ordered

pub slice_bounds-result-start : goal.slice_bounds-result-start
slice_bounds-result-start g c =
    (list_part _ _ _ c.args.i _ _ c.self.invariant c.self.view_is c.requires.inside c.index-start.ensures
    c.index-end.ensures).ordered

pub slice_bounds-result-end : goal.slice_bounds-result-end
slice_bounds-result-end g c =
    let at = list_part _ _ _ c.args.i _ _ c.self.invariant c.self.view_is c.requires.inside c.index-start.ensures
    c.index-end.ensures in
    let all = ap length (members_are _ _ _ c.self.invariant c.self.view_is) in
    let fits : c.index-end.result.now ≤ length c.args.things.now = omega (arith, at.within, c.requires.one_each) in fits

pub returns : goal.returns
returns g c = λ f is.
    part_beside f _ _ _ c.args.i _ _ (members_are _ _ _ c.self.invariant c.self.view_is)
    (list_part _ _ _ c.args.i _ _ c.self.invariant c.self.view_is c.requires.inside c.index-start.ensures
    c.index-end.ensures) is
