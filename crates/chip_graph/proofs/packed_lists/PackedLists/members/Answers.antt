use Rattle.std.proofs.Common.{sym, ◌∙◌}
use Rattle.chip_graph.proofs.PackedListLemmas.{members_are}
use Rattle.chip_graph.proofs.packed_lists.PackedLists.members.Goals as goal

pub returns : goal.returns
returns g c = c.deref.ensures.value ∙ sym (members_are _ _ _ c.self.invariant c.self.view_is)
