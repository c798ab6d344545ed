use Rattle.std.proofs.Common.{sym, ◌∙◌}
use Rattle.std.proofs.lemmas.List.{map-id}
use Rattle.chip_graph.proofs.packed_lists.PackedLists.list.Goals as goal

pub returns : goal.returns
returns g c = c.beside.ensures (λ x. x) (c.members.ensures ∙ sym (map-id _)) ∙ map-id _
