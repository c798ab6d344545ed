use Rattle.chip_file.proofs.JsonNames.{◌+◌, ◌*◌, ◌≤◌, length, List, Option, Token, Items, Members, no_members, MembersAre}
use Rattle.chip_file.proofs.Turns.{AreBefore}
use Rattle.chip_file.proofs.graph_text.passing.+pass.Given as goal

abbrev pub decreases-pass : goal.decreases-pass
decreases-pass l = 3 * l.depth + 1

abbrev pub decreases-pass_items : goal.decreases-pass_items
decreases-pass_items l = 3 * l.depth + 2

abbrev pub decreases-pass_members : goal.decreases-pass_members
decreases-pass_members l = 3 * l.depth + 2

abbrev pub decreases-pass_rest : goal.decreases-pass_rest
decreases-pass_rest l = 3 * l.depth

abbrev pub invariant-pass_items-items : goal.invariant-pass_items-items
invariant-pass_items-items l =
    (before : Items → Items)
    × AreBefore l.depth l.initial.reader l.reader before

abbrev pub decreases-pass_items-items : goal.decreases-pass_items-items
decreases-pass_items-items l = length l.reader

abbrev pub invariant-pass_members-members : goal.invariant-pass_members-members
invariant-pass_members-members l =
    (found : Members)
    × ((what : Option (Members × List Token)) → MembersAre l.depth l.reader found what
    → MembersAre l.depth l.initial.reader no_members what)
    × (length l.reader ≤ length l.initial.reader)

abbrev pub decreases-pass_members-members : goal.decreases-pass_members-members
decreases-pass_members-members l = length l.reader
