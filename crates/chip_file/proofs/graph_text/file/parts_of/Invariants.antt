use Rattle.chip_file.proofs.JsonNames.{length, List, Option, Token, Members, MembersAre, Stands}
use Rattle.chip_file.proofs.graph_text.file.parts_of.Given as goal

abbrev pub invariant-members : goal.invariant-members
invariant-members l =
    ((old : Members) → Stands l.most old l.initial.parts → (found : Members)
    × ((what : Option (Members × List Token)) → MembersAre l.depth l.reader found what
    → MembersAre l.depth l.initial.reader old what)
    × Stands l.most found l.parts)

abbrev pub decreases-members : goal.decreases-members
decreases-members l = length l.reader
