use Rattle.std.proofs.Common.{refl}
use Rattle.chip_part.specs.Part.{Part, opening_part}
use Rattle.chip_part.specs.Edges.{root_edge}
use Rattle.chip_part.specs.Rules.{Event, Settle}
use Rattle.chip_part.specs.Steps.{does, saw}
use Rattle.chip_core_tests.specs.RootAsking.{four_on_first}
use Rattle.chip_core_tests.proofs.AskLemmas.{fits_from_test}
use Rattle.chip_actor.specs.Root.{RootCanDo}
use Rattle.chip_core_tests.proofs.root.settles_once.Goals as goal

-- what is settled twice
abbrev first : Event
first = Settle (root_edge four_on_first 0)

abbrev settled : Part
settled = does four_on_first (saw first 1) (opening_part four_on_first)

opens : RootCanDo four_on_first (opening_part four_on_first) first 1
opens = (refl, refl, fits_from_test (opening_part four_on_first) first 1 refl)

again : RootCanDo four_on_first settled first 1
again = (refl, refl, fits_from_test settled first 1 refl)

pub settle-second-requires : goal.settle-second-requires
settle-second-requires g c = (
  four_on_first,
  settled,
  (c.settle-first.ensures four_on_first (opening_part four_on_first) c.requires opens).0,
  again,
)
