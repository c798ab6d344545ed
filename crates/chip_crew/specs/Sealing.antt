-- When worker 0 seals the edge of the plan, and how the root gets the stopper back.
use Rattle.std.specs.Prelude.{◌≡◌, ℕ, ◌<◌, ◌==◌, nat_lt, if◌then◌else◌, List, [], ◌∷◌, ◌++◌, map, Option, Some, None}
use Rattle.std.specs.Prelude.{IfSome}
use Rattle.chip_part.specs.Edges.{graph_edges}
use Rattle.chip_core.specs.Core.{Step, Event, Seal}
use Rattle.chip_net.specs.Tokens.{NetId}
use Rattle.chip_net.specs.Roots.{RootKnown, StopperKnown, with_stopper}
use Rattle.chip_crew.specs.Crew.{CrewId}
use Rattle.chip_crew.specs.declared.plan.SealAt.{SealAt}

-- the events of these steps
abbrev pub events_of : List Step → List Event
events_of steps = map (λ x. x.event) steps

-- what is sealed within `turns` turns of worker 0: the edge of the plan, if its turn is one of them
abbrev pub seals_by : SealAt → ℕ → List Event
seals_by at turns = if nat_lt at.turn turns then Seal at.edge ∷ [] else []

-- the stopper is of this net, and the edge to seal is one of the graph
abbrev pub MaySeal : NetId → Option (StopperKnown × SealAt) → Type 0
MaySeal net seal = IfSome seal (λ s. (s.0.net ≡ net) × (s.1.edge < graph_edges net.setting))

-- the stopper sealed the edge once more if this is its turn, and else did nothing
abbrev pub SealsBefore : ℕ → Option (StopperKnown × SealAt) → Option (StopperKnown × SealAt) → Type 0
SealsBefore turn None new = new ≡ None
SealsBefore turn (Some s) new = (did : List Step) × (new ≡ Some (record { net = s.0.net; did = did }, s.1))
    × (events_of did ≡ events_of s.0.did ++ (if s.1.turn == turn then Seal s.1.edge ∷ [] else []))

-- after `turns` turns of worker 0 the stopper of the crew has sealed exactly what was due by then; there is none if the
-- plan seals nothing
abbrev pub HasSealed : CrewId → Option SealAt → ℕ → Option (StopperKnown × SealAt) → Type 0
HasSealed crew None turns seal = seal ≡ None
HasSealed crew (Some at) turns seal = (did : List Step) × (seal ≡ Some (record { net = crew.net; did = did }, at))
    × (events_of did ≡ seals_by at turns) × (at.edge < graph_edges crew.net.setting)

-- the root has the stopper back, if there is one
abbrev pub HasBack : Option (StopperKnown × SealAt) → RootKnown → RootKnown → Type 0
HasBack None old new = new ≡ old
HasBack (Some s) old new = new ≡ with_stopper old s.0.did

-- the root has the stopper back, which sealed what was due in `turns` turns of worker 0; if the plan seals nothing the
-- root always had it
abbrev pub TakesBack : Option SealAt → ℕ → RootKnown → RootKnown → Type 0
TakesBack None turns old new = new ≡ old
TakesBack (Some at) turns old new =
    (did : List Step) × (new ≡ with_stopper old did) × (events_of did ≡ seals_by at turns)

-- the root knows exactly these seals of the stopper
abbrev pub KnowsSeals : Option SealAt → ℕ → RootKnown → Type 0
KnowsSeals None turns root = root.stopper_did ≡ Some []
KnowsSeals (Some at) turns root =
    (did : List Step) × (root.stopper_did ≡ Some did) × (events_of did ≡ seals_by at turns)
