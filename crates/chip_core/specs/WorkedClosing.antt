-- Worked bounds, and a schedule that tries events in the wrong order, as the definitions compute them.
use Rattle.std.specs.Prelude.{◌≡◌, ◌^◌, ◌+◌, List, [], ◌∷◌, ◌++◌, slice_index, length}
use Rattle.chip_part.specs.Setting.{Setting, setting_of}
use Rattle.chip_part.specs.Worked.{small_triangle}
use Rattle.chip_sequence.specs.Sequence.{counts}
use Rattle.chip_core.specs.Core.{Log, Event, Take, Ack, Fire, Put, Halt, Settle, log_after, IsClosed, graph_edges}
use Rattle.chip_core.specs.Work.{work_in, refusals_in, steps_at_most, fires_at_most, fed_so_far, AreFiringBounds}
use Rattle.chip_core.specs.Worked.{whole_schedule, sealed_half_way}
use Rattle.chip_core.specs.Closing.{HasEnd, AsksForEverything, IsStretch, HasStretches}
use Rattle.chip_core.specs.Wasting.{AllAdvance, NoneIsDue}
use Rattle.chip_core.specs.Playing.{SealsNone, EndsAsPlayed}

-- the triangle with four chips on vertex 0, which is played by 0, 0, 1: three firings; six messages on its edges, each
-- with five steps; one first message, with three; and three halts at most. The distances from the sink are 1, 1 and 0,
-- so that no vertex but the sink may fire more than four times: eight firings and sixteen messages. The schedule that
-- closes it made 25 of these steps
abbrev pub TriangleBounds : Type 0
TriangleBounds =
    let g : Setting = small_triangle (4 ∷ 0 ∷ 0 ∷ []) in
    (steps_at_most g.game 0 (counts (0 ∷ 0 ∷ 1 ∷ [])) ≡ 39)
    × (steps_at_most g.game 0 (fires_at_most g.game [] (slice_index (1 ∷ 1 ∷ 0 ∷ []))) ≡ 94)
    × (work_in g (log_after g [] whole_schedule) ≡ 25)

-- a run in which a claim was refused: nine steps, of which five count
abbrev pub OneRefused : Type 0
OneRefused =
    let g : Setting = small_triangle (4 ∷ 0 ∷ 0 ∷ []) in
    (work_in g (log_after g [] sealed_half_way) ≡ 5) × (refusals_in g (log_after g [] sealed_half_way) ≡ 1)

-- the sink alone, with five chips: its root edge has the number 0
abbrev pub sink_alone : Setting
sink_alone =
    setting_of (record { graph = record { vertices = 1; sink = 0; edges = [] }; start = 5 ∷ []; limit = 2 ^ 40 }) 1

-- everything is tried, each time the last thing first: the settle finds nothing acknowledged, the acknowledgement
-- nothing owed, and only the take finds something
abbrev pub backwards : List Event
backwards = Settle 0 ∷ Ack 0 ∷ Take 0 ∷ Put 0 ∷ Fire 0 1 ∷ Halt 0 ∷ []

-- so the first two of such stretches leave the root open, and the third closes it
abbrev pub ThreeStretches : Type 0
ThreeStretches =
    ((log : Log) → AsksForEverything sink_alone log backwards)
    × (IsClosed sink_alone (log_after sink_alone [] (backwards ++ backwards)) → ⊥)
    × IsClosed sink_alone (log_after sink_alone [] (backwards ++ (backwards ++ backwards)))

-- but four steps may count there: three of the first message, and a halt. So the premise of FairSchedulesClose needs
-- five stretches
abbrev pub FiveStretches : Type 0
FiveStretches =
    HasEnd sink_alone []
    × AreFiringBounds sink_alone [] (counts [])
    × (steps_at_most sink_alone.game (length (fed_so_far sink_alone [])) (counts []) + graph_edges sink_alone ≡ 4)
    × HasStretches sink_alone 5 [] (backwards ++ (backwards ++ (backwards ++ (backwards ++ (backwards ++ [])))))

-- the triangle's vertex 0 takes its four chips, which are two firings. A batch of two counts, so it is a stretch; a
-- batch of three is not enabled, and does not stand for trying one firing
abbrev pub BatchesAsk : Type 0
BatchesAsk =
    let g : Setting = small_triangle (4 ∷ 0 ∷ 0 ∷ []) in
    let log : Log = log_after g [] (Take 4 ∷ []) in
    IsStretch g log (Fire 0 2 ∷ []) × (IsStretch g log (Fire 0 3 ∷ []) → ⊥)

-- the sink alone without waste: three steps close it. A settle that finds nothing is waste, and at the opening a take
-- is due
abbrev pub ThreeSteps : Type 0
ThreeSteps =
    let log : Log = log_after sink_alone [] (Take 0 ∷ Ack 0 ∷ Settle 0 ∷ []) in
    AllAdvance sink_alone [] log
    × IsClosed sink_alone log
    × (AllAdvance sink_alone [] (log_after sink_alone [] (Settle 0 ∷ [])) → ⊥)
    × (NoneIsDue sink_alone [] → ⊥)

-- the whole schedule of the triangle seals nothing, and plays the game to its end; the one sealed half way seals
abbrev pub TrianglePlays : Type 0
TrianglePlays =
    let g : Setting = small_triangle (4 ∷ 0 ∷ 0 ∷ []) in
    SealsNone (log_after g [] whole_schedule)
    × EndsAsPlayed g (log_after g [] whole_schedule)
    × (SealsNone (log_after g [] sealed_half_way) → ⊥)
