-- What the contracts of a net's calls know of its root and its stopper.
use Rattle.std.specs.Prelude.{◌≡◌, ◌≢◌, ℕ, zero, suc, ◌+◌, ◌-◌, ◌<◌, ◌≤◌, Bool, true, false, List, [], ◌∷◌, ◌++◌, map}
use Rattle.std.specs.Prelude.{sum, Option, Some, None, is_none, Result, Ok, Err}
use Rattle.atomic_table.specs.Seated.{TableId}
use Rattle.chip_graph.specs.Limits.{max_total}
use Rattle.chip_graph.specs.More.{all_brought}
use Rattle.chip_link.specs.Link.{claims_of}
use Rattle.chip_part.specs.Setting.{Setting, IsSetting}
use Rattle.chip_part.specs.Edges.{root, stopper, root_edge, graph_edges}
use Rattle.chip_part.specs.Part.{deficit_of, all_fed}
use Rattle.chip_part.specs.declared.act.Act.{Act}
use Rattle.chip_part.specs.declared.rule.Rule.{Rule}
use Rattle.chip_part.specs.declared.rule.Rule.TheVariants as Not
use Rattle.chip_part.specs.Acting.{act_of, FitsRoot}
use Rattle.chip_actor.specs.Root.{Root, RootStandsFor}
use Rattle.chip_part.specs.Steps.{saw}
use Rattle.chip_core.specs.Core.{Step, Event, Clear, Put, Settle, Seal, Feed, End, Reply, Part, opening_part}
use Rattle.chip_core.specs.Core.{unmet_rule, reply_of}
use Rattle.chip_core.specs.Histories.{done_by, part_by}
use Rattle.chip_core.specs.Positions.{fed_in}
use Rattle.chip_core.specs.Words.{word_to_note}
use Rattle.chip_net.specs.Views.{View, find, HasPart, did_in, part_of_view}
use Rattle.chip_net.specs.Rule.{SomeLog}
use Rattle.chip_net.specs.Tokens.{NetId}
use Rattle.chip_net.specs.declared.poll.FeedFault.{FeedFault}
use Rattle.chip_net.specs.declared.poll.FeedFault.TheVariants.{Ended, Total, Full}
use Rattle.chip_net.specs.declared.poll.RootState.{RootState}
use Rattle.chip_net.specs.declared.poll.RootState.TheVariants.{Closed, Running}
use Rattle.chip_net.specs.declared.stopper.SealedAt.{SealedAt}

-- the root: its net, all its steps, and the stopper's steps, if the root holds that part too
pub record RootKnown : Type 0 where
  pub net : NetId
  pub did : List Step
  pub stopper_did : Option (List Step)

-- the root whose seat is at this table and has this view
abbrev pub known_root : TableId → Setting → View → RootKnown
known_root table g view = record {
  net = record { table = table; setting = g };
  did = did_in (root g) view;
  stopper_did = find (stopper g) view.parts;
}

-- its part of the core
abbrev pub root_part : RootKnown → Part
root_part r = part_by r.net.setting (opening_part r.net.setting) r.did

-- the number of its messages not acknowledged, as far as it has settled
abbrev pub root_deficit : RootKnown → ℕ
root_deficit r = deficit_of r.net.setting (root r.net.setting) (root_part r)

-- it noted the end of feeding; without feeding it is noted from the start
abbrev pub has_ended : RootKnown → Bool
has_ended r = (root_part r).ended

-- it is closed: feeding has ended, and no message is outstanding
abbrev pub IsRootOver : RootKnown → Type 0
IsRootOver r = (root_deficit r ≡ 0) × (has_ended r ≡ true)

-- its feeds, in order: pairs of a vertex and a number of chips
abbrev pub fed_by : RootKnown → List (ℕ × ℕ)
fed_by r = fed_in r.net.setting r.did

-- all chips given, at the start and by feeds
abbrev pub all_given : RootKnown → ℕ
all_given r = sum r.net.setting.game.start + all_brought (fed_by r)

-- the number of messages sent on the root edge of a vertex
abbrev pub sent_to : RootKnown → ℕ → ℕ
sent_to r vertex = claims_of ((root_part r).out (root_edge r.net.setting vertex)).link

-- the root of a net that opens
abbrev pub new_root : NetId → Option (List Step) → RootKnown
new_root net stopper_did = record { net = net; did = []; stopper_did = stopper_did }

-- it has the stopper's part, which made these steps
abbrev pub with_stopper : RootKnown → List Step → RootKnown
with_stopper r steps = record { net = r.net; did = r.did; stopper_did = Some steps }

-- it has made these steps more
abbrev pub root_after : RootKnown → List Step → RootKnown
root_after r steps = record { net = r.net; did = r.did ++ steps; stopper_did = r.stopper_did }

-- ---- the root at its seat

-- the view of the root of this game, with the root's own state
pub record IsRoot (g : Setting) (view : View) (state : Root) : Type 0 where
  pub setting : IsSetting g
  pub has : HasPart (root g) view
  pub stands : RootStandsFor g (part_of_view g (root g) view) state
  pub in_log : SomeLog g (λ log. did_in (root g) view ≡ done_by g (root g) log)

-- an event of feeding or the end of feeding
abbrev pub IsFeeding : Setting → Event → Type 0
IsFeeding g (Clear e) = graph_edges g ≤ e
IsFeeding g (Put e) = graph_edges g ≤ e
IsFeeding g (Feed e k) = graph_edges g ≤ e
IsFeeding g End = Unit {0}
IsFeeding g _ = ⊥

-- such an event, enabled
abbrev pub IsDueForRoot : RootKnown → Event → Type 0
IsDueForRoot r x = IsFeeding r.net.setting x × (unmet_rule r.net.setting x (root_part r) ≡ None)

-- the same by the root's view, with the event's operation
pub record IsDueInView (g : Setting) (view : View) (x : Event) (act : Act) : Type 0 where
  pub has : HasPart (root g) view
  pub feeding : IsFeeding g x
  pub met : unmet_rule g x (part_of_view g (root g) view) ≡ None
  pub needed : act ≡ act_of g x (part_of_view g (root g) view)

-- one event was made and saw this
pub record RootMakesEvent (old new : RootKnown) (x : Event) (seen : ℕ) : Type 0 where
  pub record_is : new ≡ root_after old (saw x seen ∷ [])
  pub fits : FitsRoot old.net.setting (root_part old) x seen
  -- a store finds nothing
  pub noted_is : seen ≡ word_to_note x seen

-- one event was made, with this reply
pub record Replies (old new : RootKnown) (x : Event) (reply : Reply) : Type 0 where
  pub seen : ℕ
  pub made : RootMakesEvent old new x seen
  pub reply_is : reply ≡ reply_of old.net.setting x seen (root_part old)

-- every message claimed on a root edge is put
abbrev pub HoldsNothing : RootKnown → Type 0
HoldsNothing r = (v : ℕ) → v < r.net.setting.game.graph.vertices
    → ((root_part r).out (root_edge r.net.setting v)).link.held ≡ None

-- ---- feeding

-- a feed of `count` chips: a look that sees the next cell empty, a claim that sees the number of messages sent before,
-- and the put
abbrev pub feed_steps : Setting → ℕ → ℕ → ℕ → List Step
feed_steps g vertex count place =
    saw (Clear (root_edge g vertex)) 0
    ∷ saw (Feed (root_edge g vertex) count) place
    ∷ saw (Put (root_edge g vertex)) 0
    ∷ []

-- the root fed `count` chips to a vertex, by a message with this place
pub record FeedsChips (old new : RootKnown) (vertex count place : ℕ) : Type 0 where
  pub not_ended : has_ended old ≡ false
  pub within : all_given old + count ≤ max_total
  pub place_is : place ≡ sent_to old vertex
  pub record_is : new ≡ root_after old (feed_steps old.net.setting vertex count place)

-- the cell of the root edge was full, and only this was read
pub record ReadsFullCell (old new : RootKnown) (vertex : ℕ) : Type 0 where
  pub seen : ℕ
  pub some : seen ≢ 0
  pub record_is : new
      ≡ root_after old (saw (Clear (root_edge old.net.setting vertex)) seen ∷ [])

-- why `count` chips were not fed to a vertex: feeding has ended; else there would be too many chips; else the ring of
-- its root edge was full
abbrev pub RefusesFeed : RootKnown → RootKnown → ℕ → ℕ → FeedFault → Type 0
RefusesFeed old new vertex count Ended = (has_ended old ≡ true) × (new ≡ old)
RefusesFeed old new vertex count Total =
    (has_ended old ≡ false) × (max_total < all_given old + count) × (new ≡ old)
RefusesFeed old new vertex count Full =
    (has_ended old ≡ false) × (all_given old + count ≤ max_total) × ReadsFullCell old new vertex

-- the fault number of each
abbrev pub feed_number : FeedFault → ℕ
feed_number Ended = 44
feed_number Total = 10
feed_number Full = 45

-- the fault for this unmet rule of a feed
abbrev pub feed_fault : Rule → Option FeedFault
feed_fault Not.Ended = Some Ended
feed_fault Not.TooMuch = Some Total
feed_fault _ = None

-- whether `count` chips may be fed, as far as the root knows
abbrev pub AllowsFeed : RootKnown → ℕ → Result (Unit {0}) FeedFault → Type 0
AllowsFeed r count (Ok done) = (has_ended r ≡ false) × (all_given r + count ≤ max_total)
    × (all_fed r.net.setting (root_part r) ≡ all_given r)
AllowsFeed r count (Err Ended) = has_ended r ≡ true
AllowsFeed r count (Err Total) = (has_ended r ≡ false) × (max_total < all_given r + count)
AllowsFeed r count (Err Full) = ⊥

-- ---- settling

-- settles of n root edges, ascending from that of v
abbrev pub settles_from : Setting → ℕ → ℕ → List Event
settles_from g v zero = []
settles_from g v (suc n) = settles_from g v n ++ Settle (root_edge g (v + n)) ∷ []

-- the root has made these events more
pub record DoesMore (old now : RootKnown) (events : List Event) : Type 0 where
  pub steps : List Step
  pub record_is : now ≡ root_after old steps
  pub events_are : map (λ x. x.event) steps ≡ events

-- settles of the first root edges were made
abbrev pub IsPolling : RootKnown → RootKnown → ℕ → Type 0
IsPolling old now count = DoesMore old now (settles_from old.net.setting 0 count)

-- the result of a poll, by the root after it: without a deficit it is open only if more may be fed
abbrev pub AnswersPoll : RootKnown → RootState → Type 0
AnswersPoll r Closed = IsRootOver r
AnswersPoll r (Running n) = (n ≡ root_deficit r) × (n ≡ 0 → has_ended r ≡ false)

-- the root settled each root edge once more, with this result
pub record Polls (old new : RootKnown) (answer : RootState) : Type 0 where
  pub polling : IsPolling old new old.net.setting.game.graph.vertices
  pub answers : AnswersPoll new answer

-- the same, if the first settle noted the end of feeding
pub record Ends (old new : RootKnown) (answer : RootState) : Type 0 where
  pub ending : DoesMore old new (End ∷ settles_from old.net.setting 1 (old.net.setting.game.graph.vertices - 1))
  pub ended : has_ended new ≡ true
  pub answers : AnswersPoll new answer

-- ---- the stopper

-- the stopper: its net, and all its steps
pub record StopperKnown : Type 0 where
  pub net : NetId
  pub did : List Step

-- the stopper of a net that opens
abbrev pub new_stopper : NetId → StopperKnown
new_stopper net = record { net = net; did = [] }

-- its part of the core
abbrev pub stopper_part : StopperKnown → Part
stopper_part s = part_by s.net.setting (opening_part s.net.setting) s.did

-- the stopper sealed the edge once more: the count is what the first seal of it saw, and this was the first if there
-- was none before
pub record Seals (old new : StopperKnown) (edge : ℕ) (answer : SealedAt) : Type 0 where
  pub inside : edge < graph_edges old.net.setting
  pub seen : ℕ
  pub record_is : new ≡ record { net = old.net; did = old.did ++ saw (Seal edge) seen ∷ [] }
  pub first_is : answer.first ≡ is_none ((stopper_part old).stop edge)
  pub count_is : (stopper_part new).stop edge ≡ Some answer.count
