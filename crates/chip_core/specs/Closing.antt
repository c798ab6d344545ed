-- The root closes: from the end of feeding until then some event advances, and a schedule that tries everything, often
-- enough, closes it.
use Rattle.std.specs.Prelude.{◌≡◌, ◌≤◌, ℕ, zero, suc, ◌+◌, ◌<◌, ◌==◌, ◌&&◌, ◌||◌, Bool, true, false, not, List}
use Rattle.std.specs.Prelude.{◌++◌, length, Contains, None, ◌⊎◌, ◌≢◌}
use Rattle.chip_link.specs.Link.{claims_of}
use Rattle.chip_part.specs.Setting.{Setting}
use Rattle.chip_part.specs.Steps.{saw}
use Rattle.chip_part.specs.Turn.{IsTurn}
use Rattle.chip_core.specs.Core.{Log, Step, Event, Part, Take, Ack, Fire, Clear, Claim, Put, Halt, Settle, unmet_rule}
use Rattle.chip_core.specs.Core.{part_in, out_in, into_in, stop_in, sees, IsLegalLog, log_after, IsClosed, root}
use Rattle.chip_core.specs.Core.{all_edges, graph_edges}
use Rattle.chip_core.specs.Histories.{done_by}
use Rattle.chip_core.specs.Positions.{events_in}
use Rattle.chip_core.specs.Laws.{ForEveryLog}
use Rattle.chip_core.specs.Words.{Word, IsShown, acting_part}
use Rattle.chip_core.specs.Work.{counts_as_work, is_refusal, work_in, refusals_in, steps_at_most, fed_so_far}
use Rattle.chip_core.specs.Work.{AreFiringBounds}

-- the root noted the end of feeding
abbrev pub HasEnd : Setting → Log → Type 0
HasEnd g log = (part_in g log (root g)).ended ≡ true

-- ---- an event advances until the root is closed

-- a look that finds the next cell empty, if that wasn't noted yet
abbrev pub is_new_look : Part → Event → ℕ → Bool
is_new_look s (Clear e) seen = seen == 0 && not (s.out e).link.clear
is_new_look s _ seen = false

-- the event is enabled, and it counts as work, or is a claim that a seal refuses, or a look that finds something new
pub record Advances (g : Setting) (log : Log) (x : Event) : Type 0 where
  pub may : unmet_rule g x (acting_part g log x) ≡ None
  pub tells : (counts_as_work g (acting_part g log x) (saw x (sees g log x))
      || is_refusal g (acting_part g log x) (saw x (sees g log x)) || is_new_look (acting_part g log x) x (sees g log x))
      ≡ true

-- if the end is noted and the root isn't closed, some vertex or the root has such an event
abbrev pub CoreNeverStuck : Type 0
CoreNeverStuck = ForEveryLog (λ g log. HasEnd g log → (IsClosed g log → ⊥) → (x : Event) × Advances g log x)

-- ---- schedules that try everything

-- this event is tried among these, or is not enabled after them
abbrev pub AsksFor : Setting → Log → List Event → Event → Type 0
AsksFor g log xs x = Contains xs x ⊎ (unmet_rule g x (acting_part g (log_after g log xs) x) ≢ None)

-- these events, tried after the log in any order, are all that may be enabled: of each edge a take, an acknowledgement,
-- a settle and a put; of each vertex a firing and a halt; of each graph edge a look and, later, a claim
pub record AsksForEverything (g : Setting) (log : Log) (xs : List Event) : Type 0 where
  pub takes : (e : ℕ) → e < all_edges g → AsksFor g log xs (Take e)
  pub acks : (e : ℕ) → e < all_edges g → AsksFor g log xs (Ack e)
  pub settles : (e : ℕ) → e < all_edges g → AsksFor g log xs (Settle e)
  pub puts : (e : ℕ) → e < all_edges g → AsksFor g log xs (Put e)
  pub fires : (v : ℕ) → v < g.game.graph.vertices → AsksFor g log xs (Fire v 1)
  pub halts : (v : ℕ) → v < g.game.graph.vertices → AsksFor g log xs (Halt v)
  pub sends : (e : ℕ) → e < graph_edges g → (front : List Event) × (back : List Event) × (xs ≡ front ++ back)
      × AsksFor g log front (Clear e) × AsksFor g (log_after g log front) back (Claim e)

-- nothing counts and no claim is refused between these logs
abbrev pub IsIdleBetween : Setting → Log → Log → Type 0
IsIdleBetween g log after = work_in g after + refusals_in g after ≡ work_in g log + refusals_in g log

-- if such a list is tried, something counts or a claim is refused, or the root is closed after it
abbrev pub IdleAttemptsClose : Type 0
IdleAttemptsClose = ForEveryLog (λ g log. (xs : List Event) → AsksForEverything g log xs → HasEnd g (log_after g log xs)
    → IsIdleBetween g log (log_after g log xs) → IsClosed g (log_after g log xs))

-- ---- rounds of whole turns

-- no message of the root is claimed and not put
abbrev pub RootHasPut : Setting → Log → Type 0
RootHasPut g log = (e : ℕ) → graph_edges g ≤ e → e < all_edges g → (out_in g log e).link.held ≡ None

-- a whole turn of v is among these steps, which were made after the log `before`, the latest first: its own steps in
-- the middle of them are a turn. Steps of others may be between
pub record HasTurn (g : Setting) (v : ℕ) (before xs : Log) : Type 0 where
  pub early : Log
  pub middle : Log
  pub late : Log
  pub all_are : xs ≡ late ++ (middle ++ early)
  pub are_turn : IsTurn g v (part_in g (early ++ before) v) (done_by g v middle)

-- a whole turn of each vertex is among them, and a settle of each root edge
pub record HasRound (g : Setting) (before xs : Log) : Type 0 where
  pub turns : (v : ℕ) → v < g.game.graph.vertices → HasTurn g v before xs
  pub settles : (e : ℕ) → graph_edges g ≤ e → e < all_edges g → (x : Step) × Contains xs x × (x.event ≡ Settle e)

-- if such steps are made and none counts, the root is closed after them
abbrev pub IdleRoundsClose : Type 0
IdleRoundsClose = ForEveryLog (λ g before. (xs : Log) → HasRound g before xs → IsLegalLog g (xs ++ before)
    → HasEnd g (xs ++ before) → RootHasPut g (xs ++ before) → work_in g (xs ++ before) ≡ work_in g before
    → IsClosed g (xs ++ before))

-- ---- schedules that go on long enough

-- in these events a step counts, a claim is refused, or everything is tried
abbrev pub IsStretch : Setting → Log → List Event → Type 0
IsStretch g log xs = IsIdleBetween g log (log_after g log xs) → AsksForEverything g log xs

-- n stretches, in order, with any events before, between and after them
abbrev pub HasStretches : Setting → ℕ → Log → List Event → Type 0
HasStretches g zero log xs = Unit {0}
HasStretches g (suc n) log xs = (front : List Event) × (stretch : List Event) × (rest : List Event)
    × (xs ≡ front ++ (stretch ++ rest)) × IsStretch g (log_after g log front) stretch
    × HasStretches g n (log_after g (log_after g log front) stretch) rest

-- a list of events with more stretches than steps can count and claims can be refused closes the root
abbrev pub FairSchedulesClose : Type 0
FairSchedulesClose = ForEveryLog (λ g log. HasEnd g log → (fired : ℕ → ℕ) → AreFiringBounds g log fired → (n : ℕ)
    → steps_at_most g.game (length (fed_so_far g log)) fired + graph_edges g < n → (xs : List Event) → HasStretches g n log xs
    → IsClosed g (log_after g log xs))

-- n rounds of whole turns among these steps, in order
abbrev pub HasRounds : Setting → ℕ → Log → Log → Type 0
HasRounds g zero before xs = Unit {0}
HasRounds g (suc n) before xs = (front : Log) × (round : Log) × (rest : Log) × (xs ≡ rest ++ (round ++ front))
    × HasRound g (front ++ before) round × HasRounds g n (round ++ (front ++ before)) rest

-- the events of a legal log lead to it, and its rounds of whole turns are stretches
abbrev pub RoundsAreStretches : Type 0
RoundsAreStretches = ForEveryLog (λ g before. HasEnd g before → RootHasPut g before → (n : ℕ) (xs : Log)
    → IsLegalLog g (xs ++ before) → HasRounds g n before xs
    → (log_after g before (events_in xs) ≡ xs ++ before) × HasStretches g n before (events_in xs))

-- and more rounds than the number of steps that can count close the root
abbrev pub FairRoundsClose : Type 0
FairRoundsClose = ForEveryLog (λ g before. HasEnd g before → RootHasPut g before → (fired : ℕ → ℕ)
    → AreFiringBounds g before fired → (n : ℕ) → steps_at_most g.game (length (fed_so_far g before)) fired < n → (xs : Log)
    → IsLegalLog g (xs ++ before) → HasRounds g n before xs → IsClosed g (xs ++ before))

-- ---- after closing

-- after the root is closed no step counts, no claim is refused and, except for seals, the words are unchanged; one
-- acknowledgement was given for each message
pub record StirsNothing (g : Setting) (log xs : Log) : Type 0 where
  pub no_work : work_in g (xs ++ log) ≡ work_in g log
  pub no_refusals : refusals_in g (xs ++ log) ≡ refusals_in g log
  pub words : (value : Word → ℕ) → IsShown g log value → ((e : ℕ) → stop_in g (xs ++ log) e ≡ stop_in g log e)
      → IsShown g (xs ++ log) value
  pub acks : (e : ℕ) → e < all_edges g → (into_in g (xs ++ log) e).acked ≡ claims_of (out_in g (xs ++ log) e).link

abbrev pub NothingStirs : Type 0
NothingStirs = ForEveryLog (λ g log. IsClosed g log → (xs : Log) → IsLegalLog g (xs ++ log) → StirsNothing g log xs)
