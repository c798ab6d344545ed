-- The other theorems on legal logs, on runs and on edges, as the contracts of `laws` state them.
use Rattle.std.specs.Prelude.{◌≡◌, ◌≢◌, ◌↔◌, ℕ, ◌+◌, ◌-◌, ◌*◌, ◌^◌, ◌<◌, ◌≤◌, true, false, Contains, List, [], length}
use Rattle.std.specs.Prelude.{sum, drop, is_some, nat_lt, if◌then◌else◌, Some, None}
use Rattle.chip_graph.specs.ChipGame.{IsGame}
use Rattle.chip_graph.specs.More.{HasMore}
use Rattle.chip_part.specs.Setting.{Setting}
use Rattle.chip_link.specs.Link.{sent_counts, claims_of}
use Rattle.chip_link.specs.Laws.{AreInOrder}
use Rattle.chip_link.specs.Words.{claims_in, fired_in, is_halted_in, is_by_limit_in}
use Rattle.chip_graph.specs.Limits.{max_total}
use Rattle.chip_part.specs.Edges.{chips_of_firings, mult_of, start_of}
use Rattle.chip_part.specs.Part.{first_put}
use Rattle.chip_part.specs.Kept.{KeepsPart}
use Rattle.chip_part.specs.Acting.{FitsSeen, is_of_root, FitsRoot}
use Rattle.chip_core.specs.Core.{Log, Step, Event, Take, Clear, Claim, Seal, Read, Feed, opening_part, unmet_rule}
use Rattle.chip_core.specs.Core.{part_of, part_in, out_in, into_in, stop_in, fired_by, word_of_part, sees, IsLegalLog}
use Rattle.chip_core.specs.Core.{replies_to, log_after, IsClosed, is_by_limit, tail_of, root, root_edge, graph_edges}
use Rattle.chip_core.specs.Core.{all_edges}
use Rattle.chip_core.specs.Messages.{sent_in, was_sealed, messages_from, counts_in_flight, in_flight, to_deliver, chips_in}
use Rattle.chip_core.specs.Positions.{chips_given, played_game, held, full_position, events_in, fed_in}
use Rattle.chip_core.specs.Histories.{done_by, part_by}

-- of every game within the limits, every ring with a cell and every legal log
abbrev pub ForEveryLog : (Setting → Log → Type 0) → Type 0
ForEveryLog P = (g : Setting) → IsGame g.game → 0 < g.ring → (log : Log) → IsLegalLog g log → P g log

-- the legal logs are those of runs from the opening
abbrev pub LegalLogsAreRuns : Type 0
LegalLogsAreRuns = (g : Setting)
    → ((log : Log) → IsLegalLog g log → (xs : List Event) → IsLegalLog g (log_after g log xs))
    × ((log : Log) → IsLegalLog g log → log_after g [] (events_in log) ≡ log)

-- each part is its opening changed by its own events
abbrev pub PartsByTheirOwnEvents : Type 0
PartsByTheirOwnEvents = (g : Setting) (log : Log) (p : ℕ)
    → part_in g log p ≡ part_by g (opening_part g) (done_by g p log)

-- each part keeps the invariants of one part, by its own events alone
abbrev pub PartsAreKept : Type 0
PartsAreKept = ForEveryLog (λ g log. (p : ℕ) → KeepsPart g p (part_in g log p))

-- what an event of a vertex sees is within the limits
abbrev pub SeenFits : Type 0
SeenFits = ForEveryLog (λ g log. (x : Event) → part_of g x < g.game.graph.vertices
    → unmet_rule g x (part_in g log (part_of g x)) ≡ None → FitsSeen (part_in g log (part_of g x)) x (sees g log x))

-- and so is what an event of the root sees
abbrev pub RootSeenFits : Type 0
RootSeenFits = ForEveryLog (λ g log. (x : Event) → is_of_root g x ≡ true
    → unmet_rule g x (part_in g log (root g)) ≡ None → FitsRoot g (part_in g log (root g)) x (sees g log x))

-- settled, acknowledged, delivered, put and claimed messages of an edge: each number is at most the next, and at most
-- one message is claimed and not put
pub record CountsOf (g : Setting) (log : Log) (e : ℕ) : Type 0 where
  pub settled : (out_in g log e).settled ≤ (into_in g log e).acked
  pub acked : (into_in g log e).acked ≤ length (into_in g log e).got
  pub delivered : length (into_in g log e).got ≤ length (out_in g log e).link.put
  pub put : length (out_in g log e).link.put ≤ claims_of (out_in g log e).link
  pub claimed : claims_of (out_in g log e).link ≤ length (out_in g log e).link.put + 1

abbrev pub CountsOfEdges : Type 0
CountsOfEdges = ForEveryLog (λ g log. (e : ℕ) → CountsOf g log e)

-- the chips that ever entered e: from the firings of its tail, and on a root edge those given to its head
abbrev pub gone_into : Setting → Log → ℕ → ℕ
gone_into g log e = if nat_lt e (graph_edges g) then chips_of_firings g e (fired_by g log (tail_of g e))
    else chips_given g log (e - graph_edges g)

-- no chip is lost on an edge: delivered, in-flight and held chips make up all that ever entered it
abbrev pub ChipsOfEdges : Type 0
ChipsOfEdges = ForEveryLog (λ g log. (e : ℕ)
    → sum (into_in g log e).got + (sum (counts_in_flight g log e) + held g log e)
    ≡ gone_into g log e)

-- no vertex has more chips than were given, and no edge has more messages than its tail may fire or, on a root edge,
-- than chips were given, which are never more than `max_total`
pub record NumbersOf (g : Setting) (log : Log) : Type 0 where
  pub chips : (v : ℕ) → v < g.game.graph.vertices → full_position g log v ≤ sum (played_game g log).start
  pub given : sum (played_game g log).start ≤ max_total
  pub fired : (v : ℕ) → fired_by g log v ≤ g.game.limit
  pub claims : (e : ℕ) → e < graph_edges g → claims_of (out_in g log e).link ≤ g.game.limit
  pub root_claims : (e : ℕ) → graph_edges g ≤ e → claims_of (out_in g log e).link
      ≤ chips_given g log (e - graph_edges g)

abbrev pub NumbersAreSmall : Type 0
NumbersAreSmall = ForEveryLog (λ g log. NumbersOf g log)

-- the contents of the cells of an edge
pub record CellsOf (g : Setting) (log : Log) (e : ℕ) : Type 0 where
  -- a take sees 0 exactly if every message that was put is delivered
  pub empty : (sees g log (Take e) ≡ 0) ↔ (length (into_in g log e).got ≡ length (out_in g log e).link.put)
  -- a clear, when enabled, sees another number than 0 exactly if as many messages as the ring has cells are sent and
  -- not delivered
  pub full : unmet_rule g (Clear e) (part_in g log (tail_of g e)) ≡ None
      → (sees g log (Clear e) ≢ 0) ↔ (claims_of (out_in g log e).link ≡ length (into_in g log e).got + g.ring)

abbrev pub CellsTell : Type 0
CellsTell = ForEveryLog (λ g log. (e : ℕ) → CellsOf g log e)

-- the words are read as their contents
pub record WordsOf (g : Setting) (log : Log) : Type 0 where
  -- a claim sees the number of claims, and 2 ^ 63 more exactly if the edge is sealed
  pub unsealed : (e : ℕ) → was_sealed log e ≡ false → sees g log (Claim e) ≡ claims_of (out_in g log e).link
  pub sealed : (e : ℕ) → was_sealed log e ≡ true → sees g log (Claim e) ≡ claims_of (out_in g log e).link + 2 ^ 63
  pub claims : (e : ℕ) → claims_in (sees g log (Seal e)) ≡ claims_of (out_in g log e).link
  pub fired : (v : ℕ) → fired_in (word_of_part (part_in g log v)) ≡ fired_by g log v
  pub halted : (v : ℕ) → is_halted_in (word_of_part (part_in g log v)) ≡ is_some (part_in g log v).halt
  pub by_limit : (v : ℕ) → is_by_limit_in (word_of_part (part_in g log v)) ≡ is_by_limit (part_in g log v).halt

abbrev pub WordsTell : Type 0
WordsTell = ForEveryLog (λ g log. WordsOf g log)

-- the stopper's part has a word exactly if a seal was made, and this is the number of all messages ever claimed
abbrev pub SealsStand : Type 0
SealsStand = ForEveryLog (λ g log. (e : ℕ) → (was_sealed log e ≡ is_some (stop_in g log e))
    × ((word : ℕ) → stop_in g log e ≡ Some word → word ≡ claims_of (out_in g log e).link))

-- what a run has to deliver on an edge is what the tail's part has sent and the head's part had not taken before
abbrev pub SentStands : Type 0
SentStands = ForEveryLog (λ g log. (xs : List Event) (e : ℕ)
    → to_deliver g log xs e ≡ messages_from e (length (into_in g log e).got)
    (drop (length (into_in g log e).got) (sent_counts (out_in g (log_after g log xs) e).link)))

-- at the opening a root edge has one message, with the chips of its vertex, and nothing else is in flight
abbrev pub OpeningMessages : Type 0
OpeningMessages = (g : Setting) (e : ℕ) → in_flight g [] e ≡ messages_from e 0 (first_put g e)

-- from the opening the places are 0, 1, 2 and so on
abbrev pub InOrderFromTheOpening : Type 0
InOrderFromTheOpening = (g : Setting) → IsGame g.game → 0 < g.ring → (xs : List Event) (e : ℕ)
    → AreInOrder e (to_deliver g [] xs e)

-- from the opening, what is held on an edge of the graph is what the firings of its tail made, less the chips of the
-- messages sent
abbrev pub HeldFromTheOpening : Type 0
HeldFromTheOpening = (g : Setting) → IsGame g.game → 0 < g.ring → (xs : List Event) (e : ℕ) → e < graph_edges g
    → chips_in (sent_in e xs (replies_to g [] xs)) + held g (log_after g [] xs) e
    ≡ mult_of g e * fired_by g (log_after g [] xs) (tail_of g e)

-- if the root is closed nothing is in transit
abbrev pub NothingInFlight : Type 0
NothingInFlight = ForEveryLog (λ g log. IsClosed g log → (e : ℕ) → e < all_edges g → in_flight g log e ≡ [])

-- a read that was made saw the fired word at the end, and the root is closed
abbrev pub ReadsTell : Type 0
ReadsTell = ForEveryLog (λ g log. (x : Step) (v : ℕ) → Contains log x → x.event ≡ Read v
    → (v < g.game.graph.vertices) × IsClosed g log × (x.seen ≡ word_of_part (part_in g log v)))

-- what was given to a vertex is its chips at the start and, from the opening, what was fed to it
abbrev pub GivenIsFed : Type 0
GivenIsFed = (g : Setting) → IsGame g.game → 0 < g.ring → (xs : List Event) (v : ℕ)
    → chips_given g (log_after g [] xs) v ≡ start_of g v + chips_in (sent_in (root_edge g v) xs (replies_to g [] xs))

-- without feeding it is the chips at the start
abbrev pub UnfedIsTheStart : Type 0
UnfedIsTheStart = ForEveryLog (λ g log. g.fed ≡ false → (played_game g log ≡ g.game)
    × ((v : ℕ) → chips_given g log v ≡ start_of g v) × ((part_in g log (root g)).ended ≡ true))

-- with what was given so far it is a game within the limits
abbrev pub GivenIsAGame : Type 0
GivenIsAGame = ForEveryLog (λ g log. IsGame (played_game g log))

-- it is the game at the start with more chips: those that the root fed, by its own record
abbrev pub GivenByTheRecord : Type 0
GivenByTheRecord = ForEveryLog (λ g log.
    HasMore g.game (fed_in g (done_by g (root g) log)) (played_game g log))

-- without feeding this record has no feed
abbrev pub UnfedRecordsNone : Type 0
UnfedRecordsNone = ForEveryLog (λ g log. g.fed ≡ false → fed_in g (done_by g (root g) log) ≡ [])

-- an enabled feed is sent: no root edge is ever sealed
abbrev pub FeedsAreSent : Type 0
FeedsAreSent = ForEveryLog (λ g log. (e k : ℕ) → graph_edges g ≤ e
    → (was_sealed log e ≡ false) × (sees g log (Feed e k) ≡ claims_of (out_in g log e).link))
