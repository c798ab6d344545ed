-- One part of the core: the state that only one vertex changes, or the root, or the stopper. All three have the same
-- record, by the numbers of edges: only the parts of an edge's own tail, of its own head and of the stopper are read
-- for it.
use Rattle.std.specs.Prelude.{◌≡◌, ℕ, ◌-◌, ◌<◌, Bool, true, false, not, ◌&&◌, ◌||◌, ◌==◌, nat_lt, nat_le, if◌then◌else◌}
use Rattle.std.specs.Prelude.{List, [], ◌∷◌, length, sum, slice_index, Option, Some, None, is_none, option_to_list}
pub use Rattle.chip_part.specs.declared.cause.Cause.{Cause}
use Rattle.chip_part.specs.declared.cause.Cause.TheVariants.{SealedEdge, FiringLimit}
use Rattle.chip_graph.specs.Multigraph.{degree}
use Rattle.chip_part.specs.Setting.{Setting}
use Rattle.chip_link.specs.Link.{Tail, claims_of, sent_counts}
use Rattle.chip_detect.specs.Acknowledging.{acknowledgeable_count}
use Rattle.chip_graph.specs.Sums.{sum_below}
use Rattle.chip_part.specs.Edges.{graph_edges, root_edge, start_of, over_outs, over_ins}

-- an edge at its tail: what was sent, what is left to send of the last batch, and the number of settled messages
pub record Out : Type 0 where
  pub link : Tail
  pub pending : ℕ
  pub settled : ℕ

-- an edge at its head: the counts of the messages taken, in order, and the number of acknowledged ones
pub record Into : Type 0 where
  pub got : List ℕ
  pub acked : ℕ

-- a part: chips and firings of the vertex, the cause of its halt, if any, the edge of the message that engaged it, all
-- edges, for each edge the word that its first seal saw, and whether the root noted the end of feeding
pub record Part : Type 0 where
  pub chips : ℕ
  pub fired : ℕ
  pub halt : Option Cause
  pub parent : Option ℕ
  pub out : ℕ → Out
  pub into : ℕ → Into
  pub stop : ℕ → Option ℕ
  pub ended : Bool

-- the counts on an edge at the opening: on the root edge of a vertex that starts with chips these chips, which are put
abbrev pub first_put : Setting → ℕ → List ℕ
first_put g e = if nat_lt e (graph_edges g) then [] else if start_of g (e - graph_edges g) == 0 then []
    else start_of g (e - graph_edges g) ∷ []

-- every part at the opening. One record serves all, since only the parts of its own ends are read for an edge. Without
-- feeding the end of feeding is noted from the start
abbrev pub opening_part : Setting → Part
opening_part g = record {
  chips = 0;
  fired = 0;
  halt = None;
  parent = None;
  out = λ e. record {
    link = record { put = first_put g e; held = None; clear = false; refused = false };
    pending = 0;
    settled = 0;
  };
  into = λ e. record { got = []; acked = 0 };
  stop = λ e. None;
  ended = not g.fed;
}

-- the vertex isn't halted
abbrev pub is_running : Option Cause → Bool
is_running h = is_none h

-- the acknowledgements that the head of an edge owes
abbrev pub owed_on : Into → ℕ
owed_on i = length i.got - i.acked

-- the acknowledgements that the tail of an edge waits for
abbrev pub outstanding_on : Out → ℕ
outstanding_on o = claims_of o.link - o.settled

-- the messages that v waits for the acknowledgement of; the same of the root
abbrev pub deficit_of : Setting → ℕ → Part → ℕ
deficit_of g v s = over_outs g v (λ e. outstanding_on (s.out e))

-- all chips that the root ever sent, on all root edges: those of the start, and those fed
abbrev pub all_fed : Setting → Part → ℕ
all_fed g s = sum_below g.game.graph.vertices (λ v. sum (sent_counts (s.out (root_edge g v)).link))

-- the number of chips given to each vertex over its root edge, at the start and by feeds
abbrev pub AreGiven : Setting → Part → List ℕ → Type 0
AreGiven g s given = (length given ≡ g.game.graph.vertices)
    × ((v : ℕ) → v < g.game.graph.vertices → slice_index given v ≡ sum (sent_counts (s.out (root_edge g v)).link))

-- all that v owes
abbrev pub owed_by : Setting → ℕ → Part → ℕ
owed_by g v s = over_ins g v (λ e. owed_on (s.into e))

-- the number of messages v has claimed and not put
abbrev pub unput_count : Setting → ℕ → Part → ℕ
unput_count g v s = over_outs g v (λ e. length (option_to_list (s.out e).link.held))

-- all that is pending on the edges out of v
abbrev pub pending_of : Setting → ℕ → Part → ℕ
pending_of g v s = over_outs g v (λ e. (s.out e).pending)

-- the number of edges on which a claim of v was refused
abbrev pub refusals : Setting → ℕ → Part → ℕ
refusals g v s = over_outs g v (λ e. if (s.out e).link.refused then 1 else 0)

-- v is legal by its own chips
abbrev pub is_legal : Setting → ℕ → Part → Bool
is_legal g v s = not (v == g.game.graph.sink) && nat_le (degree g.game.graph v) s.chips

-- v has nothing to do until a message comes
abbrev pub is_passive : Setting → ℕ → Part → Bool
is_passive g v s = unput_count g v s == 0
    && (not (is_running s.halt) || (pending_of g v s == 0 && not (is_legal g v s)))

-- the number of messages v may acknowledge on e
abbrev pub may_ack_on : Setting → ℕ → Part → ℕ → ℕ
may_ack_on g v s e = acknowledgeable_count e s.parent (owed_on (s.into e)) (owed_by g v s) (deficit_of g v s) (is_passive g v s)

-- the cause by which v may halt, if it may
abbrev pub cause : Setting → ℕ → Part → Option Cause
cause g v s =
    if not (refusals g v s == 0) then Some SealedEdge
    else if pending_of g v s == 0 && is_legal g v s && s.fired == g.game.limit then Some FiringLimit
    else None

-- the firing limit is the cause
abbrev pub is_by_limit : Option Cause → Bool
is_by_limit None = false
is_by_limit (Some SealedEdge) = false
is_by_limit (Some FiringLimit) = true
