-- The root at run time, and when it stands for the root's part of the core.
use Rattle.std.specs.Prelude.{◌≡◌, ℕ, ◌+◌, ◌-◌, ◌<◌, ◌≤◌, ◌==◌, not, ◌&&◌, nat_lt, nat_le, Bool, true, false}
use Rattle.std.specs.Prelude.{if◌then◌else◌, List, length, sum, slice_index, slice_index_or, slice_set, Option}
use Rattle.std.specs.Prelude.{Some}
use Rattle.std.specs.Prelude.{None, is_some, is_none}
use Rattle.chip_graph.specs.Limits.{max_total}
use Rattle.chip_graph.specs.ChipGame.{IsGame}
use Rattle.chip_graph.specs.Sums.{sum_below}
use Rattle.chip_link.specs.Link.{Tail, claims_of, sent_counts, tail_state}
use Rattle.chip_link.specs.Ends.{TailState, new_tail, tail_after_claim}
use Rattle.chip_part.specs.Setting.{Setting}
use Rattle.chip_part.specs.Edges.{graph_edges, root_edge, root, start_of}
use Rattle.chip_part.specs.Part.{Part, deficit_of, all_fed, AreGiven}
use Rattle.chip_part.specs.declared.rule.Rule.{Rule}
use Rattle.chip_part.specs.Rules.{Event, Settle, need, unmet_rule}
use Rattle.chip_part.specs.declared.rule.Rule.TheVariants.{Ended, Zero, TooMuch, Unput, NotCleared, NotClaimed}
use Rattle.chip_part.specs.declared.reply.Reply.TheVariants.{Done, Sent, Full}
use Rattle.chip_part.specs.declared.reply.Reply.{Reply}
use Rattle.chip_part.specs.Steps.{does, reply_of, saw}
use Rattle.chip_part.specs.Acting.{is_of_root, FitsRoot}

-- what a `FeederState` shows: by vertices, the tail of the root edge and the chips that were given over it; all chips
-- that were given; and whether the end of feeding is noted
pub record Feeder : Type 0 where
  pub tails : List TailState
  pub given : List ℕ
  pub fed : ℕ
  pub ended : Bool

-- what a `RootBooks` shows: the number of edges of the graph; by vertices, the number of settled messages of the root
-- edge; the number of outstanding ones on all of them; and the feeder
pub record Root : Type 0 where
  pub graph_edges : ℕ
  pub settled : List ℕ
  pub outstanding : ℕ
  pub feeder : Feeder

-- the tail of the root edge of v
abbrev pub tail_at : Feeder → ℕ → TailState
tail_at f v = slice_index_or f.tails v (new_tail 0 1)

-- the tail of an edge that opens with a message of `chips` chips, or with none if that is 0
abbrev pub opened_tail : ℕ → ℕ → ℕ → TailState
opened_tail edge ring chips = record (new_tail edge ring) { claims = if chips == 0 then 0 else 1 }

-- one tail is changed
abbrev pub with_tail : ℕ → (TailState → TailState) → Feeder → Feeder
with_tail v change f = record f { tails = slice_set f.tails v (change (tail_at f v)) }

-- `count` chips are given to v by a claim that saw this word
abbrev pub after_feed : ℕ → ℕ → ℕ → Feeder → Feeder
after_feed v count seen f = record {
  tails = slice_set f.tails v (tail_after_claim seen count (tail_at f v));
  given = slice_set f.given v (slice_index f.given v + count);
  fed = f.fed + count;
  ended = f.ended;
}

-- the reply to a look, by the words of a claim that may follow, and to a feed
abbrev pub look_reply : Option (ℕ × ℕ) → Reply
look_reply None = Full
look_reply (Some words) = Done words.0

abbrev pub feed_reply : ℕ → TailState → Reply
feed_reply count t = Sent (record { edge = t.edge; place = t.claims; count = count })

-- the first rule that is not met of a look at the cell of the root edge of v, of a put there, and of a feed
abbrev pub look_rule : ℕ → Feeder → Option Rule
look_rule v f = need (not f.ended) Ended (need (is_none (tail_at f v).held) Unput None)

abbrev pub put_rule : ℕ → Feeder → Option Rule
put_rule v f = need (is_some (tail_at f v).held) NotClaimed None

abbrev pub feed_rule : ℕ → ℕ → Feeder → Option Rule
feed_rule v count f =
    need (not f.ended) Ended
    (need (not (count == 0)) Zero
    (need (nat_le (f.fed + count) max_total) TooMuch
    (need (tail_at f v).clear NotCleared None)))

-- the feeder of a game that opens: the end of feeding is noted if none is fed
pub record IsOpeningFeeder (g : Setting) (f : Feeder) : Type 0 where
  pub tails_each : length f.tails ≡ g.game.graph.vertices
  pub tails : (v : ℕ) → v < g.game.graph.vertices → (d : TailState)
      → slice_index_or f.tails v d ≡ opened_tail (root_edge g v) g.ring (start_of g v)
  pub given : f.given ≡ g.game.start
  pub fed : f.fed ≡ sum g.game.start
  pub ended : f.ended ≡ not g.fed

-- the end of feeding is noted
abbrev pub ended_root : Root → Root
ended_root r = record r { feeder = record r.feeder { ended = true } }

-- the vertex of a root edge, if it is one
abbrev pub root_vertex : Root → ℕ → Option ℕ
root_vertex r e = if nat_le r.graph_edges e && nat_lt (e - r.graph_edges) (length r.settled)
    then Some (e - r.graph_edges) else None

-- what the root keeps of the tail of an edge by its own events: no claim was refused, each message carries a chip, and
-- if the next cell was seen empty no message is claimed and not put
pub record KeepsTail (t : Tail) : Type 0 where
  pub sealed_never : t.refused ≡ false
  pub counted : claims_of t ≤ sum (sent_counts t)
  pub quiet : t.clear ≡ true → t.held ≡ None

-- the feeder keeps the numbers of this part
pub record Feeds (g : Setting) (s : Part) (f : Feeder) : Type 0 where
  pub ended : f.ended ≡ s.ended
  pub fed : f.fed ≡ all_fed g s
  pub within : all_fed g s ≤ max_total
  pub few_outstanding : deficit_of g (root g) s ≤ all_fed g s
  pub tails_each : length f.tails ≡ g.game.graph.vertices
  pub tails : (v : ℕ) → v < g.game.graph.vertices → (d : TailState)
      → slice_index_or f.tails v d ≡ tail_state (root_edge g v) g.ring (s.out (root_edge g v)).link
  pub given : AreGiven g s f.given
  pub kept : (v : ℕ) → v < g.game.graph.vertices → KeepsTail (s.out (root_edge g v)).link
  pub settled_few : (v : ℕ) → v < g.game.graph.vertices
      → (s.out (root_edge g v)).settled ≤ claims_of (s.out (root_edge g v)).link

-- the root keeps the numbers of this part
pub record RootStandsFor (g : Setting) (s : Part) (r : Root) : Type 0 where
  pub game : IsGame g.game
  pub edges : r.graph_edges ≡ graph_edges g
  pub settled_each : length r.settled ≡ g.game.graph.vertices
  pub settled : (v : ℕ) → v < g.game.graph.vertices → slice_index r.settled v ≡ (s.out (root_edge g v)).settled
  pub outstanding : r.outstanding ≡ deficit_of g (root g) s
  pub feeder : Feeds g s r.feeder

-- whatever part a root stands for
abbrev pub WhateverRoot : Root → (Setting → Part → Type 0) → Type 0
WhateverRoot r P = (g : Setting) (s : Part) → RootStandsFor g s r → P g s

-- it stands for some part with this property
abbrev pub SomeRoot : Root → (Setting → Part → Type 0) → Type 0
SomeRoot r P = (g : Setting) × (s : Part) × RootStandsFor g s r × P g s

-- the root may make this event, and may have seen this
abbrev pub RootCanDo : Setting → Part → Event → ℕ → Type 0
RootCanDo g s x seen = (is_of_root g x ≡ true) × (unmet_rule g x s ≡ None) × FitsRoot g s x seen

-- the root made this event with this reply: whatever part it stood for, it stands for that part after the event
abbrev pub RootMakes : Root → Root → Event → ℕ → Reply → Type 0
RootMakes old new x seen reply =
    WhateverRoot old (λ g s. RootCanDo g s x seen → RootStandsFor g (does g (saw x seen) s) new
    × (reply ≡ reply_of g x seen s))

-- the root made a settle of the root edge of v, by which `more` acknowledgements were new
abbrev pub RootSettles : Root → Root → ℕ → ℕ → ℕ → Type 0
RootSettles old new v seen more = WhateverRoot old (λ g s. let x = Settle (root_edge g v) in RootCanDo g s x seen
    → RootStandsFor g (does g (saw x seen) s) new × (Done more ≡ reply_of g x seen s))

-- of the first vertices, the number that start with chips
abbrev pub with_chips : List ℕ → ℕ → ℕ
with_chips start count = sum_below count (λ v. if slice_index start v == 0 then 0 else 1)
