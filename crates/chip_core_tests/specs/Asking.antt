-- Lists of events and of operations of one vertex, each with a word that it may see: the requests of the tests to an
-- actor. The tests of a list compute.
use Rattle.std.specs.Prelude.{ℕ, ◌+◌, ◌-◌, Bool, true, ◌&&◌, ◌||◌, ◌==◌, nat_lt, nat_le, List, [], ◌∷◌, false}
use Rattle.std.specs.Prelude.{length, map, is_some}
use Rattle.chip_graph.specs.Limits.{max_total, max_limit}
use Rattle.chip_graph.specs.declared.edge.Edge.{Edge}
use Rattle.chip_graph.specs.ChipGame.{ChipGame}
use Rattle.chip_part.specs.Setting.{Setting, setting_with}
use Rattle.chip_part.specs.Worked.{edge}
use Rattle.chip_link.specs.Words.{claims_in}
use Rattle.chip_link.specs.Link.{claims_of}
use Rattle.chip_detect.specs.Tally.{message_limit}
use Rattle.chip_part.specs.Part.{Part, opening_part}
use Rattle.chip_part.specs.Rules.{Event, Take, Claim, Settle, unmet_rule}
use Rattle.chip_part.specs.declared.reply.Reply.{Reply}
use Rattle.chip_part.specs.Steps.{part_of, does, part_and_reply, saw}
use Rattle.chip_part.specs.declared.act.Act.{Act}
use Rattle.chip_part.specs.Acting.{event_of}

-- an operation of this event may see this
abbrev pub fits_seen : Part → Event → ℕ → Bool
fits_seen s (Take e) seen = seen == 0
    || (nat_le (s.chips + seen) max_total && nat_lt (length (s.into e).got) message_limit)
fits_seen s (Claim e) seen = claims_in seen == claims_of (s.out e).link
fits_seen s (Settle e) seen = nat_le (s.out e).settled seen && nat_le seen (claims_of (s.out e).link)
fits_seen s _ seen = true

-- the vertex may get this request, and if it makes the event, it may see this
abbrev pub may_ask : Setting → ℕ → Part → Event → ℕ → Bool
may_ask g v s x seen = part_of g x == v && (is_some (unmet_rule g x s) || fits_seen s x seen)

-- these operations may see the words beside them, in order
abbrev pub may_see_all : Setting → ℕ → Part → List (Act × ℕ) → Bool
may_see_all g v s [] = true
may_see_all g v s (o ∷ os) = fits_seen s (event_of v o.0) o.1
    && may_see_all g v (does g (saw (event_of v o.0) o.1) s) os

-- the vertex may get these requests in order, and make these operations then. Beside each event are what it sees, and
-- the expected reply
abbrev pub may_play : Setting → ℕ → Part → List (Event × ℕ × Reply) → List (Act × ℕ) → Bool
may_play g v s [] turn = may_see_all g v s turn
may_play g v s (x ∷ xs) turn = may_ask g v s x.0 x.1
    && may_play g v (part_and_reply g (saw x.0 x.1) s (unmet_rule g x.0 s)).0 xs turn

-- the game on edges with these ends, which send one chip for each firing. The sink is the last vertex
abbrev pub simple_edge : ℕ × ℕ → Edge
simple_edge ends = edge ends.0 ends.1

abbrev pub game_on : List (ℕ × ℕ) → List ℕ → ChipGame
game_on ends start =
    record {
      graph = record { vertices = length start; sink = length start - 1; edges = map simple_edge ends };
      start = start;
      limit = max_limit;
    }

-- that game with rings of one cell, and whether it is fed
abbrev pub setting_on : List (ℕ × ℕ) → List ℕ → Bool → Setting
setting_on ends start fed = setting_with (game_on ends start) 1 fed

-- the vertex may play this from the opening of that game
abbrev pub may_play_new : List (ℕ × ℕ) → List ℕ → ℕ → List (Event × ℕ × Reply) → List (Act × ℕ) → Bool
may_play_new ends start v xs turn =
    let g = setting_on ends start false in may_play g v (opening_part g) xs turn
