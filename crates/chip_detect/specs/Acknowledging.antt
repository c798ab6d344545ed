-- When a message may be acknowledged. One that did not engage the vertex may be at any time; the one that did is
-- acknowledged last, when the vertex is done. The rules are first stated over plain arguments, for use with a larger
-- state too.
use Rattle.std.specs.Prelude.{ℕ, ◌-◌, Bool, false, not, ◌&&◌, ◌==◌, if◌then◌else◌, Option, Some, None}
use Rattle.chip_detect.specs.Books.{Books, owed, all_owed, deficit}

-- e is the edge of the message that engaged the vertex
abbrev pub is_parent : ℕ → Option ℕ → Bool
is_parent e None = false
is_parent e (Some p) = p == e

-- the parent once a message came on e: an engaged vertex keeps its parent, a neutral one takes e
abbrev pub or_else : Option ℕ → ℕ → Option ℕ
or_else None e = Some e
or_else (Some p) e = Some p

-- the parent once `owes e` is owed on each edge e: gone if nothing is owed on the parent edge
abbrev pub parent_while_owed : Option ℕ → (ℕ → ℕ) → Option ℕ
parent_while_owed None owes = None
parent_while_owed (Some p) owes = if owes p == 0 then None else Some p

-- except for what it owes on one edge the vertex is done: it owes nothing elsewhere, is passive and has no deficit
abbrev pub is_done : ℕ → ℕ → ℕ → Bool → Bool
is_done owed_here owed_in_all deficit_now passive =
    owed_in_all == owed_here && passive && deficit_now == 0

-- the number that may be acknowledged on the edge e now: all that is owed there, but on the parent edge one fewer until
-- the vertex is done
abbrev pub acknowledgeable_count : ℕ → Option ℕ → ℕ → ℕ → ℕ → Bool → ℕ
acknowledgeable_count e parent owed_here owed_in_all deficit_now passive =
    if is_parent e parent && not (is_done owed_here owed_in_all deficit_now passive)
    then owed_here - 1
    else owed_here

-- the same, of a vertex's books
abbrev pub may_ack : Books → ℕ → Bool → ℕ
may_ack b e passive = acknowledgeable_count e b.parent (owed b e) (all_owed b) (deficit b) passive

-- the vertex owes only one message, and it isn't done: an engaged vertex owes it on its parent edge, and keeps it
abbrev pub keeps_last : Books → Bool → Bool
keeps_last b passive = all_owed b == 1 && not (passive && deficit b == 0)
