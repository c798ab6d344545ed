-- The rules of each event, in their order, by the part that makes it. No rule depends on what another part did.
use Rattle.std.specs.Prelude.{ℕ, ◌+◌, ◌*◌, Bool, true, false, not, ◌&&◌, ◌==◌, nat_lt, nat_le, List, [], ◌∷◌, Option}
use Rattle.std.specs.Prelude.{Some, None, is_some, is_none, if◌then◌else◌}
pub use Rattle.chip_link.specs.declared.event.Event.{Event}
pub use Rattle.chip_link.specs.declared.event.Event.TheVariants.{Take, Ack, Fire, Clear, Claim, Put, Halt, Settle, Seal}
pub use Rattle.chip_link.specs.declared.event.Event.TheVariants.{Read, Feed, End}
pub use Rattle.chip_part.specs.declared.rule.Rule.{Rule}
use Rattle.chip_part.specs.declared.rule.Rule.TheVariants.{NoSuch, Sink, Halted, Pending, Zero, Limit, NotLegal}
use Rattle.chip_part.specs.declared.rule.Rule.TheVariants.{NothingPending, Refused, Unput, NotCleared, NotClaimed}
use Rattle.chip_part.specs.declared.rule.Rule.TheVariants.{NoCause, NothingOwed, Engaged, NotClosed, Ended, TooMuch}
use Rattle.chip_graph.specs.Limits.{max_total}
use Rattle.chip_graph.specs.Multigraph.{degree}
use Rattle.chip_part.specs.Setting.{Setting}
use Rattle.chip_part.specs.Edges.{graph_edges, all_edges, head_of, root}
use Rattle.chip_part.specs.Part.{Part, is_running, owed_on, may_ack_on, pending_of, unput_count, cause, deficit_of, all_fed}

-- the rule is met, and so on with the rest; else it is the result
abbrev pub need : Bool → Rule → Option Rule → Option Rule
need true rule rest = rest
need false rule rest = Some rule

-- the rules of a look at the next cell of e by a vertex, and by the root
abbrev pub unmet_by_vertex : ℕ → Part → Option Rule
unmet_by_vertex e s =
    need (is_running s.halt) Halted
    (need (not (s.out e).link.refused) Refused
    (need (not ((s.out e).pending == 0)) NothingPending None))

abbrev pub unmet_by_root : ℕ → Part → Option Rule
unmet_by_root e s = need (not s.ended) Ended (need (is_none (s.out e).link.held) Unput None)

-- the first rule of an event that isn't met
abbrev pub unmet_rule : Setting → Event → Part → Option Rule
unmet_rule g (Take e) s = need (nat_lt e (all_edges g)) NoSuch None
unmet_rule g (Ack e) s =
    need (nat_lt e (all_edges g)) NoSuch
    (need (not (owed_on (s.into e) == 0)) NothingOwed
    (need (not (may_ack_on g (head_of g e) s e == 0)) Engaged None))
unmet_rule g (Fire v k) s =
    need (nat_lt v g.game.graph.vertices) NoSuch
    (need (not (v == g.game.graph.sink)) Sink
    (need (is_running s.halt) Halted
    (need (pending_of g v s == 0 && unput_count g v s == 0) Pending
    (need (not (k == 0)) Zero
    (need (nat_le (s.fired + k) g.game.limit) Limit
    (need (nat_le (k * degree g.game.graph v) s.chips) NotLegal None))))))
unmet_rule g (Clear e) s =
    need (nat_lt e (all_edges g)) NoSuch
    (if nat_lt e (graph_edges g) then unmet_by_vertex e s else unmet_by_root e s)
unmet_rule g (Claim e) s =
    need (nat_lt e (graph_edges g)) NoSuch
    (need (is_running s.halt) Halted
    (need (s.out e).link.clear NotCleared None))
unmet_rule g (Put e) s =
    need (nat_lt e (all_edges g)) NoSuch
    (need (is_some (s.out e).link.held) NotClaimed None)
unmet_rule g (Halt v) s =
    need (nat_lt v g.game.graph.vertices) NoSuch
    (need (not (v == g.game.graph.sink)) Sink
    (need (is_running s.halt) Halted
    (need (unput_count g v s == 0) Unput
    (need (is_some (cause g v s)) NoCause None))))
unmet_rule g (Settle e) s = need (nat_lt e (all_edges g)) NoSuch None
unmet_rule g (Seal e) s = need (nat_lt e (graph_edges g)) NoSuch None
unmet_rule g (Read v) s =
    need (nat_lt v g.game.graph.vertices) NoSuch
    (need (deficit_of g (root g) s == 0 && s.ended) NotClosed None)
unmet_rule g (Feed e k) s =
    need (nat_le (graph_edges g) e && nat_lt e (all_edges g)) NoSuch
    (need (not s.ended) Ended
    (need (not (k == 0)) Zero
    (need (nat_le (all_fed g s + k) max_total) TooMuch
    (need (s.out e).link.clear NotCleared None))))
unmet_rule g End s = None

-- the first of some rules that isn't met
abbrev pub first_unmet : List (Bool × Rule) → Option Rule
first_unmet [] = None
first_unmet (rule ∷ rules) = need rule.0 rule.1 (first_unmet rules)
