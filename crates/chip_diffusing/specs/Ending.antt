-- The tree of Dijkstra and Scholten, and how the end of a computation is detected.
use Rattle.std.specs.Prelude.{◌≡◌, ◌⊎◌, ℕ, zero, suc, ◌≤◌, ◌+◌, ◌-◌, ◌<◌, nat_lt, Bool, true, false, if◌then◌else◌}
use Rattle.std.specs.Prelude.{List, [], ◌∷◌, Contains, Some, None}
use Rattle.chip_detect.specs.Books.{owed, all_owed, deficit}
use Rattle.chip_detect.specs.Acknowledging.{may_ack}
use Rattle.chip_diffusing.specs.Network.{Network, IsInto, IsOutOf}
use Rattle.chip_diffusing.specs.Computation.{PartState, World, Event, Send, Get, Ack, Settle, Log, May, Leads, Happens}
use Rattle.chip_diffusing.specs.Computation.{sent_on, got_on, acked_on, settled_on}

-- the edge e engaged p: it comes from the root or from one of these processes, and p owes something on it
pub record IsEngagedFrom (net : Network) (w : World) (ps : List ℕ) (p e : ℕ) : Type 0 where
  pub parent : (w p).books.parent ≡ Some e
  pub into : IsInto net p e
  pub from_earlier : (net.tail e ≡ net.root) ⊎ Contains ps (net.tail e)
  pub owes : 0 < owed (w p).books e

-- engaged processes, each once, the latest first; the root is before all of them and not in the list
abbrev pub IsEngagementTree : Network → World → List ℕ → Type 0
IsEngagementTree net w [] = Unit {0}
IsEngagementTree net w (p ∷ ps) = IsEngagementTree net w ps × (Contains ps p → ⊥) × ((e : ℕ) × IsEngagedFrom net w ps p e)

-- a neutral process
pub record IsNeutralPart (s : PartState) : Type 0 where
  pub no_parent : s.books.parent ≡ None
  pub passive : s.passive ≡ true
  pub nothing_owed : all_owed s.books ≡ 0
  pub no_deficit : deficit s.books ≡ 0

-- a tree of engaged processes, and every other process but the root is neutral
pub record IsEngagementOrder (net : Network) (w : World) (ps : List ℕ) : Type 0 where
  pub tree : IsEngagementTree net w ps
  pub others : (p : ℕ) → p < net.parts → (p ≡ net.root → ⊥) → (Contains ps p → ⊥) → IsNeutralPart (w p)

-- an acknowledgement of one message or more, or a settle of a new one
abbrev pub TellsNews : Network → World → Event → Type 0
TellsNews net w (Ack e n) = 0 < n
TellsNews net w (Settle e word) = settled_on net w e < word
TellsNews net w _ = ⊥

-- the event is enabled, and due
abbrev pub MayTell : Network → World → Event → Type 0
MayTell net w x = May net w x × TellsNews net w x

-- f 0 + .. + f (n - 1)
abbrev pub sum_to : ℕ → (ℕ → ℕ) → ℕ
sum_to zero f = 0
sum_to (suc n) f = sum_to n f + f n

-- the acknowledgements not yet given and not yet settled
abbrev pub left : Network → World → ℕ
left net w = sum_to net.edges (λ e. (sent_on net w e - acked_on net w e) + (sent_on net w e - settled_on net w e))

-- events lead from the one world to the other, and each of them is due
abbrev pub LeadsDue : Network → World → Log → World → Type 0
LeadsDue net old [] new = old ≡ new
LeadsDue net old (x ∷ log) new = (w : World) × LeadsDue net old log w × MayTell net w x × Happens net w x new

-- what was sent on an edge was got and acknowledged, and its tail has settled it
pub record IsSettledUp (net : Network) (w : World) (e : ℕ) : Type 0 where
  pub got : got_on net w e ≡ sent_on net w e
  pub acked : acked_on net w e ≡ sent_on net w e
  pub settled : settled_on net w e ≡ sent_on net w e

-- ---- events that advance

-- whether an event gets a message, acknowledges one or more, or settles a new acknowledgement
abbrev pub advances : Network → World → Event → Bool
advances net w (Get e) = true
advances net w (Ack e n) = nat_lt 0 n
advances net w (Settle e word) = nat_lt (settled_on net w e) word
advances net w _ = false

-- the number of those that advance among the events that lead from the one world to the other
abbrev pub advancing : (net : Network) (old : World) (log : Log) (new : World) → Leads net old log new → ℕ
advancing net old [] new way = 0
advancing net old (x ∷ log) new way =
    advancing net old log way.0 way.1 + (if advances net way.0 x then 1 else 0)

abbrev pub is_send : Event → Bool
is_send (Send e) = true
is_send _ = false

-- ---- rounds

abbrev pub Goes : Network → World → World → Type 0
Goes net old new = (log : Log) × Leads net old log new

-- in between p has a moment at which it has settled every acknowledgement given before, and may give none more
pub record HasMoment (net : Network) (old new : World) (p : ℕ) : Type 0 where
  pub moment : World
  pub before : Goes net old moment
  pub after : Goes net moment new
  pub heard : (e : ℕ) → IsOutOf net p e → acked_on net old e ≤ settled_on net moment e
  pub given : (e : ℕ) → IsInto net p e → may_ack (moment p).books e (moment p).passive ≡ 0

-- and so each process but the root
pub record HasMomentRound (net : Network) (old new : World) : Type 0 where
  pub goes : Goes net old new
  pub turns : (p : ℕ) → p < net.parts → (p ≡ net.root → ⊥) → HasMoment net old new p

-- n rounds, in order
abbrev pub HasMomentRounds : Network → ℕ → World → World → Type 0
HasMomentRounds net zero old new = old ≡ new
HasMomentRounds net (suc n) old new = (w : World) × HasMomentRounds net n old w × HasMomentRound net w new

-- the tree is at most `depth` deep: each engaged process has a level of at most `depth`, and the tail of its parent
-- edge has a lower one, as a process or the root
pub record IsAtMostDeep (net : Network) (w : World) (depth : ℕ) : Type 0 where
  pub level : ℕ → ℕ
  pub below : (p : ℕ) → p < net.parts → (e : ℕ) → (w p).books.parent ≡ Some e
      → (level (net.tail e) < level p) × (level p ≤ depth)
