-- The theorem of Dijkstra and Scholten, of every diffusing computation.
use Rattle.std.specs.Prelude.{◌≡◌, ◌⊎◌, ℕ, Bool, true, false, suc, ◌*◌, ◌<◌, ◌≤◌, List, length, count_by}
use Rattle.chip_detect.specs.Books.{Books, IsSound}
use Rattle.std.specs.Option.{IfSome}
use Rattle.chip_detect.specs.Steps.{MayBeMade}
use Rattle.chip_diffusing.specs.Network.{Network, IsNetwork, IsOutOf}
use Rattle.chip_diffusing.specs.Computation.{World, Event, Get, Log, May, process_of, call_of}
use Rattle.chip_diffusing.specs.Computation.{Leads, IsLegalLog, IsQuiescent, HasClosedRoot, acked_on, settled_on}
use Rattle.chip_diffusing.specs.Ending.{IsEngagementOrder, MayTell, left, LeadsDue, Goes, HasMomentRounds, IsAtMostDeep}
use Rattle.chip_diffusing.specs.Ending.{IsSettledUp, advances, advancing, is_send}

-- what holds of every network, every legal log and the world that it leaves
abbrev pub ForEveryWorld : (Network → World → Type 0) → Type 0
ForEveryWorld P = (net : Network) → IsNetwork net → (log : Log) (w : World) → IsLegalLog net log w → P net w

-- if the root is closed, the computation is over
abbrev pub ClosedIsQuiescent : Type 0
ClosedIsQuiescent = ForEveryWorld (λ net w. HasClosedRoot net w → IsQuiescent net w)

-- and it stays over, whatever is done
abbrev pub ClosedForGood : Type 0
ClosedForGood = ForEveryWorld (λ net w. HasClosedRoot net w → (xs : Log) (later : World) → Leads net w xs later
    → HasClosedRoot net later × IsQuiescent net later)

-- and nothing is open on any edge
abbrev pub ClosedIsSettled : Type 0
ClosedIsSettled = ForEveryWorld (λ net w. HasClosedRoot net w → (e : ℕ) → e < net.edges → IsSettledUp net w e)

-- the root's books suffice: for every network with them and every log there, it is over
abbrev pub IsOver : Books → Bool → Type 0
IsOver books ended = ForEveryWorld (λ net w. (w net.root).books ≡ books → (w net.root).passive ≡ ended → IsQuiescent net w)

-- a detection order exists at every moment
abbrev pub EngagedIsATree : Type 0
EngagedIsATree = ForEveryWorld (λ net w. (ps : List ℕ) × IsEngagementOrder net w ps)

-- if it is over and the root isn't closed, an acknowledgement or a settle is due
abbrev pub NeverStuck : Type 0
NeverStuck = ForEveryWorld (λ net w. IsQuiescent net w → (HasClosedRoot net w → ⊥) → (x : Event) × MayTell net w x)

-- until the root is closed a process is at work, a message is in transit, or something is due
abbrev pub NotOverYet : Type 0
NotOverYet = ForEveryWorld (λ net w. (HasClosedRoot net w → ⊥)
    → ((p : ℕ) × (p < net.parts) × ((w p).passive ≡ false)) ⊎ ((e : ℕ) × May net w (Get e)) ⊎ ((x : Event) × MayTell net w x))

-- if it is over, the number of due events that can be made is bounded, and if none is left the root is closed
abbrev pub FewAreLeft : Type 0
FewAreLeft = ForEveryWorld (λ net w. IsQuiescent net w → (xs : Log) (later : World) → LeadsDue net w xs later
    → (length xs ≤ left net w) × (((x : Event) → MayTell net later x → ⊥) → HasClosedRoot net later))

-- at most three events advance for each message sent; and if all processes are passive and no enabled event advances,
-- the root is closed
abbrev pub NoWasteCloses : Type 0
NoWasteCloses = (net : Network) → IsNetwork net → (log : Log) (w : World) (legal : IsLegalLog net log w)
    → (advancing net legal.first log w legal.leads ≤ 3 * count_by is_send log)
    × (((p : ℕ) → p < net.parts → (w p).passive ≡ true) → ((x : Event) → May net w x → advances net w x ≡ false)
    → HasClosedRoot net w)

-- one round more than the tree is deep closes the root, once it has settled what was acknowledged by then
abbrev pub DepthCloses : Type 0
DepthCloses = ForEveryWorld (λ net w. IsQuiescent net w → (depth : ℕ) → IsAtMostDeep net w depth
    → (later end : World) → HasMomentRounds net (suc depth) w later → Goes net later end
    → ((e : ℕ) → IsOutOf net net.root e → acked_on net later e ≤ settled_on net end e) → HasClosedRoot net end)

-- no tree is deeper than its number of processes
abbrev pub DepthIsCounted : Type 0
DepthIsCounted = ForEveryWorld (λ net w. (ps : List ℕ) → IsEngagementOrder net w ps → IsAtMostDeep net w (length ps))

-- a process that makes an enabled event has sound books, and may make the call of `Detect` that notes it
abbrev pub CallsMayBeMade : Type 0
CallsMayBeMade = ForEveryWorld (λ net w. (x : Event) → May net w x → IsSound (w (process_of net x)).books
    × IfSome (call_of x) (MayBeMade (w (process_of net x)).books))
