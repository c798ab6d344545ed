-- Flooding: a process that gets its first message is marked, and sends one message on each of its edges.
use Rattle.std.specs.Prelude.{◌≡◌, ◌≢◌, ◌↔◌, ℕ, ◌-◌, ◌<◌, ◌≤◌, nat_lt, Bool, true, false, not, ◌&&◌, ◌||◌, ◌==◌}
use Rattle.std.specs.Prelude.{if◌then◌else◌, List, [], ◌∷◌, length, slice_index, slice_index_or, sum_by, replicate}
use Rattle.chip_diffusing.specs.Network.{Network}
use Rattle.chip_diffusing.specs.Computation.{World, sent_on, got_on, acked_on, settled_on}
use Rattle.chip_flooding.specs.Running.{net, world, allowed, IsTopology, AreOpeningProcesses}
pub use Rattle.chip_flooding.specs.declared.flooding.Marking.{Marking}

-- these edges, the last one first, lead from the root to p
abbrev pub IsPath : Network → List ℕ → ℕ → Type 0
IsPath n [] p = p ≡ n.root
IsPath n (e ∷ es) p = (e < n.edges) × (n.head e ≡ p) × IsPath n es (n.tail e)

abbrev pub IsReachable : Network → ℕ → Type 0
IsReachable n p = (es : List ℕ) × IsPath n es p

abbrev pub is_marked : List Bool → ℕ → Bool
is_marked marked p = slice_index_or marked p false

-- exactly the reachable processes are marked
pub record MarksReached (n : Network) (marked : List Bool) : Type 0 where
  pub count_is : length marked ≡ n.parts
  pub each : (p : ℕ) → p < n.parts → (is_marked marked p ≡ true) ↔ IsReachable n p

-- ---- while it runs

-- one message, or none
abbrev pub once : Bool → ℕ
once so = if so then 1 else 0

-- a marked process has sent a message on each of its edges, but p only on those less than `first`. Where it was got the
-- head is marked. The tail settles acknowledgements at once
pub record IsFloodedOn (n : Network) (w : World) (marked : List Bool) (done : List ℕ) (p first e : ℕ) : Type 0 where
  pub sent_is : sent_on n w e ≡ once (is_marked marked (n.tail e) && (nat_lt e first || not (n.tail e == p)))
  pub got_is : got_on n w e ≡ once (nat_lt 0 (slice_index done e))
  pub head : got_on n w e ≤ once (is_marked marked (n.head e))
  pub acked_is : acked_on n w e ≡ once (nat_lt 1 (slice_index done e))
  pub settled_is : settled_on n w e ≡ once (nat_lt 1 (slice_index done e))

-- the root is marked, and every marked process is reachable. p sends its messages, and no other process is at work
pub record IsFlooding (n : Network) (w : World) (marked : List Bool) (done : List ℕ) (p first : ℕ) : Type 0 where
  pub all_marked : length marked ≡ n.parts
  pub all_done : length done ≡ n.edges
  pub root : is_marked marked n.root ≡ true
  pub reached : (q : ℕ) → is_marked marked q ≡ true → IsReachable n q
  pub passive : (q : ℕ) → q < n.parts → q ≢ p → (w q).passive ≡ true
  pub edges : (e : ℕ) → e < n.edges → IsFloodedOn n w marked done p first e

-- no message was sent, and no process is marked
pub record IsUnmarked (m : Marking) : Type 0 where
  pub topology : IsTopology m.run.topology
  pub opens : AreOpeningProcesses m.run.topology m.run.topology.parts m.run.processes
  pub unmarked : m.marked.items ≡ replicate m.run.topology.parts false
  pub undone : m.done.items ≡ replicate (length m.run.topology.tails.items) 0

-- no process is at work
abbrev pub IsFlooded : Marking → Type 0
IsFlooded m = let n = net m.run in IsFlooding n (world m.run) m.marked.items m.done.items n.parts n.edges

-- the number of steps not done: getting a message, and acknowledging it, on each edge
abbrev pub unfinished : Marking → ℕ
unfinished m = sum_by (λ n. 2 - n) m.done.items

-- the number of messages of the edge that may be acknowledged, or may be got
abbrev pub due_on : Marking → ℕ → ℕ
due_on m e = if nat_lt 0 (slice_index m.done.items e) then allowed m.run e
    else once (is_marked m.marked.items ((net m.run).tail e))
