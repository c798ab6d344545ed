-- A running computation, and the network and the world that it represents.
use Rattle.std.specs.Prelude.{◌≡◌, ℕ, ◌<◌, ◌≤◌, true, false, List, [], None, length, slice_index, slice_index_or}
use Rattle.chip_detect.specs.Acknowledging.{may_ack}
use Rattle.chip_detect.specs.Tally.{edge_limit}
use Rattle.chip_diffusing.specs.Network.{Network, IsNetwork}
use Rattle.chip_diffusing.specs.Computation.{PartState, World, Event, Log, OpensPart, IsLegalLog, Happens}
pub use Rattle.chip_flooding.specs.declared.process.Topology.{Topology}
pub use Rattle.chip_flooding.specs.declared.process.Process.{Process}

-- the processes and edges as a network of chip_diffusing
abbrev pub flood_network : Topology → Network
flood_network t = record {
  parts = t.parts;
  edges = length t.tails.items;
  tail = slice_index t.tails.items;
  head = slice_index t.heads.items;
  root = t.root;
}

-- both ends of each edge are processes, no edge leads to the root, and the number of edges is within the limit
pub record IsTopology (t : Topology) : Type 0 where
  pub both_ends : length t.heads.items ≡ length t.tails.items
  pub few : length t.tails.items ≤ edge_limit
  pub network : IsNetwork (flood_network t)

-- a process in terms of chip_diffusing
abbrev pub shown : Process → PartState
shown s = record { books = s.books; passive = s.passive }

-- the state of numbers that are no processes
abbrev pub nobody : Process
nobody = record { books = record { ins = []; outs = []; parent = None }; passive = true }

-- the view of a `Run`
pub record State : Type 0 where
  pub topology : Topology
  pub processes : List Process

abbrev pub net : State → Network
net s = flood_network s.topology

abbrev pub world : State → World
world s p = shown (slice_index_or s.processes p nobody)

-- the number of messages of the edge that may be acknowledged
abbrev pub allowed : State → ℕ → ℕ
allowed s e = let head = world s ((net s).head e) in may_ack head.books e head.passive

-- the processes are those after a legal log
pub record IsLegalState (s : State) : Type 0 where
  pub topology : IsTopology s.topology
  pub all_processes : length s.processes ≡ s.topology.parts
  pub log : Log
  pub legal : IsLegalLog (net s) log (world s)

-- a process before all events: only the root is at work
pub record OpensProcess (t : Topology) (p : ℕ) (s : Process) : Type 0 where
  pub part : OpensPart (flood_network t) p (shown s)
  pub at_work : p ≡ t.root → s.passive ≡ false

-- the same of the first of them
pub record AreOpeningProcesses (t : Topology) (count : ℕ) (processes : List Process) : Type 0 where
  pub count_is : length processes ≡ count
  pub each : (p : ℕ) → p < count → OpensProcess t p (slice_index_or processes p nobody)

-- one event was made
pub record Runs (old : State) (x : Event) (new : State) : Type 0 where
  pub topology : new.topology ≡ old.topology
  pub happens : Happens (net old) (world old) x (world new)
