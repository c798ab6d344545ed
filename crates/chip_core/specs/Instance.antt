-- The core of a running game as a diffusing computation (`chip_diffusing`).
use Rattle.std.specs.Prelude.{◌≡◌, ℕ, ◌+◌, ◌<◌, ◌==◌, nat_lt, Bool, true, if◌then◌else◌, ◌∷◌, length}
use Rattle.chip_graph.specs.ChipGame.{IsGame}
use Rattle.chip_link.specs.Link.{claims_of}
use Rattle.chip_part.specs.Setting.{Setting}
use Rattle.chip_part.specs.Part.{Part, is_passive}
use Rattle.chip_part.specs.Edges.{tail_of, head_of, all_edges, root, stopper}
use Rattle.chip_core.specs.Core.{Log, Step, IsLegalLog, part_in}
use Rattle.chip_diffusing.specs.Network.{Network, IsNetwork}
use Rattle.chip_diffusing.specs.Computation as diffusing

-- the vertices, the root and the stopper are the parts. The stopper has no edges
abbrev pub network_of : Setting → Network
network_of g = record { parts = stopper g + 1; edges = all_edges g; tail = tail_of g; head = head_of g; root = root g }

-- a vertex is passive by the core's definition. The root is passive once feeding has ended, and the stopper always
abbrev pub passive_of : Setting → ℕ → Part → Bool
passive_of g p s = if nat_lt p (root g) then is_passive g p s else if p == root g then s.ended else true

-- the world has these parts. The books of each part have its parent, and the counts of its edges. A message counts as
-- sent once its place is claimed
pub record Shows (g : Setting) (parts : ℕ → Part) (w : diffusing.World) : Type 0 where
  pub sent : (e : ℕ) → e < all_edges g → diffusing.sent_on (network_of g) w e ≡ claims_of ((parts (tail_of g e)).out e).link
  pub settled : (e : ℕ) → e < all_edges g → diffusing.settled_on (network_of g) w e ≡ ((parts (tail_of g e)).out e).settled
  pub got : (e : ℕ) → e < all_edges g → diffusing.got_on (network_of g) w e ≡ length ((parts (head_of g e)).into e).got
  pub acked : (e : ℕ) → e < all_edges g → diffusing.acked_on (network_of g) w e ≡ ((parts (head_of g e)).into e).acked
  pub parent : (p : ℕ) → (w p).books.parent ≡ (parts p).parent
  pub passive : (p : ℕ) → (w p).passive ≡ passive_of g p (parts p)

-- each log of the core is a log of this network, and its world has the parts. A step is one event, from the world
-- before it to the world after it
pub record Diffuses (g : Setting) : Type 0 where
  pub events : Log → diffusing.Log
  pub world : Log → diffusing.World
  pub shows : (log : Log) → Shows g (part_in g log) (world log)
  pub legal : (log : Log) → IsLegalLog g log → diffusing.IsLegalLog (network_of g) (events log) (world log)
  pub goes_on : (x : Step) (log : Log) → IsLegalLog g (x ∷ log) → (event : diffusing.Event)
      × (events (x ∷ log) ≡ event ∷ events log) × diffusing.Happens (network_of g) (world log) event (world (x ∷ log))

-- this holds of every game within the limits and every ring with a cell
abbrev pub CoreDiffuses : Type 0
CoreDiffuses = (g : Setting) → IsGame g.game → 0 < g.ring → IsNetwork (network_of g) × Diffuses g
