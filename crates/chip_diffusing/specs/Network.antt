-- A network of processes that send to one another, and one of them that starts.
use Rattle.std.specs.Prelude.{◌≡◌, ◌≢◌, ℕ, ◌<◌, List, Contains}

-- processes and edges are numbers, from 0. Each edge leads from its tail to its head
pub record Network : Type 0 where
  pub parts : ℕ
  pub edges : ℕ
  pub tail : ℕ → ℕ
  pub head : ℕ → ℕ
  pub root : ℕ

-- both ends of each edge are processes, and no edge leads to the root
pub record IsNetwork (net : Network) : Type 0 where
  pub root : net.root < net.parts
  pub tails : (e : ℕ) → e < net.edges → net.tail e < net.parts
  pub heads : (e : ℕ) → e < net.edges → net.head e < net.parts
  pub none_to_root : (e : ℕ) → e < net.edges → net.head e ≢ net.root

abbrev pub IsInto : Network → ℕ → ℕ → Type 0
IsInto net p e = (e < net.edges) × (net.head e ≡ p)

abbrev pub IsOutOf : Network → ℕ → ℕ → Type 0
IsOutOf net p e = (e < net.edges) × (net.tail e ≡ p)

-- all edges of this kind, and no others, in any order
pub record AreAll (es : List ℕ) (Is : ℕ → Type 0) : Type 0 where
  pub all : (e : ℕ) → Is e → Contains es e
  pub none_else : (e : ℕ) → Contains es e → Is e
