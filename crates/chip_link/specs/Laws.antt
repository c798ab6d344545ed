-- The theorems on one edge, as the contract of `laws::one_edge` states them.
use Rattle.std.specs.Prelude.{◌≡◌, ℕ, ◌<◌, List, ◌∷◌, ◌++◌, length, slice_get, Some, is_some}
use Rattle.chip_link.specs.declared.message.Message.{Message}
use Rattle.chip_link.specs.Words.{edge_word}
use Rattle.chip_link.specs.Edge.{LiveEdge, EdgeStep, Seal, new_edge, steps}

-- xs is a prefix of ys
abbrev pub IsPrefix : {A : Type 0} → List A → List A → Type 0
IsPrefix {A} xs ys = (rest : List A) × (xs ++ rest ≡ ys)

-- messages of one edge with the places 0, 1, 2 and so on
abbrev pub AreInOrder : ℕ → List Message → Type 0
AreInOrder edge ms = (p : ℕ) (m : Message) → slice_get ms p ≡ Some m → (m.edge ≡ edge) × (m.place ≡ p)

-- for all steps on a new edge, with any ring
abbrev pub AfterAllSteps : (ℕ → LiveEdge → Type 0) → Type 0
AfterAllSteps P = (edge ring : ℕ) → 0 < ring → (xs : List EdgeStep) → P edge (steps xs (new_edge edge ring))

-- what was taken is a prefix of what was claimed, places and counts alike
abbrev pub TakesPrefix : Type 0
TakesPrefix = AfterAllSteps (λ edge s. IsPrefix s.taken s.claimed)

-- what was claimed has the places in order, so no message is there twice
abbrev pub ClaimsInOrder : Type 0
ClaimsInOrder = AfterAllSteps (λ edge s. AreInOrder edge s.claimed)

-- after a seal nothing is claimed
abbrev pub NothingAfterSeal : Type 0
NothingAfterSeal = (edge ring : ℕ) → 0 < ring → (xs ys : List EdgeStep)
    → (steps (xs ++ Seal ∷ ys) (new_edge edge ring)).claimed ≡ (steps xs (new_edge edge ring)).claimed

-- the edge word has the number of claimed messages, as the tail counts them, and whether there was a seal
abbrev pub WordTells : Type 0
WordTells = AfterAllSteps (λ edge s. (s.word ≡ edge_word (length s.claimed) (is_some s.stop))
    × (s.tail.claims ≡ length s.claimed))

-- the number that the first seal saw is that of all messages ever claimed
abbrev pub SealsAllClaims : Type 0
SealsAllClaims = AfterAllSteps (λ edge s. (first : ℕ) → s.stop ≡ Some first → first ≡ length s.claimed)
