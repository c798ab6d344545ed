-- What calls on a handle return.
use Rattle.std.specs.Prelude.{◌≡◌, ℕ, Bool, List, length, Option, Some, None, Result, Ok, Err}
use Rattle.chip_library.specs.declared.edges.EdgeLists.{EdgeLists}
use Rattle.chip_library.specs.declared.fault.CallFault.{CallFault}
use Rattle.chip_library.specs.declared.fault.CallFault.TheVariants.{Lengths, NoPile}
use Rattle.chip_library.specs.KeptGames.{KeptGame, MakesPile, Rows, DropsEach, bytes_on}
use Rattle.chip_library.specs.Measures.{Measures, MeasuresEach}
use Rattle.chip_library.specs.GroupCalls.{DrawsOn}

-- 1 if there is a pile
abbrev pub number_of_piles : Option KeptGame → ℕ
number_of_piles None = 0
number_of_piles (Some k) = 1

-- what making a pile returns: a pile at the start of the game, in place of the one there; or the first fault, and
-- nothing changes
abbrev pub MakesNew : EdgeLists → ℕ → List ℕ → (old new : Option KeptGame) → Result (Unit {0}) CallFault → Type 0
MakesNew lists limit chips old new (Ok done) = (k : KeptGame) × (new ≡ Some k) × MakesPile lists limit chips (Ok k)
MakesNew lists limit chips old new (Err fault) = (new ≡ old) × MakesPile lists limit chips (Err fault)

-- what a call on a pile returns: that there is none, and none is made; or what it does to the pile
abbrev pub OnPile : {T : Type 0} → (KeptGame → KeptGame → Result T CallFault → Type 0) → (old new : Option KeptGame)
    → Result T CallFault → Type 0
OnPile does None new told = (new ≡ None) × (told ≡ Err NoPile)
OnPile does (Some k) new told = (k' : KeptGame) × (new ≡ Some k') × does k k' told

-- what a call that writes returns: that there is no pile, and nothing is written; or what it does to the pile
abbrev pub WritesOn : {T W : Type 0} → ((old new : KeptGame) → (before after : W) → Result T CallFault → Type 0)
    → (old new : Option KeptGame) → (before after : W) → Result T CallFault → Type 0
WritesOn does None new before after told = (new ≡ None) × (after ≡ before) × (told ≡ Err NoPile)
WritesOn does (Some k) new before after told = (k' : KeptGame) × (new ≡ Some k') × does k k' before after told

-- what many drops on a pile return
abbrev pub DropsOn : (old new : Option KeptGame) → (at amounts : List ℕ) → (before after : Rows)
    → Result (Unit {0}) CallFault → Type 0
DropsOn old new at amounts =
    WritesOn {T = Unit {0}} {W = Rows} (λ k k' before after told. DropsEach k k' at amounts before after told) old new

-- what measuring many drops on a pile returns
abbrev pub MeasuresOn : (old new : Option KeptGame) → (at amounts : List ℕ) → (loses : Bool) → (marks : List ℕ)
    → (before after : Measures) → Result ℕ CallFault → Type 0
MeasuresOn old new at amounts loses marks = WritesOn {T = ℕ} {W = Measures}
    (λ k k' before after told. MeasuresEach k k' at amounts loses marks before after told) old new

-- what a copy returns: these numbers, if the slice has the same length; else a fault, and nothing is written
abbrev pub Copies : List ℕ → (old new : List ℕ) → Result (Unit {0}) CallFault → Type 0
Copies numbers old new (Ok done) = new ≡ numbers
Copies numbers old new (Err fault) = (new ≡ old) × (fault ≡ Lengths) × (length old ≡ length numbers → ⊥)

-- what a call that leaves the pile unchanged returns: that there is none, and nothing is written; or what it writes
abbrev pub ReadsOf : (KeptGame → (old new : List ℕ) → Result (Unit {0}) CallFault → Type 0)
    → (handle handle' : Option KeptGame) → (old new : List ℕ) → Result (Unit {0}) CallFault → Type 0
ReadsOf does None handle' old new told = (handle' ≡ None) × (new ≡ old) × (told ≡ Err NoPile)
ReadsOf does (Some k) handle' old new told = (handle' ≡ Some k) × does k old new told

-- what a copy of a pile's numbers returns
abbrev pub CopiesOf : (KeptGame → List ℕ) → (handle handle' : Option KeptGame) → (old new : List ℕ)
    → Result (Unit {0}) CallFault → Type 0
CopiesOf numbers = ReadsOf (λ k. Copies (numbers k))

-- what drawing these rows of configurations of a pile's graph returns
abbrev pub DrawsOf : ℕ → (handle handle' : Option KeptGame) → (old new : List ℕ) → Result (Unit {0}) CallFault → Type 0
DrawsOf rows = ReadsOf (λ k. DrawsOn k.pile.game.graph rows)

-- its chips, by vertex
abbrev pub chips_on : KeptGame → List ℕ
chips_on k = k.pile.chips.items

-- how often each vertex has fired, by vertex
abbrev pub firings_on : KeptGame → List ℕ
firings_on k = k.pile.fired.items

-- the number of bytes in the arrays of a pile, 0 if there is none
abbrev pub bytes_held : Option KeptGame → ℕ
bytes_held None = 0
bytes_held (Some k) = bytes_on k.pile.game.graph
