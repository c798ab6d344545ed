-- The effects of atomic operations on the words of an edge and of a vertex, by the contents of the words. Additions and
-- set bits are stated twice: for the word of given contents, and for any word that is read.
use Rattle.std.specs.Prelude.{◌≡◌, ℕ, ◌+◌, ◌^◌, ◌<◌, Bool, true, false, if◌then◌else◌, bit_or, ◌↔◌}
use Rattle.chip_link.specs.Words.{edge_word, claims_in, is_sealed_in, fired_word, fired_in, is_halted_in}
use Rattle.chip_link.specs.Words.{is_by_limit_in, word_after_exchange}

-- the word of an edge is read as these claims and this seal
pub record ReadsAs (word claims : ℕ) (sealed : Bool) : Type 0 where
  pub claims_are : claims_in word ≡ claims
  pub seal_is : is_sealed_in word ≡ sealed

-- a word is read as the contents that it was made of
abbrev pub EdgeWordReads : Type 0
EdgeWordReads = (claims : ℕ) (sealed : Bool) → claims < 2 ^ 63 → (edge_word claims sealed < 2 ^ 64)
    × ReadsAs (edge_word claims sealed) claims sealed

-- and every word is the one of its contents as read
abbrev pub EdgeWordStands : Type 0
EdgeWordStands = (word : ℕ) → word < 2 ^ 64
    → (claims_in word < 2 ^ 63) × (edge_word (claims_in word) (is_sealed_in word) ≡ word)

-- a number that is added is added to the claims
abbrev pub AddsClaims : Type 0
AddsClaims = (claims more : ℕ) (sealed : Bool) → edge_word claims sealed + more ≡ edge_word (claims + more) sealed

-- the same of a word that is read, if no claim overflows into the seal's bit
abbrev pub AddedReads : Type 0
AddedReads = (word more : ℕ) → word < 2 ^ 64 → claims_in word + more < 2 ^ 63
    → ReadsAs (word + more) (claims_in word + more) (is_sealed_in word)

-- setting the seal's bit seals and leaves the claims
abbrev pub SealsWord : Type 0
SealsWord = (claims : ℕ) (sealed : Bool) → claims < 2 ^ 63
    → bit_or (edge_word claims sealed) (2 ^ 63) ≡ edge_word claims true

-- the same of a word that is read
abbrev pub SealedReads : Type 0
SealedReads = (word : ℕ) → word < 2 ^ 64 → ReadsAs (bit_or word (2 ^ 63)) (claims_in word) true

-- the exchange of `claims` for one more succeeds if the edge isn't sealed, and else leaves the word
abbrev pub ExchangesWord : Type 0
ExchangesWord = (claims : ℕ) (sealed : Bool)
    → word_after_exchange claims (claims + 1) (edge_word claims sealed)
    ≡ edge_word (if sealed then claims else claims + 1) sealed

-- the word is the expected one exactly if the edge isn't sealed
abbrev pub ExpectsUnsealed : Type 0
ExpectsUnsealed = (claims : ℕ) (sealed : Bool) → (edge_word claims sealed ≡ claims) ↔ (sealed ≡ false)

-- the word of a vertex is read as these firings and this halt
pub record ReadsAsFired (word fired : ℕ) (halted by_limit : Bool) : Type 0 where
  pub fired_is : fired_in word ≡ fired
  pub halt_is : is_halted_in word ≡ halted
  pub cause_is : is_by_limit_in word ≡ by_limit

-- a word is read as the contents that it was made of
abbrev pub FiredWordReads : Type 0
FiredWordReads = (fired : ℕ) (halted by_limit : Bool) → fired < 2 ^ 62 → (fired_word fired halted by_limit < 2 ^ 64)
    × ReadsAsFired (fired_word fired halted by_limit) fired halted by_limit

-- and every word is the one of its contents as read
abbrev pub FiredWordStands : Type 0
FiredWordStands = (word : ℕ) → word < 2 ^ 64
    → (fired_in word < 2 ^ 62) × (fired_word (fired_in word) (is_halted_in word) (is_by_limit_in word) ≡ word)

-- a number that is added is added to the firings
abbrev pub AddsFirings : Type 0
AddsFirings = (fired more : ℕ) (halted by_limit : Bool)
    → fired_word fired halted by_limit + more ≡ fired_word (fired + more) halted by_limit

-- the same of a word that is read, if no firing overflows into the bits above
abbrev pub AddedFiringsRead : Type 0
AddedFiringsRead = (word more : ℕ) → word < 2 ^ 64 → fired_in word + more < 2 ^ 62
    → ReadsAsFired (word + more) (fired_in word + more) (is_halted_in word) (is_by_limit_in word)

-- setting the halt's bit halts and leaves the rest
abbrev pub HaltsWord : Type 0
HaltsWord = (fired : ℕ) (halted by_limit : Bool) → fired < 2 ^ 62
    → bit_or (fired_word fired halted by_limit) (2 ^ 63) ≡ fired_word fired true by_limit

-- the same of a word that is read
abbrev pub HaltReads : Type 0
HaltReads = (word : ℕ) → word < 2 ^ 64 → ReadsAsFired (bit_or word (2 ^ 63)) (fired_in word) true (is_by_limit_in word)

-- setting both bits halts by the limit and leaves the firings
abbrev pub HaltsByLimit : Type 0
HaltsByLimit = (fired : ℕ) (halted by_limit : Bool) → fired < 2 ^ 62
    → bit_or (fired_word fired halted by_limit) (2 ^ 63 + 2 ^ 62) ≡ fired_word fired true true

-- the same of a word that is read
abbrev pub HaltByLimitReads : Type 0
HaltByLimitReads = (word : ℕ) → word < 2 ^ 64 → ReadsAsFired (bit_or word (2 ^ 63 + 2 ^ 62)) (fired_in word) true true
