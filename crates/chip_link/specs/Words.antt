-- The words that an edge and a vertex share with other threads, and their contents.
use Rattle.std.specs.Prelude.{ℕ, ◌+◌, ◌%◌, ◌^◌, Bool, true, false, not, ◌||◌, ◌==◌, nat_le, if◌then◌else◌}

-- the value of bit 63: an edge is sealed, a vertex is halted
abbrev pub top_bit : Bool → ℕ
top_bit true = 2 ^ 63
top_bit false = 0

-- the value of bit 62: a vertex is halted by its firing limit
abbrev pub limit_bit : Bool → ℕ
limit_bit true = 2 ^ 62
limit_bit false = 0

-- the word of an edge with `claims` messages claimed, sealed or not
abbrev pub edge_word : ℕ → Bool → ℕ
edge_word claims sealed = claims + top_bit sealed

-- the number of claimed messages in an edge word
abbrev pub claims_in : ℕ → ℕ
claims_in word = word % 2 ^ 63

-- whether an edge word is sealed
abbrev pub is_sealed_in : ℕ → Bool
is_sealed_in word = nat_le (2 ^ 63) word

-- the word of a vertex that fired `fired` times, halted or not, by its limit or not
abbrev pub fired_word : ℕ → Bool → Bool → ℕ
fired_word fired halted by_limit = (fired + limit_bit by_limit) + top_bit halted

-- the number of firings in a fired word
abbrev pub fired_in : ℕ → ℕ
fired_in word = word % 2 ^ 62

-- whether a fired word is halted
abbrev pub is_halted_in : ℕ → Bool
is_halted_in word = nat_le (2 ^ 63) word

-- whether bit 62 of a fired word is set: the limit was the cause of the halt
abbrev pub is_by_limit_in : ℕ → Bool
is_by_limit_in word = nat_le (2 ^ 62) (word % 2 ^ 63)

-- a valid word of a vertex: the limit is a cause only if there is a halt
abbrev pub is_fired_word : ℕ → Bool
is_fired_word word = is_halted_in word || not (is_by_limit_in word)

-- the bits that a halt sets in a fired word, by its cause
abbrev pub halt_bits : Bool → ℕ
halt_bits true = 2 ^ 63 + 2 ^ 62
halt_bits false = 2 ^ 63

-- the word after a compare-and-exchange
abbrev pub word_after_exchange : ℕ → ℕ → ℕ → ℕ
word_after_exchange expected new word = if word == expected then new else word
