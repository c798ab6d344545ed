-- The words that a running game shares: the word of an event's operation, what the operation leaves there, and the
-- contents of all words for a log.
use Rattle.std.specs.Prelude.{◌≡◌, ◌≢◌, ℕ, ◌+◌, ◌-◌, ◌%◌, ◌^◌, ◌<◌, ◌∷◌, length, sum, option_to_list, bit_or, None}
use Rattle.chip_link.specs.Link.{WordsShow, claims_of}
use Rattle.chip_link.specs.Words.{word_after_exchange}
pub use Rattle.chip_link.specs.Words.{halt_bits}
use Rattle.chip_part.specs.Setting.{Setting}
use Rattle.chip_part.specs.Part.{may_ack_on, cause, is_by_limit}
use Rattle.chip_part.specs.Steps.{saw}
use Rattle.chip_core.specs.Core.{Log, Event, Take, Ack, Fire, Clear, Claim, Put, Halt, Settle, Seal, Read, Feed, End}
use Rattle.chip_core.specs.Core.{Part, unmet_rule, root_edge, part_of, part_in, out_in, into_in, stop_in, word_of_part}
use Rattle.chip_core.specs.Core.{sees, all_edges, head_of}
use Rattle.chip_core.specs.Laws.{ForEveryLog}

-- a word, by its use: the edge word and the acknowledgements of an edge, a cell of its ring, and the fired word of a
-- vertex
pub data Word : Type 0 where
  of_edge : ℕ → Word
  of_acks : ℕ → Word
  of_cell : ℕ → ℕ → Word
  of_vertex : ℕ → Word

-- there is such a word
abbrev pub IsWord : Setting → Word → Type 0
IsWord g (of_edge e) = e < all_edges g
IsWord g (of_acks e) = e < all_edges g
IsWord g (of_cell e i) = (e < all_edges g) × (i < g.ring)
IsWord g (of_vertex v) = v < g.game.graph.vertices

-- the word of an event's operation, by the part that makes it
abbrev pub word_of_event : Setting → Event → Part → Word
word_of_event g (Take e) s = of_cell e (length (s.into e).got % g.ring)
word_of_event g (Ack e) s = of_acks e
word_of_event g (Fire v k) s = of_vertex v
word_of_event g (Clear e) s = of_cell e (claims_of (s.out e).link % g.ring)
word_of_event g (Claim e) s = of_edge e
word_of_event g (Put e) s = of_cell e ((claims_of (s.out e).link - 1) % g.ring)
word_of_event g (Halt v) s = of_vertex v
word_of_event g (Settle e) s = of_acks e
word_of_event g (Seal e) s = of_edge e
word_of_event g (Read v) s = of_vertex v
word_of_event g (Feed e k) s = of_edge e
word_of_event g End s = of_acks (root_edge g 0)

-- what it leaves there, if n was found: addition is modulo 2 ^ 64
abbrev pub left_by : Setting → Event → Part → ℕ → ℕ
left_by g (Take e) s n = 0
left_by g (Ack e) s n = (n + may_ack_on g (head_of g e) s e) % 2 ^ 64
left_by g (Fire v k) s n = (n + k) % 2 ^ 64
left_by g (Clear e) s n = n
left_by g (Claim e) s n = word_after_exchange (claims_of (s.out e).link) (claims_of (s.out e).link + 1) n
left_by g (Put e) s n = sum (option_to_list (s.out e).link.held)
left_by g (Halt v) s n = bit_or n (halt_bits (is_by_limit (cause g v s)))
left_by g (Settle e) s n = n
left_by g (Seal e) s n = bit_or n (2 ^ 63)
left_by g (Read v) s n = n
left_by g (Feed e k) s n = word_after_exchange (claims_of (s.out e).link) (claims_of (s.out e).link + 1) n
left_by g End s n = n

-- what is noted as seen, if n was found: a store sees nothing
abbrev pub word_to_note : Event → ℕ → ℕ
word_to_note (Put e) n = 0
word_to_note _ n = n

-- the words show the edges and the vertices after this log
pub record IsShown (g : Setting) (log : Log) (value : Word → ℕ) : Type 0 where
  -- the edge word is the claims and the seal; a cell has a count exactly if its message is put and not taken
  pub edges : (e : ℕ) → e < all_edges g
      → WordsShow g.ring (value (of_edge e)) (λ i. value (of_cell e i)) (out_in g log e).link (into_in g log e).got
      (stop_in g log e)
  -- the word of acknowledgements is the number that the head acknowledged
  pub acks : (e : ℕ) → e < all_edges g → value (of_acks e) ≡ (into_in g log e).acked
  -- the fired word is the firing count, the halt and its cause
  pub fired : (v : ℕ) → v < g.game.graph.vertices → value (of_vertex v) ≡ word_of_part (part_in g log v)

-- the part that makes an event, after this log
abbrev pub acting_part : Setting → Log → Event → Part
acting_part g log x = part_in g log (part_of g x)

-- an operation finds what its event sees, in a word that exists
abbrev pub OperationsFind : Type 0
OperationsFind = ForEveryLog (λ g log. (value : Word → ℕ) → IsShown g log value → (x : Event)
    → unmet_rule g x (acting_part g log x) ≡ None
    → IsWord g (word_of_event g x (acting_part g log x))
    × (word_to_note x (value (word_of_event g x (acting_part g log x))) ≡ sees g log x))

-- the operation of an event changes one word, and every other is unchanged
pub record IsLeft (g : Setting) (log : Log) (x : Event) (old new : Word → ℕ) : Type 0 where
  pub here : new (word_of_event g x (acting_part g log x))
      ≡ left_by g x (acting_part g log x) (old (word_of_event g x (acting_part g log x)))
  pub others : (w : Word) → IsWord g w → w ≢ word_of_event g x (acting_part g log x) → new w ≡ old w

-- the words after it show the log extended by the event
abbrev pub WordsGoOn : Type 0
WordsGoOn = ForEveryLog (λ g log. (old new : Word → ℕ) → IsShown g log old → (x : Event)
    → unmet_rule g x (acting_part g log x) ≡ None → IsLeft g log x old new
    → IsShown g (saw x (sees g log x) ∷ log) new)
