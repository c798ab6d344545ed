-- The meaning of bytes that are read without tokens: the lexemes of `json`, and what they give.
use Rattle.std.specs.Prelude.{◌≡◌, ℕ, ◌-◌, ◌<◌, ◌≤◌, List, ◌∷◌, length, drop, get_or, codes, Option, Some, true, Vec}
use Rattle.std.specs.declared.alloc.Global.{Global}
use Rattle.json.specs.Token.{Token, begin_object, begin_array, end_array, string, number}
use Rattle.json.specs.Json.{parse_map}
use Rattle.json.specs.Lex.{Lexeme, token, comma, colon, operator_lexeme, class, operator, between, lex, fresh, after_value, punctuate, tokens}
use Rattle.json.specs.Word.{is_operator}
use Rattle.serde_json.specs.Data.{Items, Members, no_members, put, unsigned, array, object}
use Rattle.serde_json.specs.Read.{number_of, max_depth}
use Rattle.chip_graph.specs.declared.edge.Edge.{Edge}
use Rattle.chip_file.specs.JsonValues.{next_value, ItemsAre, MembersAre}
use Rattle.chip_file.specs.JsonRows.{AreEdgeRows}

-- a byte is a lexeme by itself, also right after a word
abbrev pub IsOperator : ℕ → Type 0
IsOperator byte = (class byte ≡ operator) × (is_operator byte ≡ true)

-- the lexemes from a place in a text on
abbrev pub lexemes_at : List ℕ → ℕ → List Lexeme
lexemes_at text at = lex between (drop at text)

-- the text goes on at `next`, after its place `from`
abbrev pub IsFurther : List ℕ → ℕ → ℕ → Type 0
IsFurther text from next = (from < next) × (next ≤ length text)

-- the next lexeme is that of a byte, and the text goes on after it
pub record IsAfterByte (text : List ℕ) (from byte next : ℕ) : Type 0 where
  pub read : lexemes_at text from ≡ operator_lexeme byte ∷ lexemes_at text next
  pub on : IsFurther text from next

-- the next lexemes are those of the name of the edges, and the text goes on after them
pub record IsAfterName (text : List ℕ) (from next : ℕ) : Type 0 where
  pub read : lexemes_at text from ≡ token (string (codes "edges")) ∷ colon ∷ lexemes_at text next
  pub on : IsFurther text from next

-- digits that write n are the next lexeme, and that of the byte `end` comes after it
pub record IsNumberAt (text : List ℕ) (from end n next : ℕ) : Type 0 where
  pub digits : List ℕ
  pub written : number_of digits ≡ Some (unsigned n)
  pub read : lexemes_at text from ≡ token (number digits) ∷ operator_lexeme end ∷ lexemes_at text next
  pub on : IsFurther text from next

-- the lexemes of a row come next
pub record IsRowAt (text : List ℕ) (from : ℕ) (edge : Edge) (next : ℕ) : Type 0 where
  pub tail : List ℕ
  pub head : List ℕ
  pub mult : List ℕ
  pub tail_written : number_of tail ≡ Some (unsigned edge.tail)
  pub head_written : number_of head ≡ Some (unsigned edge.head)
  pub mult_written : number_of mult ≡ Some (unsigned edge.mult)
  pub read : lexemes_at text from
      ≡ token begin_array ∷ token (number tail) ∷ comma ∷ token (number head) ∷ comma ∷ token (number mult)
      ∷ token end_array ∷ lexemes_at text next
  pub on : IsFurther text from next

-- how deep the rows of a graph file may nest: they are in an array in an object
abbrev pub rows_depth : ℕ
rows_depth = max_depth - 2

-- the rows of an array that was opened come next, and the bracket that closes it
pub record AreRowsAt (most : ℕ) (text : List ℕ) (from : ℕ) (edges : Vec Edge Global) (next : ℕ) : Type 0 where
  pub rows : Items
  pub kept : AreEdgeRows most rows (Some edges)
  pub read : ItemsAre rows_depth (punctuate fresh (lexemes_at text from))
      (Some (rows, punctuate after_value (lexemes_at text next)))
  pub shorter : length (punctuate after_value (lexemes_at text next)) ≤ length (punctuate fresh (lexemes_at text from))
  pub on : IsFurther text from next

-- the lexemes of an object's beginning come first, as far as the bracket that opens its edges
pub record BeginsEdges (text : List ℕ) (next : ℕ) : Type 0 where
  pub read : lexemes_at text 0
      ≡ token begin_object ∷ token (string (codes "edges")) ∷ colon ∷ token begin_array ∷ lexemes_at text next
  pub inside : next ≤ length text

-- after a value the text goes on as one that begins at `next`
pub record GoesOnAs (text : List ℕ) (from next : ℕ) : Type 0 where
  pub read : punctuate after_value (lexemes_at text from) ≡ tokens (drop next text)
  pub inside : next < length text
  pub plain : get_or text next 0 < 128

-- these edges are the first member of the object that a text is, and its other members are the text `others`
pub record HasEdgesBefore (most : ℕ) (text : List ℕ) (edges : Vec Edge Global) (others : List ℕ) : Type 0 where
  pub rows : Items
  pub kept : AreEdgeRows most rows (Some edges)
  pub read : (what : Option (Members × List Token))
      → MembersAre (max_depth - 1) (tokens others) (put (codes "edges") (array rows) no_members) what
      → next_value max_depth (tokens text) ≡ parse_map object what

-- these edges are the first member, and the others begin at `next`
pub record HasEdgesFirst (most : ℕ) (text : List ℕ) (edges : Vec Edge Global) (next : ℕ) : Type 0 where
  pub has : HasEdgesBefore most text edges (drop next text)
  pub inside : next < length text
  pub plain : get_or text next 0 < 128
