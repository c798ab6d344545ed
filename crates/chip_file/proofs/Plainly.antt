-- Serves JsonPlain.antt.
-- What the lexemes of a graph file that is written plainly give.
use Rattle.chip_file.proofs.JsonNames.{◌≡◌, ℕ, ◌+◌, ◌-◌, ◌<◌, ◌≤◌, Bool, true, false, List, [], ◌∷◌, ◌++◌, length}
use Rattle.chip_file.proofs.JsonNames.{length-drop, drop, nat_eq, Option, Some, None, refl, sym, ap, ◌∙◌, arith, Vec}
use Rattle.chip_file.proofs.JsonNames.{Global, false≢true, Decides-eqb, drop-drop, starts_is, starts_with, codes, Token}
use Rattle.chip_file.proofs.JsonNames.{begin_object, begin_array, end_object, end_array, key, string, after_end_array}
use Rattle.chip_file.proofs.JsonNames.{content, plain, Lexeme, token, comma, colon, string_token, lex, between, in_string}
use Rattle.chip_file.proofs.JsonNames.{Place, fresh, after_value, after_comma, after_key, may_begin, begins_colon}
use Rattle.chip_file.proofs.JsonNames.{place_token, punctuate, tokens, Data, array, unsigned, no_items, item}
use Rattle.chip_file.proofs.JsonNames.{no_members, number_of, max_depth, Edge, edge_of_row}
use Rattle.chip_file.proofs.JsonNames.{next_value, ItemsAre, lexemes_at, IsRowAt, AreRowsAt, IsAfterName, BeginsEdges}
use Rattle.chip_file.proofs.JsonNames.{GoesOnAs, HasEdgesBefore, HasEdgesFirst, rows_depth}
use Rattle.json.specs.Token.{number}
use Rattle.serde_json.specs.Data as value
use Rattle.chip_file.proofs.Turns.{item_read, items_over, number_read, array_read, object_read, member_read}

-- ---- a row

row_tokens : (p : Place) (a b c : List ℕ) (ls : List Lexeme) → may_begin p ≡ true
    → punctuate p (token begin_array ∷ token (number a) ∷ comma ∷ token (number b) ∷ comma ∷ token (number c)
    ∷ token end_array ∷ ls)
    ≡ begin_array ∷ number a ∷ number b ∷ number c ∷ end_array ∷ punctuate after_value ls
unfolding punctuate
row_tokens fresh a b c ls e = refl
row_tokens after_value a b c ls e = absurd (false≢true e)
row_tokens after_comma a b c ls e = refl
row_tokens after_key a b c ls e = absurd (false≢true e)

-- the value that a row of an edge is
abbrev pub row_of : Edge → Data
row_of edge = array (item (value.number (unsigned edge.tail)) (item (value.number (unsigned edge.head))
    (item (value.number (unsigned edge.mult)) no_items)))

pub row_is_edge : (edge : Edge) → edge_of_row (row_of edge) ≡ Some edge
row_is_edge edge = refl

numbers_read : (depth x y z : ℕ) (a b c : List ℕ) (r : List Token) → Some (unsigned x) ≡ number_of a
    → Some (unsigned y) ≡ number_of b → Some (unsigned z) ≡ number_of c
    → ItemsAre depth (number a ∷ number b ∷ number c ∷ end_array ∷ r)
    (Some (item (value.number (unsigned x)) (item (value.number (unsigned y)) (item (value.number (unsigned z)) no_items)), r))
numbers_read depth x y z a b c r p q s =
    item_read depth (number a ∷ number b ∷ number c ∷ end_array ∷ r) _ _ refl (number_read depth _ a _ p) (omega arith) _
    (item_read depth (number b ∷ number c ∷ end_array ∷ r) _ _ refl (number_read depth _ b _ q) (omega arith) _
    (item_read depth (number c ∷ end_array ∷ r) _ _ refl (number_read depth _ c _ s) (omega arith) _
    (items_over depth (end_array ∷ r) r refl)))

-- what the tokens of a row are, wherever a value may begin
pub record RowTokens (text : List ℕ) (from : ℕ) (edge : Edge) (next : ℕ) (place : Place) : Type 0 where
  pub going : after_end_array (punctuate place (lexemes_at text from)) ≡ None
  pub is : next_value rows_depth (punctuate place (lexemes_at text from))
      ≡ Some (row_of edge, punctuate after_value (lexemes_at text next))
  pub shorter : length (punctuate after_value (lexemes_at text next)) < length (punctuate place (lexemes_at text from))

pub row_read : (text : List ℕ) (from : ℕ) (edge : Edge) (next : ℕ) (p : Place) → may_begin p ≡ true
    → IsRowAt text from edge next → RowTokens text from edge next p
row_read text from edge next p may row =
    let r = punctuate after_value (lexemes_at text next) in
    let are = ap (punctuate p) row.read ∙ row_tokens p row.tail row.head row.mult (lexemes_at text next) may in
    let inner = numbers_read (rows_depth - 1) edge.tail edge.head edge.mult row.tail row.head row.mult r
    (sym row.tail_written) (sym row.head_written) (sym row.mult_written) in
    record {
      going = ap after_end_array are;
      is = ap (next_value rows_depth) are ∙ array_read rows_depth _ _ (omega arith) inner;
      shorter = omega (arith, ap length are);
    }

pub after_comma_read : (ls rest : List Lexeme) → ls ≡ comma ∷ rest → punctuate after_value ls ≡ punctuate after_comma rest
unfolding punctuate
after_comma_read ls rest e = ap (punctuate after_value) e

pub end_read : (ls rest : List Lexeme) → ls ≡ token end_array ∷ rest
    → punctuate after_value ls ≡ end_array ∷ punctuate after_value rest
unfolding punctuate
end_read ls rest e = ap (punctuate after_value) e

-- ---- the name of the edges

-- the bytes of the name of the edges, and of the colon after it
abbrev pub edges_name : List ℕ
edges_name = 34 ∷ 101 ∷ 100 ∷ 103 ∷ 101 ∷ 115 ∷ 34 ∷ 58 ∷ []

name_lexemes : (rest : List ℕ) → lex between (edges_name ++ rest) ≡ token (string (codes "edges")) ∷ colon ∷ lex between rest
unfolding lex content
name_lexemes rest = refl

pub name_read : (text all : List ℕ) (from at : ℕ) (r : Bool) → all ≡ drop at text → at ≤ length text
    → from ≤ at → lexemes_at text at ≡ lexemes_at text from → r ≡ starts_with nat_eq all edges_name → r ≡ true
    → IsAfterName text from (at + 8)
name_read text all from at r same inside after blanks tested found =
    let rest = drop at text in
    let is : all ≡ edges_name ++ drop 8 all = (starts_is Decides-eqb all edges_name r tested).0 found in
    let on : drop 8 all ≡ drop (at + 8) text = ap (drop 8) same ∙ drop-drop 8 at text in
    let long : length all + at ≡ length text = omega (arith, ap length same, length-drop at text) in
    record {
      read = sym blanks ∙ ap (lex between) (sym same ∙ is) ∙ name_lexemes (drop 8 all)
          ∙ ap (λ r. token (string (codes "edges")) ∷ colon ∷ lex between r) on;
      on = (omega arith, omega (arith, long, ap length is));
    }

-- ---- what follows a value

same_string : (o : Option (List ℕ)) (ls : List Lexeme)
    → punctuate after_comma (token (string_token o) ∷ ls) ≡ punctuate fresh (token (string_token o) ∷ ls)
unfolding punctuate
same_string None ls = refl
same_string (Some s) ls = by (begins_colon ls)
  where
    by : (b : Bool) → place_token after_comma (string s) b (λ next. punctuate next ls)
        ≡ place_token fresh (string s) b (λ next. punctuate next ls)
    by true = refl
    by false = refl

pub quote_goes_on : (text rest : List ℕ) → text ≡ 34 ∷ rest → punctuate after_comma (lex between text) ≡ tokens text
unfolding lex
quote_goes_on text rest e =
    ap (λ t. punctuate after_comma (lex between t)) e ∙ same_string (content plain rest) (lex in_string rest)
    ∙ ap tokens (sym e)

pub brace_goes_on : (ls rest : List Lexeme) → ls ≡ token end_object ∷ rest
    → punctuate after_value ls ≡ punctuate fresh ls
unfolding punctuate
brace_goes_on ls rest e = ap (punctuate after_value) e ∙ sym (ap (punctuate fresh) e)

-- ---- the first member

edges_tokens : (ls : List Lexeme) → punctuate fresh (token begin_object ∷ token (string (codes "edges")) ∷ colon
    ∷ token begin_array ∷ ls)
    ≡ begin_object ∷ key (codes "edges") ∷ begin_array ∷ punctuate fresh ls
unfolding punctuate
edges_tokens ls = refl

pub edges_first : {most : ℕ} (text : List ℕ) (start end next : ℕ) (edges : Vec Edge Global) → BeginsEdges text start
    → AreRowsAt most text start edges end → GoesOnAs text end next → HasEdgesFirst most text edges next
edges_first {most = most} text start end next edges first rows on =
    let behind = tokens (drop next text) in
    let inner = punctuate fresh (lexemes_at text start) in
    let s = begin_array ∷ inner in
    let ts = key (codes "edges") ∷ s in
    let are : tokens text ≡ begin_object ∷ ts = ap (punctuate fresh) first.read ∙ edges_tokens (lexemes_at text start) in
    let value : next_value (max_depth - 1) s ≡ Some (array rows.rows, behind) =
    array_read (max_depth - 1) inner _ (omega arith) rows.read ∙ ap (λ r. Some (array rows.rows, r)) on.read in
    let less : length behind < length ts = omega (arith, rows.shorter, ap length on.read) in
    let has : HasEdgesBefore most text edges (drop next text) = record {
      rows = rows.rows;
      kept = rows.kept;
      read = λ what later. ap (next_value max_depth) are ∙ object_read max_depth ts what (omega arith)
          (member_read (max_depth - 1) no_members (codes "edges") ts s behind (array rows.rows) refl value less what later);
    } in
    record { has = has; inside = on.inside; plain = on.plain }
