-- Serves JsonParts.antt.
-- The value of a whole text.
use Rattle.chip_file.proofs.JsonNames.{◌≡◌, ℕ, Bool, true, false, List, [], ◌∷◌, Option, Some, None, option_and_then, refl}
use Rattle.chip_file.proofs.JsonNames.{ap, ◌∙◌, IsUtf8, if◌then◌else◌, is_utf8, Token, tokens, if_last, value, Data}
use Rattle.chip_file.proofs.JsonNames.{of_json, converted, read, max_depth, next_value, json_of}
use Rattle.std.proofs.lemmas.Str.{IsUtf8-from_is_utf8, is_utf8-from_IsUtf8}
use Rattle.json.specs.Json as json
use Rattle.chip_file.proofs.Turns.{some_of, refused}

abbrev whole : Option (json.Json × List Token) → Option Data
whole o = option_and_then of_json (option_and_then (λ p. if_last p.0 p.1) o)

whole_read : (o : Option (json.Json × List Token)) (d : Data) → converted of_json o ≡ Some (d, []) → whole o ≡ Some d
whole_read o d e = let j = some_of of_json o d [] e in ap whole j.1 ∙ j.2

whole_more : (o : Option (json.Json × List Token)) (d : Data) (t : Token) (r : List Token)
    → converted of_json o ≡ Some (d, t ∷ r) → whole o ≡ None
whole_more o d t r e = ap whole (some_of of_json o d (t ∷ r) e).1

whole_refused : (o : Option (json.Json × List Token)) → converted of_json o ≡ None → whole o ≡ None
whole_refused None e = refl
whole_refused (Some (j, [])) e = refused [] (of_json j) e
whole_refused (Some (j, t ∷ r)) e = refl

if_utf8 : (b : Bool) (o : Option Data) → o ≡ None → (if b then o else None) ≡ None
if_utf8 true o e = e
if_utf8 false o e = refl

pub text_read : (text : List ℕ) (d : Data) → IsUtf8 text → next_value max_depth (tokens text) ≡ Some (d, [])
    → json_of text ≡ Some d
text_read text d utf8 e = rw (is_utf8-from_IsUtf8 text utf8) (whole_read (value max_depth (tokens text)) d e)

pub text_more : (text : List ℕ) (d : Data) (t : Token) (r : List Token) → next_value max_depth (tokens text)
    ≡ Some (d, t ∷ r) → json_of text ≡ None
text_more text d t r e = if_utf8 (is_utf8 text) (read text) (whole_more (value max_depth (tokens text)) d t r e)

pub text_refused : (text : List ℕ) → next_value max_depth (tokens text) ≡ None → json_of text ≡ None
text_refused text e = if_utf8 (is_utf8 text) (read text) (whole_refused (value max_depth (tokens text)) e)

no_utf8_by : (text : List ℕ) (b : Bool) → is_utf8 text ≡ b → (IsUtf8 text → ⊥)
    → (if b then read text else None) ≡ None
no_utf8_by text true e other = absurd (other (IsUtf8-from_is_utf8 text e))
no_utf8_by text false e other = refl

pub no_utf8 : (text : List ℕ) → (IsUtf8 text → ⊥) → json_of text ≡ None
no_utf8 text other = no_utf8_by text (is_utf8 text) refl other
