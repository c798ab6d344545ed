-- Serves Rows.antt.
-- The shape of a value that begins with a token.
use Rattle.chip_file.proofs.JsonNames.{◌≡◌, ℕ, List, ◌∷◌, Option, Some, None, option_map, refl, sym, ap, ◌∙◌, Bor, Bool}
use Rattle.chip_file.proofs.JsonNames.{Token, parse_map, value, token_of, value_is, Data, null, boolean, number, array}
use Rattle.chip_file.proofs.JsonNames.{object, Num, Items, Members, as_number, as_array, as_object, of_json, converted}
use Rattle.chip_file.proofs.JsonNames.{number_of, next_value}
use Rattle.serde_json.specs.Data.{string}
use Rattle.json.specs.declared.token.Token as rust
use Rattle.json.specs.declared.token.Token.TheVariants as token
use Rattle.chip_file.proofs.Turns.{as_array_read, as_object_read, pick, string_read, boolean_read, null_read}

module _ {B : Type 0} (g : Data → Option B) (depth : ℕ) (ts r : List Token) (d : Data) where
  same : (x : Data) (at : List Token) → g x ≡ None → ◌≡◌ {A = Option (Data × List Token)} (Some (x, at)) (Some (d, r))
      → g d ≡ None
  same x at never e = let is : x ≡ d = ap (λ (y : Option (Data × List Token)). (pick (d, r) y).0) e in rw is at never

  through : {A : Type 0} (f : A → Data) → ((a : A) → g (f a) ≡ None) → (o : Option (A × List Token))
      → parse_map f o ≡ Some (d, r) → g d ≡ None
  through f never None e = absurd (cc)
  through f never (Some p) e = same (f p.0) p.1 (never p.0) e

  of_number : (n : Option Num) → ((m : Num) → g (number m) ≡ None)
      → option_map {U = Data × List Token} (λ y. (y, ts)) (option_map number n) ≡ Some (d, r) → g d ≡ None
  of_number None never e = absurd (cc)
  of_number (Some m) never e = same (number m) ts (never m) e

  none_at : (t : Token) → value depth (t ∷ ts) ≡ None → next_value depth (t ∷ ts) ≡ Some (d, r) → g d ≡ None
  none_at t never e = let none : None ≡ next_value depth (t ∷ ts) = sym (ap (converted of_json) never) in absurd (cc)

  -- what holds of each value that a token may begin holds of the value that was read
  read_as : (t : rust.Token) → (t ≡ token.BeginObject → (ms : Members) → g (object ms) ≡ None)
      → (t ≡ token.BeginArray → (ds : Items) → g (array ds) ≡ None)
      → ((s : Bor (List ℕ)) → t ≡ token.Number s → (n : Num) → g (number n) ≡ None)
      → ((s : List ℕ) → g (string s) ≡ None) → ((b : Bool) → g (boolean b) ≡ None) → g null ≡ None
      → next_value depth (token_of t ∷ ts) ≡ Some (d, r) → g d ≡ None
  read_as token.BeginObject o a n s b z e = through object (o refl) _ (sym (as_object_read depth ts) ∙ e)
  read_as token.BeginArray o a n s b z e = through array (a refl) _ (sym (as_array_read depth ts) ∙ e)
  read_as (token.Number k) o a n s b z e = of_number (number_of k.now) (n k refl)
      (sym (ap (converted of_json) (value_is depth (Token.number k.now ∷ ts))) ∙ e)
  read_as (token.String k) o a n s b z e = same (string k.now) ts (s k.now) (sym (string_read depth ts k.now) ∙ e)
  read_as (token.Bool k) o a n s b z e = same (boolean k) ts (b k) (sym (boolean_read depth ts k) ∙ e)
  read_as token.Null o a n s b z e = same null ts z (sym (null_read depth ts) ∙ e)
  read_as t o a n s b z e = none_at (token_of t) (value_is depth (token_of t ∷ ts)) e

module _ (depth : ℕ) (ts r : List Token) (d : Data) (t : rust.Token) where
  pub not_number : ((s : Bor (List ℕ)) → t ≡ token.Number s → ⊥) → next_value depth (token_of t ∷ ts) ≡ Some (d, r)
      → as_number d ≡ None
  not_number never = read_as as_number depth ts r d t (λ is ms. refl) (λ is ds. refl) (λ s is. absurd (never s is))
      (λ s. refl) (λ b. refl) refl

  pub not_array : (t ≡ token.BeginArray → ⊥) → next_value depth (token_of t ∷ ts) ≡ Some (d, r) → as_array d ≡ None
  not_array never = read_as as_array depth ts r d t (λ is ms. refl) (λ is. absurd (never is)) (λ s is n. refl)
      (λ s. refl) (λ b. refl) refl

  pub not_object : (t ≡ token.BeginObject → ⊥) → next_value depth (token_of t ∷ ts) ≡ Some (d, r)
      → as_object d ≡ None
  not_object never = read_as as_object depth ts r d t (λ is. absurd (never is)) (λ is ds. refl) (λ s is n. refl)
      (λ s. refl) (λ b. refl) refl
