-- Serves JsonValues.antt.
-- The grammar's loops, a turn at a time, under the conversion to data.
use Rattle.chip_file.proofs.JsonNames.{◌≡◌, ℕ, zero, suc, ◌-◌, ◌<◌, List, [], ◌∷◌, length, Option, Some, None, option_map}
use Rattle.chip_file.proofs.JsonNames.{option_and_then, refl, ap, ◌∙◌, arith, Bool, Result, Ok, Err, ⊤, ◌⊎◌, inl, inr, Bor}
use Rattle.chip_file.proofs.JsonNames.{◌≤◌, token_of, Token, Parse, parse_map, after_end_array, read_key, items_step, items}
use Rattle.chip_file.proofs.JsonNames.{members, value, items_end, items_more, members_end, members_no_key, members_more}
use Rattle.chip_file.proofs.JsonNames.{value-begin_array, value-begin_object, value_is, Num, Data, null, boolean, number}
use Rattle.chip_file.proofs.JsonNames.{array, object, Items, no_items, item, Members, no_members, put, number_of, of_json}
use Rattle.chip_file.proofs.JsonNames.{of_items, of_members, converted, next_value, ItemsAre, MembersAre, ReadsValue, ReadsItems}
use Rattle.chip_file.proofs.JsonNames.{ReadsMembers}
use Rattle.serde_json.specs.Data.{string}
use Rattle.json.specs.declared.token.Token as rust
use Rattle.json.specs.declared.token.Token.TheVariants as token
use Rattle.json.specs.Json as json

abbrev pub pick : {A : Type 0} → A → Option A → A
pick d None = d
pick d (Some a) = a

found : {A B : Type 0} (a : A) (r s : List Token) (x : Option B) (b : B)
    → option_map {U = B × List Token} (λ y. (y, r)) x ≡ Some (b, s) → (r ≡ s) × (x ≡ Some b)
found a r s None b e = absurd (cc)
found a r s (Some y) b e = let same = ap (pick (y, r)) e in (ap (λ p. p.1) same, ap (λ p. Some p.0) same)

pub some_of : {A B : Type 0} (f : A → Option B) (o : Option (A × List Token)) (b : B) (r : List Token)
    → converted f o ≡ Some (b, r) → (a : A) × (o ≡ Some (a, r)) × (f a ≡ Some b)
some_of f None b r e = absurd (cc)
some_of f (Some p) b r e = let both = found p.0 p.1 r (f p.0) b e in (p.0, ap (λ s. Some (p.0, s)) both.0, both.1)

pub refused : {B : Type 0} (r : List Token) (x : Option B) → option_map {U = B × List Token} (λ y. (y, r)) x ≡ None
    → x ≡ None
refused r None e = refl
refused r (Some y) e = absurd (cc)

twice : {A B : Type 0} (g : A → B) (r : List Token) (x : Option A) → option_map (λ b. (b, r)) (option_map g x)
    ≡ parse_map g (option_map (λ a. (a, r)) x)
twice g r None = refl
twice g r (Some a) = refl

as_array : (o : Option (json.Items × List Token)) → converted of_json (parse_map json.array o)
    ≡ parse_map array (converted of_items o)
as_array None = refl
as_array (Some p) = twice array p.1 (of_items p.0)

as_object : (o : Option (json.Members × List Token)) → converted of_json (parse_map json.object o) ≡ parse_map object
    (converted (λ ms. of_members ms no_members) o)
as_object None = refl
as_object (Some p) = twice object p.1 (of_members p.0 no_members)

with_item : (j : json.Json) (d : Data) → of_json j ≡ Some d → (o : Option (json.Items × List Token))
    → converted of_items (parse_map (json.item j) o) ≡ parse_map (item d) (converted of_items o)
with_item j d e None = refl
with_item j d e (Some p) = rw e (twice (item d) p.1 (of_items p.0))

with_no_item : (j : json.Json) → of_json j ≡ None → (o : Option (json.Items × List Token))
    → converted of_items (parse_map (json.item j) o) ≡ None
with_no_item j e None = refl
with_no_item j e (Some p) = rw e

with_member : (k : List ℕ) (j : json.Json) (d : Data) (old : Members) → of_json j ≡ Some d
    → (o : Option (json.Members × List Token))
    → converted (λ ms. of_members ms old) (parse_map (json.member k j) o)
    ≡ converted (λ ms. of_members ms (put k d old)) o
with_member k j d old e None = refl
with_member k j d old e (Some p) = rw e

with_no_member : (k : List ℕ) (j : json.Json) (old : Members) → of_json j ≡ None
    → (o : Option (json.Members × List Token)) → converted (λ ms. of_members ms old) (parse_map (json.member k j) o)
    ≡ None
with_no_member k j old e None = refl
with_no_member k j old e (Some p) = rw e

no_item : (more : Parse json.Items) (o : Option (json.Json × List Token)) → converted of_json o ≡ None
    → converted of_items (option_and_then (λ q. parse_map (json.item q.0) (more q.1)) o) ≡ None
no_item more None e = refl
no_item more (Some q) e = with_no_item q.0 (refused q.1 (of_json q.0) e) (more q.1)

no_member : (old : Members) (k : List ℕ) (more : Parse json.Members) (o : Option (json.Json × List Token))
    → converted of_json o ≡ None
    → converted (λ ms. of_members ms old) (option_and_then (λ q. parse_map (json.member k q.0) (more q.1)) o) ≡ None
no_member old k more None e = refl
no_member old k more (Some q) e = with_no_member k q.0 old (refused q.1 (of_json q.0) e) (more q.1)

-- ---- the items of an array

module _ (depth : ℕ) where
  pub items_over : (ts r : List Token) → after_end_array ts ≡ Some r → ItemsAre depth ts (Some (no_items, r))
  items_over ts r e n enough = ap (converted of_items) (items_end (value depth) n ts r enough e)

  pub item_read : (ts r : List Token) (d : Data) → after_end_array ts ≡ None → next_value depth ts ≡ Some (d, r)
      → length r < length ts
      → (what : Option (Items × List Token)) → ItemsAre depth r what → ItemsAre depth ts (parse_map (item d) what)
  item_read ts r d going e less what later n enough =
      let j = some_of of_json (value depth ts) d r e in
      ap (converted of_items) (items_more (value depth) n ts r j.0 (omega arith) going j.1) ∙ with_item j.0 d j.2 _
      ∙ ap (parse_map (item d)) (later (n - 1) (omega arith))

  pub item_refused : (ts : List Token) → after_end_array ts ≡ None → next_value depth ts ≡ None
      → ItemsAre depth ts None
  unfolding items
  item_refused ts going e zero enough = refl
  item_refused ts going e (suc n) enough =
      ap (λ o. converted of_items (items_step (value depth) (items (value depth) n) ts o)) going
      ∙ no_item (items (value depth) n) (value depth ts) e

  -- ---- the members of an object

  pub members_over : (found : Members) (ts r : List Token) → read_key ts ≡ Some (None, r)
      → MembersAre depth ts found (Some (found, r))
  members_over found ts r e n enough = ap (converted (λ ms. of_members ms found))
      (members_end (value depth) n ts r enough e)

  pub key_refused : (found : Members) (ts : List Token) → read_key ts ≡ None → MembersAre depth ts found None
  key_refused found ts e n enough = ap (converted (λ ms. of_members ms found)) (members_no_key (value depth) n ts e)

  pub member_read : (found : Members) (k : List ℕ) (ts s r : List Token) (d : Data) → read_key ts ≡ Some (Some k, s)
      → next_value depth s ≡ Some (d, r) → length r < length ts
      → (what : Option (Members × List Token)) → MembersAre depth r (put k d found) what
      → MembersAre depth ts found what
  member_read found k ts s r d key e less what later n enough =
      let j = some_of of_json (value depth s) d r e in
      ap (converted (λ ms. of_members ms found)) (members_more (value depth) n k ts s r j.0 (omega arith) key j.1)
      ∙ with_member k j.0 d found j.2 _
      ∙ later (n - 1) (omega arith)

  pub member_refused : (found : Members) (k : List ℕ) (ts s : List Token) → read_key ts ≡ Some (Some k, s)
      → next_value depth s ≡ None → MembersAre depth ts found None
  unfolding members
  member_refused found k ts s key e zero enough = refl
  member_refused found k ts s key e (suc n) enough =
      rw key (no_member found k (members (value depth) n) (value depth s) e)

-- ---- an array and an object

pub array_read : (depth : ℕ) (ts : List Token) (what : Option (Items × List Token)) → 0 < depth
    → ItemsAre (depth - 1) ts what → next_value depth (Token.begin_array ∷ ts) ≡ parse_map array what
array_read depth ts what h e =
    ap (converted of_json) (value-begin_array depth ts h) ∙ as_array (items (value (depth - 1)) (length ts) ts)
    ∙ ap (parse_map array) (e (length ts) (omega arith))

pub object_read : (depth : ℕ) (ts : List Token) (what : Option (Members × List Token)) → 0 < depth
    → MembersAre (depth - 1) ts no_members what → next_value depth (Token.begin_object ∷ ts) ≡ parse_map object what
object_read depth ts what h e =
    ap (converted of_json) (value-begin_object depth ts h) ∙ as_object (members (value (depth - 1)) (length ts) ts)
    ∙ ap (parse_map object) (e (length ts) (omega arith))

pub array_passed : {E : Type 0} (depth : ℕ) (ts new : List Token) (t : Token) (result : Result (Unit {0}) E)
    → t ≡ Token.begin_array → 0 < depth
    → ReadsItems (depth - 1) ts new (λ ds x. ⊤) result → ReadsValue depth (t ∷ ts) new (λ d x. ⊤) result
array_passed depth ts new t (Ok x) is h (ds, e, k) = (array ds, rw is (array_read depth ts _ h e), tt)
array_passed depth ts new t (Err x) is h e = rw is (array_read depth ts _ h e)

pub object_passed : {E : Type 0} (depth : ℕ) (ts new : List Token) (t : Token) (result : Result (Unit {0}) E)
    → t ≡ Token.begin_object → 0 < depth
    → ReadsMembers (depth - 1) ts new (λ ds x. ⊤) result → ReadsValue depth (t ∷ ts) new (λ d x. ⊤) result
object_passed depth ts new t (Ok x) is h (ms, e, k) = (object ms, rw is (object_read depth ts _ h e), tt)
object_passed depth ts new t (Err x) is h e = rw is (object_read depth ts _ h e)

-- an array and an object that are too deep
pub array_deep : (depth : ℕ) (ts : List Token) → depth ≡ 0 → next_value depth (Token.begin_array ∷ ts) ≡ None
unfolding value
array_deep depth ts is = ap (λ k. next_value k (Token.begin_array ∷ ts)) is

pub object_deep : (depth : ℕ) (ts : List Token) → depth ≡ 0 → next_value depth (Token.begin_object ∷ ts) ≡ None
unfolding value
object_deep depth ts is = ap (λ k. next_value k (Token.begin_object ∷ ts)) is

-- ---- at a token that opens nothing

pub nothing_read : (depth : ℕ) (ts : List Token) → ts ≡ [] → next_value depth ts ≡ None
nothing_read depth ts e = ap (next_value depth) e ∙ ap (converted of_json) (value_is depth [])

pub string_read : (depth : ℕ) (ts : List Token) (s : List ℕ) → next_value depth (Token.string s ∷ ts)
    ≡ Some (string s, ts)
string_read depth ts s = ap (converted of_json) (value_is depth (Token.string s ∷ ts))

pub boolean_read : (depth : ℕ) (ts : List Token) (b : Bool) → next_value depth (Token.boolean b ∷ ts)
    ≡ Some (boolean b, ts)
boolean_read depth ts b = ap (converted of_json) (value_is depth (Token.boolean b ∷ ts))

pub null_read : (depth : ℕ) (ts : List Token) → next_value depth (Token.null ∷ ts) ≡ Some (null, ts)
null_read depth ts = ap (converted of_json) (value_is depth (Token.null ∷ ts))

pub number_read : (depth : ℕ) (ts : List Token) (s : List ℕ) (n : Num) → Some n ≡ number_of s
    → next_value depth (Token.number s ∷ ts) ≡ Some (number n, ts)
number_read depth ts s n e = ap (converted of_json) (value_is depth (Token.number s ∷ ts)) ∙ rw (← e)

pub number_refused : (depth : ℕ) (ts : List Token) (s : List ℕ) → None ≡ number_of s
    → next_value depth (Token.number s ∷ ts) ≡ None
number_refused depth ts s e = ap (converted of_json) (value_is depth (Token.number s ∷ ts)) ∙ rw (← e)

-- ---- several turns

mapped : {A B C : Type 0} (f : B → C) (g : A → B) (what : Option (A × List Token))
    → parse_map f (parse_map g what) ≡ parse_map (λ a. f (g a)) what
mapped f g None = refl
mapped f g (Some p) = refl

unmapped : {A : Type 0} (what : Option (A × List Token)) → what ≡ parse_map (λ a. a) what
unmapped None = refl
unmapped (Some p) = refl

-- some items were read, and come before those of the tokens that are left
pub record AreBefore (depth : ℕ) (start ts : List Token) (before : Items → Items) : Type 0 where
  pub read : (what : Option (Items × List Token)) → ItemsAre depth ts what
      → ItemsAre depth start (parse_map before what)
  pub shorter : length ts ≤ length start

pub none_before : (depth : ℕ) (ts : List Token) → AreBefore depth ts ts (λ ds. ds)
none_before depth ts = record { read = λ what e n enough. e n enough ∙ unmapped what; shorter = omega arith }

module _ {depth : ℕ} {start ts : List Token} {before : Items → Items} (known : AreBefore depth start ts before) where
  pub one_more : {at r : List Token} {d : Data} → after_end_array ts ≡ None → at ≡ ts
      → next_value depth at ≡ Some (d, r) → length r < length at → AreBefore depth start r (λ ds. before (item d ds))
  one_more {r = r} {d = d} going is e less = record {
    read = λ what later n enough. known.read _ (item_read depth ts r d going (rw (← is) e) (rw (← is) less) what later) n
        enough ∙ mapped before (item d) what;
    shorter = omega (arith, known.shorter, less, ap length is);
  }

  pub no_more : {at : List Token} → after_end_array ts ≡ None → at ≡ ts → next_value depth at ≡ None
      → ItemsAre depth start None
  no_more going is e = known.read None (item_refused depth ts going (rw (← is) e))

  pub all_read : {r : List Token} → after_end_array ts ≡ Some r → ItemsAre depth start (Some (before no_items, r))
  all_read {r = r} over = known.read _ (items_over depth ts r over)

-- ---- a string, a truth value or null

pub leaf_read : (depth : ℕ) (ts : List Token) (t : rust.Token)
    → ((s : Bor (List ℕ)) × (t ≡ token.String s)) ⊎ (((b : Bool) × (t ≡ token.Bool b)) ⊎ (t ≡ token.Null))
    → (d : Data) × (next_value depth (token_of t ∷ ts) ≡ Some (d, ts)) × ⊤
leaf_read depth ts t (inl (s, is)) = (string s.now, rw is (string_read depth ts s.now), tt)
leaf_read depth ts t (inr (inl (b, is))) = (boolean b, rw is (boolean_read depth ts b), tt)
leaf_read depth ts t (inr (inr is)) = (null, rw is (null_read depth ts), tt)

-- ---- an array and an object of any depth

abbrev inner_items : ℕ → List Token → Option (json.Items × List Token)
inner_items zero ts = None
inner_items (suc d) ts = items (value d) (length ts) ts

abbrev inner_members : ℕ → List Token → Option (json.Members × List Token)
inner_members zero ts = None
inner_members (suc d) ts = members (value d) (length ts) ts

pub as_array_read : (depth : ℕ) (ts : List Token) → next_value depth (Token.begin_array ∷ ts) ≡ parse_map array
    (converted of_items (inner_items depth ts))
unfolding value
as_array_read zero ts = refl
as_array_read (suc d) ts = as_array (items (value d) (length ts) ts)

pub as_object_read : (depth : ℕ) (ts : List Token) → next_value depth (Token.begin_object ∷ ts) ≡ parse_map object
    (converted (λ ms. of_members ms no_members) (inner_members depth ts))
unfolding value
as_object_read zero ts = refl
as_object_read (suc d) ts = as_object (members (value d) (length ts) ts)

-- an array whose items were read
pub array_mapped : {T E : Type 0} (depth : ℕ) (ts old new : List Token) (Is : Items → T → Type 0) (Has : Data → T
    → Type 0) → ((ds : Items) (x : T) → Is ds x → Has (array ds) x) → (result : Result T E)
    → old ≡ Token.begin_array ∷ ts → 0 < depth → ReadsItems (depth - 1) ts new Is result
    → ReadsValue depth old new Has result
array_mapped depth ts old new Is Has f (Ok x) is h (ds, e, k) =
    (array ds, rw is (array_read depth ts _ h e), f ds x k)
array_mapped depth ts old new Is Has f (Err x) is h e = rw is (array_read depth ts _ h e)
