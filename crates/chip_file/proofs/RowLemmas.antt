-- Serves Standing.antt, Rows.antt.
-- How reading one record after another gives the records of a text.
use Rattle.chip_file.proofs.Names.{◌≡◌, ◌⊎◌, ℕ, zero, suc, ◌<◌, ◌≤◌, ◌+◌, Bool, true, false, List, [], ◌∷◌, ◌++◌}
use Rattle.chip_file.proofs.Names.{length, Option, None, Some, refl, ap, sym, ◌∙◌, arith, add-one, inl, inr, IsSome}
use Rattle.chip_file.proofs.Names.{unwrap_or, if◌then◌else◌, Config, State, Read, next_record, step, is_end}
use Rattle.chip_file.proofs.Names.{ends_at_end, fields_after, field_after, records_from, records_next, ReadsNext}
use Rattle.chip_file.proofs.Names.{NextIs, ReadRecord, default_config, took_first, is_flexible, Row}
use Rattle.chip_file.specs.Standing.{IsOpen, RecordReader, TakesRow, records_left, source}
use Rattle.csv.specs.declared.parser.State.TheVariants as st

-- ---- a record takes at least one byte, unless the end of a text ends it

-- n turns are enough for the records of these bytes
abbrev IsEnough : ℕ → State → List ℕ → Type 0
IsEnough n s xs = (length xs < n) ⊎ ((s ≡ st.StartRecord) × (xs ≡ []))

last_by : (b : Bool) (f : List (List ℕ)) (p : Read)
    → (if b then Some (f, st.StartRecord, []) else None) ≡ Some p → (p.1 ≡ st.StartRecord) × (p.2 ≡ [])
last_by true f p e = (cc e, cc e)
last_by false f p e = cc e

step_by : (b : Bool) (f : List (List ℕ)) (s : State) (rest : List ℕ) (more : Option Read) (n : ℕ) (p : Read)
    → (if b then Some (f, s, rest) else more) ≡ Some p → length rest < n → (more ≡ Some p → IsEnough n p.1 p.2)
    → IsEnough n p.1 p.2
step_by true f s rest more n p e few h = let same : p.2 ≡ rest = cc e in inl (rw same few)
step_by false f s rest more n p e few h = h e

shorter : (cfg : Config) (n : ℕ) (p : Read) (s : State) (f : List (List ℕ)) (g xs : List ℕ)
    → next_record cfg s f g xs ≡ Some p → length xs ≤ n → IsEnough n p.1 p.2
unfolding next_record
shorter cfg n p s f g [] e few = inr (last_by (ends_at_end s) (f ++ (g ∷ [])) p e)
shorter cfg n p s f g (c ∷ rest) e few =
    let s2 = (step cfg s c).0 in
    let f2 = fields_after (step cfg s c).1 f g in
    let g2 = field_after (step cfg s c).1 c g in
    step_by (is_end (step cfg s c).1) f2 s2 rest (next_record cfg s2 f2 g2 rest) n p e (omega arith)
    (λ k. shorter cfg n p s2 f2 g2 rest k (omega arith))

-- ---- as many turns as a text has bytes, and one more, are enough

no_more : (cfg : Config) (n : ℕ) → records_from cfg n st.StartRecord [] ≡ []
unfolding records_from next_record
no_more cfg zero = refl
no_more cfg (suc n) = refl

more_by : (o : Option Read) (f g : State → List ℕ → List Row) → ((p : Read) → o ≡ Some p → f p.1 p.2 ≡ g p.1 p.2)
    → records_next f o ≡ records_next g o
more_by None f g h = refl
more_by (Some p) f g h = ap (λ rows. p.0 ∷ rows) (h p refl)

enough : (cfg : Config) (n m : ℕ) (s : State) (xs : List ℕ) → IsEnough n s xs → IsEnough m s xs
    → records_from cfg n s xs ≡ records_from cfg m s xs
unfolding records_from
enough cfg n m s xs (inr end) k = rw (end.0, end.1) (no_more cfg n ∙ sym (no_more cfg m))
enough cfg n m s xs (inl h) (inr end) = rw (end.0, end.1) (no_more cfg n ∙ sym (no_more cfg m))
enough cfg zero m s xs (inl h) (inl k) = absurd (omega arith)
enough cfg (suc n) zero s xs (inl h) (inl k) = absurd (omega arith)
enough cfg (suc n) (suc m) s xs (inl h) (inl k) =
    more_by _ _ _ (λ p e. enough cfg n m p.1 p.2 (shorter cfg n p s [] [] xs e (omega arith))
    (shorter cfg m p s [] [] xs e (omega arith)))

-- ---- the first record, and the records after it

after_first : (cfg : Config) (s : State) (xs : List ℕ)
    → records_from cfg (length xs + 1) s xs
    ≡ records_next (λ s2 ys. records_from cfg (length ys + 1) s2 ys) (next_record cfg s [] [] xs)
unfolding records_from
after_first cfg s xs =
    rw add-one (more_by _ _ _ (λ p e. enough cfg (length xs) (length p.2 + 1) p.1 p.2
    (shorter cfg (length xs) p s [] [] xs e (omega arith)) (inl (omega arith))))

takes_by : (o : Option Read) (more : State → List ℕ → List Row) (found : Bool) (fields : Row) (s : State) (ys : List ℕ)
    → NextIs o found fields s ys → TakesRow found fields (records_next more o) (more s ys)
takes_by None more true fields s ys h = cc h
takes_by None more false fields s ys h = refl
takes_by (Some p) more true fields s ys h = rw (h.1, h.2, h.3) refl
takes_by (Some p) more false fields s ys h = cc h.0

takes_from : (cfg : Config) (s s2 : State) (before after : Option (List ℕ)) (found : Bool) (fields : Row)
    → IsSome before
    → ReadsNext cfg s before after found fields s2
    → IsSome after × TakesRow found fields (records_from cfg (length (unwrap_or before []) + 1) s (unwrap_or before []))
    (records_from cfg (length (unwrap_or after []) + 1) s2 (unwrap_or after []))
takes_from cfg s s2 None after found fields some h = cc some
takes_from cfg s s2 (Some xs) None found fields some h = absurd h
takes_from cfg s s2 (Some xs) (Some ys) found fields some h = (
  refl,
  rw (after_first cfg s xs)
      (takes_by (next_record cfg s [] [] xs) (λ s ys. records_from cfg (length ys + 1) s ys) found fields s2 ys h),
)

-- what a read of an open reader does to the rows that are left
pub takes : (old new : RecordReader) (found : Bool) (fields : Row) → IsOpen old
    → ReadRecord (λ s. Some s.now) old new found fields
    → took_first new ≡ true → is_flexible new ≡ is_flexible old
    → IsOpen new × TakesRow found fields (records_left old) (records_left new)
takes old new found fields was r first flexible =
    let t = takes_from default_config old.state new.state (source old) (source new) found fields was.source
    (rw r.1 (rw was.config at r.0)) in
    let open_new : IsOpen new = record {
      config = r.2 ∙ was.config;
      trim = r.3 ∙ was.trim;
      flexible = flexible ∙ was.flexible;
      ready = inl first;
      source = t.0;
    } in (open_new, t.1)
