-- Serves LogText.antt, LogSoFar.antt.
-- How one row after another gives a log, and what holds of it.
use Rattle.chip_file.proofs.Names.{◌≡◌, ℕ, zero, suc, ◌+◌, ◌*◌, ◌≤◌, max, Bool, true, false, List, []}
use Rattle.chip_file.proofs.Names.{◌∷◌, ◌++◌, length, map, Option, None, Some, refl, ap, sym, ◌∙◌, subst, arith}
use Rattle.chip_file.proofs.Names.{append-nil, append_assoc, ◌==◌, ◌&&◌, not, is_some, unwrap_or, slice_index_or}
use Rattle.chip_file.proofs.Names.{if◌then◌else◌, eqb-true, map_push, length-map, All-nil, All-cons, nat_tests}
use Rattle.chip_file.proofs.Names.{common_steps, Config, State, Read, next_record, records_from, records_next}
use Rattle.chip_file.proofs.Names.{strip_bom, is_bom, default_config, SizeLimits, first_of_faults, Sizes}
use Rattle.chip_file.proofs.Names.{LogRow, Stream, Step, Out, In, Active, steps_of, sends}
use Rattle.chip_file.proofs.Names.{gets, active_after, begins_active, AreSent, IsWellFormed, may_send, Fits}
use Rattle.chip_file.proofs.Names.{FitsRow, steps_of-append, active_after-append, same_stream_is, count_no, FileFault}
use Rattle.chip_file.proofs.Names.{Row, records_of, rows_under_header, NotesAt, end_number, activity, next_activity}
use Rattle.chip_file.proofs.Names.{AreHolders, AreActive, IsFaultless, uses, MayMake, AreAllowed, IsSoundLog, IsSoFar}
use Rattle.chip_file.proofs.Names.{AreBeginners, begins_with, first_step, begins_with-append}
use Rattle.chip_file.specs.declared.log.LogSoFar.{LogSoFar}
use Rattle.chip_file.specs.LogText.{channels_to, processes_of, channels_of, sizes_of, same_end, holder, may_hold}
use Rattle.chip_file.specs.LogText.{may_begin, lone_row_fault, placed_fault, log_row_fault, log_row_in}
use Rattle.csv.specs.declared.parser.State.TheVariants as st
use Rattle.chip_file.proofs.VertexRowLemmas.{push_by}

-- ---- what a row without a fault does

pub first_none : (first later : Option FileFault) → first_of_faults first later ≡ None → (first ≡ None) × (later ≡ None)
first_none None later e = (refl, e)
first_none (Some f) later e = cc e

pub is_placed : (index : ℕ) (log : List LogRow) (x : LogRow) → placed_fault index log x ≡ None → IsFaultless log x
is_placed index log x e =
    record { holds = grind (arith, common_steps); sends = grind (arith, common_steps); begins = grind (arith, common_steps) }

-- ---- sizes

pub processes_of-push : (log : List LogRow) (x : LogRow)
    → processes_of (log ++ x ∷ []) ≡ max (processes_of log) (x.process + 1)
processes_of-push [] x = omega arith
processes_of-push (y ∷ log) x = let more = processes_of-push log x in omega arith

pub channels_of-push : (log : List LogRow) (x : LogRow)
    → channels_of (log ++ x ∷ []) ≡ max (channels_of log) (channels_to x.step)
channels_of-push [] x = omega arith
channels_of-push (y ∷ log) x = let more = channels_of-push log x in omega arith

same_sizes : (a : Sizes) (p c : ℕ) → a.processes ≡ p → a.channels ≡ c → a ≡ record { processes = p; channels = c }
same_sizes a p c processes channels = rw (← processes, ← channels) refl

fits_step : (sizes : Sizes) (p : ℕ) (step : Step) → p + 1 ≤ sizes.processes → channels_to step ≤ sizes.channels
    → FitsRow sizes (record { process = p; step = step })
fits_step sizes p (Out s) low few = record { process = omega arith; channel = omega arith }
fits_step sizes p (In s) low few = record { process = omega arith; channel = omega arith }
fits_step sizes p step low few = record { process = omega arith; channel = tt }

fits_within : (sizes : Sizes) (log : List LogRow) → processes_of log ≤ sizes.processes → channels_of log ≤ sizes.channels
    → Fits sizes log
fits_within sizes [] low few = All-nil (FitsRow sizes)
fits_within sizes (x ∷ log) low few =
    All-cons (FitsRow sizes) x log (fits_step sizes x.process x.step (omega arith) (omega arith))
    (fits_within sizes log (omega arith) (omega arith))

-- ---- ends of streams

same_end_is : (a b : Step) → same_end a b ≡ true → a ≡ b
same_end_is (Out s) (Out t) e = ap Out (same_stream_is s t e)
same_end_is (In s) (In t) e = ap In (same_stream_is s t e)
same_end_is a b e = cc e

pub holder-push : (step : Step) (log : List LogRow) (x : LogRow)
    → holder step (log ++ x ∷ []) ≡ (if is_some (holder step log) then holder step log
    else (if same_end step x.step then Some x.process else None))
holder-push step [] x = refl
holder-push step (y ∷ log) x = push_by (same_end step y.step) y.process (holder step log)
    (holder step (log ++ x ∷ [])) _ (holder-push step log x)

-- the numbers of two ends are equal if they are one
same_number : (c d : ℕ) (a b : Bool)
    → (4 * d + (if b then 1 else 0) == 4 * c + (if a then 1 else 0)) ≡ (c == d && (if a then b else not b))
same_number c d a b = grind (arith, nat_tests)

same_number_in : (c d : ℕ) (a b : Bool)
    → (4 * d + (if b then 3 else 2) == 4 * c + (if a then 3 else 2)) ≡ (c == d && (if a then b else not b))
same_number_in c d a b = grind (arith, nat_tests)

other_number : (c d : ℕ) (a b : Bool) → (4 * d + (if b then 3 else 2) == 4 * c + (if a then 1 else 0)) ≡ false
other_number c d a b = grind (arith, nat_tests)

other_number_in : (c d : ℕ) (a b : Bool) → (4 * d + (if b then 1 else 0) == 4 * c + (if a then 3 else 2)) ≡ false
other_number_in c d a b = grind (arith, nat_tests)

number_is : (x y : ℕ) → Some x ≡ Some y → y ≡ x
number_is x y e = cc e

number_of_end : (a b : Step) (e f : ℕ) → end_number a ≡ Some e → end_number b ≡ Some f → (f == e) ≡ same_end a b
number_of_end (Out s) (Out t) e f g h =
    rw (number_is _ _ g, number_is _ _ h) (same_number s.channel t.channel s.is_control t.is_control)
number_of_end (Out s) (In t) e f g h =
    rw (number_is _ _ g, number_is _ _ h) (other_number s.channel t.channel s.is_control t.is_control)
number_of_end (In s) (Out t) e f g h =
    rw (number_is _ _ g, number_is _ _ h) (other_number_in s.channel t.channel s.is_control t.is_control)
number_of_end (In s) (In t) e f g h =
    rw (number_is _ _ g, number_is _ _ h) (same_number_in s.channel t.channel s.is_control t.is_control)
number_of_end a b e f g h = cc (g, h)

no_end : (a b : Step) → end_number b ≡ None → same_end a b ≡ false
no_end (Out s) (Out t) h = cc h
no_end (Out s) (In t) h = cc h
no_end (In s) (Out t) h = cc h
no_end (In s) (In t) h = cc h
no_end a b h = refl

pub no_holder : (step : Step) (log : List LogRow) → end_number step ≡ None → holder step log ≡ None
no_holder step [] none = refl
no_holder (Out s) (x ∷ log) none = cc none
no_holder (In s) (x ∷ log) none = cc none
no_holder step (x ∷ log) none = no_holder step log none

-- the owner of an end after one more row, where that is no fault
abbrev IsHeld : Bool → ℕ → Option ℕ → Type 0
IsHeld b p h = b ≡ true → may_hold h p ≡ true

held_by : (b : Bool) (p : ℕ) (h : Option ℕ) → IsHeld b p h
    → (if b then Some p else h) ≡ (if is_some h then h else (if b then Some p else None))
held_by true p None free = refl
held_by true p (Some q) free = ap Some (sym (eqb-true q p (free refl)))
held_by false p None free = refl
held_by false p (Some q) free = refl

is_held : (log : List LogRow) (x : LogRow) (step : Step) → may_hold (holder x.step log) x.process ≡ true
    → IsHeld (same_end step x.step) x.process (holder step log)
is_held log x step free same = rw (same_end_is step x.step same) free

pub holders_noted : (log : List LogRow) (x : LogRow) (end : ℕ) (old new : List (Option ℕ)) → AreHolders log old
    → end_number x.step ≡ Some end → NotesAt end x.process old new → may_hold (holder x.step log) x.process ≡ true
    → AreHolders (log ++ x ∷ []) new
holders_noted log x end old new are at noted free step e is =
    noted e ∙ rw (number_of_end step x.step e end is at, are step e is)
    (held_by (same_end step x.step) x.process (holder step log) (is_held log x step free))
    ∙ sym (holder-push step log x)

none_by : (b : Bool) (p : ℕ) (h : Option ℕ) → b ≡ false → h ≡ (if is_some h then h else (if b then Some p else None))
none_by false p None e = refl
none_by false p (Some q) e = refl
none_by true p h e = cc e

pub holders_kept : (log : List LogRow) (x : LogRow) (old : List (Option ℕ)) → AreHolders log old → end_number x.step ≡ None
    → AreHolders (log ++ x ∷ []) old
holders_kept log x old are none step e is =
    are step e is ∙ none_by (same_end step x.step) x.process (holder step log) (no_end step x.step none)
    ∙ sym (holder-push step log x)

-- ---- activity

begins_more : (first : Step) (xs ys : List Step) → begins_active (first ∷ xs) ≡ begins_active (first ∷ ys)
begins_more (Out s) xs ys = refl
begins_more first xs ys = refl

pub active_known : (steps : List Step) → unwrap_or (activity steps) false ≡ active_after (begins_active steps) steps
active_known [] = refl
active_known (step ∷ steps) = refl

first_activity : (step : Step) → activity (step ∷ []) ≡ Some (next_activity None step)
first_activity (Out s) = refl
first_activity step = refl

later_activity : (was : Bool) (first step : Step) (rest : List Step) → may_begin (first ∷ rest) step ≡ true
    → active_after was (step ∷ []) ≡ next_activity (Some was) step
later_activity was first Active rest may = cc may
later_activity was first step rest may = refl

activity-push : (steps : List Step) (step : Step) → may_begin steps step ≡ true
    → activity (steps ++ step ∷ []) ≡ Some (next_activity (activity steps) step)
activity-push [] step may = first_activity step
activity-push (first ∷ rest) step may =
    let began = begins_active (first ∷ rest) in
    ap (λ b. Some (active_after b (first ∷ (rest ++ step ∷ [])))) (begins_more first (rest ++ step ∷ []) rest)
    ∙ ap Some (active_after-append began (first ∷ rest) (step ∷ [])
    ∙ later_activity (active_after began (first ∷ rest)) first step rest may)

active_by : (b : Bool) (was : Bool) (step : Step) (steps : List Step) (h : Option Bool) → h ≡ activity steps
    → (b ≡ true → Some was ≡ activity (steps ++ step ∷ []))
    → (if b then Some was else h) ≡ activity (steps ++ (if b then step ∷ [] else []))
active_by true was step steps h same now = now refl
active_by false was step steps h same now = rw append-nil same

pub active_noted : (log : List LogRow) (x : LogRow) (now : Bool) (old new : List (Option Bool)) → AreActive log old
    → may_begin (steps_of x.process log) x.step ≡ true
    → now ≡ next_activity (slice_index_or old x.process None) x.step → NotesAt x.process now old new
    → AreActive (log ++ x ∷ []) new
active_noted log x now old new are may behind noted p =
    noted p ∙ active_by (x.process == p) now x.step (steps_of p log) _ (are p)
    (λ own. rw (← eqb-true x.process p own, behind, are x.process)
    (sym (activity-push (steps_of x.process log) x.step may)))
    ∙ ap activity (sym (steps_of-append p log (x ∷ [])))

-- ---- how processes begin

begins_by : (own : Bool) (steps : List Step) (step : Step) (now h : Option Bool) → h ≡ begins_with None steps
    → (own ≡ true → now ≡ first_step (begins_with None steps) step)
    → (if own then now else h) ≡ begins_with None (steps ++ (if own then step ∷ [] else []))
begins_by true steps step now h same is = is refl ∙ sym (begins_with-append None steps (step ∷ []))
begins_by false steps step now h same is = rw append-nil same

pub begins_noted : (log : List LogRow) (x : LogRow) (now : Bool) (old new : List (Option Bool))
    → AreBeginners (sizes_of log) log old → Some now ≡ first_step (slice_index_or old x.process None) x.step
    → NotesAt x.process now old new → length new ≡ max (length old) (x.process + 1)
    → AreBeginners (sizes_of (log ++ x ∷ [])) (log ++ x ∷ []) new
begins_noted log x now old new are is noted more = record {
  each = more ∙ ap (λ n. max n (x.process + 1)) are.each ∙ sym (processes_of-push log x);
  begins = λ q. noted q ∙ begins_by (x.process == q) (steps_of q log) x.step (Some now) _ (are.begins q)
      (λ own. rw (← eqb-true x.process q own, ← are.begins x.process) is)
      ∙ ap (begins_with None) (sym (steps_of-append q log (x ∷ [])));
}

-- ---- what holds of the rows

held_before : (end : Step) (log : List LogRow) (x : LogRow) (p : ℕ) → holder end log ≡ Some p
    → holder end (log ++ x ∷ []) ≡ Some p
held_before end log x p e = rw (holder-push end log x, e) refl

-- a row at an end has it
held_now : (end : Step) (log : List LogRow) (x : LogRow) → may_hold (holder x.step log) x.process ≡ true
    → same_end end x.step ≡ true → holder end (log ++ x ∷ []) ≡ Some x.process
held_now end log x free same =
    (rw same at (holder-push end log x))
    ∙ sym (rw same at (held_by (same_end end x.step) x.process (holder end log) (is_held log x end free)))

pub uses-append : (end : Step) (xs ys : List Step) → uses end (xs ++ ys) ≡ uses end xs + uses end ys
uses-append end [] ys = omega arith
uses-append end (x ∷ xs) ys = let a = uses-append end xs ys in omega arith

unused_by : (own at_end : Bool) (end step : Step) (steps : List Step) → at_end ≡ same_end end step → uses end steps ≡ 0
    → (own ≡ true → at_end ≡ true → ⊥) → uses end (steps ++ (if own then step ∷ [] else [])) ≡ 0
unused_by true true end step steps at none never = absurd (never refl refl)
unused_by true false end step steps at none never =
    let all = uses-append end steps (step ∷ []) in
    let no = count_no (same_end end step) (sym at) in omega arith
unused_by false at_end end step steps at none never = rw append-nil none

made_push : (before steps : List Step) (step : Step) → AreAllowed before steps → MayMake (before ++ steps) step
    → AreAllowed before (steps ++ step ∷ [])
made_push before [] step made may = (rw append-nil at may, tt)
made_push before (first ∷ steps) step made may = (
  made.0,
  made_push (before ++ first ∷ []) steps step made.1
      (subst (λ (xs : List Step). MayMake xs step) (sym (append_assoc before (first ∷ []) steps)) may),
)

made_by : (own : Bool) (steps : List Step) (step : Step) → AreAllowed [] steps → (own ≡ true → MayMake steps step)
    → AreAllowed [] (steps ++ (if own then step ∷ [] else []))
made_by true steps step made may = made_push [] steps step made (may refl)
made_by false steps step made may = rw append-nil made

pub sound_none : IsSoundLog []
sound_none = record { unused = λ end p other. refl; made = λ p. tt }

pub sound_push : (log : List LogRow) (x : LogRow) → IsSoundLog log → IsFaultless log x → IsSoundLog (log ++ x ∷ [])
sound_push log x sound placed = record {
  unused = λ end p other. ap (uses end) (steps_of-append p log (x ∷ []))
      ∙ unused_by (x.process == p) (same_end end x.step) end x.step (steps_of p log) refl
      (sound.unused end p (λ e. other (held_before end log x p e)))
      (λ own same. other (held_now end log x placed.holds same ∙ ap Some (eqb-true x.process p own)));
  made = λ p. rw (steps_of-append p log (x ∷ [])) (made_by (x.process == p) (steps_of p log) x.step (sound.made p)
      (λ own. rw (← eqb-true x.process p own) (placed.sends, placed.begins)));
}

-- ---- one more row

pub none_so_far : (s : LogSoFar) → s.log.rows.items ≡ [] → s.log.sizes ≡ record { processes = 0; channels = 0 }
    → s.holders.items ≡ [] → s.active.items ≡ [] → s.log.beginners.items ≡ [] → IsSoFar [] s
none_so_far s rows sizes holders active beginners = record {
  rows = rows;
  sizes = sizes;
  holders = λ step e is. rw holders refl;
  active = λ p. rw active refl;
  beginners = record { each = rw beginners refl; begins = λ q. rw beginners refl };
  sound = sound_none;
}

pub one_more : (log : List LogRow) (x : LogRow) (old new : LogSoFar) → IsSoFar log old → IsFaultless log x
    → new.log.rows.items ≡ old.log.rows.items ++ x ∷ []
    → new.log.sizes.processes ≡ max old.log.sizes.processes (x.process + 1)
    → new.log.sizes.channels ≡ max old.log.sizes.channels (channels_to x.step)
    → AreHolders (log ++ x ∷ []) new.holders.items → AreActive (log ++ x ∷ []) new.active.items
    → AreBeginners (sizes_of (log ++ x ∷ [])) (log ++ x ∷ []) new.log.beginners.items → IsSoFar (log ++ x ∷ []) new
one_more log x old new is placed rows processes channels holders active beginners = record {
  rows = rows ∙ ap (λ xs. xs ++ x ∷ []) is.rows;
  sizes = same_sizes _ _ _
      (processes ∙ ap (λ (z : Sizes). max z.processes (x.process + 1)) is.sizes ∙ sym (processes_of-push log x))
      (channels ∙ ap (λ (z : Sizes). max z.channels (channels_to x.step)) is.sizes ∙ sym (channels_of-push log x));
  holders = holders;
  active = active;
  beginners = beginners;
  sound = sound_push log x is.sound placed;
}

pub first_of : (first later : Option FileFault) → first ≡ None → later ≡ None → first_of_faults first later ≡ None
first_of None later e h = h
first_of (Some f) later e h = cc e

pub visited : (limits : SizeLimits) (index : ℕ) (before : List Row) (row : Row) (x : LogRow) (new : LogSoFar)
    → length before ≡ index → lone_row_fault limits index row ≡ None → x ≡ log_row_in row
    → placed_fault index (map log_row_in before) x ≡ None → IsSoFar (map log_row_in before ++ x ∷ []) new
    → (log_row_fault limits before row ≡ None) × IsSoFar (map log_row_in (before ++ row ∷ [])) new
visited limits index before row x new counted alone same placed is = (
  rw counted (first_of (lone_row_fault limits index row) (placed_fault index (map log_row_in before) (log_row_in row)) alone
      (rw same at placed)),
  rw (map_push log_row_in before row) (rw same at is),
)

-- ---- what the reader guarantees of a log

sends_uses : (s : Stream) (steps : List Step) → sends s steps ≡ uses (Out s) steps
sends_uses s [] = refl
sends_uses s (step ∷ steps) = ap (λ n. (if same_end (Out s) step then 1 else 0) + n) (sends_uses s steps)

gets_uses : (s : Stream) (steps : List Step) → gets s steps ≡ uses (In s) steps
gets_uses s [] = refl
gets_uses s (step ∷ steps) = ap (λ n. (if same_end (In s) step then 1 else 0) + n) (gets_uses s steps)

first_sent : (first : Step) (rest : List Step) → may_send false first ≡ true
    → may_send (begins_active (first ∷ rest)) first ≡ true
first_sent (Out s) rest may = may
first_sent first rest may = refl

later_sent : (first : Step) (before steps : List Step) → AreAllowed (first ∷ before) steps
    → AreSent (active_after (begins_active (first ∷ before)) (first ∷ before)) steps
later_sent first before [] made = tt
later_sent first before (step ∷ steps) made = (
  made.0.0,
  subst (λ (b : Bool). AreSent b steps)
      (ap (λ b. active_after b (first ∷ (before ++ step ∷ []))) (begins_more first (before ++ step ∷ []) before)
      ∙ active_after-append (begins_active (first ∷ before)) (first ∷ before) (step ∷ []))
      (later_sent first (before ++ step ∷ []) steps made.1),
)

made_sent : (steps : List Step) → AreAllowed [] steps → AreSent (begins_active steps) steps
made_sent [] made = tt
made_sent (first ∷ rest) made = (
  first_sent first rest made.0.0,
  subst (λ (b : Bool). AreSent (active_after b (first ∷ [])) rest)
      (begins_more first [] rest) (later_sent first [] rest made.1),
)

pub well_formed : (log : List LogRow) (s : LogSoFar) → IsSoFar log s → IsWellFormed s.log.sizes s.log.rows.items
well_formed log s is =
    rw (is.rows, is.sizes) (record {
      ends = record {
        sender = λ s. unwrap_or (holder (Out s) log) 0;
        receiver = λ s. unwrap_or (holder (In s) log) 0;
        sends = λ s p other. sends_uses s (steps_of p log)
            ∙ is.sound.unused (Out s) p (λ e. other (sym (ap (λ q. unwrap_or q 0) e)));
        gets = λ s p other. gets_uses s (steps_of p log)
            ∙ is.sound.unused (In s) p (λ e. other (sym (ap (λ q. unwrap_or q 0) e)));
      };
      sent = λ p. made_sent (steps_of p log) (is.sound.made p);
      fits = fits_within (sizes_of log) log (omega arith) (omega arith);
    })

-- ---- a text has fewer rows than bytes

next_few : (more : State → List ℕ → List Row) (o : Option Read) (n : ℕ)
    → ((s : State) (xs : List ℕ) → length (more s xs) ≤ n) → length (records_next more o) ≤ n + 1
next_few more None n few = omega arith
next_few more (Some p) n few = let rest = few p.1 p.2 in omega arith

turns_few : (cfg : Config) (n : ℕ) (s : State) (xs : List ℕ) → length (records_from cfg n s xs) ≤ n
unfolding records_from
turns_few cfg zero s xs = omega arith
turns_few cfg (suc n) s xs =
    let few = next_few (records_from cfg n) (next_record cfg s [] [] xs) n (turns_few cfg n) in omega arith

strip_by : (b : Bool) (x y z : ℕ) (rest : List ℕ)
    → length (if b then rest else x ∷ y ∷ z ∷ rest) ≤ length (x ∷ y ∷ z ∷ rest)
strip_by true x y z rest = omega arith
strip_by false x y z rest = omega arith

strip_few : (text : List ℕ) → length (strip_bom text) ≤ length text
unfolding strip_bom
strip_few [] = omega arith
strip_few (a ∷ []) = omega arith
strip_few (a ∷ b ∷ []) = omega arith
strip_few (a ∷ b ∷ c ∷ rest) = strip_by (is_bom a b c) a b c rest

under_few : (records : List Row) (n : ℕ) → length records ≤ n + 1 → length (rows_under_header records) ≤ n
under_few [] n few = omega arith
under_few (row ∷ rows) n few = omega arith

rows_few : (text : List ℕ) → length (rows_under_header (records_of text)) ≤ length text
rows_few text =
    let few = under_few (records_of text) (length (strip_bom text))
    (turns_few default_config (length (strip_bom text) + 1) st.StartRecord (strip_bom text)) in
    let less = strip_few text in omega arith

pub log_few : (text : List ℕ) (log : List LogRow) → log ≡ map log_row_in (rows_under_header (records_of text))
    → length log ≤ length text
log_few text log e = rw (e, length-map) (rows_few text)
