-- Serves Past.antt.
-- The loops over the rows before a claim.
use Rattle.chip_log.proofs.Names.{◌≡◌, ℕ, ◌+◌, ◌≤◌, ◌<◌, Bool, true, false, List, [], ◌∷◌, ◌++◌, length, get_or, refl}
use Rattle.chip_log.proofs.Names.{ap, arith, append-nil, ◌-◌, ◌^◌, take, drop, ltb-true}
use Rattle.chip_log.proofs.Names.{take_more, take-append-drop, drop_more, All-get_or, get_or_from_slice_get}
use Rattle.chip_log.proofs.Names.{slice_get_within, Passes, is_needed, KeepsRow, HasMakeRoom, HasFlightRoom}
use Rattle.chip_log.proofs.Names.{HasCountRoom, HasKeepRoom, HasRoomForRow, steps_of, is_out, outs, ins, HasEnds, nat_tests}
use Rattle.chip_log.proofs.Names.{is_in, is_enabled, AreEnabled, IsInOrder, AreInFlight, AreKept, AreBooksOf}
use Rattle.chip_log.proofs.Names.{IsLog, FitsRow, AreSized, IsPlace, TallyState, Books, ClaimPlace, Sizes, LogRow, Step}
use Rattle.chip_log.proofs.Names.{Out, In, Over, Stream}
use Rattle.chip_log.proofs.CountLemmas.{rows-append, rows_few}
use Rattle.chip_log.proofs.MetLemmas.{push_yes, push_no, same_self}
use Rattle.chip_log.proofs.PastLemmas.{are_met_first, are_met_second, met_le, IsSplit}
use Rattle.chip_log.proofs.BooksLemmas.{looked}

pub steps_few : (q : ℕ) (xs : List LogRow) → length (steps_of q xs) ≤ length xs
steps_few q [] = omega arith
steps_few q (x ∷ xs) = let a = steps_few q xs in grind (arith, nat_tests)

-- there is room for a row beside those that the books keep
pub keep_room : (sizes : Sizes) (x : LogRow) (kept : List LogRow) (b : Books) → FitsRow sizes x → AreSized sizes b
    → AreKept kept b → length kept + 1 < 2 ^ 32 → HasKeepRoom x b
keep_room sizes x kept b fits sized was few = record {
  process = omega arith;
  counted = omega arith;
  taken = rw sized.taken fits.channel;
  sent = rw sized.sent fits.channel;
  counts = by x.step;
  rows = let a = was.rows x.process in let e = steps_few x.process kept in omega arith;
}
  where
    by : (step : Step) → HasCountRoom step b
    by (Out s) = let a = was.sent s in let e = rows_few (is_out s) kept in omega arith
    by (In s) = let a = was.taken s in let e = rows_few (is_in s) kept in omega arith
    by _ = tt

-- what is read after the last row
abbrev pub no_row : LogRow
no_row = record { process = 0; step = Out (record { channel = 0; is_control = false }) }

-- the rows before a place, the row there, and those after it
pub rows_split : (log : List LogRow) (i : ℕ) (d : LogRow) → i < length log
    → take i log ++ (get_or log i d ∷ drop (i + 1) log) ≡ log
rows_split log i d l = rw (← drop_more log i d l) (take-append-drop i log)

module _ (log : List LogRow) (sizes : Sizes) (order : IsInOrder sizes log) where
  module _ (i : ℕ) (d : LogRow) (l : i < length log) where
    abbrev pre : List LogRow
    pre = take i log

    abbrev x : LogRow
    x = get_or log i d

    met : AreEnabled log [] (pre ++ (x ∷ drop (i + 1) log))
    met = rw (rows_split log i d l) order.log.met

    met_here : is_enabled log pre x.process x.step ≡ true
    met_here = (are_met_second log [] pre (x ∷ drop (i + 1) log) met).0

    pre_le : (s : Stream) → ins s pre ≤ outs s pre
    pre_le s = met_le s log [] pre (are_met_first log [] pre (x ∷ drop (i + 1) log) met) (omega arith)

    outs_all : (s : Stream) → outs s (pre ++ x ∷ []) ≤ length log
    outs_all s = let a = ap (outs s) (rows_split log i d l) in omega (arith, rows-append, rows_few)

    fits_here : FitsRow sizes x
    fits_here = All-get_or (FitsRow sizes) log i d l order.fits

    pub make_room : (flight : TallyState) → AreInFlight pre flight → HasMakeRoom x.step flight
    make_room flight was = by x.step refl
      where
        by : (step : Step) → x.step ≡ step → HasMakeRoom step flight
        by (Out s) e = let b = push_yes (is_out s) pre x (rw e (same_self s)) in omega (arith, was s, outs_all s)
        by (In s) e = let b = ltb-true (ins s pre) (outs s pre) (rw e at met_here) in omega (arith, was s)
        by _ e = tt

    pub look_room : (kept : List LogRow) (b : Books) → AreSized sizes b → AreBooksOf (pre ++ x ∷ []) kept b
        → length kept + 1 < 2 ^ 32 → HasRoomForRow x b
    look_room kept b sized was short = record {
      flight = rw sized.flight fits_here.channel;
      in_flight = by x.step refl;
      keep = keep_room sizes x kept b fits_here sized was.keeps short;
    }
      where
        by : (step : Step) → x.step ≡ step → HasFlightRoom step b.flight
        by (Out s) e =
            let f = push_yes (is_out s) pre x (rw e (same_self s)) in let g = push_no (is_in s) pre x (rw e) in
            omega (arith, was.flight s, pre_le s)
        by (In s) e = let f = push_yes (is_in s) pre x (rw e (same_self s)) in omega (arith, was.flight s, outs_all s)
        by _ e = tt

-- the rows before a place, without the last one, and those from there on
before_last : (log : List LogRow) (left : ℕ) (d : LogRow) → 0 < left → left ≤ length log
    → take left log ≡ take (left - 1) log ++ get_or log (left - 1) d ∷ []
before_last log left d some within =
    let e : left - 1 + 1 ≡ left = omega arith in rw e at (take_more log (left - 1) d (omega arith))

pub from_last : (log : List LogRow) (left : ℕ) (d : LogRow) → 0 < left → left ≤ length log
    → drop (left - 1) log ≡ get_or log (left - 1) d ∷ drop left log
from_last log left d some within =
    let e : left - 1 + 1 ≡ left = omega arith in rw e at (drop_more log (left - 1) d (omega arith))

-- one turn of the loop that reads rows
module _ (log : List LogRow) (sizes : Sizes) (order : IsInOrder sizes log)
    (ends : HasEnds log) (p n left : ℕ) (d : LogRow) (some : 0 < left) (inside : left ≤ length log) (kept : List LogRow)
    (b : Books) (sized : AreSized sizes b) (split : IsSplit log ends p n (take left log) kept)
    (was : AreBooksOf (take left log) kept b) (short : left + length kept ≤ length log) where
  abbrev row_here : LogRow
  row_here = get_or log (left - 1) d

  split_here : IsSplit log ends p n (take (left - 1) log ++ row_here ∷ []) kept
  split_here = rw (before_last log left d some inside) at split

  books_here : AreBooksOf (take (left - 1) log ++ row_here ∷ []) kept b
  books_here = rw (before_last log left d some inside) at was

  pub turn_room : HasRoomForRow row_here b
  turn_room = look_room log sizes order (left - 1) d (omega arith) kept b sized books_here (omega arith)

  pub turn_looked : (new : Books) → b.claimer ≡ p → Passes row_here.step b.flight new.flight
      → KeepsRow (is_needed row_here new.flight b) row_here b new
      → (later : List LogRow) × (IsSplit log ends p n (take (left - 1) log) later
      × AreBooksOf (take (left - 1) log) later new × (length later ≤ length kept + 1))
  turn_looked new claimer passes keeps = looked log ends p n (take (left - 1) log) kept row_here b new claimer
      turn_room.keep.process turn_room.keep.counted split_here books_here passes keeps

-- books of the same sizes
pub kept_sized : (sizes : Sizes) (needed : Bool) (x : LogRow) (old new : Books) → AreSized sizes old
    → new.flight.channels ≡ old.flight.channels → KeepsRow needed x old new → AreSized sizes new
kept_sized sizes needed x old new sized flight keeps = omega arith

-- where the reading of rows begins
module _ (log : List LogRow) (is : IsLog log) (claim : ClaimPlace) (place : IsPlace log claim) where
  abbrev row : LogRow
  row = record { process = claim.process; step = Over }

  pub within : claim.at < length log
  within = slice_get_within log claim.at row place.over

  pub at_place : take claim.at log ++ (row ∷ drop (claim.at + 1) log) ≡ log
  at_place = rw (get_or_from_slice_get log claim.at row row place.over) at (rows_split log claim.at row within)

  all : (take claim.at log ++ []) ++ row ∷ drop (claim.at + 1) log ≡ log
  all = rw append-nil at_place

  pub start_split : IsSplit log is.ends claim.process claim.row (take claim.at log) []
  start_split = record {
    before = record {
      after = drop (claim.at + 1) log;
      whole = rw all (record { whole = λ p. refl; met = is.met });
      place = rw append-nil place.row;
    };
    least = λ other here q some. absurd (some refl);
  }
