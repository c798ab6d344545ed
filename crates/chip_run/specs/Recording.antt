-- What the actors of a crew wrote down.
use Rattle.std.specs.Prelude.{◌≡◌, ℕ, nat_lt, Bool, false, List, length, map, take, Option, None, Some, Err}
use Rattle.std.specs.List.{list_any}
use Rattle.std.specs.Io.KnownBytes.{Appends}
use Rattle.chip_link.specs.declared.trace.TraceRow.{TraceRow}
use Rattle.chip_net.specs.Tokens.{ActorKnown}
use Rattle.chip_net.specs.Traces.{trace_rows_of}
use Rattle.chip_trace.specs.TraceText.{trace_text, WritesText}
use Rattle.chip_trace.specs.declared.fault.TraceFault.TheVariants as trace
use Rattle.chip_command.specs.declared.fault.Fault.{Fault}
use Rattle.chip_command.specs.declared.fault.Fault.TheVariants as fault

-- the takes and firings of an actor for which it had room
abbrev pub rows_kept : ActorKnown → List TraceRow
rows_kept a = take a.room (trace_rows_of a.did)

-- whether there was one for which it had no room
abbrev pub is_cut : ActorKnown → Bool
is_cut a = nat_lt a.room (length (trace_rows_of a.did))

-- whether that is so of one of these actors
abbrev pub is_any_cut : List ActorKnown → Bool
is_any_cut actors = list_any is_cut actors

-- the rows of these actors were written, and the result is whether one of them was cut
pub record Records (actors : List ActorKnown) (old new : Option (List ℕ)) (cut : Bool) : Type 0 where
  pub text : Appends old new (trace_text (map rows_kept actors))
  pub cut_is : cut ≡ is_any_cut actors

-- the same for a writer, if there is one; without one no row is cut
abbrev pub RecordsIfAsked : List ActorKnown → Option (Option (List ℕ)) → Option (Option (List ℕ)) → Bool → Type 0
RecordsIfAsked actors None None cut = cut ≡ false
RecordsIfAsked actors None (Some new) cut = ⊥
RecordsIfAsked actors (Some old) None cut = ⊥
RecordsIfAsked actors (Some old) (Some new) cut = Records actors old new cut

-- why the rows of these actors were not written: there is no memory, and nothing was written; or a write failed, and
-- only their first bytes were, and not all of them
abbrev pub FailsToRecord : List ActorKnown → Option (Option (List ℕ)) → Option (Option (List ℕ)) → Fault → Type 0
FailsToRecord actors (Some old) (Some new) fault.NoMemory =
    WritesText old new (trace_text (map rows_kept actors)) (Err trace.NoMemory)
FailsToRecord actors (Some old) (Some new) fault.WriteFile =
    WritesText old new (trace_text (map rows_kept actors)) (Err trace.Write)
FailsToRecord actors old new f = ⊥
