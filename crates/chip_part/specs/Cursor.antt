-- The position of a turn between two of its operations, what is left of it there, and the next operation.
use Rattle.std.specs.Prelude.{◌≡◌, ◌≢◌, ℕ, ◌+◌, ◌-◌, ◌*◌, ◌<◌, ◌≤◌, false, not, List, [], ◌∷◌, ◌++◌, drop, length}
use Rattle.std.specs.Prelude.{slice_index, Option, Some, None, is_some}
pub use Rattle.chip_part.specs.declared.cursor.Cursor.{Cursor}
use Rattle.chip_part.specs.declared.cursor.Cursor.TheVariants as At
use Rattle.chip_part.specs.declared.act.Act.{Act}
use Rattle.chip_part.specs.declared.act.Act.TheVariants as Do
use Rattle.chip_part.specs.Setting.{Setting}
use Rattle.chip_part.specs.Edges.{tail_of}
use Rattle.chip_part.specs.Part.{Part}
use Rattle.chip_part.specs.Rules.{Event, Take, Claim, Put, Halt, Settle, unmet_rule}
use Rattle.chip_part.specs.Steps.{Step, part_of, does, saw}
use Rattle.chip_part.specs.Acting.{act_of, event_of}
use Rattle.chip_part.specs.Kept.{KeepsPart}
use Rattle.chip_part.specs.Turn.{Phase, nothing, either_phase, where_phase, and_then, each_phase, ins_of, outs_of}
use Rattle.chip_part.specs.Turn.{seeing, one_step, firing, after_claim_phase, sending, putting, sending_all}
use Rattle.chip_part.specs.Turn.{is_at_limit, acknowledging, last_acknowledgement, turn, most_steps}

module _ (g : Setting) (v : ℕ) where
  -- the edge at a place of those out of the vertex
  abbrev pub out_at : ℕ → ℕ
  out_at place = slice_index (outs_of g v) place

  -- what is left of a turn from a phase on, from the last phase to the first. A phase that visits edges is left from a
  -- place on
  abbrev pub from_acknowledging : ℕ → Phase
  from_acknowledging place = and_then (each_phase (acknowledging g v) (drop place (ins_of g v)))
      (last_acknowledgement g v)

  abbrev pub from_limit : Phase
  from_limit = and_then (where_phase (is_at_limit g v) (one_step g v (Halt v))) (from_acknowledging 0)

  abbrev pub from_sending : ℕ → Phase
  from_sending place = and_then (each_phase (sending g v) (drop place (outs_of g v))) from_limit

  abbrev pub from_refusal : Phase
  from_refusal = and_then (sending_all g v) from_limit

  abbrev pub from_putting : ℕ → Phase
  from_putting place = and_then (each_phase (putting g v) (drop place (outs_of g v))) from_refusal

  abbrev pub from_firing : Phase
  from_firing = and_then (firing g v) (from_putting 0)

  abbrev pub from_settling : ℕ → Phase
  from_settling place = and_then (each_phase (λ e. one_step g v (Settle e)) (drop place (outs_of g v))) from_firing

  abbrev pub from_taking : ℕ → Phase
  from_taking place = and_then (each_phase (λ e. one_step g v (Take e)) (drop place (ins_of g v))) (from_settling 0)

  -- an edge whose cell was read: it is claimed if the cell was empty
  abbrev pub claiming : ℕ → Phase
  claiming e = where_phase (λ s. (s.out e).link.clear) (seeing g v (Claim e) (after_claim_phase g v e))

  -- an edge that was claimed: the message is put, or a halt follows if the claim was refused
  abbrev pub storing : ℕ → Phase
  storing e s ds after = either_phase (is_some (s.out e).link.held) (one_step g v (Put e))
      (one_step g v (Halt v)) s ds after

  -- what is left of a turn at a cursor
  abbrev pub rest_of_turn : Cursor → Phase
  rest_of_turn (At.Take place) = from_taking place
  rest_of_turn (At.Settle place) = from_settling place
  rest_of_turn At.Fire = from_firing
  rest_of_turn (At.Put place) = from_putting place
  rest_of_turn At.Refusal = from_refusal
  rest_of_turn (At.Send place) = from_sending place
  rest_of_turn (At.Claim place) = and_then (claiming (out_at place)) (from_sending (place + 1))
  rest_of_turn (At.Store place) = and_then (storing (out_at place)) (from_sending (place + 1))
  rest_of_turn At.Limit = from_limit
  rest_of_turn (At.Ack place) = from_acknowledging place
  rest_of_turn At.Parent = last_acknowledgement g v
  rest_of_turn At.Over = nothing

  -- nothing is claimed and not put
  abbrev pub HoldsNothing : Part → Type 0
  HoldsNothing s = (e : ℕ) → tail_of g e ≡ v → (s.out e).link.held ≡ None

  -- the vertex visits the edges to send: it runs, nothing is claimed and not put, and no claim was refused
  pub record IsSending (s : Part) : Type 0 where
    pub running : s.halt ≡ None
    pub held : HoldsNothing s
    pub refused : (e : ℕ) → tail_of g e ≡ v → (s.out e).link.refused ≡ false

  -- the same except for one edge: its claim was either accepted or refused
  pub record HasClaimed (edge : ℕ) (s : Part) : Type 0 where
    pub running : s.halt ≡ None
    pub held : (e : ℕ) → tail_of g e ≡ v → edge ≢ e → (s.out e).link.held ≡ None
    pub refused : (e : ℕ) → tail_of g e ≡ v → edge ≢ e → (s.out e).link.refused ≡ false
    pub either : (s.out edge).link.refused ≡ not (is_some (s.out edge).link.held)

  -- a turn may be at this cursor with this part, as the phases before left it
  abbrev pub IsAt : Cursor → Part → Type 0
  IsAt (At.Put place) s = (k : ℕ) → k < place → (s.out (out_at k)).link.held ≡ None
  IsAt At.Refusal s = HoldsNothing s
  IsAt (At.Send place) s = IsSending s
  IsAt (At.Claim place) s = (place < length (outs_of g v)) × IsSending s
  IsAt (At.Store place) s = (place < length (outs_of g v)) × HasClaimed (out_at place) s
  IsAt At.Limit s = HoldsNothing s
  IsAt _ s = Unit {0}

-- the most operations left at a cursor, for a vertex with i edges into it and o out of it. An edge out of it counts
-- once for a put and three times for a send, though no turn does both
abbrev pub most_left : ℕ → ℕ → Cursor → ℕ
most_left i o (At.Take place) = (i - place) + o + 1 + o + 3 * o + 1 + i + 1
most_left i o (At.Settle place) = (o - place) + 1 + o + 3 * o + 1 + i + 1
most_left i o At.Fire = 1 + o + 3 * o + 1 + i + 1
most_left i o (At.Put place) = (o - place) + 3 * o + 1 + i + 1
most_left i o At.Refusal = 3 * o + 1 + i + 1
most_left i o (At.Send place) = 3 * (o - place) + 1 + i + 1
most_left i o (At.Claim place) = 2 + 3 * (o - (place + 1)) + 1 + i + 1
most_left i o (At.Store place) = 1 + 3 * (o - (place + 1)) + 1 + i + 1
most_left i o At.Limit = 1 + i + 1
most_left i o (At.Ack place) = (i - place) + 1
most_left i o At.Parent = 1
most_left i o At.Over = 0

-- the same by the edges of the vertex v
abbrev pub fuel : Setting → ℕ → Cursor → ℕ
fuel g v = most_left (length (ins_of g v)) (length (outs_of g v))

-- a turn of v that began from the part `first` is at this cursor, after these operations with what each saw, with the
-- part s
pub record IsUnderWay (g : Setting) (v : ℕ) (first : Part) (done : List Step) (cursor : Cursor)
    (s : Part) : Type 0 where
  pub fits : IsAt g v cursor s
  -- with what is left, they are a turn
  pub rest : (ds : List Step) (after : Part) → rest_of_turn g v cursor s ds after → turn g v first (done ++ ds) after

-- the operation is the next one of a turn: it is of an enabled event of v, and whatever it sees the turn goes on at the
-- next cursor, with fewer operations left
pub record IsNext (g : Setting) (v : ℕ) (first : Part) (done : List Step) (s : Part) (cursor : Cursor) (act : Act)
    (next : Cursor) : Type 0 where
  pub mine : part_of g (event_of v act) ≡ v
  pub met : unmet_rule g (event_of v act) s ≡ None
  pub needed : act ≡ act_of g (event_of v act) s
  pub fewer : fuel g v next < fuel g v cursor
  pub goes_on : (seen : ℕ)
      → IsUnderWay g v first (done ++ saw (event_of v act) seen ∷ []) next
      (does g (saw (event_of v act) seen) s)

-- the result at a cursor of a turn under way: nothing if the operations are a whole turn, else its next operation
pub record Continues (g : Setting) (v : ℕ) (s : Part) (cursor : Cursor) (act : Act) (next : Cursor) : Type 0 where
  pub ends : act ≡ Do.End → (first : Part) (done : List Step) → IsUnderWay g v first done cursor s
      → turn g v first done s
  pub steps : act ≢ Do.End → (first : Part) (done : List Step) → IsUnderWay g v first done cursor s
      → IsNext g v first done s cursor act next

-- every turn begins at this cursor
abbrev pub Begins : Cursor → Type 0
Begins cursor = (g : Setting) (v : ℕ) (s : Part) → IsUnderWay g v s [] cursor s

-- ---- for each phase

-- an event after which a turn goes on at the next cursor
pub record GoesBy (g : Setting) (v : ℕ) (s : Part) (cursor : Cursor) (x : Event) (next : Cursor) : Type 0 where
  pub mine : part_of g x ≡ v
  pub met : unmet_rule g x s ≡ None
  pub fewer : fuel g v next < fuel g v cursor
  pub fits : (seen : ℕ) → IsAt g v next (does g (saw x seen) s)
  pub rest : (seen : ℕ) (ds : List Step) (after : Part)
      → rest_of_turn g v next (does g (saw x seen) s) ds after
      → rest_of_turn g v cursor s (saw x seen ∷ ds) after

-- what is due at a cursor, with the cursor after it: nothing if nothing is left
abbrev pub IsDueAt : Setting → ℕ → Part → Cursor → Option (Event × Cursor) → Type 0
IsDueAt g v s cursor None = rest_of_turn g v cursor s [] s
IsDueAt g v s cursor (Some due) = GoesBy g v s cursor due.0 due.1

-- a turn that is under way has made no more operations than a whole turn may have
abbrev pub UnderWayIsBounded : Type 0
UnderWayIsBounded =
    (g : Setting) (v : ℕ) → v < g.game.graph.vertices → (first : Part) → KeepsPart g v first
    → (done : List Step) (cursor : Cursor) (s : Part) → IsUnderWay g v first done cursor s
    → length done ≤ most_steps g v
