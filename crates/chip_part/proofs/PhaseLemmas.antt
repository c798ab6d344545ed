-- Serves Turn.antt, Cursor.antt, Worked.antt.
-- A property that the phases of a turn pass on holds of the whole turn, and of what is left of it at a cursor. So every
-- turn under way can be completed, and a worked turn is determined by what it sees.
use Rattle.std.proofs.Common.{◌≡◌, ℕ, zero, suc, ◌+◌, Bool, true, false, not, ◌&&◌, eqb, List, [], ◌∷◌, drop, Contains}
use Rattle.std.proofs.Common.{refl, sym, ap, ◌∙◌, arith, is_some, ◌<◌, ◌≤◌, ◌++◌, length, Option, Some, None}
use Rattle.std.proofs.Common.{length-append, cond}
use Rattle.std.proofs.lemmas.List.{get_or_default}
use Rattle.chip_link.specs.Link.{claims_of}
use Rattle.chip_part.specs.Setting.{Setting}
use Rattle.chip_part.specs.declared.cursor.Cursor.TheVariants as At
use Rattle.chip_part.specs.Edges.{tail_of, head_of}
use Rattle.chip_part.specs.Part.{Part, is_running, refusals, may_ack_on, opening_part}
use Rattle.chip_part.specs.Rules.{Event, Take, Ack, Fire, Clear, Claim, Put, Halt, Settle}
use Rattle.chip_part.specs.Steps.{part_of, Step, does, saw, part_after}
use Rattle.chip_part.specs.Turn.{Phase, nothing, either_phase, where_phase, and_then, each_phase, ins_of, outs_of}
use Rattle.chip_part.specs.Turn.{seeing, one_step, may_fire, batch_of, firing, after_claim_phase, after_clear_phase}
use Rattle.chip_part.specs.Turn.{sending, putting, sending_all, is_at_limit, acknowledging, last_acknowledgement, turn}
use Rattle.chip_part.specs.Turn.{acknowledging_parent, most_steps}
use Rattle.chip_part.specs.Cursor.{Cursor, rest_of_turn, from_acknowledging, from_limit, from_sending, from_refusal}
use Rattle.chip_part.specs.Cursor.{from_putting, from_firing, from_settling, from_taking, out_at, claiming, storing}
use Rattle.chip_part.specs.Cursor.{IsAt, IsUnderWay}
use Rattle.chip_part.proofs.TurnStepsLemmas.{out_leaves, in_enters}
use Rattle.chip_part.specs.Kept.{KeepsPart}
use Rattle.chip_part.proofs.TurnLemmas.{turns_bounded}
use Rattle.chip_part.specs.Worked.{small_triangle, FirstTurn, sent_in_part, TurnBegunInTheMiddle}

module _ (g : Setting) (v : ℕ) where
  -- it holds of no operation, of a phase that is chosen by the part, of two phases, of one operation of the vertex and
  -- what follows, and of the last acknowledgement
  pub record Spreads (P : Phase → Type 0) : Type 1 where
    pub none : P nothing
    pub chosen : (p : Part → Phase) → ((s : Part) → P (p s)) → P (λ s. p s s)
    pub both : (p q : Phase) → P p → P q → P (and_then p q)
    pub event : (x : Event) → part_of g x ≡ v → (next : ℕ → Part → Phase)
        → ((seen : ℕ) (before : Part) → P (next seen before)) → P (seeing g v x next)
    pub last : P (last_acknowledgement g v)

  module _ (P : Phase → Type 0) (spreads : Spreads P) where
    abbrev either : (b : Bool) (p q : Phase) → P p → P q → P (either_phase b p q)
    either true p q one other = one
    either false p q one other = other

    abbrev where_so : (test : Part → Bool) (p : Phase) → P p → P (where_phase test p)
    where_so test p one = spreads.chosen (λ s. either_phase (test s) p nothing)
        (λ s. either (test s) p nothing one spreads.none)

    abbrev step : (x : Event) → part_of g x ≡ v → P (one_step g v x)
    step x by = spreads.event x by (λ seen before. nothing) (λ seen before. spreads.none)

    -- of the phases of these edges, from a place on
    abbrev each : (p : ℕ → Phase) (es : List ℕ) → ((e : ℕ) → Contains es e → P (p e)) → (place : ℕ)
        → P (each_phase p (drop place es))
    each p [] all zero = spreads.none
    each p (e ∷ es) all zero = spreads.both (p e) (each_phase p es) (all e (0, omega arith, refl))
        (each p es (λ i at. all i (let l = at.1 in (suc at.0, omega arith, at.2))) zero)
    each p [] all (suc place) = spreads.none
    each p (e ∷ es) all (suc place) = each p es (λ i at. all i (let l = at.1 in (suc at.0, omega arith, at.2))) place

    pub enters : (e : ℕ) → Contains (ins_of g v) e → head_of g e ≡ v
    enters e at = ap (head_of g) (sym at.2 ∙ get_or_default (ins_of g v) at.0 e 0 at.1) ∙ in_enters g v at.0 at.1

    pub leaves : (e : ℕ) → Contains (outs_of g v) e → tail_of g e ≡ v
    leaves e at = ap (tail_of g) (sym at.2 ∙ get_or_default (outs_of g v) at.0 e 0 at.1) ∙ out_leaves g v at.0 at.1

    abbrev pub of_takes : (place : ℕ) → P (each_phase (λ e. one_step g v (Take e)) (drop place (ins_of g v)))
    of_takes = each (λ e. one_step g v (Take e)) (ins_of g v) (λ e at. step (Take e) (enters e at))

    abbrev pub of_settles : (place : ℕ) → P (each_phase (λ e. one_step g v (Settle e)) (drop place (outs_of g v)))
    of_settles = each (λ e. one_step g v (Settle e)) (outs_of g v) (λ e at. step (Settle e) (leaves e at))

    abbrev pub of_firing : P (firing g v)
    of_firing = spreads.chosen (λ s. where_phase (may_fire g v) (one_step g v (Fire v (batch_of g v s))))
        (λ s. where_so (may_fire g v) (one_step g v (Fire v (batch_of g v s))) (step (Fire v (batch_of g v s)) refl))

    abbrev pub of_puts : (place : ℕ) → P (each_phase (putting g v) (drop place (outs_of g v)))
    of_puts = each (putting g v) (outs_of g v)
        (λ e at. where_so (λ s. is_some (s.out e).link.held) (one_step g v (Put e)) (step (Put e) (leaves e at)))

    abbrev of_claim : (e : ℕ) → tail_of g e ≡ v → P (seeing g v (Claim e) (after_claim_phase g v e))
    of_claim e by = spreads.event (Claim e) by (after_claim_phase g v e) (λ seen before. either
        (eqb seen (claims_of (before.out e).link)) (one_step g v (Put e)) (one_step g v (Halt v)) (step (Put e) by)
        (step (Halt v) refl))

    abbrev of_sending : (e : ℕ) → tail_of g e ≡ v → P (sending g v e)
    of_sending e by = where_so (λ s. is_running s.halt && not (eqb (s.out e).pending 0))
        (seeing g v (Clear e) (after_clear_phase g v e))
        (spreads.event (Clear e) by (after_clear_phase g v e) (λ seen before. either (eqb seen 0)
        (seeing g v (Claim e) (after_claim_phase g v e)) nothing (of_claim e by) spreads.none))

    abbrev of_sends : (place : ℕ) → P (each_phase (sending g v) (drop place (outs_of g v)))
    of_sends = each (sending g v) (outs_of g v) (λ e at. of_sending e (leaves e at))

    abbrev pub of_sending_all : P (sending_all g v)
    of_sending_all = spreads.chosen (λ s. either_phase (is_running s.halt)
        (either_phase (eqb (refusals g v s) 0) (each_phase (sending g v) (outs_of g v)) (one_step g v (Halt v))) nothing)
        (λ s. either (is_running s.halt) _ nothing
        (either (eqb (refusals g v s) 0) _ (one_step g v (Halt v)) (of_sends 0) (step (Halt v) refl)) spreads.none)

    abbrev pub of_limit : P (where_phase (is_at_limit g v) (one_step g v (Halt v)))
    of_limit = where_so (is_at_limit g v) (one_step g v (Halt v)) (step (Halt v) refl)

    abbrev pub of_acks : (place : ℕ) → P (from_acknowledging g v place)
    of_acks place = spreads.both _ _ (each (acknowledging g v) (ins_of g v)
        (λ e at. where_so (λ s. not (eqb (may_ack_on g (head_of g e) s e) 0)) (one_step g v (Ack e)) (step (Ack e) (enters e at)))
        place) spreads.last

    -- ---- of what is left of a turn

    abbrev after_sends : P (from_limit g v)
    after_sends = spreads.both _ _ of_limit (of_acks 0)

    abbrev from_sends : (place : ℕ) → P (from_sending g v place)
    from_sends place = spreads.both _ _ (of_sends place) after_sends

    abbrev after_puts : P (from_refusal g v)
    after_puts = spreads.both _ _ of_sending_all after_sends

    abbrev from_puts : (place : ℕ) → P (from_putting g v place)
    from_puts place = spreads.both _ _ (of_puts place) after_puts

    abbrev from_fire : P (from_firing g v)
    from_fire = spreads.both _ _ of_firing (from_puts 0)

    abbrev from_settles : (place : ℕ) → P (from_settling g v place)
    from_settles place = spreads.both _ _ (of_settles place) from_fire

    abbrev from_takes : (place : ℕ) → P (from_taking g v place)
    from_takes place = spreads.both _ _ (of_takes place) (from_settles 0)

    pub of_left : (cursor : Cursor) (s : Part) → IsAt g v cursor s → P (rest_of_turn g v cursor)
    of_left (At.Take place) s at = from_takes place
    of_left (At.Settle place) s at = from_settles place
    of_left At.Fire s at = from_fire
    of_left (At.Put place) s at = from_puts place
    of_left At.Refusal s at = after_puts
    of_left (At.Send place) s at = from_sends place
    of_left (At.Claim place) s at = spreads.both (claiming g v (out_at g v place)) _ (where_so _ _
        (of_claim (out_at g v place) (out_leaves g v place at.0))) (from_sends (place + 1))
    of_left (At.Store place) s at = spreads.both (storing g v (out_at g v place)) _
        (spreads.chosen (λ p. either_phase (is_some (p.out (out_at g v place)).link.held)
        (one_step g v (Put (out_at g v place))) (one_step g v (Halt v)))
        (λ p. either _ _ _ (step (Put (out_at g v place)) (out_leaves g v place at.0)) (step (Halt v) refl)))
        (from_sends (place + 1))
    of_left At.Limit s at = after_sends
    of_left (At.Ack place) s at = of_acks place
    of_left At.Parent s at = spreads.last
    of_left At.Over s at = spreads.none

    abbrev pub of_turn : P (turn g v)
    of_turn = from_takes 0

-- the phase can be made from every part
abbrev pub Total : Phase → Type 0
Total p = (s : Part) → (ds : List Step) × (after : Part) × p s ds after

abbrev total_nothing : Total nothing
total_nothing s = ([], s, (refl, refl))

abbrev total_either : (b : Bool) (p q : Phase) → Total p → Total q → Total (either_phase b p q)
total_either true p q some other = some
total_either false p q some other = other

-- whatever its operations will see
module _ (sight : Event → ℕ) (g : Setting) (v : ℕ) where
  abbrev total_event : (x : Event) (next : ℕ → Part → Phase) → ((seen : ℕ) (before : Part) → Total (next seen before))
      → Total (seeing g v x next)
  total_event x next some s =
      let rest = some (sight x) s (does g (saw x (sight x)) s) in
      (saw x (sight x) ∷ rest.0, rest.1, (sight x, rest.0, refl, rest.2))

  abbrev total_parent : (parent : Option ℕ) → Total (acknowledging_parent g v parent)
  total_parent None s = total_nothing s
  total_parent (Some e) s = total_either (not (eqb (may_ack_on g (head_of g e) s e) 0)) (one_step g v (Ack e)) nothing
      (total_event (Ack e) (λ seen before. nothing) (λ seen before. total_nothing)) total_nothing s

  abbrev pub total : Spreads g v Total
  total = record {
    none = total_nothing;
    chosen = λ p all s. all s s;
    both = λ p q some other s. (let front = some s in let back = other front.1 in
        (front.0 ++ back.0, back.1, (front.0, front.1, back.0, refl, front.2, back.2)));
    event = λ x by. total_event x;
    last = λ s. total_parent s.parent s;
  }

pub under_way_bounded : (g : Setting) (v : ℕ) → v < g.game.graph.vertices → (first : Part) → KeepsPart g v first
    → (done : List Step) (cursor : Cursor) (s : Part) → IsUnderWay g v first done cursor s
    → length done ≤ most_steps g v
under_way_bounded g v vertex first kept done cursor s way =
    let rest = of_left g v Total (total (λ x. 0) g v) cursor s way.fits s in
    let whole = turns_bounded g v vertex first kept (done ++ rest.0) (rest.1, way.rest rest.0 rest.1 rest.2) in
    let n = length-append done rest.0 in
    omega arith

abbrev found : Event → ℕ
found (Take e) = cond (eqb e 4) 4 0
found _ = 0

pub first_turn_is : FirstTurn
first_turn_is =
    let g : Setting = small_triangle (4 ∷ 0 ∷ 0 ∷ []) in
    let whole = of_turn g 0 Total (total found g 0) (opening_part g) in
    ((whole.1, whole.2), refl)

pub second_turn_is : TurnBegunInTheMiddle
second_turn_is =
    let g : Setting = small_triangle (6 ∷ 0 ∷ 0 ∷ []) in
    let whole = of_turn g 0 Total (total (λ x. 0) g 0) (part_after g (opening_part g) sent_in_part) in
    (refl, (whole.1, whole.2))
