-- A worked run: the root, process 1, sends one message to process 0 on edge 0.
use Rattle.std.specs.Prelude.{◌≡◌, ℕ, ◌==◌, Bool, true, false, if◌then◌else◌, [], ◌∷◌, Option, Some, None}
use Rattle.std.specs.Prelude.{count_by}
use Rattle.chip_detect.specs.Acknowledging.{may_ack}
use Rattle.chip_diffusing.specs.Network.{Network, IsNetwork}
use Rattle.chip_diffusing.specs.Computation.{PartState, World, Send, Get, Ack, Settle, Work, Log, IsLegalLog}
use Rattle.chip_diffusing.specs.Computation.{acked_on, settled_on, IsQuiescent, HasClosedRoot}
use Rattle.chip_diffusing.specs.Ending.{IsEngagementOrder, left, IsAtMostDeep, HasMomentRounds, Goes, IsSettledUp, advancing, is_send}

abbrev pub pair : Network
pair = record { parts = 2; edges = 1; tail = λ e. 1; head = λ e. 0; root = 1 }

-- the root by what it sent and settled, process 0 by what it got, acknowledged and by its parent
abbrev pub worked_root : ℕ → ℕ → Bool → PartState
worked_root sent settled passive = record {
  books = record { ins = []; outs = record { edge = 0; messages = sent; answered = settled } ∷ []; parent = None };
  passive = passive;
}

abbrev pub other_part : ℕ → ℕ → Option ℕ → Bool → PartState
other_part got acked parent passive = record {
  books = record { ins = record { edge = 0; messages = got; answered = acked } ∷ []; outs = []; parent = parent };
  passive = passive;
}

-- no number above 1 is a process
abbrev pub both : PartState → PartState → World
both root other p = if p == 1 then root else if p == 0 then other else other_part 0 0 None true

-- process 0 was woken, the root sends no more
abbrev pub at_work : World
at_work = both (worked_root 1 0 true) (other_part 1 0 (Some 0) false)

-- it has done its work
abbrev pub at_rest : World
at_rest = both (worked_root 1 0 true) (other_part 1 0 (Some 0) true)

abbrev pub acknowledged : World
acknowledged = both (worked_root 1 0 true) (other_part 1 1 None true)

abbrev pub closed : World
closed = both (worked_root 1 1 true) (other_part 1 1 None true)

abbrev pub to_work : Log
to_work = Get 0 ∷ Work 1 ∷ Send 0 ∷ []

abbrev pub whole : Log
whole = Settle 0 1 ∷ Ack 0 1 ∷ Work 0 ∷ to_work

-- while process 0 is at work, it is in the tree and may not acknowledge
abbrev pub AtWork : Type 0
AtWork = IsNetwork pair × IsLegalLog pair to_work at_work × IsEngagementOrder pair at_work (0 ∷ [])
    × (may_ack (at_work 0).books 0 false ≡ 0) × (left pair at_work ≡ 2) × (HasClosedRoot pair at_work → ⊥)

-- then it is passive and acknowledges: it is over, and the root has only to settle it
abbrev pub ToTheEnd : Type 0
ToTheEnd = IsLegalLog pair whole closed × IsQuiescent pair acknowledged × (HasClosedRoot pair acknowledged → ⊥)
    × (left pair acknowledged ≡ 1) × HasClosedRoot pair closed × (left pair closed ≡ 0)

-- one message, and three events that advance, the most possible: it was got, acknowledged and settled
abbrev pub ThreeAdvance : Type 0
ThreeAdvance = ((legal : IsLegalLog pair whole closed) × (advancing pair legal.first whole closed legal.leads ≡ 3))
    × (count_by is_send whole ≡ 1) × IsSettledUp pair closed 0

-- it is one deep in the tree: two rounds, in the first of which it acknowledges
abbrev pub InTwoRounds : Type 0
InTwoRounds = IsQuiescent pair at_rest × IsAtMostDeep pair at_rest 1 × HasMomentRounds pair 2 at_rest acknowledged
    × Goes pair acknowledged closed × (acked_on pair acknowledged 0 ≡ settled_on pair closed 0)
