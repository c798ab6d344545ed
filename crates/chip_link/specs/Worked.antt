-- Worked runs of one edge, as the definitions compute them.
use Rattle.std.specs.Prelude.{◌≡◌, ℕ, ◌+◌, ◌^◌, true, false, List, [], ◌∷◌, Some, None}
use Rattle.chip_link.specs.declared.message.Message.{Message}
use Rattle.chip_link.specs.Ends.{TailState, new_tail, tail_cell, may_clear, tail_after_clear, claim_words}
use Rattle.chip_link.specs.Ends.{tail_after_claim, message_claimed, put_of, tail_after_put, HeadState, new_head}
use Rattle.chip_link.specs.Ends.{head_after_take, message_taken}
use Rattle.chip_link.specs.Edge.{LiveEdge, EdgeStep, Clear, Claim, Put, Take, Seal, new_edge, steps}

-- by edge, place and count
abbrev pub worked_message : ℕ → ℕ → ℕ → Message
worked_message edge place count = record { edge = edge; place = place; count = count }

-- a message over a ring of one cell, and a second one that a seal refuses: what the tail returns at each call
abbrev pub OneCellTail : Type 0
OneCellTail =
    let fresh : TailState = new_tail 0 1 in
    let looked : TailState = tail_after_clear 0 fresh in
    let sent : TailState = tail_after_claim 0 2 looked in
    let put : TailState = tail_after_put sent in
    let full : TailState = tail_after_clear 2 put in
    let free : TailState = tail_after_clear 0 full in
    let refused : TailState = tail_after_claim (2 ^ 63 + 1) 5 free in
    (claim_words fresh ≡ None) × (may_clear fresh ≡ true) × (claim_words looked ≡ Some (0, 1))
    × (message_claimed 0 2 looked ≡ Some (worked_message 0 0 2))
    × (may_clear sent ≡ false) × (tail_after_clear 0 sent ≡ sent) × (put_of sent ≡ Some (0, 2)) × (put_of put ≡ None)
    × (claim_words full ≡ None)
    × (claim_words free ≡ Some (1, 2)) × (message_claimed (2 ^ 63 + 1) 5 free ≡ None) × (claim_words refused ≡ None)
    × (may_clear refused ≡ false)

-- what the head returns: an empty cell, then two messages
abbrev pub OneCellHead : Type 0
OneCellHead =
    let fresh : HeadState = new_head 0 1 in
    let one : HeadState = head_after_take 2 fresh in
    (message_taken 0 fresh ≡ None) × (head_after_take 0 fresh ≡ fresh)
    × (message_taken 2 fresh ≡ Some (worked_message 0 0 2)) × (message_taken 5 one ≡ Some (worked_message 0 1 5))

-- a tail that reads, claims one chip and puts it
abbrev pub send_one : List EdgeStep → List EdgeStep
send_one rest = Clear ∷ Claim 1 ∷ Put ∷ rest

-- three messages over a ring of two cells: the third read finds it full, and after a take it is clear again; the fourth
-- take finds nothing
abbrev pub RingOfTwo : Type 0
RingOfTwo =
    let two : LiveEdge = steps (send_one (send_one [])) (new_edge 0 2) in
    let full : LiveEdge = steps (Clear ∷ Claim 1 ∷ []) two in
    let three : LiveEdge = steps (Take ∷ send_one []) full in
    let drained : LiveEdge = steps (Take ∷ Take ∷ Take ∷ []) three in
    let all : List Message = worked_message 0 0 1 ∷ worked_message 0 1 1 ∷ worked_message 0 2 1 ∷ [] in
    (two.cells ≡ 1 ∷ 1 ∷ []) × (two.word ≡ 2) × (full.tail.clear ≡ false) × (full.claimed ≡ two.claimed)
    × (tail_cell full.tail ≡ 0)
    × (three.word ≡ 3) × (three.cells ≡ 1 ∷ 1 ∷ []) × (three.taken ≡ worked_message 0 0 1 ∷ [])
    × (drained.cells ≡ 0 ∷ 0 ∷ []) × (drained.claimed ≡ all) × (drained.taken ≡ all)

-- a seal between a look and a claim: the claim is refused, and what was put before is still taken
abbrev pub SealedBetween : Type 0
SealedBetween =
    let end : LiveEdge = steps (send_one (Clear ∷ Seal ∷ Claim 3 ∷ Put ∷ Clear ∷ Claim 3 ∷ Take ∷ Take ∷ Seal ∷ []))
    (new_edge 7 2) in
    (end.word ≡ 2 ^ 63 + 1) × (end.stop ≡ Some 1) × (end.tail.refused ≡ true) × (end.claimed ≡ worked_message 7 0 1 ∷ [])
    × (end.taken ≡ worked_message 7 0 1 ∷ [])
