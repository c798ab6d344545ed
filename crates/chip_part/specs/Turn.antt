-- One turn of a vertex: its operations, their order, and what follows from what each of them saw. A turn is a list of
-- phases in order. If a schedule left the vertex in the middle of a turn, the same phases go on from there: what was
-- claimed is put, a noted refusal is followed by the halt.
use Rattle.std.specs.Prelude.{◌≡◌, ℕ, ◌+◌, ◌*◌, ◌-◌, ◌/◌, Bool, true, false, not, ◌&&◌, ◌==◌, nat_lt, min, List, []}
use Rattle.std.specs.Prelude.{◌∷◌, ◌++◌, length, Option, Some, None, is_some}
use Rattle.chip_graph.specs.Multigraph.{edges_out, edges_in, degree}
use Rattle.chip_part.specs.Setting.{Setting}
use Rattle.chip_link.specs.Link.{claims_of}
use Rattle.chip_part.specs.Edges.{root_edge, head_of}
use Rattle.chip_part.specs.Part.{Part, is_running, pending_of, unput_count, refusals, is_legal, may_ack_on}
use Rattle.chip_part.specs.Rules.{Event, Take, Ack, Fire, Clear, Claim, Put, Halt, Settle}
use Rattle.chip_part.specs.Steps.{Step, does, saw}

-- a phase of a turn: from a part, by these operations with what each saw, to a part
abbrev pub Phase : Type 1
Phase = Part → List Step → Part → Type 0

-- no operation
abbrev pub nothing : Phase
nothing s ds after = (ds ≡ []) × (after ≡ s)

-- the first if the test passes, else the second
abbrev pub either_phase : Bool → Phase → Phase → Phase
either_phase true p q = p
either_phase false p q = q

-- a phase that is made if a test of the part passes
abbrev pub where_phase : (Part → Bool) → Phase → Phase
where_phase test p s ds after = either_phase (test s) p nothing s ds after

-- one phase, and then another
abbrev pub and_then : Phase → Phase → Phase
and_then p q s ds after = (front : List Step) × (between : Part) × (back : List Step) × (ds ≡ front ++ back)
    × p s front between × q between back after

-- the phases of these edges, in their order
abbrev pub each_phase : (ℕ → Phase) → List ℕ → Phase
each_phase p [] = nothing
each_phase p (e ∷ es) = and_then (p e) (each_phase p es)

-- the edges into a vertex in the order of a turn: ascending, its root edge last
abbrev pub ins_of : Setting → ℕ → List ℕ
ins_of g v = edges_in g.game.graph v ++ root_edge g v ∷ []

-- the edges out of it, ascending
abbrev pub outs_of : Setting → ℕ → List ℕ
outs_of g v = edges_out g.game.graph v

module _ (g : Setting) (v : ℕ) where
  -- one operation; the next phase may depend on what it saw
  abbrev pub seeing : Event → (ℕ → Part → Phase) → Phase
  seeing x next s ds after = (seen : ℕ) × (rest : List Step) × (ds ≡ saw x seen ∷ rest)
      × next seen s (does g (saw x seen) s) rest after

  -- one operation alone
  abbrev pub one_step : Event → Phase
  one_step x = seeing x (λ seen before. nothing)

  -- it may fire now: not the sink, not halted, nothing pending, nothing claimed and not put, legal, and below its limit
  abbrev pub may_fire : Part → Bool
  may_fire s = is_running s.halt && pending_of g v s == 0 && unput_count g v s == 0 && is_legal g v s
      && nat_lt s.fired g.game.limit

  -- as often as its chips and its limit allow
  abbrev pub batch_of : Part → ℕ
  batch_of s = min (s.chips / degree g.game.graph v) (g.game.limit - s.fired)

  abbrev pub firing : Phase
  firing s ds after = where_phase may_fire (one_step (Fire v (batch_of s))) s ds after

  -- what was claimed is put, and a halt follows at once if a claim was refused
  abbrev pub after_claim_phase : ℕ → ℕ → Part → Phase
  after_claim_phase e seen before = either_phase (seen == claims_of (before.out e).link) (one_step (Put e))
      (one_step (Halt v))

  -- a message is sent if the cell was empty
  abbrev pub after_clear_phase : ℕ → ℕ → Part → Phase
  after_clear_phase e seen before = either_phase (seen == 0) (seeing (Claim e) (after_claim_phase e)) nothing

  -- an edge with something pending, unless the vertex has halted
  abbrev pub sending : ℕ → Phase
  sending e = where_phase (λ s. is_running s.halt && not ((s.out e).pending == 0))
      (seeing (Clear e) (after_clear_phase e))

  -- an edge with a message that is claimed and not put
  abbrev pub putting : ℕ → Phase
  putting e = where_phase (λ s. is_some (s.out e).link.held) (one_step (Put e))

  -- a refusal noted before is followed by the halt, else each edge is visited
  abbrev pub sending_all : Phase
  sending_all s ds after =
      either_phase (is_running s.halt)
      (either_phase (refusals g v s == 0) (each_phase sending (outs_of g v)) (one_step (Halt v)))
      nothing s ds after

  -- it halts by the limit: not the sink, not halted, nothing pending, legal, and it fired as often as the game allows
  abbrev pub is_at_limit : Part → Bool
  is_at_limit s = is_running s.halt && pending_of g v s == 0 && is_legal g v s && s.fired == g.game.limit

  -- an acknowledgement, if something may be acknowledged
  abbrev pub acknowledging : ℕ → Phase
  acknowledging e = where_phase (λ s. not (may_ack_on g (head_of g e) s e == 0)) (one_step (Ack e))

  abbrev pub acknowledging_parent : Option ℕ → Phase
  acknowledging_parent None = nothing
  acknowledging_parent (Some e) = acknowledging e

  abbrev pub last_acknowledgement : Phase
  last_acknowledgement s ds after = acknowledging_parent s.parent s ds after

  -- a whole turn
  abbrev pub turn : Phase
  turn =
      and_then (each_phase (λ e. one_step (Take e)) (ins_of g v))
      (and_then (each_phase (λ e. one_step (Settle e)) (outs_of g v))
      (and_then firing
      (and_then (each_phase putting (outs_of g v))
      (and_then sending_all
      (and_then (where_phase is_at_limit (one_step (Halt v)))
      (and_then (each_phase acknowledging (ins_of g v))
      last_acknowledgement))))))

-- a turn of the vertex v has at most two operations for each edge into it, four for each edge out of it, and three more
abbrev pub most_steps : Setting → ℕ → ℕ
most_steps g v = 2 * length (ins_of g v) + 4 * length (outs_of g v) + 3

-- these operations are a turn of v from this part
abbrev pub IsTurn : Setting → ℕ → Part → List Step → Type 0
IsTurn g v s ds = (after : Part) × turn g v s ds after
