-- A running actor, and when it stands for a part of the core.
use Rattle.std.specs.Prelude.{◌≡◌, ℕ, ◌<◌, ◌≤◌, Bool, not, ◌&&◌, ◌||◌, nat_le, is_some, ◌==◌, [], ◌∷◌, ◌++◌}
use Rattle.std.specs.Prelude.{length, Option}
use Rattle.chip_graph.specs.Limits.{max_total}
use Rattle.chip_graph.specs.Multigraph.{edges_out, edges_in, degree}
use Rattle.chip_part.specs.Setting.{Setting, IsSetting}
use Rattle.chip_link.specs.Link.{claims_of, tail_state, head_state}
use Rattle.chip_detect.specs.Books.{Books, IsSound, in_edges, out_edges, got_of, acked_of, sent_of, settled_of}
use Rattle.chip_part.specs.Edges.{root_edge, tail_of, head_of, mult_of}
use Rattle.chip_part.specs.declared.cause.Cause.{Cause}
use Rattle.chip_part.specs.Part.{Part, Out, pending_of, unput_count, refusals}
use Rattle.chip_part.specs.Kept.{KeepsPart}
use Rattle.chip_part.specs.Rules.{Event}
use Rattle.chip_part.specs.declared.reply.Reply.{Reply}
use Rattle.chip_part.specs.Steps.{does, reply_of, saw}
use Rattle.chip_part.specs.Acting.{CanDo}
use Rattle.chip_actor.specs.declared.ends.outs.OutEnd.{OutEnd}
use Rattle.chip_actor.specs.Ends.{OutEnds, InEnds, out_on, in_on}

-- what an `ActorState` shows. The last three are sums over the edges out of it, so that nobody has to add them up: what
-- is pending, the number of messages claimed and not put, and of edges on which a claim was refused
pub record Actor : Type 0 where
  pub vertex : ℕ
  pub is_sink : Bool
  pub degree : ℕ
  pub limit : ℕ
  pub chips : ℕ
  pub fired : ℕ
  pub halt : Option Cause
  pub outs : OutEnds
  pub ins : InEnds
  pub detect : Books
  pub pending : ℕ
  pub unput : ℕ
  pub refused : ℕ

-- the actor with these edges into its vertex, these chips and these books: what takes change of it
abbrev pub with_taken : Actor → InEnds → ℕ → Books → Actor
with_taken a ins chips detect = record a { ins = ins; chips = chips; detect = detect }

-- the actor with these edges out of it, `pending` chips pending, `refused` refusals and these books: what sends change
-- of it
abbrev pub with_sent : Actor → OutEnds → ℕ → ℕ → Books → Actor
with_sent a outs pending refused detect =
    record a { outs = outs; detect = detect; pending = pending; refused = refused }

-- the edge e as its tail keeps it at run time
abbrev pub out_end : Setting → ℕ → Out → OutEnd
out_end g e o = record { mult = mult_of g e; pending = o.pending; link = tail_state e g.ring o.link }

-- the actor knows the game of its vertex
pub record KnowsGame (g : Setting) (a : Actor) : Type 0 where
  pub setting : IsSetting g
  pub vertex : a.vertex < g.game.graph.vertices
  pub is_sink : a.is_sink ≡ (a.vertex == g.game.graph.sink)
  pub degree : a.degree ≡ degree g.game.graph a.vertex
  pub limit : a.limit ≡ g.game.limit
  pub outs : a.outs.edges ≡ edges_out g.game.graph a.vertex
  pub ins : a.ins.edges ≡ edges_in g.game.graph a.vertex ++ root_edge g a.vertex ∷ []
  pub detect_outs : out_edges a.detect ≡ edges_out g.game.graph a.vertex
  pub detect_ins : in_edges a.detect ≡ edges_in g.game.graph a.vertex ++ root_edge g a.vertex ∷ []

-- the actor's books of the detector are those of the part
pub record KeepsBooks (g : Setting) (s : Part) (v : ℕ) (b : Books) : Type 0 where
  pub sound : IsSound b
  pub parent : b.parent ≡ s.parent
  pub got : (e : ℕ) → head_of g e ≡ v → got_of b e ≡ length (s.into e).got
  pub acked : (e : ℕ) → head_of g e ≡ v → acked_of b e ≡ (s.into e).acked
  pub sent : (e : ℕ) → tail_of g e ≡ v → sent_of b e ≡ claims_of (s.out e).link
  pub settled : (e : ℕ) → tail_of g e ≡ v → settled_of b e ≡ (s.out e).settled

-- the actor stands for the part s of its vertex: it keeps the part's numbers for every edge
pub record StandsFor (g : Setting) (s : Part) (a : Actor) : Type 0 where
  pub knows : KnowsGame g a
  pub kept : KeepsPart g a.vertex s
  pub few_chips : s.chips ≤ max_total
  pub few_pending : a.pending ≤ max_total
  pub chips : a.chips ≡ s.chips
  pub fired : a.fired ≡ s.fired
  pub halt : a.halt ≡ s.halt
  pub outs : (e : ℕ) → tail_of g e ≡ a.vertex → out_on a.outs e ≡ out_end g e (s.out e)
  pub ins : (e : ℕ) → head_of g e ≡ a.vertex → in_on a.ins e ≡ head_state e g.ring (s.into e).got
  pub books : KeepsBooks g s a.vertex a.detect
  pub pending : a.pending ≡ pending_of g a.vertex s
  pub unput : a.unput ≡ unput_count g a.vertex s
  pub refused : a.refused ≡ refusals g a.vertex s

-- whatever part an actor stands for
abbrev pub WhateverPart : Actor → (Setting → Part → Type 0) → Type 0
WhateverPart a P = (g : Setting) (s : Part) → StandsFor g s a → P g s

-- it stands for some part with this property
abbrev pub SomePart : Actor → (Setting → Part → Type 0) → Type 0
SomePart a P = (g : Setting) × (s : Part) × StandsFor g s a × P g s

-- what the actor derives from its own numbers: it is legal, and it is passive
abbrev pub is_legal_now : Actor → Bool
is_legal_now a = not a.is_sink && nat_le a.degree a.chips

abbrev pub is_passive_now : Actor → Bool
is_passive_now a = a.unput == 0 && (is_some a.halt || (a.pending == 0 && not (is_legal_now a)))

-- the actor made this event with this reply: whatever part it stood for, it stands for that part after the event, at
-- the same vertex
abbrev pub ActorMakes : Actor → Actor → Event → ℕ → Reply → Type 0
ActorMakes old new x seen reply =
    WhateverPart old (λ g s. CanDo g s old.vertex x seen
    → StandsFor g (does g (saw x seen) s) new × (reply ≡ reply_of g x seen s)
    × (new.vertex ≡ old.vertex))
