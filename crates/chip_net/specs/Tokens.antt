-- What the contracts of a net's calls know of its actors.
use Rattle.std.specs.Prelude.{◌≡◌, ◌⊎◌, ℕ, ◌<◌, ◌≤◌, true, false, List, [], ◌∷◌, ◌++◌, length, reverse, None}
use Rattle.atomic_table.specs.Seated.{TableId}
use Rattle.chip_part.specs.Setting.{Setting, IsSetting}
use Rattle.chip_actor.specs.Actor.{Actor, StandsFor}
use Rattle.chip_part.specs.Part.{is_passive, deficit_of}
use Rattle.chip_part.specs.Turn.{turn, most_steps}
use Rattle.chip_part.specs.Counting.{work_of}
use Rattle.chip_core.specs.Core.{Step, Part, opening_part}
use Rattle.chip_core.specs.Histories.{part_by}
use Rattle.chip_net.specs.Layout.{word_count}
use Rattle.chip_net.specs.Rule.{no_setting}
use Rattle.chip_net.specs.Views.{History, View, Mine, IsAlone, did_in, part_of_view}
use Rattle.chip_net.specs.Traces.{TraceState, Keeps, trace_rows_of}
use Rattle.chip_net.specs.declared.actor.Turn.{Turn}
use Rattle.chip_net.specs.declared.actor.Turn.TheVariants.{Worked, Waiting, Idle}

-- the identity of a net: its table, and its setting
pub record NetId : Type 0 where
  pub table : TableId
  pub setting : Setting

-- these words are a net's, by their table and the key of their rule
pub record AreWordsOf (net : NetId) (id : TableId) (rule : Setting) : Type 0 where
  pub table : id ≡ net.table
  pub key : rule ≡ net.setting
  pub count : net.table.words ≡ word_count net.setting
  pub setting : IsSetting net.setting

-- an actor: its net, its vertex, the room of its trace, and all its steps, in order
pub record ActorKnown : Type 0 where
  pub net : NetId
  pub vertex : ℕ
  pub room : ℕ
  pub did : List Step

-- its part of the core
abbrev pub part_known : ActorKnown → Part
part_known a = part_by a.net.setting (opening_part a.net.setting) a.did

-- the actor of a vertex that has done nothing yet
abbrev pub newcomer : NetId → ℕ → ℕ → ActorKnown
newcomer net room vertex = record { net = net; vertex = vertex; room = room; did = [] }

-- it has made these steps more
abbrev pub after_these : ActorKnown → List Step → ActorKnown
after_these a steps = record { net = a.net; vertex = a.vertex; room = a.room; did = a.did ++ steps }

-- the actor of a vertex whose seat is at this table and has this view
abbrev pub known : TableId → Setting → ℕ → ℕ → View → ActorKnown
known table g v room view = record {
  net = record { table = table; setting = g };
  vertex = v;
  room = room;
  did = did_in v view;
}

-- no table of any net
abbrev pub no_table : TableId
no_table = record { words = 0; slots = 0; views_name = 0; atom = 0; block = 0; offset = 0; slot_names = [] }

-- an actor of no net
abbrev pub no_actor : ActorKnown
no_actor = newcomer (record { table = no_table; setting = no_setting }) 0 0

-- the actor, moved to a net
abbrev pub at_net : NetId → ActorKnown → ActorKnown
at_net net a = record { net = net; vertex = a.vertex; room = a.room; did = a.did }

-- an actor without its part is at no table
abbrev pub seatless : ActorKnown → ActorKnown
seatless a = at_net (record { table = no_table; setting = a.net.setting }) a

-- the table at which an actor has its part, by what its seat has
abbrev pub table_of : List History → TableId → TableId
table_of [] table = no_table
table_of (x ∷ xs) table = table

-- the view of its seat, or the last one before its part was taken
abbrev pub me_of : List History → Mine → Mine → Mine
me_of [] me knew = knew
me_of (x ∷ xs) me knew = me

-- the view of a seat that has the part of one vertex of this game and no other, with a trace of the vertex's steps
pub record IsSeated (g : Setting) (v : ℕ) (me : Mine) (trace : TraceState) : Type 0 where
  pub setting : IsSetting g
  pub inside : v < g.game.graph.vertices
  pub alone : IsAlone v me.0
  pub slots : me.1 ≡ []
  pub traced : Keeps (trace_rows_of (did_in v me.0)) trace

-- and the state of the vertex represents its part
abbrev pub IsActorState : Setting → Actor → Mine → TraceState → Type 0
IsActorState g a me trace = IsSeated g a.vertex me trace × StandsFor g (part_of_view g a.vertex me.0) a

-- ---- the net's words as a medium

-- what a turn leaves unchanged: the net, the vertex, the room of its trace, and the names by which seat and trace are
-- borrowed
pub record TurnSetup : Type 0 where
  pub net : NetId
  pub vertex : ℕ
  pub room : ℕ
  pub seat : ℕ
  pub trace : ℕ

abbrev pub no_setup : TurnSetup
no_setup = record { net = no_actor.net; vertex = 0; room = 0; seat = 0; trace = 0 }

-- these are the words of a net for this setting: the key of the rule is the setting, and their number is right
abbrev pub IsOfNet : Setting → Setting → TableId → Type 0
IsOfNet g key table = (key ≡ g) × (table.words ≡ word_count g)

-- in the turn with this setup, the vertex has made these steps, the latest first, and this is its part. `now` is the
-- state of the medium, with a seat at this table and this trace
pub record Holds (setup now : TurnSetup) (key : Setting) (table : TableId) (me : Mine) (trace : TraceState)
    (g : Setting) (v : ℕ) (ds : List Step) (s : Part) : Type 0 where
  pub same : now ≡ setup
  pub of_net : IsOfNet now.net.setting key now.net.table
  pub table_is : table ≡ now.net.table
  pub setting_is : g ≡ now.net.setting
  pub vertex_is : v ≡ now.vertex
  pub did_is : did_in now.vertex me.0 ≡ reverse ds
  pub part_is : s ≡ part_of_view now.net.setting now.vertex me.0
  pub seated : IsSeated now.net.setting now.vertex me trace

-- ---- a turn

-- the result of a turn, by the part after it and the number of its steps that count
abbrev pub AnswersTurn : Setting → ℕ → ℕ → Part → Turn → Type 0
AnswersTurn g v work after (Worked n) = (n ≡ work) × (0 < n)
AnswersTurn g v work after Waiting = (work ≡ 0) × (is_passive g v after ≡ false)
AnswersTurn g v work after Idle = (work ≡ 0) × (is_passive g v after ≡ true)
    × ((after.parent ≡ None) ⊎ (0 < deficit_of g v after))

-- the actor made exactly one turn more, with this result
pub record MakesTurn (old new : ActorKnown) (answer : Turn) : Type 0 where
  pub steps : List Step
  pub record_is : new ≡ after_these old steps
  pub is_turn : turn old.net.setting old.vertex (part_known old) steps (part_known new)
  pub bounded : length steps ≤ most_steps old.net.setting old.vertex
  pub answers : AnswersTurn old.net.setting old.vertex (work_of old.net.setting (part_known old) steps)
      (part_known new) answer

-- the same, by the number of steps that count
pub record MakesTurnBy (old new : ActorKnown) (work : ℕ) : Type 0 where
  pub steps : List Step
  pub record_is : new ≡ after_these old steps
  pub is_turn : turn old.net.setting old.vertex (part_known old) steps (part_known new)
  pub bounded : length steps ≤ most_steps old.net.setting old.vertex
  pub work_is : work_of old.net.setting (part_known old) steps ≡ work
