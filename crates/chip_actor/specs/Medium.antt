-- A medium makes the operations of one vertex on shared words. It holds a record of the steps that the vertex made,
-- each with the word that it saw. An operation adds one step to the record, and the word that it returns fits. A turn
-- adds a turn.
use Rattle.std.specs.Prelude.{◌≡◌, ℕ, ◌+◌, List, [], ◌∷◌, ◌++◌, reverse, None}
use Rattle.chip_part.specs.Setting.{Setting}
use Rattle.chip_part.specs.declared.act.Act.{Act}
use Rattle.chip_part.specs.Part.{Part}
use Rattle.chip_part.specs.Rules.{unmet_rule}
use Rattle.chip_part.specs.Steps.{Step, part_of, does, saw}
use Rattle.chip_part.specs.Acting.{act_of, event_of, FitsSeen}
use Rattle.chip_part.specs.Turn.{turn}
use Rattle.chip_part.specs.declared.cursor.Cursor.{Cursor}
use Rattle.chip_part.specs.Cursor.{rest_of_turn, IsAt}
use Rattle.chip_part.specs.Counting.{work_of}
use Rattle.chip_actor.specs.Actor.{Actor, StandsFor}

-- what a medium holds: for a game with this setting, for this vertex, these steps, the latest first, which leave this
-- part
abbrev pub Holding : Type 1
Holding = Setting → ℕ → List Step → Part → Type 0

-- the operation is that of an event of the vertex v whose rules are met
pub record IsDueBy (g : Setting) (v : ℕ) (s : Part) (act : Act) : Type 0 where
  pub mine : part_of g (event_of v act) ≡ v
  pub met : unmet_rule g (event_of v act) s ≡ None
  pub needed : act ≡ act_of g (event_of v act) s

-- some record is held after which the operation is due
abbrev pub MayServe : Holding → Act → Type 0
MayServe held act = (g : Setting) × (v : ℕ) × (ds : List Step) × (s : Part) × held g v ds s × IsDueBy g v s act

-- the record is longer by this step of the vertex v, and the word that it saw fits
pub record IsLonger (now : Holding) (g : Setting) (v : ℕ) (ds : List Step) (s : Part) (act : Act)
    (seen : ℕ) : Type 0 where
  pub fits : FitsSeen s (event_of v act) seen
  pub held : now g v (saw (event_of v act) seen ∷ ds)
      (does g (saw (event_of v act) seen) s)

-- whatever record was held after which the operation is due, it is longer by it
abbrev pub Serves : Holding → Holding → Act → ℕ → Type 0
Serves old new act seen = (g : Setting) (v : ℕ) (ds : List Step) (s : Part) → old g v ds s → IsDueBy g v s act
    → IsLonger new g v ds s act seen

-- ---- a turn

-- some record is held that leaves the part that the actor stands for, and a turn may be there
abbrev pub Meets : Holding → Actor → Cursor → Type 0
Meets held a cursor = (g : Setting) × (ds : List Step) × (s : Part) × held g a.vertex ds s × StandsFor g s a
    × IsAt g a.vertex cursor s

-- these steps are of the vertex v
abbrev pub AreOf : Setting → ℕ → List Step → Type 0
AreOf g v [] = Unit {0}
AreOf g v (x ∷ xs) = (part_of g x.event ≡ v) × AreOf g v xs

-- by these steps a turn of v goes on from one cursor to another, `count` of them count, and the actor b stands for the
-- part after them
pub record TurnGoesOn (now : Holding) (g : Setting) (v : ℕ) (ds : List Step) (s : Part) (from : Cursor) (b : Actor)
    (to : Cursor) (count : ℕ) (more : List Step) (t : Part) : Type 0 where
  pub held : now g v (reverse more ++ ds) t
  pub mine : AreOf g v more
  pub stands : StandsFor g t b
  pub vertex : b.vertex ≡ v
  pub fits : IsAt g v to t
  pub rest : (xs : List Step) (after : Part) → rest_of_turn g v to t xs after
      → rest_of_turn g v from s (more ++ xs) after
  pub counted : (xs : List Step) → work_of g s (more ++ xs) ≡ count + work_of g t xs

-- whatever record was held, with the part that the actor stood for, a turn went on from the first cursor to the second
pub record Moves (old : Holding) (a : Actor) (from : Cursor) (new : Holding) (b : Actor) (to : Cursor)
    (count : ℕ) : Type 0 where
  pub goes : (g : Setting) (ds : List Step) (s : Part) → old g a.vertex ds s → StandsFor g s a → IsAt g a.vertex from s
      → (more : List Step) × (t : Part) × TurnGoesOn new g a.vertex ds s from b to count more t

-- the record is longer by one whole turn of the vertex, of which `count` steps count, and the actor stands for the part
-- after it
pub record IsTurnMade (now : Holding) (g : Setting) (v : ℕ) (ds : List Step) (s : Part) (b : Actor) (count : ℕ)
    (more : List Step) (t : Part) : Type 0 where
  pub held : now g v (reverse more ++ ds) t
  pub mine : AreOf g v more
  pub stands : StandsFor g t b
  pub vertex : b.vertex ≡ v
  pub is_turn : turn g v s more t
  pub counted : work_of g s more ≡ count

abbrev pub MakesTurnOver : Holding → Actor → Holding → Actor → ℕ → Type 0
MakesTurnOver old a new b count =
    (g : Setting) (ds : List Step) (s : Part) → old g a.vertex ds s → StandsFor g s a
    → (more : List Step) × (t : Part) × IsTurnMade new g a.vertex ds s b count more t
