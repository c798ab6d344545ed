-- What the seats of a net know: a finite map from parts to their steps.
use Rattle.std.specs.Prelude.{◌≡◌, ℕ, zero, suc, ◌+◌, ◌==◌, if◌then◌else◌, List, [], ◌∷◌, ◌++◌, Option, Some, None}
use mathlib.Core.Option.{Option as Maybe, none, some}
use Rattle.atomic_table.specs.Table.{Me}
use Rattle.chip_part.specs.Setting.{Setting}
use Rattle.chip_core.specs.Core.{Step, Part, opening_part}
use Rattle.chip_core.specs.Histories.{part_by}
pub use Rattle.chip_net.specs.declared.views.History.{History}
pub use Rattle.chip_net.specs.declared.views.View.{View}

-- what a seat knows: its view, and its slots, of which a net has none
abbrev pub Mine : Type 0
Mine = Me (Unit {0}) View

-- the steps of part p, if the view has it
abbrev pub find : ℕ → List History → Option (List Step)
find p [] = None
find p (x ∷ xs) = if x.part == p then Some x.did else find p xs

-- the same of a seat's view, if there is the seat
abbrev pub find_in : ℕ → Maybe View → Option (List Step)
find_in p none = None
find_in p (some v) = find p v.parts

-- part p has made one step more
abbrev pub grow : ℕ → Step → List History → List History
grow p x [] = []
grow p x (y ∷ ys) = record { part = y.part; did = if y.part == p then y.did ++ x ∷ [] else y.did } ∷ grow p x ys

abbrev pub grow_view : ℕ → Step → View → View
grow_view p x v = record { parts = grow p x v.parts }

abbrev pub steps_or_none : Option (List Step) → List Step
steps_or_none None = []
steps_or_none (Some did) = did

-- the steps of a part that the view has
abbrev pub did_in : ℕ → View → List Step
did_in p v = steps_or_none (find p v.parts)

-- the view has the part
abbrev pub HasPart : ℕ → View → Type 0
HasPart p v = find p v.parts ≡ Some (did_in p v)

-- part p of the core, after its steps
abbrev pub part_of_view : Setting → ℕ → View → Part
part_of_view g p v = part_by g (opening_part g) (did_in p v)

-- the view without part p
abbrev pub drop_part : ℕ → List History → List History
drop_part p [] = []
drop_part p (y ∷ ys) = if y.part == p then drop_part p ys else y ∷ drop_part p ys

abbrev pub view_without : ℕ → View → View
view_without p v = record { parts = drop_part p v.parts }

-- the view of part p alone
abbrev pub one_part : ℕ → Option (List Step) → List History
one_part p None = []
one_part p (Some did) = record { part = p; did = did } ∷ []

abbrev pub view_of_one : ℕ → View → View
view_of_one p v = record { parts = one_part p (find p v.parts) }

-- the view has the part, and no other
abbrev pub IsAlone : ℕ → View → Type 0
IsAlone p v = v.parts ≡ record { part = p; did = did_in p v } ∷ []

-- the view with the parts of another one
abbrev pub join_views : View → View → View
join_views v w = record { parts = w.parts ++ v.parts }

-- a view without parts
abbrev pub no_parts : View
no_parts = record { parts = [] }

-- the parts below n, none of which has made a step
abbrev pub parts_below : ℕ → List History
parts_below zero = []
parts_below (suc n) = record { part = n; did = [] } ∷ parts_below n

-- all parts as the game opens: the vertices, the root and the stopper
abbrev pub opening_view : Setting → View
opening_view g = record { parts = parts_below (g.game.graph.vertices + 2) }
