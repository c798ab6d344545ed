-- The rule of a net: between any two steps of any threads, words and views are those of some legal log of the core.
use Rattle.std.specs.Prelude.{◌≡◌, ℕ, ◌+◌, ◌<◌, List, [], length, Some}
use lib.ListN.{get_elem?}
use Rattle.atomic_table.specs.Table.{State}
use Rattle.chip_part.specs.Setting.{Setting, IsSetting, setting_of}
use Rattle.chip_part.specs.Steps.{saw}
use Rattle.chip_core.specs.Core.{Log, Step, Event, part_of, FitsLog, IsLegalLog}
use Rattle.chip_core.specs.Histories.{done_by}
use Rattle.chip_core.specs.Words.{word_to_note, IsShown}
use Rattle.chip_net.specs.Layout.{word_count, value_in}
use Rattle.chip_net.specs.Views.{View, Mine, find, find_in, grow_view}

-- the rule
pub record Kept (g : Setting) (s : State (Unit {0}) View) : Type 0 where
  pub log : Log
  -- the view that has each part
  pub owner : ℕ → ℕ
  pub setting : IsSetting g
  pub wide : length s.words ≡ word_count g
  -- no other view than its owner's has a part, with its steps in the log
  pub each_part : (p j : ℕ) (did : List Step) → find_in p (get_elem? s.views j) ≡ Some did
      → (owner p ≡ j) × (did ≡ done_by g p log)
  -- and its owner's has it
  pub there : (p : ℕ) → p < g.game.graph.vertices + 2
      → find_in p (get_elem? s.views (owner p)) ≡ Some (done_by g p log)
  -- the words show the log
  pub shown : IsShown g log (value_in g s.words)
  -- the core can have reached this state
  pub legal : IsLegalLog g log

-- an event, with what is noted as seen if its operation found n
abbrev pub step_of : Event → ℕ → Step
step_of x n = saw x (word_to_note x n)

-- each part of the view made these steps in this log
abbrev pub AgreesWithLog : Setting → Log → View → Type 0
AgreesWithLog g log v = (p : ℕ) (did : List Step) → find p v.parts ≡ Some did → did ≡ done_by g p log

-- some legal log has this property
pub record SomeLog (g : Setting) (P : Log → Type 0) : Type 0 where
  pub log : Log
  pub legal : IsLegalLog g log
  pub has : P log

-- some legal log continues with this step, and the parts of the view made their steps in it
abbrev pub Stepped : Setting → Step → View → Type 0
Stepped g x v = SomeLog g (λ log. FitsLog g log x × AgreesWithLog g log v)

-- what a step shows: the part that acts has made this step more, the core makes the event there, and no slot was taken
abbrev pub Grows : Setting → Event → Mine → ℕ → Mine → Type 0
Grows g x before seen after = (after.0 ≡ grow_view (part_of g x) (step_of x seen) before.0)
    × Stepped g (step_of x seen) before.0
    × (after.1 ≡ before.1)

-- in some legal log the parts of the view made their steps
abbrev pub Looked : Setting → View → Type 0
Looked g v = SomeLog g (λ log. AgreesWithLog g log v)

-- what a look shows, which changes nothing
abbrev pub Looks : Setting → Mine → ℕ → Mine → Type 0
Looks g before seen after = (after ≡ before) × Looked g before.0

-- what no net is opened for
abbrev pub no_setting : Setting
no_setting = setting_of (record { graph = record { vertices = 0; sink = 0; edges = [] }; start = []; limit = 0 }) 0
