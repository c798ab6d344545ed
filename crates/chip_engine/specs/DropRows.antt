-- Drops on a pile as rows of text, one for each drop whose play has ended with no vertex legal.
use Rattle.std.specs.Prelude.{◌≡◌, ◌⊎◌, ℕ, ◌+◌, ◌<◌, ◌≤◌, Bool, true, false, List, ◌++◌, codes, length, map, take, drop}
use Rattle.std.specs.Prelude.{slice_index, Option, Result, Ok, Err}
use Rattle.std.specs.List.{flat_map}
use Rattle.std.specs.Fmt.{decimal}
use Rattle.std.specs.Io.KnownBytes.{Appends}
use Rattle.chip_graph.specs.Multigraph.{Multigraph}
use Rattle.chip_graph.specs.More.{HasMore}
use Rattle.chip_report.specs.Written.{WritesAll}
use Rattle.chip_fire.specs.declared.avalanche.Avalanche.{Avalanche}
use Rattle.chip_fire.specs.declared.pile.Pile.{Pile}
use Rattle.chip_command.specs.declared.fault.Fault.{Fault}
use Rattle.chip_command.specs.declared.fault.Fault.TheVariants.{Write, NoMemory}
use Rattle.chip_fire.specs.Avalanches.{AreAvalanches}
use Rattle.chip_fire.specs.Pile.{IsPile}
use Rattle.chip_sequence.specs.Firing.{IsStable}

-- the row of a drop and its avalanche
abbrev pub row_text : (ℕ × ℕ) × Avalanche → List ℕ
row_text (d, a) =
    decimal d.0 ++ codes "," ++ decimal d.1 ++ codes "," ++ decimal a.size ++ codes "," ++ decimal a.extent ++ codes ","
    ++ decimal a.lost ++ codes "\n"

-- the first line, and the rows
abbrev pub rows_text : List ((ℕ × ℕ) × Avalanche) → List ℕ
rows_text told = codes "vertex,chips,size,extent,lost\n" ++ flat_map row_text told

-- a text has the rows of these drops, the first on x, and the last leaves y
abbrev pub TellsRows : Multigraph → (ℕ → ℕ) → List (ℕ × ℕ) → List ℕ → (ℕ → ℕ) → Type 0
TellsRows G x ds text y = (told : List ((ℕ × ℕ) × Avalanche)) × (map (λ t. t.0) told ≡ ds)
    × AreAvalanches G x told y × (text ≡ rows_text told)

-- the most bytes that are held back: a stretch of 65,536, and a row of 128
abbrev pub most_held : ℕ
most_held = 65664

-- the first `written` of all bytes were written, and the others are pending
pub record IsOut (old now : Option (List ℕ)) (pending : List ℕ) (written : ℕ) (all : List ℕ) : Type 0 where
  pub counted : written + length pending ≡ length all
  pub held : length pending ≤ most_held
  pub went : Appends old now (take written all)
  pub rest : drop written all ≡ pending

-- a fault says how many bytes were written, or there was no memory after a prefix of them; and few were held back
abbrev pub FailsOut : Option (List ℕ) → Option (List ℕ) → List ℕ → Fault → Type 0
FailsOut old now all (Write w) = WritesAll old now all (Err w) × (length all ≤ w.written + most_held)
FailsOut old now all NoMemory = (k : ℕ) × Appends old now (take k all) × (length all ≤ k + most_held)
FailsOut old now all _ = ⊥

-- the drops were made on the pile p one by one, each until no vertex was legal, and left p'; the text has their rows
pub record LeavesRows (p : Pile) (ds : List (ℕ × ℕ)) (p' : Pile) (text : List ℕ) : Type 0 where
  pub pile : IsPile p'
  pub stable : IsStable p'.game.graph (slice_index p'.chips.items)
  pub game : HasMore p.game ds p'.game
  pub rows : TellsRows p.game.graph (slice_index p.chips.items) ds text (slice_index p'.chips.items)

-- the first n drops are all, and left p'; or one more was made, and the limit stopped its play
abbrev pub EndsAt : Pile → List (ℕ × ℕ) → ℕ → Pile → Pile → Bool → Type 0
EndsAt p ds n left p' true = (take n ds ≡ ds) × (p' ≡ left)
EndsAt p ds n left p' false = (n < length ds) × IsPile p' × HasMore p.game (take (n + 1) ds) p'.game
    × (IsStable p'.game.graph (slice_index p'.chips.items) → ⊥)

-- the drops that p' has are the first n, or one more
abbrev pub HasDrops : Pile → List (ℕ × ℕ) → ℕ → Pile → Type 0
HasDrops p ds n p' = HasMore p.game (take n ds) p'.game ⊎ HasMore p.game (take (n + 1) ds) p'.game

-- the results of writing rows, with the pile p': the rows of the first n drops are written; or there is a fault, and
-- all of them are written except what may be held back, when at most one more drop was made
abbrev pub WritesRows : Pile → List (ℕ × ℕ) → Option (List ℕ) → Option (List ℕ) → Pile → Result Bool Fault → Type 0
WritesRows p ds old new p' (Ok all) = (n : ℕ) × (text : List ℕ) × (left : Pile) × LeavesRows p (take n ds) left text
    × EndsAt p ds n left p' all × Appends old new text
WritesRows p ds old new p' (Err fault) = (n : ℕ) × (text : List ℕ) × (left : Pile) × LeavesRows p (take n ds) left text
    × HasDrops p ds n p' × FailsOut old new text fault
