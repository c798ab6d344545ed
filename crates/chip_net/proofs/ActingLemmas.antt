-- Serves Tokens.antt, Rule.antt.
-- One operation of a turn: it is enabled, and the medium keeps its invariant.
use Rattle.chip_net.proofs.Names.{◌≡◌, ℕ, ◌<◌, List, [], ◌∷◌, ◌++◌, append_assoc, append-nil, refl, sym, ◌∙◌}
use Rattle.chip_net.proofs.Names.{reverse-append, TableId, Allows, TraceRow, Setting, Act, event_of, FitsSeen, IsDueBy}
use Rattle.chip_net.proofs.Names.{MayServe, Serves, IsLonger, Step, Event, Part, part_of, IsWord}
use Rattle.chip_net.proofs.Names.{word_to_note, fits_seen, index_of, Mine, did_in, part_of_view, Kept, step_of, Grows}
use Rattle.chip_net.proofs.Names.{TraceState, Keeps, row_of, trace_rows_of, TurnSetup, AreWordsOf, Holds}
use Rattle.chip_net.proofs.LayingLemmas.{owner_of, by_word}
use Rattle.chip_net.proofs.ViewingLemmas.{alone_there}
use Rattle.chip_net.proofs.RulingLemmas.{Due, Made, made, word_of, left_over, vertex_acts, act_word, act_asked}
use Rattle.chip_net.proofs.RulingLemmas.{act_told}

-- the rows of one step more
pub rows_push : (xs : List Step) (x : Step) → trace_rows_of (xs ++ x ∷ []) ≡ trace_rows_of xs ++ row_of x.event x.seen
rows_push [] x = append-nil (row_of x.event x.seen)
rows_push (y ∷ ys) x = rw (rows_push ys x, append_assoc)

-- no row is noted
pub keeps_none : (trace : TraceState) (all : List TraceRow) → Keeps all trace → Keeps (all ++ []) trace
keeps_none trace all kept = rw append-nil kept

module _ {setup now : TurnSetup} {key : Setting} {table : TableId} {me : Mine} {trace : TraceState} {g : Setting}
    {v : ℕ} {ds : List Step} {s : Part} (held : Holds setup now key table me trace g v ds s) {act : Act}
    (by : IsDueBy g v s act) where
  abbrev h : Setting
  h = now.net.setting

  abbrev w : ℕ
  w = now.vertex

  abbrev x : Event
  x = event_of w act

  by' : IsDueBy h w (part_of_view h w me.0) act
  by' = rw (held.setting_is, held.vertex_is, held.part_is) at by

  inside : part_of h x < h.game.graph.vertices
  inside = rw by'.mine held.seated.inside

  words : AreWordsOf now.net now.net.table key
  words = record { table = refl; key = held.of_net.0; count = held.of_net.1; setting = held.seated.setting }

  due : Due h me w x
  due = record { mine = by'.mine; has = alone_there w me.0 held.seated.alone; met = by'.met }

  -- its word exists
  word_there : IsWord h (word_of w act)
  word_there = act_word words due (vertex_acts h x inside) act by'.needed

  -- and the rule allows the operation
  asked : (word : ℕ) → word ≡ index_of h (word_of w act) → (kind : ℕ → Event) → kind (owner_of (word_of w act)) ≡ x
      → (seat : ℕ) → (table ≡ now.net.table) × (word < now.net.table.words)
      × Allows (Kept key) now.net.table.slots seat me word (left_over act) (by_word kind key word me)
  asked word at kind of_kind = act_asked words due (vertex_acts h x inside) act by'.needed word at kind of_kind table
      held.table_is

  -- ---- what it shows

  module _ (n : ℕ) {me' : Mine} (told : Grows h x me n me') where
    m : Made h me w x n me'
    m = made due n me' told

    -- it is the part in that log
    fits : FitsSeen (part_of_view h w me.0) x (word_to_note x n)
    fits = rw (m.in_log, m.stepped.has.0.1) (rw by'.mine at (fits_seen h held.seated.setting.game
        held.seated.setting.some_ring m.stepped.log m.stepped.legal x inside m.stepped.has.0.0))

    longer : {table' : TableId} → table' ≡ table → {trace' : TraceState} {room : ℕ} → room ≡ now.room
        → ((all : List TraceRow) → Keeps all trace → Keeps (all ++ row_of x (word_to_note x n)) trace')
        → IsLonger (Holds setup (record now { room = room }) key table' me' trace') g v ds s act (word_to_note x n)
    longer table_is {trace' = trace'} room_is keeps = record {
      fits = rw (held.part_is, held.vertex_is) fits;
      held = record {
        same = rw room_is held.same;
        of_net = held.of_net;
        table_is = table_is ∙ held.table_is;
        setting_is = held.setting_is;
        vertex_is = held.vertex_is;
        did_is = rw (m.did_is, held.did_is, held.vertex_is) (sym (reverse-append (step_of x n ∷ []) ds));
        part_is = rw (m.part_is, held.setting_is, held.vertex_is, held.part_is);
        seated = record {
          setting = held.seated.setting;
          inside = held.seated.inside;
          alone = m.alone held.seated.alone;
          slots = m.slots ∙ held.seated.slots;
          traced = rw (m.did_is, rows_push (did_in w me.0) (step_of x n))
              (keeps (trace_rows_of (did_in w me.0)) held.seated.traced);
        };
      };
    }

-- ---- the same, as a call of the medium requires it

module _ {setup now : TurnSetup} {key : Setting} {table : TableId} {me : Mine} {trace : TraceState} {act : Act} where
  pub may_word : MayServe (Holds setup now key table me trace) act → IsWord now.net.setting (word_of now.vertex act)
  may_word (g, v, ds, s, held, by) = word_there held by

  pub may_step : MayServe (Holds setup now key table me trace) act → {word : ℕ}
      → word ≡ index_of now.net.setting (word_of now.vertex act) → (kind : ℕ → Event)
      → kind (owner_of (word_of now.vertex act)) ≡ event_of now.vertex act → (seat : ℕ)
      → (table ≡ now.net.table) × (word < now.net.table.words)
      × Allows (Kept key) now.net.table.slots seat me word (left_over act) (by_word kind key word me)
  may_step (g, v, ds, s, held, by) {word = word} at kind of_kind = asked held by word at kind of_kind

  pub serves : {word : ℕ} → word ≡ index_of now.net.setting (word_of now.vertex act) → (kind : ℕ → Event)
      → kind (owner_of (word_of now.vertex act)) ≡ event_of now.vertex act → (n : ℕ) {me' : Mine}
      → by_word kind key word me n me' → {table' : TableId} → table' ≡ table → {trace' : TraceState}
      → {room : ℕ} → room ≡ now.room
      → ((all : List TraceRow) → Keeps all trace
      → Keeps (all ++ row_of (event_of now.vertex act) (word_to_note (event_of now.vertex act) n)) trace')
      → Serves (Holds setup now key table me trace) (Holds setup (record now { room = room }) key table' me' trace') act
      (word_to_note (event_of now.vertex act) n)
  serves at kind of_kind n told table_is room_is keeps g v ds s held by = longer held by n
      (act_told (words held by) (due held by) (vertex_acts now.net.setting (event_of now.vertex act) (inside held by))
      act (by' held by).needed _ at kind of_kind n _ told) table_is room_is keeps
