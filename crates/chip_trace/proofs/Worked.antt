-- Serves Interleaving.antt, Progress.antt, Left.antt.
-- Worked rows: the run of the triangle from four chips, whole, cut, and with a take of another count; and what is left.
use Rattle.chip_trace.proofs.Names.{◌≡◌, true, false, List, [], ◌∷◌, refl, Take, Fire, ChipGame, max_limit, Placed}
use Rattle.chip_trace.proofs.Names.{AreRowsEnabled, row_firings, rows_of, is_row_enabled, is_wrong, left_after, Messages, CanFire, AtLimit}

-- the triangle with four chips on vertex 0; its root edges are 4, 5 and 6
abbrev triangle : ChipGame
triangle = record {
  graph = record {
    vertices = 3;
    sink = 2;
    edges = record { tail = 0; head = 1; mult = 1 } ∷ record { tail = 0; head = 2; mult = 1 }
        ∷ record { tail = 1; head = 0; mult = 1 } ∷ record { tail = 1; head = 2; mult = 1 } ∷ [];
  };
  start = 4 ∷ 0 ∷ 0 ∷ [];
  limit = max_limit;
}

-- its run: vertex 0 fires twice, vertex 1 once
abbrev run : List Placed
run =
    record { vertex = 0; row = Take 4 4 } ∷ record { vertex = 0; row = Fire 2 } ∷ record { vertex = 1; row = Take 0 2 }
    ∷ record { vertex = 1; row = Fire 1 }
    ∷ record { vertex = 0; row = Take 2 1 } ∷ record { vertex = 2; row = Take 1 2 }
    ∷ record { vertex = 2; row = Take 3 1 } ∷ []

run_is_met : AreRowsEnabled triangle [] run
run_is_met = (refl, (refl, (refl, (refl, (refl, (refl, (refl, tt)))))))

run_fires : row_firings run ≡ (0, 2) ∷ (1, 1) ∷ []
run_fires = refl

-- a take of one chip where the message has two is wrong
other_count_is_wrong : is_wrong triangle
    (rows_of (record { vertex = 0; row = Take 4 4 } ∷ record { vertex = 0; row = Fire 2 } ∷ [])) 1 (Take 0 1) ≡ true
other_count_is_wrong = refl

-- a take of a message that is not there yet is not enabled, and waits
no_message_is_not_met : is_row_enabled triangle (rows_of []) 1 (Take 0 2) ≡ false
no_message_is_not_met = refl

no_message_waits : is_wrong triangle (rows_of []) 1 (Take 0 2) ≡ false
no_message_waits = refl

-- the whole run leaves nothing
whole_leaves_nothing : left_after triangle (rows_of run) ≡ []
whole_leaves_nothing = refl

-- before the first row, the start of vertex 0 is left on its root edge
no_row_leaves_the_start : left_after triangle (rows_of []) ≡ Messages 4 1 ∷ []
no_row_leaves_the_start = refl

-- vertex 0 takes its start and fires once: a message is left on each edge out of it, and it can fire again
abbrev first_rows : List Placed
first_rows = record { vertex = 0; row = Take 4 4 } ∷ record { vertex = 0; row = Fire 1 } ∷ []

first_rows_leave : left_after triangle (rows_of first_rows) ≡ Messages 0 1 ∷ Messages 1 1 ∷ CanFire 0 ∷ []
first_rows_leave = refl

-- with a limit of one firing it is at its limit
first_rows_leave_at_limit : left_after (record triangle { limit = 1 }) (rows_of first_rows)
    ≡ Messages 0 1 ∷ Messages 1 1 ∷ AtLimit 0 ∷ []
first_rows_leave_at_limit = refl
