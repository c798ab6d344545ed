-- The vertices that a replay is to visit.
use Rattle.std.specs.Prelude.{ℕ, ◌<◌, length, All}
use Rattle.chip_trace.specs.declared.agenda.Agenda.TheInside.{Inside}

-- what an `Agenda` shows: the numbers of its vertices, and of those to visit
pub record ReplayAgenda : Type 0 where
  pub vertices : ℕ
  pub due : ℕ

-- the fields, counted
abbrev pub agenda_state : Inside → ReplayAgenda
agenda_state a = record { vertices = length a.waiting.items; due = length a.due.items }

-- all that it names are vertices
pub record NamesVertices (a : Inside) : Type 0 where
  pub due : All (λ v. v < length a.waiting.items) a.due.items
  pub waiting : All (λ waiters. All (λ v. v < length a.waiting.items) waiters.items) a.waiting.items
