-- Serves Core.antt.
-- Every run leaves a legal log, every legal log is that of a run, and a part follows from its own events.
use Rattle.chip_core.proofs.Names.{◌≡◌, ℕ, List, [], ◌∷◌, ◌++◌, Option, Some, None, refl, sym, ap, ◌∙◌, append-nil}
use Rattle.chip_core.proofs.Names.{Bool, true, false, cond, eqb, Setting, saw, Log, Step, Event, Rule, Part}
use Rattle.chip_core.proofs.Names.{opening_part, unmet_rule, part_of, does, part_in, IsLegalLog, answer, step}
use Rattle.chip_core.proofs.Names.{log_after, events_in, done_by, part_by, PartsByTheirOwnEvents, LegalLogsAreRuns}

module _ (g : Setting) where
  pub part-append : (xs ys : List Step) (s : Part) → part_by g s (xs ++ ys) ≡ part_by g (part_by g s xs) ys
  part-append [] ys s = refl
  part-append (x ∷ xs) ys s = part-append xs ys (does g x s)

  -- the steps of a part after a log, and one step more
  own_step : (b : Bool) (s : Part) (x : Step) (t : Part) (ds : List Step) → t ≡ part_by g s ds
      → cond b (does g x t) t ≡ part_by g s (cond b (ds ++ x ∷ []) ds)
  own_step true s x t ds is = let a = part-append ds (x ∷ []) s in cc
  own_step false s x t ds is = is

  pub part_own : (p : ℕ) (mid base : Log) → part_in g (mid ++ base) p ≡ part_by g (part_in g base p) (done_by g p mid)
  part_own p [] base = refl
  part_own p (x ∷ mid) base = own_step (eqb (part_of g x.event) p) (part_in g base p) x (part_in g (mid ++ base) p)
      (done_by g p mid) (part_own p mid base)

  pub by_history : (log : Log) (p : ℕ) → part_in g log p ≡ part_by g (opening_part g) (done_by g p log)
  by_history log p = let a = append-nil log in let b = part_own p log [] in cc

  pub answer_legal : (log : Log) (x : Event) (o : Option Rule) → unmet_rule g x (part_in g log (part_of g x)) ≡ o
      → IsLegalLog g log → IsLegalLog g (answer g log x o).0
  answer_legal log x None is legal = (legal, (is, refl))
  answer_legal log x (Some r) is legal = legal

  -- one step of a legal log leaves one
  pub step_legal : (log : Log) (x : Event) → IsLegalLog g log → IsLegalLog g (step g log x).0
  step_legal log x legal = answer_legal log x (unmet_rule g x (part_in g log (part_of g x))) refl legal

  -- and so does a run
  pub run_legal : (log : Log) (xs : List Event) → IsLegalLog g log → IsLegalLog g (log_after g log xs)
  run_legal log [] legal = legal
  run_legal log (x ∷ xs) legal = run_legal (step g log x).0 xs (step_legal log x legal)

  run_push : (log : Log) (xs : List Event) (x : Event)
      → log_after g log (xs ++ x ∷ []) ≡ (step g (log_after g log xs) x).0
  run_push log [] x = refl
  run_push log (y ∷ ys) x = run_push (step g log y).0 ys x

  -- a legal log is that of the run of its latest events
  pub run_from : (xs log : Log) → IsLegalLog g (xs ++ log) → log_after g log (events_in xs) ≡ xs ++ log
  run_from [] log legal = refl
  run_from (x ∷ xs) log legal = run_push log (events_in xs) x.event
      ∙ ap (λ (l : Log). (step g l x.event).0) (run_from xs log legal.0)
      ∙ ap (λ (o : Option Rule). (answer g (xs ++ log) x.event o).0) legal.1.0
      ∙ (λ j. saw x.event (sym legal.1.1 j) ∷ xs ++ log)

pub parts_by_their_own_events : PartsByTheirOwnEvents
parts_by_their_own_events = by_history

pub legal_logs_are_runs : LegalLogsAreRuns
legal_logs_are_runs g = (
  (λ log legal xs. run_legal g log xs legal),
  λ log legal. (let a = run_from g log [] (rw (append-nil log) legal) in let b = append-nil log in cc),
)
