-- Serves Running.antt.
-- The processes before the first message, and an event of a run: the call that notes it is allowed, and leads to a run.
use Rattle.chip_flooding.proofs.Names.{◌≡◌, ◌<◌, ℕ, List, ◌∷◌, get_or, set, length, cond, eqb, refl, ap, ◌∙◌, arith}
use Rattle.chip_flooding.proofs.Names.{get_or-set_same, get_or-set_other, length-set, ◌≢◌, ◌+◌, [], ◌++◌, rules}
use Rattle.chip_flooding.proofs.Names.{cases_eq, nat_tests, get_or_read, length_push, get_or_push, get_or_append_left}
use Rattle.chip_flooding.proofs.Names.{Contains-append_left, Contains-push, Contains-push_cases, IfSome, dite}
use Rattle.chip_flooding.proofs.Names.{ℕ_discrete, MayBeMade, legal_kept, who_inside, may_call, Event, May, NotesEvent}
use Rattle.chip_flooding.proofs.Names.{Wakes, process_of, call_of, AreAll, net, world, Process, State, shown, nobody}
use Rattle.chip_flooding.proofs.Names.{IsLegalState, Runs, Topology, OpensProcess, AreOpeningProcesses}
use Rattle.chip_flooding.specs.declared.run.Run.TheInside.{Inside}

-- a list after one was written
pub set_at : {A : Type 0} (xs : List A) (e i : ℕ) (x d : A) → e < length xs
    → get_or (set xs e x) i d ≡ cond (eqb e i) x (get_or xs i d)
set_at xs e i x d l = let k = cases_eq i e in let a = get_or-set_same xs e x d l in let b = get_or-set_other xs e i x d in
    grind (arith, nat_tests)

-- an edge below n of which the process is this end
abbrev pub IsEnd : List ℕ → ℕ → ℕ → ℕ → Type 0
IsEnd ends part n e = (e < n) × (get_or ends e 0 ≡ part)

-- one more edge is read: it is listed
pub listed : (ends es : List ℕ) (part n : ℕ) → AreAll es (IsEnd ends part n) → get_or ends n 0 ≡ part
    → AreAll (es ++ n ∷ []) (IsEnd ends part (n + 1))
listed ends es part n all here = record {
  all = λ e is. dite (ℕ_discrete e n) (λ z. rw z (Contains-push es n))
      (λ other. Contains-append_left es (n ∷ []) e (all.all e (search (rules, arith))));
  none_else = λ e m. let was = all.none_else e in let more = Contains-push_cases es n e m in search (rules, arith);
}

-- or it is not
pub passed : (ends es : List ℕ) (part n : ℕ) → AreAll es (IsEnd ends part n) → get_or ends n 0 ≢ part
    → AreAll es (IsEnd ends part (n + 1))
passed ends es part n all here = record {
  all = λ e is. all.all e (let same = ap (λ (k : ℕ). get_or ends k 0) {x = e} {y = n} in search (rules, arith));
  none_else = λ e m. let was = all.none_else e m in search (rules, arith);
}

-- one more process opens
pub opened : (t : Topology) (n : ℕ) (ps : List Process) (s : Process) → AreOpeningProcesses t n ps → OpensProcess t n s
    → AreOpeningProcesses t (n + 1) (ps ++ s ∷ [])
opened t n ps s was opens = let all = was.count_is in record {
  count_is = let long = length_push ps s in omega arith;
  each = λ p l. dite (ℕ_discrete p n) (λ z. rw (z, get_or_push ps s nobody n all) opens)
      (λ other. rw (get_or_append_left ps (s ∷ []) nobody p (omega arith)) (was.each p (omega arith)));
}

-- ---- an event

abbrev pub state_of : Inside → State
state_of r = record { topology = r.topology; processes = r.processes.items }

-- a process is about to do what it may
pub record Acting (r : Inside) (x : Event) (p : ℕ) (was : Process) : Type 0 where
  pub is : IsLegalState (state_of r)
  pub may : May (net (state_of r)) (world (state_of r)) x
  pub at : p ≡ process_of (net (state_of r)) x
  pub read : was ≡ get_or r.processes.items p was

module _ {r : Inside} {x : Event} {p : ℕ} {was : Process} (a : Acting r x p was) where
  abbrev s : State
  s = state_of r

  abbrev left : Process → State
  left now = record { topology = r.topology; processes = set r.processes.items p now }

  inside : p < length s.processes
  inside = let part = who_inside (net s) a.is.topology.network (world s) x a.may in omega arith

  pub here : was ≡ get_or s.processes p nobody
  here = get_or_read s.processes p was inside a.read nobody

  pub callable : IfSome (call_of x) (MayBeMade was.books)
  callable = let is = a.is.topology.network in rw (here, a.at)
      (may_call (net s) is (world s) (legal_kept (net s) is a.is.log (world s) a.is.legal) x a.may)

  -- it does it: one event of a legal log
  pub runs : (now : Process) → NotesEvent was.books x now.books → Wakes was.passive x now.passive → Runs s x (left now)
  runs now notes wakes = let at = a.at in let same = get_or-set_same s.processes p now nobody inside in record {
    topology = refl;
    happens = record {
      may = a.may;
      notes = rw (← at, same, ← here) notes;
      wakes = rw (← at, same, ← here) wakes;
      others = λ q other. ap shown (get_or-set_other s.processes p q now nobody (λ z. other (z ∙ at)));
    };
  }

  pub goes_on : (now : Process) → NotesEvent was.books x now.books → Wakes was.passive x now.passive → IsLegalState (left now)
  goes_on now notes wakes = let was = a.is.legal in record {
    topology = a.is.topology;
    all_processes = length-set s.processes p now ∙ a.is.all_processes;
    log = x ∷ a.is.log;
    legal = record { first = was.first; opens = was.opens; leads = (world s, was.leads, (runs now notes wakes).happens) };
  }
