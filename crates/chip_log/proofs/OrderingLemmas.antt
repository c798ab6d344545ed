-- Serves Ordering.antt.
-- Steps are made while they are enabled.
use Rattle.chip_log.proofs.Names.{◌≡◌, ℕ, ◌+◌, ◌≤◌, ◌<◌, Bool, true, false, eqb, List, [], ◌∷◌, ◌++◌, length}
use Rattle.chip_log.proofs.Names.{ap, arith, cond, append-nil, length-set, ◌^◌, append_assoc, drop}
use Rattle.chip_log.proofs.Names.{length-append, All-head, All-tail, All-push, All-nil}
use Rattle.chip_log.proofs.Names.{All-cons, All-append, Some, None, All, AgendaState, IsOf, steps_of, is_out}
use Rattle.chip_log.proofs.Names.{nat_tests, active_after, begins_active, is_enabled, may_send, AreSent, is_there}
use Rattle.chip_log.proofs.Names.{IsReady, Reads, IsOrderKept, OrderGoesOn, IsNextStep, MakesNextStep, FitsRow, queue_of, total}
use Rattle.chip_log.proofs.Names.{step_in_front, count, Order, Sizes, LogRow, Step, Out, In, Stream, rules}
use Rattle.chip_log.proofs.CountLemmas.{rows_few, steps_of-append, active_after-append}
use Rattle.chip_log.proofs.PastLemmas.{are_met_both}
use Rattle.chip_log.proofs.BooksLemmas.{make_flight}
use Rattle.chip_log.proofs.QueuesLemmas.{set_at, total-set, total_le}

-- a step after others is sent as they leave the process
pub sent_at : (was : Bool) (before : List Step) (step : Step) (later : List Step) → AreSent was (before ++ step ∷ later)
    → may_send (active_after was before) step ≡ true
sent_at was [] step later sent = sent.0
sent_at was (first ∷ before) step later sent =
    rw (active_after-append was (first ∷ []) before) (sent_at (active_after was (first ∷ [])) before step later sent.1)

-- ---- one more row is read

module _ (sizes : Sizes) (x : LogRow) (old new : Order) (ready : IsReady sizes old) (reads : Reads x old new)
    (fits : FitsRow sizes x) (few : length old.done.items + total old.queues + 1 < 2 ^ 32) where
  within : x.process < length old.queues
  within = let a = ready.processes in let b = fits.process in omega arith

  queue_read : (q : ℕ) → queue_of new.queues q ≡ queue_of old.queues q ++ steps_of q (x ∷ [])
  queue_read q =
      let b = set_at old.queues x.process q (queue_of old.queues x.process ++ x.step ∷ []) [] within in
      rw reads.queues (grind (arith, nat_tests, append-nil))

  pub read_more : length new.done.items + total new.queues ≡ length old.done.items + total old.queues + 1
  read_more =
      let b = total-set old.queues x.process (queue_of old.queues x.process ++ x.step ∷ []) within in
      rw (reads.queues, reads.done) (omega (arith, length-append {A = Step}))

  read_fits : (q : ℕ) → All (IsOf sizes.channels) (queue_of new.queues q)
  read_fits q = rw (queue_read q) (All-append (IsOf sizes.channels) (queue_of old.queues q) (steps_of q (x ∷ []))
      (ready.fits q) (by (eqb x.process q)))
    where
      by : (b : Bool) → All (IsOf sizes.channels) (cond b (x.step ∷ []) [])
      by true = All-cons (IsOf sizes.channels) x.step [] fits.channel (All-nil (IsOf sizes.channels))
      by false = All-nil (IsOf sizes.channels)

  pub read_ready : IsReady sizes new
  read_ready = record {
    processes = rw (reads.queues, length-set) ready.processes;
    agenda = omega arith;
    channels = omega arith;
    streams = rw reads.flight ready.streams;
    fits = read_fits;
    done = rw reads.done ready.done;
    flight = rw (reads.done, reads.flight) ready.flight;
    few = omega (arith, read_more);
  }

  pub read_keeps : (log unread : List LogRow) → IsOrderKept log (x ∷ unread) old → IsOrderKept log unread new
  read_keeps log unread kept = record {
    own = λ q. rw (reads.done, queue_read q, append_assoc, ← steps_of-append q (x ∷ []) unread) (kept.own q);
    met = rw reads.done kept.met;
  }

-- ---- a step is made

module _ (sizes : Sizes) (old new : Order) (p : ℕ) (step : Step) (later : List Step) (ready : IsReady sizes old)
    (inside : p < sizes.processes) (next : queue_of old.queues p ≡ step ∷ later) (there : is_there old.flight step ≡ true)
    (makes : MakesNextStep p step old new) where
  abbrev row : LogRow
  row = record { process = p; step = step }

  among : p < length old.queues
  among = let a = ready.processes in omega arith

  queue_made : (q : ℕ) → steps_of q (row ∷ []) ++ queue_of new.queues q ≡ queue_of old.queues q
  queue_made q =
      let b = set_at old.queues p q (drop 1 (queue_of old.queues p)) [] among in
      rw makes.queues (grind (arith, nat_tests))

  one_fewer : total new.queues + 1 ≡ total old.queues
  one_fewer = let b = total-set old.queues p (drop 1 (queue_of old.queues p)) among in rw makes.queues (grind arith)

  one_more : length new.done.items ≡ length old.done.items + 1
  one_more = rw makes.done (length-append old.done.items (row ∷ []))

  behind_all : (xs ys : List Step) → All (IsOf sizes.channels) (xs ++ ys) → All (IsOf sizes.channels) ys
  behind_all [] ys all = all
  behind_all (y ∷ xs) ys all = behind_all xs ys (All-tail (IsOf sizes.channels) y (xs ++ ys) all)

  made_ready : IsReady sizes new
  made_ready = record {
    processes = rw (makes.queues, length-set) ready.processes;
    agenda = omega arith;
    channels = omega arith;
    streams = omega arith;
    fits = λ q. behind_all (steps_of q (row ∷ [])) (queue_of new.queues q) (rw (queue_made q) (ready.fits q));
    done = rw makes.done (All-push (FitsRow sizes) old.done.items row ready.done (record {
      process = inside;
      channel = All-head (IsOf sizes.channels) step later (rw next at (ready.fits p));
    }));
    flight = rw makes.done (make_flight old.done.items row old.flight new.flight ready.flight makes.flight);
    few = omega (arith, one_fewer, one_more);
  }

  module _ (log unread : List LogRow) (sent : (q : ℕ) → AreSent (begins_active (steps_of q log)) (steps_of q log))
      (kept : IsOrderKept log unread old) where
    own_log : steps_of p old.done.items ++ (step ∷ (later ++ steps_of p unread)) ≡ steps_of p log
    own_log = rw next at (kept.own p)

    is_met_now : is_enabled log old.done.items p step ≡ true
    is_met_now =
        let a = sent_at (begins_active (steps_of p log)) (steps_of p old.done.items) step (later ++ steps_of p unread)
        (rw own_log (sent p)) in
        let b = ready.flight in grind (arith, nat_tests)

    made_keeps : IsOrderKept log unread new
    made_keeps = record {
      own = λ q. rw makes.done
          (simp (steps_of-append, append_assoc) (simp (← queue_made q, append_assoc) at (kept.own q)));
      met = rw makes.done (are_met_both log [] old.done.items (row ∷ []) kept.met (is_met_now, tt));
    }

  pub made : OrderGoesOn sizes old new
  made = record {
    ready = made_ready;
    same = omega (arith, one_fewer, one_more);
    fewer = omega (arith, one_fewer);
    less = omega (arith, one_fewer);
    keeps = made_keeps;
  }

  pub made_fewer : total new.queues < total old.queues
  made_fewer = omega (arith, one_fewer)

pub GoesOn-trans : (sizes : Sizes) (a b c : Order) → OrderGoesOn sizes a b → OrderGoesOn sizes b c → OrderGoesOn sizes a c
GoesOn-trans sizes a b c first second = record {
  ready = second.ready;
  same = omega arith;
  fewer = omega arith;
  less = omega arith;
  keeps = λ log unread sent kept. second.keeps log unread sent (first.keeps log unread sent kept);
}

-- only the agenda changes
pub looks : (sizes : Sizes) (o : Order) (agenda : AgendaState) → IsReady sizes o → agenda.processes ≡ o.agenda.processes
    → agenda.channels ≡ o.agenda.channels → agenda.due ≤ o.agenda.due
    → OrderGoesOn sizes o (record { done = o.done; flight = o.flight; queues = o.queues; agenda = agenda })
looks sizes o agenda ready processes channels due = search (rules, arith)

pub stays : (sizes : Sizes) (o : Order) → IsReady sizes o → OrderGoesOn sizes o o
stays sizes o ready = search (rules, arith)

-- ---- the next step of a process

pub head_some : (steps : List Step) (step : Step) → Some step ≡ step_in_front steps → (later : List Step) × (steps ≡ step ∷ later)
head_some [] step is = absurd (cc is)
head_some (first ∷ later) step is = (later, cc)

pub head_none : (steps : List Step) → None ≡ step_in_front steps → steps ≡ []
head_none steps is = grind arith

-- it has one next step
pub one_next : (o : Order) (p : ℕ) (step other : Step) → Some step ≡ step_in_front (queue_of o.queues p) → IsNextStep o p other
    → other ≡ step
one_next o p step other is next = let e = next.1 in cc

pub no_next : (o : Order) (p : ℕ) (step : Step) → queue_of o.queues p ≡ [] → IsNextStep o p step → ⊥
no_next o p step none next = let e = next.1 in cc

pub some_left : (steps : List Step) (step : Step) → Some step ≡ step_in_front steps → 0 < length steps
some_left steps step is = grind arith

module _ (sizes : Sizes) (o : Order) (ready : IsReady sizes o) (p : ℕ) (step : Step) (next : IsNextStep o p step) where
  pub next_of : IsOf sizes.channels step
  next_of = All-head (IsOf sizes.channels) step next.0 (rw next.1 at (ready.fits p))

  pub next_in_flight : IsOf o.flight.channels step
  next_in_flight = rw ready.streams next_of

  pub out_channel : (s : Stream) → step ≡ Out s → s.channel < sizes.channels
  out_channel s e = rw e at next_of

  pub in_channel : (s : Stream) → step ≡ In s → s.channel < sizes.channels
  in_channel s e = rw e at next_of

  pub out_room : (s : Stream) → count o.flight s + 1 < 2 ^ 32
  out_room s =
      let e = ap length next.1 in
      omega (arith, ready.flight s, rows_few (is_out s) o.done.items, total_le o.queues p)
