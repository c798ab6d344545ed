-- Serves Computation.antt, Laws.antt.
-- Invariants of the books in every legal log, and that they may note its events.
use Rattle.std.proofs.Common.{◌≡◌, ℕ, ◌-◌, ◌<◌, ◌≤◌, Bool, true, false, List, [], ◌∷◌, is_some}
use Rattle.std.proofs.Common.{Option, Some, None, refl, sym, ap, ◌∙◌, subst, arith, ⊎_elim, true≢false, rules}
use Rattle.std.specs.List.{Contains, sum_by}
use Rattle.std.specs.Option.{IfSome}
use Rattle.std.proofs.lemmas.List.Sums.{sum_by-cons}
use Rattle.std.proofs.lemmas.Bool.Decides.{nat_tests}
use Rattle.std.proofs.lemmas.List.Elements.{Contains-append_right}
use mathlib.Core.Logic.{dite}
use native.Mathlib.Decide.{ℕ_discrete}
use Rattle.chip_detect.specs.Tally.{edges_of, all_open, message_limit}
use Rattle.chip_detect.specs.Books.{Books, IsSound, in_edges, out_edges, got_of, acked_of, sent_of, settled_of}
use Rattle.chip_detect.specs.Books.{deficit}
use Rattle.chip_detect.specs.Acknowledging.{or_else, parent_while_owed, acknowledgeable_count}
use Rattle.chip_detect.specs.Steps.{Step, Got, Acked, Sent, Settled, MayBeMade, Makes}
use Rattle.chip_detect.proofs.ChangesLemmas.{answers_total}
use Rattle.chip_detect.proofs.SoundnessLemmas.{steps_keep_soundness, neutral_only_when_done}
use Rattle.chip_diffusing.specs.Network.{Network, IsNetwork, AreAll, IsInto, IsOutOf}
use Rattle.chip_diffusing.specs.Computation.{PartState, World, Event, Send, Get, Ack, Settle, Work, Log, May, NotesEvent, Happens}
use Rattle.chip_diffusing.specs.Computation.{process_of, call_of, OpensPart, Leads, IsLegalLog, sent_on, got_on, acked_on}
use Rattle.chip_diffusing.specs.Computation.{settled_on}
use Rattle.chip_diffusing.specs.Laws.{CallsMayBeMade}
use Rattle.chip_diffusing.proofs.EdgesLemmas.{counted}
use Rattle.chip_detect.proofs.ListLemmas.{cases_option}

got_some : (o : Option ℕ) (e : ℕ) → or_else o e ≡ None → ⊥
got_some None e is = absurd (cc)
got_some (Some q) e is = absurd (cc)

-- a passive process may acknowledge no less than an active one
pub more_when_passive : (e : ℕ) (parent : Option ℕ) (here all waiting : ℕ) (passive : Bool)
    → acknowledgeable_count e parent here all waiting passive ≤ acknowledgeable_count e parent here all waiting true
more_when_passive e None here all waiting passive = omega arith
more_when_passive e (Some q) here all waiting true = omega arith
more_when_passive e (Some q) here all waiting false = grind (arith, nat_tests)

-- a parent after the step was the parent before
still : (o : Option ℕ) (owes : ℕ → ℕ) (q : ℕ) → parent_while_owed o owes ≡ Some q → o ≡ Some q
still None owes q at = at
still (Some p) owes q at = grind (arith, nat_tests)

-- a sum of nothing
pub sum_none : (f : ℕ → ℕ) (xs : List ℕ) → ((e : ℕ) → Contains xs e → f e ≡ 0) → sum_by f xs ≡ 0
sum_none f [] none = refl
sum_none f (x ∷ xs) none =
    let here = none x (0, omega arith, refl) in
    let rest = sum_none f xs (λ e m. none e (Contains-append_right (x ∷ []) xs e m)) in
    omega (arith, sum_by-cons f x xs)

-- counts only grow
pub record Grows (a b : Books) : Type 0 where
  pub sent : (e : ℕ) → sent_of a e ≤ sent_of b e
  pub got : (e : ℕ) → got_of a e ≤ got_of b e
  pub acked : (e : ℕ) → acked_of a e ≤ acked_of b e
  pub settled : (e : ℕ) → settled_of a e ≤ settled_of b e

books_grow : (a b : Books) (x : Event) → NotesEvent a x b → Grows a b
books_grow a b x n = search (rules, arith, nat_tests)

module _ (net : Network) where
  pub record IsKept (w : World) : Type 0 where
    pub sound : (p : ℕ) → p < net.parts → IsSound (w p).books
    pub ins : (p : ℕ) → p < net.parts → AreAll (in_edges (w p).books) (IsInto net p)
    pub outs : (p : ℕ) → p < net.parts → AreAll (out_edges (w p).books) (IsOutOf net p)
    pub heard : (e : ℕ) → e < net.edges → settled_on net w e ≤ acked_on net w e
    pub got : (e : ℕ) → e < net.edges → got_on net w e ≤ sent_on net w e
    -- a process without a parent is done
    pub neutral : (p : ℕ) → p < net.parts → (p ≡ net.root → ⊥) → (w p).books.parent ≡ None
        → ((w p).passive ≡ true) × (deficit (w p).books ≡ 0)
    -- and the root has none
    pub free : (w net.root).books.parent ≡ None

  module _ (is : IsNetwork net) where
    pub who_inside : (w : World) (x : Event) → May net w x → process_of net x < net.parts
    who_inside w x may = grind (arith, is.tails, is.heads)

    -- the call of `Detect` may be made
    module _ (w : World) (kept : IsKept w) where
      sent_most : (e : ℕ) → e < net.edges → sent_on net w e ≤ message_limit
      sent_most e l = (kept.sound (net.tail e) (is.tails e l)).outs.within e

      pub acked_most : (e : ℕ) → e < net.edges → acked_on net w e ≤ got_on net w e
      acked_most e l = (kept.sound (net.head e) (is.heads e l)).ins.answered e

      pub may_call : (x : Event) → May net w x → IfSome (call_of x) (MayBeMade (w (process_of net x)).books)
      may_call x may =
          let out = λ (e : ℕ) (l : e < net.edges). (kept.outs (net.tail e) (is.tails e l)).all e (l, refl) in
          let into = λ (e : ℕ) (l : e < net.edges). (kept.ins (net.head e) (is.heads e l)).all e (l, refl) in
          grind (arith, out, into, sent_most, more_when_passive, acked_most, kept.got)

    -- ---- one event

    module _ (old : World) (kept : IsKept old) (new : World) where
      abbrev mine : World → Event → Books
      mine w x = (w (process_of net x)).books

      -- what holds of the process that acts, and of a process that is unchanged, holds of each process
      pub each : (P : PartState → PartState → Type 0) (x : Event) → Happens net old x new → ((s : PartState) → P s s)
          → P (old (process_of net x)) (new (process_of net x)) → (p : ℕ) → P (old p) (new p)
      each P x step same here p = dite (ℕ_discrete p (process_of net x))
          (λ z. subst (λ (q : ℕ). P (old q) (new q)) (sym z) here)
          (λ n. subst (P (old p)) (sym (step.others p n)) (same (old p)))

      -- what the process that acts keeps, all processes keep
      pub stays : {A : Type 0} (x : Event) → Happens net old x new → (f : PartState → A)
          → f (new (process_of net x)) ≡ f (old (process_of net x)) → (p : ℕ) → f (new p) ≡ f (old p)
      stays x step f same = each (λ s t. f t ≡ f s) x step (λ s. refl) same

      pub grows : (x : Event) → Happens net old x new → (p : ℕ) → Grows (old p).books (new p).books
      grows x step = each (λ s t. Grows s.books t.books) x step (λ s. search (rules, arith))
          (books_grow (mine old x) (mine new x) x step.notes)

      -- only a message that is got engages a process
      pub was_parent : (x : Event) → Happens net old x new → ((e : ℕ) → x ≡ Get e → ⊥) → (p q : ℕ)
          → (new p).books.parent ≡ Some q → (old p).books.parent ≡ Some q
      was_parent x step other = each (λ s t. (q : ℕ) → t.books.parent ≡ Some q → s.books.parent ≡ Some q) x step
          (λ s q at. at) (was x step.notes other)
        where
          was : (x : Event) → NotesEvent (mine old x) x (mine new x) → ((e : ℕ) → x ≡ Get e → ⊥) → (q : ℕ)
              → (mine new x).parent ≡ Some q → (mine old x).parent ≡ Some q
          was x n other q at = grind (arith, still, other)

      -- invariants of a process by its books alone
      pub record Own (p : ℕ) (b : Books) : Type 0 where
        pub sound : IsSound b
        pub ins : AreAll (in_edges b) (IsInto net p)
        pub outs : AreAll (out_edges b) (IsOutOf net p)

      own : (p : ℕ) → p < net.parts → Own p (old p).books
      own p l = record { sound = kept.sound p l; ins = kept.ins p l; outs = kept.outs p l }

      own_by : (x : Event) (s : Step) → Happens net old x new → MayBeMade (mine old x) s → Makes (mine old x) s (mine new x)
          → in_edges (mine new x) ≡ in_edges (mine old x) → out_edges (mine new x) ≡ out_edges (mine old x)
          → Own (process_of net x) (mine new x)
      own_by x s step may makes ins outs = let l = who_inside old x step.may in record {
        sound = steps_keep_soundness (mine old x) (mine new x) s (kept.sound (process_of net x) l) may makes;
        ins = subst (λ (es : List ℕ). AreAll es (IsInto net (process_of net x))) (sym ins) (kept.ins (process_of net x) l);
        outs = subst (λ (es : List ℕ). AreAll es (IsOutOf net (process_of net x))) (sym outs) (kept.outs (process_of net x) l);
      }

      own_after : (x : Event) → Happens net old x new → Own (process_of net x) (mine new x)
      own_after (Send e) step = own_by (Send e) (Sent e) step (may_call old kept (Send e) step.may) step.notes
          (ap edges_of step.notes.ins) step.notes.outs.edges
      own_after (Get e) step = own_by (Get e) (Got e) step (may_call old kept (Get e) step.may) step.notes
          step.notes.ins.edges (ap edges_of step.notes.outs)
      own_after (Ack e n) step = own_by (Ack e n) (Acked e n) step (may_call old kept (Ack e n) step.may) step.notes
          step.notes.ins.edges (ap edges_of step.notes.outs)
      own_after (Settle e word) step = own_by (Settle e word) (Settled e word) step
          (may_call old kept (Settle e word) step.may) step.notes (ap edges_of step.notes.ins) step.notes.outs.edges
      own_after (Work p) step = subst (Own p) (sym step.notes) (own p step.may)

      owns : (x : Event) → Happens net old x new → (p : ℕ) → p < net.parts → Own p (new p).books
      owns x step p l = dite (ℕ_discrete p (process_of net x))
          (λ z. subst (λ (q : ℕ). Own q (new q).books) (sym z) (own_after x step))
          (λ n. subst (λ (s : PartState). Own p s.books) (sym (step.others p n)) (own p l))

      -- ---- counts of an edge

      -- no settle goes beyond what was acknowledged before
      heard_after : (x : Event) → Happens net old x new → (e : ℕ) → e < net.edges
          → settled_on net new e ≤ acked_on net new e
      heard_after x step e l = grind (arith, nat_tests, counted net old new x step e, kept.heard e l, step.may)

      -- and nothing is got that was not sent before
      got_after : (x : Event) → Happens net old x new → (e : ℕ) → e < net.edges → got_on net new e ≤ sent_on net new e
      got_after x step e l = grind (arith, nat_tests, counted net old new x step e, kept.got e l, step.may)

      -- ---- neutral processes

      abbrev Rests : PartState → Type 0
      Rests s = (s.passive ≡ true) × (deficit s.books ≡ 0)

      -- an engaged process that isn't engaged after the event made its last acknowledgement
      last_ack : (e n : ℕ) → Happens net old (Ack e n) new → (q : ℕ) → (mine old (Ack e n)).parent ≡ Some q
          → (mine new (Ack e n)).parent ≡ None → Rests (new (net.head e))
      last_ack e n step q was gone =
          let last = neutral_only_when_done (mine old (Ack e n)) (mine new (Ack e n)) (Acked e n)
          (kept.sound (net.head e) (is.heads e step.may.0)) (may_call old kept (Ack e n) step.may)
          step.notes (ap (λ (o : Option ℕ). is_some o) was) (ap (λ (o : Option ℕ). is_some o) gone) in
          (step.wakes (grind (arith, last.step, last.refused_active, step.may.1)), last.no_deficit)

      mine_rests : (x : Event) → Happens net old x new
          → ((mine old x).parent ≡ None → Rests (old (process_of net x)))
          → (mine new x).parent ≡ None → Rests (new (process_of net x))
      mine_rests (Send e) step rest none =
          absurd (true≢false (sym (rest (sym step.notes.parent ∙ none)).0 ∙ step.may.1))
      mine_rests (Get e) step rest none = absurd (got_some (mine old (Get e)).parent e (sym step.notes.parent ∙ none))
      mine_rests (Ack e n) step rest none = ⊎_elim
          (λ before. (step.wakes (rest before).0, ap all_open step.notes.outs ∙ (rest before).1))
          (λ some. last_ack e n step some.0 some.1 none)
          (cases_option (mine old (Ack e n)).parent)
      mine_rests (Settle e word) step rest none =
          let was = rest (sym step.notes.parent ∙ none) in
          let b : Books = mine old (Settle e word) in
          let may = may_call old kept (Settle e word) step.may in
          let less = answers_total b.outs (mine new (Settle e word)).outs e (word - settled_of b e)
          (kept.sound (net.tail e) (is.tails e step.may.0)).outs step.notes.outs (omega (arith, may.1, may.2)) may.0 in
          (step.wakes was.0, omega (arith, was.1))
      mine_rests (Work p) step rest none =
          let was = rest (ap (λ (b : Books). b.parent) (sym step.notes) ∙ none) in
          (step.wakes was.0, ap deficit step.notes ∙ was.1)

      rests_after : (x : Event) → Happens net old x new → (p : ℕ) → p < net.parts → (p ≡ net.root → ⊥)
          → (new p).books.parent ≡ None → Rests (new p)
      rests_after x step p l other = each (λ s t. (s.books.parent ≡ None → Rests s) → t.books.parent ≡ None → Rests t)
          x step (λ s z. z) (mine_rests x step) p (kept.neutral p l other)

      -- ---- the root

      free_after : (x : Event) → Happens net old x new → (new net.root).books.parent ≡ None
      free_after x step = grind (arith, nat_tests, kept.free, step.notes, step.others net.root, is.none_to_root, step.may)

      pub kept_after : (x : Event) → Happens net old x new → IsKept new
      kept_after x step = record {
        sound = λ p l. (owns x step p l).sound;
        ins = λ p l. (owns x step p l).ins;
        outs = λ p l. (owns x step p l).outs;
        heard = heard_after x step;
        got = got_after x step;
        neutral = rests_after x step;
        free = free_after x step;
      }

    -- ---- all events
    pub opens_kept : (w : World) → ((p : ℕ) → p < net.parts → OpensPart net p (w p)) → IsKept w
    opens_kept w opens = record {
      sound = λ p l. (opens p l).sound;
      ins = λ p l. let o = opens p l in all_of (in_edges (w p).books) o.ins (IsInto net p) o.all_ins o.fresh.ins.these;
      outs = λ p l. let o = opens p l in all_of (out_edges (w p).books) o.outs (IsOutOf net p) o.all_outs o.fresh.outs.these;
      heard = λ e l. let a = (opens (net.tail e) (is.tails e l)).fresh.outs.answered e in omega arith;
      got = λ e l. let a = (opens (net.head e) (is.heads e l)).fresh.ins.messages e in omega arith;
      neutral = λ p l other none. let o = opens p l in (o.passive other, no_deficit (w p).books o.fresh.outs.messages);
      free = (opens net.root is.root).fresh.parent;
    }
      where
        all_of : (es given : List ℕ) (Is : ℕ → Type 0) → AreAll given Is
            → Rattle.chip_detect.specs.Tally.AreEdgesOf given es → AreAll es Is
        all_of es given Is all these = record {
          all = λ e i. these.all e (all.all e i);
          none_else = λ e m. all.none_else e (these.none_else e m);
        }

        no_deficit : (b : Books) → ((e : ℕ) → sent_of b e ≡ 0) → deficit b ≡ 0
        no_deficit b none = sum_none (λ e. sent_of b e - settled_of b e) (out_edges b)
            (λ e m. let a = none e in omega arith)

    pub kept_on : (old : World) → IsKept old → (log : Log) (new : World) → Leads net old log new → IsKept new
    kept_on old kept [] new same = subst IsKept same kept
    kept_on old kept (x ∷ log) new (w, way, step) = kept_after w (kept_on old kept log w way) new x step

    pub legal_kept : (log : Log) (w : World) → IsLegalLog net log w → IsKept w
    legal_kept log w legal = kept_on legal.first (opens_kept legal.first legal.opens) log w legal.leads

pub calls_may_be_made : CallsMayBeMade
calls_may_be_made net is log w legal x may =
    let kept = legal_kept net is log w legal in
    (kept.sound (process_of net x) (who_inside net is w x may), may_call net is w kept x may)
