-- In each order in which the rows of a run are enabled, the last row is the only claim, and all is over before it.
use Rattle.std.proofs.Common.{◌≡◌, ◌≢◌, ℕ, zero, suc, ◌+◌, ◌-◌, ◌<◌, ◌≤◌, Bool, true, false, cond, List, [], ◌∷◌, ◌++◌}
use Rattle.std.proofs.Common.{refl, sym, ◌∙◌, subst, arith, rules, replicate, eq-eqb, append-nil, append_assoc}
use Rattle.std.proofs.Common.{None, Some, ⊎_elim, length, length-append, get_or}
use Rattle.std.specs.Prelude.{not, ◌==◌, if◌then◌else◌}
use Rattle.std.proofs.lemmas.Bool.{ne_eqb}
use Rattle.std.proofs.lemmas.Bool.Decides.{nat_tests}
use Rattle.std.proofs.lemmas.List.{map-append, get_or_default}
use Rattle.std.proofs.lemmas.List.Elements.{All-nil, All-cons}
use mathlib.Core.Logic.{dite}
use native.Mathlib.Decide.{ℕ_discrete, dec_lt}
use Rattle.chip_detect.specs.Tally.{look, edges_of}
use Rattle.chip_detect.specs.declared.tallies.Tally.{Tally}
use Rattle.chip_detect.specs.Books.{Books, sent_of, got_of, acked_of, settled_of}
use Rattle.chip_detect.specs.Steps.{Acked}
use Rattle.chip_detect.proofs.ChangesLemmas.{open_within_total}
use Rattle.chip_detect.proofs.ListLemmas.{cases_option}
use Rattle.chip_detect.proofs.LookupsLemmas.{absent_or_at}
use Rattle.chip_detect.proofs.SoundnessLemmas.{neutral_only_when_done}
use Rattle.chip_diffusing.specs.Network.{Network, IsNetwork, AreAll}
use Rattle.chip_diffusing.specs.Computation.{PartState, World, Event, Send, Get, Ack, Settle, Work, Log, May, NotesEvent, Happens}
use Rattle.chip_diffusing.specs.Computation.{Leads, IsLegalLog, HasClosedRoot, process_of, sent_on, got_on, acked_on, settled_on}
use Rattle.chip_diffusing.proofs.KeptLemmas.{IsKept, opens_kept, kept_after, acked_most, may_call, who_inside}
use Rattle.chip_diffusing.proofs.OrderLemmas.{no_parents, settled_up, closed_quiescent}
use Rattle.chip_log.specs.Log.{steps_of, is_out, is_in, count_steps, sends, gets, count_rows, outs, ins, active_after}
use Rattle.chip_log.specs.Log.{begins_active, AreEnabled, IsInterleaving}
use Rattle.chip_log.specs.Books.{IsOf}
use Rattle.chip_log.specs.Claims.{basic, IsQuiescentAfter, IsRight}
use Rattle.chip_log.specs.Judged.{control, is_over}
use Rattle.chip_log.specs.Past.{Fits, FitsRow}
use Rattle.chip_log.specs.declared.row.LogRow.{LogRow}
use Rattle.chip_log.specs.declared.row.Stream.{Stream}
use Rattle.chip_log.specs.declared.row.Step.{Step}
use Rattle.chip_log.specs.declared.row.Step.TheVariants.{Out, In, Over}
use Rattle.chip_log.specs.declared.judged.LogEnd.TheVariants as end
use Rattle.chip_log.specs.declared.verdict.Verdict.TheVariants as verdict
use Rattle.chip_log.proofs.CountLemmas.{all_own, count-append, rows-append, steps_of-append, active_after-append, steps_own}
use Rattle.chip_log.proofs.CountLemmas.{steps_push}
use Rattle.chip_log.proofs.MetLemmas.{push_yes, push_le, same_self}
use Rattle.chip_log.proofs.PastLemmas.{are_met_both, are_met_first, met_le}
use Rattle.chip_log.proofs.VerdictLemmas.{one_verdict}
use Rattle.chip_log.proofs.RightLemmas.{over_at}
use Rattle.chip_log.proofs.OneLemmas.{one_end}
use Rattle.chip_log.proofs.MissingLemmas.{sent_while_active}
use Rattle.chip_judged.specs.Rows.{messages_of, steps_by, log_row, rows_by, rows_until, rows_of_run}
use Rattle.chip_judged.specs.Laws.{network_sizes, AreJudgedRight}
use Rattle.chip_judged.proofs.laws.every_log_is_judged_right.Goals as goal

-- ---- steps

-- whether a step is a message sent or a claim
abbrev tells : Step → Bool
tells (Out s) = true
tells Over = true
tells _ = false

-- whether the last of these steps is, if there is one
abbrev last_tells : Bool → List Step → Bool
last_tells was [] = was
last_tells was (step ∷ steps) = last_tells (tells step) steps

-- steps in two processes are read one process after the other
last_tells-append : (was : Bool) (xs ys : List Step) → last_tells was (xs ++ ys) ≡ last_tells (last_tells was xs) ys
last_tells-append was [] ys = refl
last_tells-append was (x ∷ xs) ys = last_tells-append (tells x) xs ys

-- messages sent tell, if there is one
last_tells-replicate : (was : Bool) (n : ℕ) (s : Stream) → (n ≡ 0 → was ≡ true) → last_tells was (replicate n (Out s)) ≡ true
last_tells-replicate was zero s some = some refl
last_tells-replicate was (suc n) s some = last_tells-replicate true n s (λ z. refl)

-- equal steps count if one of them does
count-replicate : (test : Step → Bool) (n : ℕ) (step : Step) → count_steps test (replicate n step) ≡ cond (test step) n 0
count-replicate test zero step = grind (arith, nat_tests)
count-replicate test (suc n) step = let a = count-replicate test n step in grind (arith, nat_tests)

-- a step that changes no activity changes none many times
active_after-replicate : (b : Bool) (n : ℕ) (step : Step) → active_after b (step ∷ []) ≡ b → active_after b (replicate n step) ≡ b
active_after-replicate b zero step same = refl
active_after-replicate b (suc n) step same =
    rw (active_after-append b (step ∷ []) (replicate n step), same) (active_after-replicate b n step same)

-- steps begin as their first process does, if none of the second begins active
begins-append : (xs ys : List Step) → count_steps (λ y. begins_active (y ∷ [])) ys ≡ 0 → begins_active (xs ++ ys) ≡ begins_active xs
begins-append xs ys none = grind (arith, nat_tests)

-- rows of p are steps of p alone
steps_of-rows_by : (p q : ℕ) (steps : List Step) → steps_of q (rows_by p steps) ≡ (if p == q then steps else [])
steps_of-rows_by p q [] = grind (arith, nat_tests)
steps_of-rows_by p q (step ∷ steps) = let a = steps_of-rows_by p q steps in grind (arith, nat_tests)

-- ---- what the rows show

-- the steps of a process have the counts of an edge in its books
record Counted (steps : List Step) (b : Books) (e : ℕ) : Type 0 where
  sent : sends (basic e) steps ≡ sent_of b e
  got : gets (basic e) steps ≡ got_of b e
  acked : sends (control e) steps ≡ acked_of b e
  settled : gets (control e) steps ≡ settled_of b e

module _ (net : Network) (is : IsNetwork net) (log : Log) (last : World) (legal : IsLegalLog net log last)
    (closed : HasClosedRoot net last) (rows : List LogRow)
    (same : (p : ℕ) → steps_of p rows ≡ steps_of p (rows_of_run net log last legal)) where
  -- the steps of a process show its state, after n claims of the root. A process that is not engaged has told last
  record Shows (n p : ℕ) (steps : List Step) (s : PartState) : Type 0 where
    counts : (e : ℕ) → Counted steps s.books e
    begins : begins_active steps ≡ not (legal.first p).passive
    active : active_after (not (legal.first p).passive) steps ≡ not s.passive
    told : (p ≡ net.root → n ≡ 1) → s.books.parent ≡ None → last_tells true steps ≡ true
    claims : count_steps is_over steps ≡ (if p == net.root then n else 0)

  -- and so do these rows, of each process
  record Show (n : ℕ) (xs : List LogRow) (w : World) : Type 0 where
    kept : IsKept net w
    shows : (p : ℕ) → p < net.parts → Shows n p (steps_of p xs) (w p)
    outside : (p : ℕ) → net.parts ≤ p → steps_of p xs ≡ []

  -- ---- one event

  module _ (old : World) (kept : IsKept net old) (new : World) where
    -- what the books note of an event is what it logs
    counted : (x : Event) (steps : List Step) → NotesEvent (old (process_of net x)).books x (new (process_of net x)).books → (e : ℕ)
        → Counted steps (old (process_of net x)).books e → Counted (steps ++ steps_by net old x new) (new (process_of net x)).books e
    counted (Work p) steps notes e c = search (rules, arith, nat_tests, count-append, count-replicate)
    counted _ steps notes e c = search (rules, arith, nat_tests, count-append, count-replicate)

    -- a process that the event leaves not engaged was passive, and told last
    told_then : (x : Event) → Happens net old x new → process_of net x ≢ net.root → (new (process_of net x)).books.parent ≡ None
        → (before : Bool) → ((old (process_of net x)).books.parent ≡ None → before ≡ true) → last_tells before (steps_by net old x new) ≡ true
    told_then (Ack e n) step other free before told =
        let b = (old (net.head e)).books in
        let final = λ (q : ℕ) (some : b.parent ≡ Some q). neutral_only_when_done b (new (net.head e)).books (Acked e n)
        (kept.sound (net.head e) (is.heads e step.may.0)) (may_call net is old kept (Ack e n) step.may) step.notes
        (rw some refl) (rw free refl) in
        let rest = kept.neutral (net.head e) (is.heads e step.may.0) other in
        grind (arith, nat_tests, last_tells-append, last_tells-replicate, rest, told, final, step.may.1, cases_option b.parent)
    told_then (Settle e word) step other free before told =
        let rest = kept.neutral (net.tail e) (is.tails e step.may.0) other (sym step.notes.parent ∙ free) in
        let within = open_within_total (old (net.tail e)).books.outs e in
        let most = acked_most net is old kept e step.may.0 in
        grind (arith, nat_tests, within, most, rest, kept.got e step.may.0, step.may.2, told (sym step.notes.parent ∙ free))
    told_then x step other free before told = let p = process_of net x in
        grind (arith, nat_tests, kept.neutral p (who_inside net is old x step.may) other, cases_option (old p).books.parent)

    -- the steps of the process of an event show its state then
    shows_then : (x : Event) → Happens net old x new → (steps : List Step) → Shows 0 (process_of net x) steps (old (process_of net x))
        → Shows 0 (process_of net x) (steps ++ steps_by net old x new) (new (process_of net x))
    shows_then x step steps s = record {
      counts = λ e. counted x steps step.notes e (s.counts e);
      begins = begins-append steps _ (grind (arith, nat_tests, count-append, count-replicate)) ∙ s.begins;
      active = rw (active_after-append, s.active)
          (grind (arith, nat_tests, active_after-append, active_after-replicate, step.wakes));
      told = λ root free. let other : process_of net x ≢ net.root = λ z. omega (arith, root z) in
          rw last_tells-append (told_then x step other free (last_tells true steps) (s.told root));
      claims = grind (arith, nat_tests, count-append, count-replicate, s.claims);
    }

  -- ---- all events

  -- the rows so far show each moment of the run
  so_far : (past : Log) (now : World) (way : Leads net legal.first past now) → Show 0 (rows_until net legal.first past now way) now
  so_far [] now at_once = subst (Show 0 (rows_until net legal.first [] legal.first refl)) at_once (record {
    kept = opens_kept net is legal.first legal.opens;
    shows = λ p l. let o = legal.opens p l in
        rw steps_of-rows_by (search (rules, arith, nat_tests, o.fresh.ins.messages, o.passive));
    outside = λ p beyond. grind (arith, nat_tests, steps_of-rows_by, is.root);
  })
  so_far (x ∷ past) now (old, way, step) =
      let s = so_far past old way in
      let q = process_of net x in
      let inside = who_inside net is old x step.may in
      record {
        kept = kept_after net is old s.kept now x step;
        shows = λ p l. dite (ℕ_discrete p q)
            (λ z. rw (z, steps_of-append, steps_of-rows_by, eq-eqb q q refl) (shows_then old s.kept now x step (steps_of q _) (s.shows q inside)))
            (λ n. rw (steps_of-append, steps_of-rows_by, ne_eqb q p (λ z. n (sym z)), append-nil, step.others p n) (s.shows p l));
        outside = λ p beyond. grind (arith, nat_tests, steps_of-append, steps_of-rows_by, s.outside p beyond);
      }

  -- all rows, in any order, show its last world
  ended : (xs : List LogRow) → ((p : ℕ) → steps_of p xs ≡ steps_of p rows) → Show 1 xs last
  ended xs whole = let s = so_far log last legal.leads in record {
    kept = s.kept;
    shows = λ p l. let t = s.shows p l in rw (whole p, same p, steps_of-append)
        (search (rules, arith, nat_tests, count-append, begins-append, active_after-append, last_tells-append, t.counts, t.told));
    outside = λ p beyond. rw (whole p, same p) (grind (arith, nat_tests, steps_of-append, s.outside p beyond, is.root));
  }

  full : Show 1 rows last
  full = ended rows (λ p. refl)

  -- ---- streams

  -- whether a step moves a message of a stream at its sending end, or at the other, and which process that is
  abbrev moves : Bool → Stream → Step → Bool
  moves d s = if d then is_out s else is_in s

  abbrev end_of : Bool → Stream → ℕ
  end_of d s = if (if d then s.is_control else not s.is_control) then net.head s.channel else net.tail s.channel

  -- tallies count nothing on an edge that they do not have
  absent : (ts : List Tally) (Is : ℕ → Type 0) → AreAll (edges_of ts) Is → (e : ℕ) → (Is e → ⊥) → (f : Tally → ℕ) → look f ts e ≡ 0
  absent ts Is all e not f = ⊎_elim
      (λ none. none f)
      (λ at. absurd (not (all.none_else e (at.0, at.1, sym (get_or_default (edges_of ts) at.0 0 e at.1) ∙ at.2))))
      (absent_or_at ts e)

  module _ {n : ℕ} {xs : List LogRow} {w : World} (show : Show n xs w) where
    -- a process moves no message of a stream that does not exist, or at whose end it is not
    none_at : (d : Bool) (c : ℕ) (b : Bool) (p : ℕ) → p < net.parts
        → ((c < net.edges) × (end_of d (record { channel = c; is_control = b }) ≡ p) → ⊥)
        → count_steps (moves d (record { channel = c; is_control = b })) (steps_of p xs) ≡ 0
    none_at true c true p l not = ((show.shows p l).counts c).acked ∙ absent _ _ (show.kept.ins p l) c not _
    none_at true c false p l not = ((show.shows p l).counts c).sent ∙ absent _ _ (show.kept.outs p l) c not _
    none_at false c true p l not = ((show.shows p l).counts c).settled ∙ absent _ _ (show.kept.outs p l) c not _
    none_at false c false p l not = ((show.shows p l).counts c).got ∙ absent _ _ (show.kept.ins p l) c not _

    -- so it is of every number
    none_else : (d : Bool) (s : Stream) (p : ℕ) → ((s.channel < net.edges) × (end_of d s ≡ p) → ⊥)
        → count_steps (moves d s) (steps_of p xs) ≡ 0
    none_else d s p not = dite (dec_lt p net.parts) (λ l. none_at d s.channel s.is_control p l not)
        (λ no. rw (show.outside p (omega arith)) refl)

    -- the process at an end of a stream alone has its steps
    total : (d : Bool) (s : Stream) → count_rows (moves d s) xs ≡ count_steps (moves d s) (steps_of (end_of d s) xs)
    total d s = all_own (moves d s) (end_of d s) xs (λ p other. none_else d s p (λ z. other (sym z.1)))

    -- no row is of a channel that is none
    none_past : (d : Bool) (s : Stream) → net.edges ≤ s.channel → count_rows (moves d s) xs ≡ 0
    none_past d s past = total d s ∙ none_else d s (end_of d s) (λ z. omega (arith, z.0))

    -- the rows of an edge have its counts
    on_edge : (e : ℕ) → e < net.edges → (outs (basic e) xs ≡ sent_on net w e) × (ins (basic e) xs ≡ got_on net w e)
        × (outs (control e) xs ≡ acked_on net w e) × (ins (control e) xs ≡ settled_on net w e)
    on_edge e l = let t = (show.shows (net.tail e) (is.tails e l)).counts e in
        let h = (show.shows (net.head e) (is.heads e l)).counts e in
        (total true (basic e) ∙ t.sent, total false (basic e) ∙ h.got, total true (control e) ∙ h.acked, total false (control e) ∙ t.settled)

  -- rows of processes and edges are within the sizes of the network
  fits : (xs : List LogRow) → ((p : ℕ) → net.parts ≤ p → steps_of p xs ≡ [])
      → ((d : Bool) (s : Stream) → net.edges ≤ s.channel → count_rows (moves d s) xs ≡ 0) → Fits (network_sizes net) xs
  fits [] outside none = All-nil (FitsRow (network_sizes net))
  fits (x ∷ xs) outside none = All-cons (FitsRow (network_sizes net)) x xs
      (record { process = grind (arith, outside x.process, steps_own x.process x xs refl); channel = channel x.step refl })
      (fits xs (λ p beyond. let a = outside p beyond in grind (arith, nat_tests)) (λ d s past. omega (arith, none d s past)))
    where
      channel : (step : Step) → x.step ≡ step → IsOf net.edges step
      channel (Out s) at = grind (arith, nat_tests, same_self s, none true s)
      channel (In s) at = grind (arith, nat_tests, same_self s, none false s)
      channel _ at = tt

  -- ---- each row is enabled

  -- acknowledgements are enabled
  acks_met : (p n e : ℕ) (pre : List LogRow) → AreEnabled rows pre (rows_by p (replicate n (Out (control e))))
  acks_met p zero e pre = tt
  acks_met p (suc n) e pre = (refl, acks_met p n e (pre ++ log_row p (Out (control e)) ∷ []))

  -- messages that were sent can be got
  ins_met : (p n : ℕ) (s : Stream) (pre : List LogRow) → ins s pre + n ≤ outs s pre
      → AreEnabled rows pre (rows_by p (replicate n (In s)))
  ins_met p zero s pre enough = tt
  ins_met p (suc n) s pre enough =
      (grind (arith, nat_tests), ins_met p n s _ (grind (arith, nat_tests, rows-append, same_self)))

  -- the messages of an event are enabled
  messages_met : (old : World) (pre : List LogRow) → Show 0 pre old → (x : Event) → May net old x
      → AreEnabled rows pre (rows_by (process_of net x) (messages_of net old x))
  messages_met old pre show (Send e) may = let l = is.tails e may.0 in
      (rw ((full.shows (net.tail e) l).begins, (show.shows (net.tail e) l).active, may.1) refl, tt)
  messages_met old pre show (Get e) may =
      ins_met (net.head e) 1 (basic e) pre (omega (arith, on_edge show e may.0, may.1))
  messages_met old pre show (Ack e n) may = acks_met (net.head e) n e pre
  messages_met old pre show (Settle e word) may = ins_met (net.tail e) (word - settled_on net old e) (control e) pre
      (omega (arith, on_edge show e may.0, may.1, may.2))
  messages_met old pre show (Work p) may = tt

  -- so are all rows so far
  met : (past : Log) (new : World) (way : Leads net legal.first past new) → AreEnabled rows [] (rows_until net legal.first past new way)
  met [] new way = grind (arith, nat_tests)
  met (x ∷ past) new (old, way, step) =
      let pre = rows_until net legal.first past old way in
      are_met_both rows [] pre (rows_by (process_of net x) (steps_by net old x new)) (met past old way)
      (rw map-append (are_met_both rows pre (rows_by (process_of net x) (messages_of net old x)) _
      (messages_met old pre (so_far past old way) x step.may) (grind (arith, nat_tests))))

  -- the rows of the run are an order of all rows
  order : IsInterleaving rows (rows_of_run net log last legal)
  order = record {
    whole = λ p. sym (same p);
    met = are_met_both rows [] _ (log_row net.root Over ∷ []) (met log last legal.leads) (refl, tt);
  }

  -- ---- any order

  module _ {xs : List LogRow} (any : IsInterleaving rows xs) where
    -- all that was sent was got
    got_all : (s : Stream) → outs s xs ≡ ins s xs
    got_all s =
        let itself : s ≡ record { channel = s.channel; is_control = s.is_control } = refl in
        let up = settled_up net is log last legal closed s.channel in
        let past = λ (d : Bool). none_past (ended xs any.whole) d s in
        grind (arith, nat_tests, on_edge (ended xs any.whole) s.channel, up, past true, past false)

    -- there is one claim
    one_claim : count_rows is_over xs ≡ 1
    one_claim = let show = ended xs any.whole in all_own is_over net.root xs (λ p other.
        let claims = λ (l : p < net.parts). (show.shows p l).claims in grind (arith, nat_tests, claims, show.outside p))
        ∙ grind (arith, nat_tests, (show.shows net.root is.root).claims)

    -- and all is over at the end
    quiescent : IsQuiescentAfter rows xs
    quiescent = record {
      quiet = λ c. got_all (basic c);
      passive = λ p. dite (dec_lt p net.parts)
          (λ l. rw ((full.shows p l).begins, ((ended xs any.whole).shows p l).active)
          (rw ((closed_quiescent net is log last legal closed).passive p l) refl))
          (λ no. rw ((ended xs any.whole).outside p (omega arith), full.outside p (omega arith)) refl);
    }

  -- the last row is the claim: its process has told last, but no message, since each was got
  last_over : (pre : List LogRow) (y : LogRow) → IsInterleaving rows (pre ++ y ∷ []) → y.step ≡ Over
  last_over pre y any = let p = y.process in let push = steps_push p pre y refl in
      let sent : (s : Stream) → y.step ≡ Out s → ⊥ = λ s at.
      let a = met_le s rows [] pre (are_met_first rows [] pre (y ∷ []) any.met) in
      grind (arith, nat_tests, rows-append, same_self, got_all any s) in
      let show = ended (pre ++ y ∷ []) any.whole in
      let told = λ (l : p < net.parts). (show.shows p l).told (λ z. refl) (no_parents net is log last legal closed p l) in
      grind (arith, push, told, show.outside p, last_tells-append, length-append (steps_of p pre) (y.step ∷ []), sent)

  -- so nothing is after a claim
  nothing_after : (pre after : List LogRow) → IsInterleaving rows (pre ++ after) → 0 < count_rows is_over pre → after ≡ []
  nothing_after pre [] any some = refl
  nothing_after pre (y ∷ []) any some =
      absurd (omega (arith, push_yes is_over pre y (rw (last_over pre y any) refl), one_claim any))
  nothing_after pre (y ∷ z ∷ after) any some =
      let a = nothing_after (pre ++ y ∷ []) (z ∷ after) (rw append_assoc any) (omega (arith, push_le is_over pre y)) in absurd (cc)

  -- all is over after a claim
  over_after : (p : ℕ) (before between after : List LogRow) → IsInterleaving rows ((before ++ log_row p Over ∷ between) ++ after)
      → IsQuiescentAfter rows (before ++ log_row p Over ∷ between)
  over_after p before between after any = let pre = before ++ log_row p Over ∷ between in
      let nothing = nothing_after pre after any (omega (arith, rows-append is_over before (log_row p Over ∷ between))) in
      quiescent (rw (nothing, append-nil) at any)

  -- each claim is right
  right : (p i : ℕ) → IsRight rows p i
  right p i = record {
    at = λ before here. let s = over_after p before [] here.after (rw append_assoc here.whole) in record {
      quiet = λ c. grind (arith, nat_tests, rows-append, s.quiet c);
      passive = λ q. grind (arith, nat_tests, steps_of-append, active_after-append, s.passive q);
    };
    later = λ before between after any place. over_after p before between after any;
  }

  -- ---- the judge

  -- the rows are judged right
  judged_right : AreJudgedRight net rows
  judged_right = let before = steps_of net.root (rows_until net legal.first log last legal.leads) in record {
    well_formed = record {
      ends = record {
        sender = end_of true;
        receiver = end_of false;
        sends = λ s p other. none_else full true s p (λ z. other (sym z.1));
        gets = λ s p other. none_else full false s p (λ z. other (sym z.1));
      };
      sent = sent_while_active rows (rows_of_run net log last legal) order;
      fits = fits rows full.outside (none_past full);
    };
    ordered = (rows_of_run net log last legal, order);
    none_early = λ with_past p i claims. right p i;
    claimed = (
      net.root,
      length before,
      rw (same net.root, steps_of-append, steps_own net.root (log_row net.root Over) [] refl) (over_at before []),
      right net.root (length before),
    );
  }

-- ---- the laws

pub returns-clause-rows : goal.returns-clause-rows
returns-clause-rows c net is log w legal closed rows same = judged_right net is log w legal closed rows same

pub returns-clause-answers : goal.returns-clause-answers
returns-clause-answers c net is log w legal closed rows same with_past judged answer =
    let are = judged_right net is log w legal closed rows same in (
      λ k c inside. let here = get_or judged.claims.items k c in
          one_verdict rows are.well_formed.ends here.process here.row here.verdict verdict.Right
          (answer.claims.each k c inside).verdict (right net is log w legal closed rows same here.process here.row),
      one_end rows judged.end end.Claimed answer.end are.claimed,
    )
