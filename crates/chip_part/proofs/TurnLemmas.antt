-- Serves Turn.antt, Rules.antt.
-- The most operations of a turn. An edge out of the vertex has either a message to put or something to send, never
-- both, so three operations for it are enough.
use Rattle.std.proofs.lemmas.Bool.Decides.{nat_tests}
use Rattle.chip_graph.proofs.SumLemmas.{by_test}
use Rattle.chip_part.specs.Turn.{sending_all, Phase, nothing, either_phase, where_phase, each_phase, one_step, seeing}
use Rattle.chip_part.specs.Turn.{ins_of, outs_of, firing, may_fire, batch_of, putting, sending, after_clear_phase}
use Rattle.chip_part.specs.Turn.{after_claim_phase, acknowledging, acknowledging_parent, is_at_limit, IsTurn}
use Rattle.chip_part.specs.Turn.{most_steps}
use Rattle.std.proofs.Common.{◌≡◌, ℕ, suc, ◌+◌, ◌*◌, ◌<◌, ◌≤◌, Bool, true, false, not, ◌&&◌, cond, eqb, List, [], ◌∷◌}
use Rattle.std.proofs.Common.{length, Option, Some, None, option_to_list, sym, ap, ◌∙◌, subst, arith, eqb-true}
use Rattle.std.proofs.Common.{length-append}
use Rattle.std.specs.List.{All}
use Rattle.chip_part.specs.Setting.{Setting}
use Rattle.chip_part.specs.Edges.{graph_edges, tail_of}
use Rattle.chip_graph.specs.Multigraph.{edge_at}
use Rattle.chip_graph.proofs.PickLemmas.{All-picked}
use Rattle.chip_part.proofs.PickedLemmas.{picked_passes}
use Rattle.chip_part.proofs.EdgeLemmas.{tail_graph}
use Rattle.chip_part.specs.Part.{Part, is_running, unput_count, refusals}
use Rattle.chip_part.specs.Rules.{Event, Take, Ack, Fire, Clear, Claim, Put, Halt, Settle}
use Rattle.chip_part.specs.Steps.{Step, does, saw}
use Rattle.chip_part.specs.Kept.{KeepsPart}
use Rattle.chip_part.proofs.PartLemmas.{out_zero, no_held, tail_inside}
use Rattle.chip_part.specs.Cursor.{from_putting}
use Rattle.std.proofs.lemmas.Bool.{cond-true}

-- such a phase has at most n operations
abbrev AtMost : ℕ → Phase → Type 0
AtMost n p = (s : Part) (ds : List Step) (t : Part) → p s ds t → length ds ≤ n

at_most_nothing : AtMost 0 nothing
at_most_nothing s ds t (none, same) = let a = ap length none in omega arith

pub at_most_one : (o : Option ℕ) → length (option_to_list o) ≤ 1
at_most_one None = omega arith
at_most_one (Some x) = omega arith

at_most_either : (n : ℕ) (b : Bool) (p q : Phase) → AtMost n p → AtMost n q → AtMost n (either_phase b p q)
at_most_either n true p q some other = some
at_most_either n false p q some other = other

at_most_more : (m n : ℕ) (p : Phase) → m ≤ n → AtMost m p → AtMost n p
at_most_more m n p le some s ds t ph = let a = some s ds t ph in omega arith

at_most_where : (n : ℕ) (test : Part → Bool) (p : Phase) → AtMost n p → AtMost n (where_phase test p)
at_most_where n test p some s = at_most_either n (test s) p nothing some
    (at_most_more 0 n nothing (omega arith) at_most_nothing) s

at_most_each : (p : ℕ → Phase) → ((e : ℕ) → AtMost 1 (p e)) → (es : List ℕ) → AtMost (length es) (each_phase p es)
at_most_each p some [] s ds t ph = at_most_nothing s ds t ph
at_most_each p some (e ∷ es) s ds t (front, m, back, is, here, rest) =
    let a = some e s front m here in let b = at_most_each p some es m back t rest in let c = ap length is in
    let d = length-append front back in omega arith

-- an invariant of each phase is one of all of them
each_keeps : (R : Part → Part → Type 0) → ((s : Part) → R s s) → ((s m t : Part) → R s m → R m t → R s t) → (p : ℕ → Phase)
    → ((e : ℕ) (s : Part) (ds : List Step) (t : Part) → p e s ds t → R s t) → (es : List ℕ) (s : Part) (ds : List Step)
    (t : Part) → each_phase p es s ds t → R s t
each_keeps R same next p one [] s ds t (none, is) = subst (R s) (sym is) (same s)
each_keeps R same next p one (e ∷ es) s ds t (front, m, back, is, here, rest) =
    next s m t (one e s front m here) (each_keeps R same next p one es m back t rest)

abbrev total : (ℕ → ℕ) → List ℕ → ℕ
total cost [] = 0
total cost (e ∷ es) = cost e + total cost es

total_le : (f h : ℕ → ℕ) → ((e : ℕ) → f e ≤ h e) → (es : List ℕ) → total f es ≤ total h es
total_le f h le [] = omega arith
total_le f h le (e ∷ es) = let a = le e in let b = total_le f h le es in omega arith

-- a phase with at most its edge's cost in operations, which increases no edge's cost
abbrev Costs : (Part → ℕ → ℕ) → ℕ → Phase → Type 0
Costs cost e p = (s : Part) (ds : List Step) (t : Part) → p s ds t → (length ds ≤ cost s e) × ((i : ℕ) → cost t i ≤ cost s i)

each_costs : (cost : Part → ℕ → ℕ) (p : ℕ → Phase) → ((e : ℕ) → Costs cost e (p e)) → (es : List ℕ) (s : Part)
    (ds : List Step) (t : Part) → each_phase p es s ds t → length ds ≤ total (cost s) es
each_costs cost p one [] s ds t ph = at_most_nothing s ds t ph
each_costs cost p one (e ∷ es) s ds t (front, m, back, is, here, rest) =
    let first = one e s front m here in let few = first.0 in
    let later = each_costs cost p one es m back t rest in
    let less = total_le (cost m) (cost s) first.1 es in let d = ap length is in let f = length-append front back in omega arith

module _ (g : Setting) (v : ℕ) where
  at_most_step : (x : Event) → AtMost 1 (one_step g v x)
  at_most_step x s ds t (seen, rest, is, (none, same)) = let a = ap length is in let b = ap length none in omega arith

  -- nothing is claimed on an edge with something pending
  abbrev IsExclusive : Part → Type 0
  IsExclusive s = (e : ℕ) → tail_of g e ≡ v → 0 < (s.out e).pending → (s.out e).link.held ≡ None

  -- a phase of operations that leave what is held and what is pending
  leaves_out : (x : ℕ → Event) → ((e seen : ℕ) (s : Part) → IsExclusive s → IsExclusive (does g (saw (x e) seen) s))
      → (es : List ℕ) (s : Part) (ds : List Step) (t : Part) → each_phase (λ e. one_step g v (x e)) es s ds t
      → IsExclusive s → IsExclusive t
  leaves_out x stays = each_keeps (λ s t. IsExclusive s → IsExclusive t) (λ s ok. ok) (λ s m t one more ok. more (one ok))
      (λ e. one_step g v (x e)) (λ e s ds t (seen, rest, is, (none, same)) ok. subst IsExclusive (sym same) (stays e seen s ok))

  fires_keep : v < g.game.graph.vertices → (s : Part) (ds : List Step) (t : Part) → firing g v s ds t → IsExclusive s
      → IsExclusive t
  fires_keep vertex s ds t ph ok = by_test (may_fire g v s)
      (λ is. let made = rw is at ph in subst IsExclusive (sym made.3.1) (λ e at some.
      (let idle : unput_count g v s ≡ 0 = grind (arith, nat_tests) in
      let inside = tail_inside g e (subst (λ (n : ℕ). n < g.game.graph.vertices) (sym at) vertex) in
      no_held (s.out e).link.held
      (out_zero g v (λ i. length (option_to_list (s.out i).link.held)) idle e (omega arith) at))))
      (λ off. let idle = rw off at ph in subst IsExclusive (sym idle.1) ok)

  -- the cost of an edge's put, and that of its send
  abbrev held_count : Part → ℕ → ℕ
  held_count s e = length (option_to_list (s.out e).link.held)

  abbrev busy_count : Part → ℕ → ℕ
  busy_count s e = cond (eqb (s.out e).pending 0) 0 3

  -- ---- the puts

  put_costs : (e : ℕ) → Costs held_count e (putting g v e)
  put_costs e s front m phase = (grind (arith, nat_tests), λ i. grind (arith, nat_tests))

  puts_leave : (e : ℕ) (s : Part) (ds : List Step) (t : Part) → putting g v e s ds t → (i : ℕ) → busy_count t i ≤ busy_count s i
  puts_leave e s ds t phase i = grind (arith, nat_tests)

  -- ---- the sends

  -- at most n operations, after which nothing is left to send
  abbrev Sends : ℕ → Phase → Type 0
  Sends n p = (s : Part) (ds : List Step) (t : Part) → p s ds t → (length ds ≤ n) × ((i : ℕ) → busy_count t i ≤ busy_count s i)

  sends_nothing : (n : ℕ) → Sends n nothing
  sends_nothing n s ds t (none, same) = (
    (let a = ap length none in omega arith),
    λ i. (let a = ap (λ (p : Part). busy_count p i) same in omega arith),
  )

  sends_seeing : (n : ℕ) (x : Event) (next : ℕ → Part → Phase)
      → ((seen i : ℕ) (s : Part) → busy_count (does g (saw x seen) s) i ≤ busy_count s i)
      → ((seen : ℕ) (s : Part) → Sends n (next seen s)) → Sends (n + 1) (seeing g v x next)
  sends_seeing n x next less more s ds t (seen, rest, is, last) =
      let all = more seen s (does g (saw x seen) s) rest t last in (
        (let a = all.0 in let b = ap length is in omega arith),
        λ i. (let a = all.1 i in let b = less seen i s in omega arith),
      )

  sends_either : (n : ℕ) (b : Bool) (p q : Phase) → Sends n p → Sends n q → Sends n (either_phase b p q)
  sends_either n true p q some other = some
  sends_either n false p q some other = other

  after_look : (e seen : ℕ) (s : Part) → Sends 2 (after_clear_phase g v e seen s)
  after_look e seen s = sends_either 2 (eqb seen 0) _ nothing (sends_seeing 1 (Claim e) (after_claim_phase g v e)
      (λ n i p. grind (arith, nat_tests))
      (λ n p. sends_either 1 _ (one_step g v (Put e)) (one_step g v (Halt v))
      (sends_seeing 0 (Put e) _ (λ n i p. omega arith) (λ n p. sends_nothing 0))
      (sends_seeing 0 (Halt v) _ (λ n i p. omega arith) (λ n p. sends_nothing 0)))) (sends_nothing 2)

  send_costs : (e : ℕ) → Costs busy_count e (sending g v e)
  send_costs e s ds t phase = by_test (is_running s.halt && not (eqb (s.out e).pending 0))
      (λ on.
      let all = sends_seeing 2 (Clear e) (after_clear_phase g v e) (λ n i p. omega arith) (after_look e) s ds t
      (rw on at phase) in
      let few = all.0 in (grind (arith, nat_tests), all.1))
      (λ off. sends_nothing (busy_count s e) s ds t (rw off at phase))

  -- ---- together

  one_each : (s : Part) → IsExclusive s → (es : List ℕ) → All (λ e. tail_of g e ≡ v) es
      → total (held_count s) es + total (busy_count s) es ≤ 3 * length es
  one_each s ok [] mine = omega arith
  one_each s ok (e ∷ es) mine =
      let rest = one_each s ok es (λ k d l. mine (suc k) d (omega arith)) in
      let few = at_most_one (s.out e).link.held in let free = ok e (mine 0 0 (omega arith)) in grind (arith, nat_tests)

  outs_leave : All (λ e. tail_of g e ≡ v) (outs_of g v)
  outs_leave k d l =
      let test : ℕ → Bool = λ i. eqb (edge_at g.game.graph i).tail v in
      tail_graph g _ (All-picked test (graph_edges g) (graph_edges g) (omega arith) k d l)
      ∙ eqb-true _ _ (picked_passes test (graph_edges g) k d l)

  -- a vertex that halts by a refusal does not halt once more
  no_second_halt : (s t : Part) (ds fs : List Step) (u : Part) → (eqb (refusals g v s) 0) ≡ false
      → one_step g v (Halt v) s ds t → where_phase (is_at_limit g v) (one_step g v (Halt v)) t fs u → length fs ≤ 0
  no_second_halt s t ds fs u refused (seen, more, now, (none, same)) ph =
      let halted : is_running t.halt ≡ false = ap (λ (p : Part). is_running p.halt) same
      ∙ ap is_running (cond-true (not (eqb (refusals g v s) 0)) _ _ (ap not refused)) in
      grind (arith, nat_tests)

  middle : (s t u : Part) (ds fs : List Step) → sending_all g v s ds t
      → where_phase (is_at_limit g v) (one_step g v (Halt v)) t fs u
      → length ds + length fs ≤ total (busy_count s) (outs_of g v) + 1
  middle s t u ds fs sends ph =
      let b = at_most_where 1 (is_at_limit g v) (one_step g v (Halt v)) (at_most_step (Halt v)) t fs u ph in
      by_test (is_running s.halt)
      (λ on. let either = rw on at sends in by_test (eqb (refusals g v s) 0)
      (λ none. let a = each_costs busy_count (sending g v) send_costs (outs_of g v) s ds t (rw none at either) in omega arith)
      (λ some. let halt = rw some at either in let a = at_most_step (Halt v) s ds t halt in
      let c = no_second_halt s t ds fs u some halt ph in omega arith))
      (λ off. let idle = rw off at sends in let a = ap length idle.0 in omega arith)

  at_most_parent : (p : Option ℕ) → AtMost 1 (acknowledging_parent g v p)
  at_most_parent None = at_most_more 0 1 nothing (omega arith) at_most_nothing
  at_most_parent (Some e) = at_most_where 1 _ (one_step g v (Ack e)) (at_most_step (Ack e))

  after_firing : (s : Part) (ds : List Step) (t : Part) → IsExclusive s → from_putting g v 0 s ds t
      → length ds ≤ 3 * length (outs_of g v) + 1 + length (ins_of g v) + 1
  after_firing s ds t free (f4, m4, b4, is4, puts, (f5, m5, b5, is5, sends, (f6, m6, b6, is6, limit, (f7, m7, b7, is7, acks, last)))) =
      let n4 = each_costs held_count (putting g v) put_costs (outs_of g v) s f4 m4 puts in
      let busy = total_le (busy_count m4) (busy_count s) (each_keeps (λ p q. (i : ℕ) → busy_count q i ≤ busy_count p i)
      (λ p i. omega arith) (λ p m q one more i. (let a = one i in let b = more i in omega arith)) (putting g v) puts_leave
      (outs_of g v) s f4 m4 puts) (outs_of g v) in
      let n5 = middle m4 m5 m6 f5 f6 sends limit in
      let both = one_each s free (outs_of g v) outs_leave in
      let n7 = at_most_each (acknowledging g v) (λ e. at_most_where 1 _ (one_step g v (Ack e)) (at_most_step (Ack e)))
      (ins_of g v) m6 f7 m7 acks in
      let n8 = at_most_parent m7.parent m7 b7 t last in
      let a4 = ap length is4 in let a5 = ap length is5 in let a6 = ap length is6 in let a7 = ap length is7 in
      let c4 = length-append f4 b4 in let c5 = length-append f5 b5 in let c6 = length-append f6 b6 in
      let c7 = length-append f7 b7 in
      omega arith

  pub turn_bound : v < g.game.graph.vertices → (s : Part) (ds : List Step) → IsExclusive s → IsTurn g v s ds
      → length ds ≤ most_steps g v
  turn_bound vertex s ds ok (after, (f1, m1, b1, is1, takes, (f2, m2, b2, is2, settles, (f3, m3, b3, is3, fire, rest)))) =
      let free = fires_keep vertex m2 f3 m3 fire (leaves_out (λ e. Settle e) (λ e seen p now. now) (outs_of g v) m1 f2 m2 settles
      (leaves_out (λ e. Take e) (λ e seen p now. now) (ins_of g v) s f1 m1 takes ok)) in
      let n1 = at_most_each (λ e. one_step g v (Take e)) (λ e. at_most_step (Take e)) (ins_of g v) s f1 m1 takes in
      let n2 = at_most_each (λ e. one_step g v (Settle e)) (λ e. at_most_step (Settle e)) (outs_of g v) m1 f2 m2 settles in
      let n3 = at_most_where 1 (may_fire g v) (one_step g v (Fire v (batch_of g v m2)))
      (at_most_step (Fire v (batch_of g v m2))) m2 f3 m3 fire in
      let more = after_firing m3 b3 after free rest in
      let a1 = ap length is1 in let a2 = ap length is2 in let a3 = ap length is3 in
      let c1 = length-append f1 b1 in let c2 = length-append f2 b2 in let c3 = length-append f3 b3 in
      omega arith

pub turns_bounded : (g : Setting) (v : ℕ) → v < g.game.graph.vertices → (s : Part) → KeepsPart g v s → (ds : List Step)
    → IsTurn g v s ds → length ds ≤ most_steps g v
turns_bounded g v vertex s kept ds is = turn_bound g v vertex s ds
    (λ e at some. (kept.outs e at).free_hand (tail_inside g e (subst (λ (n : ℕ). n < g.game.graph.vertices) (sym at) vertex))
    some) is
