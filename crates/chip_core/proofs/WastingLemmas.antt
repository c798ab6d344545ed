-- Serves Wasting.antt. The number of new reads is bounded, so that of advancing steps is; and if none is due the root
-- is closed.
use Rattle.chip_core.proofs.Names.{◌≡◌, ℕ, zero, suc, ◌+◌, ◌*◌, ◌<◌, ◌≤◌, ◌||◌, Bool, true, cond, eqb, [], ◌∷◌}
use Rattle.chip_core.proofs.Names.{◌++◌, length, refl, ap, ◌∙◌, arith, true≢false, ⊎_elim, nat_tests, dite}
use Rattle.chip_core.proofs.Names.{ℕ_discrete, IsGame, sum_below, edge_at, sum_below_le, sum_below_add, one_at_most}
use Rattle.chip_core.proofs.Names.{least_action, Tail, claims_of, none_held, length-sent_counts, Setting, Met, saw}
use Rattle.chip_core.proofs.Names.{link_after, tail_graph, tail_root, Log, Step, Event, Clear, Claim, Put, Feed}
use Rattle.chip_core.proofs.Names.{part_of, part_in, out_in, IsLegalLog, IsClosed, outstanding_on, tail_of, graph_edges}
use Rattle.chip_core.proofs.Names.{sees, chips_given, firings, acting_part, counts_as_work, is_refusal, AreFiringBounds}
use Rattle.chip_core.proofs.Names.{HasEnd, Advances, is_new_look, AllAdvance, NoneIsDue, CoreNoWasteCloses}
use Rattle.chip_core.proofs.LogLemmas.{out_kept, edge_sound, link_step, met_here, tail_inside}
use Rattle.chip_core.proofs.PositionLemmas.{counts_are, is_sequence, is_within}
use Rattle.chip_core.proofs.DueLemmas.{never_stuck, look_finds, tells_in}
use Rattle.chip_core.proofs.WorkLemmas.{refused_on, few_refusals, one_term}
use Rattle.chip_core.proofs.ScheduleLemmas.{ends_longer, bounds_stay, few_after}

-- the effect of new reads of an edge: each is followed by a claim, or a refusal, or is still noted
abbrev looked : Tail → ℕ
looked t = claims_of t + refused_on t + cond t.clear 1 0

some_of_three : (a b c : Bool) → (a || b || c) ≡ true → 1 ≤ cond a 1 0 + cond b 1 0 + cond c 1 0
some_of_three a b c on = grind (arith, nat_tests)

look_edge : Event → ℕ
look_edge (Clear e) = e
look_edge _ = 0

module _ (g : Setting) (game : IsGame g.game) (some_ring : 0 < g.ring) where
  abbrev new_at : Log → Event → ℕ → ℕ
  new_at log x seen = cond (is_new_look (acting_part g log x) x seen) 1 0

  -- if a look was noted the cell is still empty
  still_empty : (log : Log) → IsLegalLog g log → (e : ℕ) → (out_in g log e).link.clear ≡ true → sees g log (Clear e) ≡ 0
  still_empty log legal e clear =
      let sound = edge_sound g game some_ring log legal e in
      let room = sound.room clear in let none = none_held (out_in g log e).link (sound.quiet clear) in
      look_finds g game some_ring log legal e (λ full. let a = full in absurd (omega arith))

  look_more : (log : Log) → IsLegalLog g log → (x : Event) (seen : ℕ) → seen ≡ sees g log x
      → Met g x (part_in g log (part_of g x)) → (e : ℕ) → e < graph_edges g
      → looked (out_in g log e).link + cond (eqb (look_edge x) e) (new_at log x seen) 0
      ≤ looked (link_after x seen e (out_in g log e))
  unfolding look_edge
  look_more log legal (Clear i) seen is may e l = let empty = still_empty log legal e in grind (arith, nat_tests)
  look_more log legal (Claim i) seen is may e l =
      let quiet = (edge_sound g game some_ring log legal i).quiet may.2 in
      let open_yet = (out_kept g game log legal i).clear_open may.0 may.2 in
      let none = none_held (out_in g log i).link quiet in let c = one_at_most (out_in g log i).link.clear in
      grind (arith, nat_tests)
  look_more log legal (Put i) seen is may e l = let long = length-sent_counts (out_in g log i).link in grind (arith, nat_tests)
  look_more log legal (Feed i k) seen is may e l = let past = may.0 in grind (arith, nat_tests)
  look_more log legal x seen is may e l = grind (arith, nat_tests)

  -- after the end of feeding only vertices look
  look_among : (log : Log) → HasEnd g log → (x : Event) (seen : ℕ) → Met g x (part_in g log (part_of g x))
      → new_at log x seen ≤ sum_below (graph_edges g) (λ e. cond (eqb (look_edge x) e) (new_at log x seen) 0)
  unfolding look_edge
  look_among log end (Clear i) seen may = ⊎_elim
      (λ v. let a = one_term (graph_edges g) i (new_at log (Clear i) seen) v.0 in omega arith)
      (λ r. absurd (true≢false (let a = tail_root g i r.0 in cc))) may
  look_among log end _ seen may = omega arith

  abbrev all_looked : Log → ℕ
  all_looked log = sum_below (graph_edges g) (λ e. looked (out_in g log e).link)

  look_step : (x : Step) (log : Log) → IsLegalLog g (x ∷ log) → HasEnd g log
      → new_at log x.event x.seen + all_looked log ≤ all_looked (x ∷ log)
  look_step x log legal end =
      let may = met_here g x log legal in
      let more : ℕ → ℕ = (λ e. cond (eqb (look_edge x.event) e) (new_at log x.event x.seen) 0) in
      let a = sum_below_le (graph_edges g) (λ e. looked (out_in g log e).link + more e)
      (λ e. looked (out_in g (x ∷ log) e).link) (λ e l. let b = look_more log legal.0 x.event x.seen legal.1.1 may e l in
      let c = ap looked (link_step g x log e) in omega arith) in
      let d = sum_below_add (graph_edges g) (λ e. looked (out_in g log e).link) more in
      let all = look_among log end x.event x.seen may in
      omega arith

  -- a step that advances counts, is refused, or is a new look
  advances_more : (x : Step) (log : Log) → IsLegalLog g (x ∷ log) → HasEnd g log → Advances g log x.event
      → 1 + tells_in g log + all_looked log ≤ tells_in g (x ∷ log) + all_looked (x ∷ log)
  advances_more x log legal end advance =
      let s = acting_part g log x.event in
      let here = ap (λ (n : ℕ). counts_as_work g s (saw x.event n) || is_refusal g s (saw x.event n) || is_new_look s x.event n)
      legal.1.1 ∙ advance.tells in
      let some = some_of_three (counts_as_work g s x) (is_refusal g s x) (is_new_look s x.event x.seen) here in
      let look = look_step x log legal end in
      omega arith

  all_more : (xs log : Log) → IsLegalLog g (xs ++ log) → HasEnd g log → AllAdvance g log xs
      → length xs + tells_in g log + all_looked log ≤ tells_in g (xs ++ log) + all_looked (xs ++ log)
  all_more [] log legal end all = omega arith
  all_more (x ∷ xs) log legal end all =
      let before = all_more xs log legal.0 end all.0 in
      let one = advances_more x (xs ++ log) legal (ends_longer g game some_ring xs log legal.0 end).end all.1 in
      omega arith

  few_looked : (log : Log) → IsLegalLog g log → (fired : ℕ → ℕ) → AreFiringBounds g log fired
      → all_looked log ≤ sum_below (graph_edges g) (λ e. fired (edge_at g.game.graph e).tail) + 2 * graph_edges g
  few_looked log legal fired bounds =
      let m : ℕ = graph_edges g in
      let a = sum_below_le m (λ e. looked (out_in g log e).link) (λ e. fired (edge_at g.game.graph e).tail + 2) (λ e l.
      let one = (out_kept g game log legal e).fewer l in
      let v : ℕ = tail_of g e in
      let few = least_action g.game.graph (chips_given g log) g.game.limit bounds.firings bounds.whole.sequence
      bounds.whole.ended (firings log) (is_sequence g game some_ring log legal) (is_within g game some_ring log legal) v in
      let are = counts_are g log v in let enough = bounds.enough v (tail_inside g game e l) in
      let same = ap fired (tail_graph g e l) in
      let r = one_at_most (out_in g log e).link.refused in let c = one_at_most (out_in g log e).link.clear in omega arith) in
      let b = sum_below_add m (λ e. fired (edge_at g.game.graph e).tail) (λ e. 2) in
      let d = twos m in
      omega arith
    where
      twos : (n : ℕ) → sum_below n (λ e. 2) ≡ 2 * n
      twos zero = refl
      twos (suc n) = let a = twos n in omega arith

  none_due_closes : (log : Log) → IsLegalLog g log → HasEnd g log → NoneIsDue g log → IsClosed g log
  none_due_closes log legal end none = (
    end,
    λ e l at. dite (ℕ_discrete (outstanding_on (out_in g log e)) 0) (λ z. z)
        (λ some. absurd (let due = never_stuck g game some_ring log legal end (λ closed. some (closed.1 e l at)) in
        none due.0 due.1)),
  )

pub no_waste_closes : CoreNoWasteCloses
no_waste_closes g game some_ring log legal end fired bounds xs longer all =
    let ends = ends_longer g game some_ring xs log longer end in
    let a = all_more g game some_ring xs log longer end all in
    let b = few_after g game some_ring log (xs ++ log) ends longer fired bounds in
    let c = few_refusals g game some_ring (xs ++ log) longer in
    let d = few_looked g game some_ring (xs ++ log) longer fired (bounds_stay g game some_ring log (xs ++ log) ends fired bounds) in
    (omega arith, λ none. none_due_closes g game some_ring (xs ++ log) longer ends.end none)
