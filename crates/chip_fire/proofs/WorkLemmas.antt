-- Serves WorkList.antt.
-- A play by a work list, turn by turn.
use Rattle.std.proofs.Common.{◌≡◌, ◌≢◌, ℕ, ◌+◌, ◌-◌, ◌*◌, ◌<◌, ◌≤◌, Bool, true, false, eqb, List}
use Rattle.std.proofs.Common.{[], ◌∷◌, ◌++◌, length, take, drop, ap, sum_by, get_or, set, slice_index, sym, ◌∙◌}
use Rattle.std.proofs.Common.{subst, arith, get_or-set_same, get_or-set_other, length-set}
use Rattle.std.proofs.Common.{mul-le-mul_left, mul-add}
use Rattle.std.proofs.lemmas.Bool.{eqb-false}
use mir.Val.{bool_byte}
use borrow.Rule.Slice.PartMut.{put_mid, post_of}
use Rattle.std.specs.Prelude.{All, Contains}
use Rattle.std.proofs.lemmas.List.{take-set, take_more_set, take_all, ext_get_or}
use Rattle.std.proofs.lemmas.List.Sums.{get_or-le-sum_by, sum_by_more_le}
use Rattle.std.proofs.lemmas.List.Elements.{All-push}
use Rattle.std.proofs.lemmas.List.Elements.{Contains-push}
use Rattle.std.proofs.lemmas.List.Elements.{Contains-append_left}
use mathlib.Core.Logic.{dite}
use native.Mathlib.Decide.{ℕ_discrete}
use Rattle.chip_graph.specs.declared.edge.Link.{Link}
use Rattle.chip_graph.specs.Limits.{max_total}
use Rattle.chip_graph.specs.Multigraph.{Multigraph, degree}
use Rattle.chip_sequence.specs.Firing.{IsLegal}
use Rattle.chip_sequence.proofs.BatchLemmas.{link_at, links_of, links_inside, taken_room, batch_fired, sent_each}
use Rattle.chip_sequence.proofs.BatchLemmas.{sent_all}
use Rattle.chip_fire.specs.Rounds.{IsInRange, StaysOnTheWay}
use Rattle.chip_fire.proofs.PlayLemmas.{turn_stays}
use Rattle.chip_fire.specs.WorkList.{IsSent, HasSupport}
use Rattle.std.proofs.lemmas.List.{length-take-le, get_or-take, length-drop, get_or-drop, drop_at, length-append, take-append-le}

-- ---- queues

-- a queue that is moved to the front is the same
pub queue_moved : (queue queue' : List ℕ) (first n : ℕ) → first + n ≤ length queue → length queue' ≡ length queue
    → ((k : ℕ) → k < n → get_or queue' k 0 ≡ get_or queue (first + k) 0) → take n queue' ≡ take n (drop first queue)
queue_moved queue queue' first n room each moved =
    let a = length-take-le n queue' (omega arith) in
    let b = length-drop first queue in
    let c = length-take-le n (drop first queue) (omega arith) in
    ext_get_or 0 (take n queue') (take n (drop first queue)) (omega arith)
    (λ i l. let m : i < n = omega arith in get_or-take n queue' i 0 m ∙ moved i m
    ∙ sym (get_or-take n (drop first queue) i 0 m ∙ get_or-drop first queue i 0))

-- what follows the first a of a queue
pub queue_put : (a k n : ℕ) (xs ys : List ℕ) → a ≤ length xs → n ≤ length ys
    → (take n (drop a (put_mid a k xs ys)) ≡ take n ys) × (a + n ≤ length (put_mid a k xs ys))
queue_put a k n xs ys room few =
    let each = length-take-le a xs room in
    let b = length-append (take a xs) (ys ++ post_of a k xs) in
    let c = length-append ys (post_of a k xs) in (
      ap (take n) (drop_at (take a xs) (ys ++ post_of a k xs) a each) ∙ take-append-le n ys (post_of a k xs) few,
      omega arith,
    )

-- ---- one turn

-- v fires k times, as often as its chips allow
module _ (G : Multigraph) (limit : ℕ) (chips fired : List ℕ) (ok : IsInRange G limit chips fired) (v k : ℕ)
    (can : IsLegal G (slice_index chips) v) (enough : k * degree G v ≤ get_or chips v 0) where
  -- the chips that are left
  abbrev left : List ℕ
  left = set chips v (get_or chips v 0 - k * degree G v)

  pub sent_none : IsSent G k (links_of G ok.graph_fits v) left 0 left
  sent_none =
      let a = taken_room G ok.graph_fits v k chips can.is_vertex ok.chips_each enough in
      let b = length-set chips v (get_or chips v 0 - k * degree G v) in
      let d = links_inside G ok.graph_fits v in
      let e = ok.few_chips in grind arith

  -- the counts after it
  abbrev pub counted : List ℕ
  counted = set fired v (get_or fired v 0 + k)

  -- after all links
  module _ (room : get_or fired v 0 + k ≤ limit) (chips' : List ℕ) (i : ℕ)
      (all : length (links_of G ok.graph_fits v) ≤ i)
      (sent : IsSent G k (links_of G ok.graph_fits v) left i chips')
    where
      pub turned : IsInRange G limit chips' counted × StaysOnTheWay G limit chips fired chips' counted
      turned =
          let a = rw (take_all i (links_of G ok.graph_fits v) all) at sent.all in
          let b = length-set fired v (get_or fired v 0 + k) in
          let low : (u : ℕ) → get_or counted u 0 ≤ limit =
          (λ u. let d = ok.low_counts u in dite (ℕ_discrete u v)
          (λ e. subst (λ (w : ℕ). get_or counted w 0 ≤ limit) (sym e)
          (let f = get_or-set_same fired v (get_or fired v 0 + k) 0 (let g = can.is_vertex in omega arith) in
          omega arith))
          (λ ne. let f = get_or-set_other fired v u (get_or fired v 0 + k) 0 ne in omega arith)) in (
            grind arith,
            turn_stays G limit chips fired ok v k can.is_vertex room can.not_sink enough chips'
                (batch_fired G ok.graph_fits v k chips can.is_vertex ok.chips_each enough can.not_sink chips'
                (rw (take_all i (links_of G ok.graph_fits v) all) at sent.each)),
          )

module _ (G : Multigraph) (k : ℕ) (links : List Link) (taken : List ℕ) (i : ℕ) (chips : List ℕ)
    (so_far : IsSent G k links taken i chips) (inside : i < length links) where
  -- the link that is next
  abbrev link : Link
  link = link_at links i

  head_in : link.head < length chips
  head_in =
      let a = so_far.heads i (record { head = 0; mult = 0 }) inside in omega arith

  pub sent_room : get_or chips link.head 0 + k * link.mult ≤ max_total
  sent_room =
      let a = get_or-le-sum_by (λ (n : ℕ). n) chips link.head 0 head_in in
      let b = mul-le-mul_left k (sum_by_more_le (λ (e : Link). e.mult) links i (record { head = 0; mult = 0 })
      inside) in
      let c = mul-add k (sum_by (λ (e : Link). e.mult) (take i links)) link.mult in omega arith

  -- one link further
  pub sent_step : IsSent G k links taken (i + 1) (set chips link.head (get_or chips link.head 0 + k * link.mult))
  sent_step =
      let a = length-set chips link.head (get_or chips link.head 0 + k * link.mult) in
      let b = sent_each links k taken chips i inside head_in so_far.each in
      let c = sent_all links k taken chips i inside head_in so_far.all in grind arith

-- ---- the vertices that fired

-- a vertex that fires is put to those that fired, and counts if it had not
module _ (n : ℕ) (before fired fired' support : List ℕ) (m v : ℕ) (so_far : HasSupport n before fired (take m support))
    (is_vertex : v < n) (others : (u : ℕ) → u ≢ v → slice_index fired' u ≡ slice_index fired u) where
  supported_by : (vs : List ℕ) → All (λ (u : ℕ). u < n) vs → ((u : ℕ) → Contains (take m support) u → Contains vs u)
      → Contains vs v → HasSupport n before fired' vs
  supported_by vs vertices kept here = record {
    vertices = vertices;
    each = λ u l ne. dite (ℕ_discrete u v)
        (λ e. subst (Contains vs) (sym e) here)
        (λ apart. kept u (so_far.each u l (λ same. ne (same ∙ sym (others u apart)))));
  }

  pub supported : m < length support → (b : Bool) → eqb (get_or fired v 0) (get_or before v 0) ≡ b
      → (m + bool_byte b ≤ length (set support m v))
      × HasSupport n before fired' (take (m + bool_byte b) (set support m v))
  supported room true is = (
    (let a = length-set support m v in omega arith),
    rw take_more_set (supported_by (take m support ++ v ∷ [])
        (All-push (λ (u : ℕ). u < n) (take m support) v so_far.vertices is_vertex)
        (λ u. Contains-append_left (take m support) (v ∷ []) u) (Contains-push (take m support) v)),
  )
  supported room false is =
      let e : m + 0 ≡ m = omega arith in (
        (let a = length-set support m v in omega arith),
        rw (e, take-set) (supported_by (take m support) so_far.vertices (λ u has. has)
            (so_far.each v is_vertex (λ same. eqb-false _ _ is (sym same)))),
      )
