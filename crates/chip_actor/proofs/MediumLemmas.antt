-- Serves Medium.antt, Actor.antt.
-- How a turn over a medium goes on, step by step.
use Rattle.chip_actor.proofs.Names.{nat_tests, ◌≡◌, ◌≢◌, ℕ, ◌+◌, ◌*◌, ◌^◌, ◌<◌, ◌≤◌, Bool, cond, List, [], ◌∷◌, ◌++◌}
use Rattle.chip_actor.proofs.Names.{reverse, length, Some, None, refl, sym, ◌∙◌, subst, arith, append_assoc}
use Rattle.chip_actor.proofs.Names.{reverse-append, Setting, Act, Part, Event, unmet_rule, Reply, Step, part_of, does}
use Rattle.chip_actor.proofs.Names.{saw, act_of, event_of, CanDo, IsOperationDue, ActorMakes, Actor, StandsFor, SomePart}
use Rattle.chip_actor.proofs.Names.{WhateverPart, Cursor, IsAt, GoesBy, most_left, DueAt, MayBeAt, is_work, Holding}
use Rattle.chip_actor.proofs.Names.{IsDueBy, MayServe, Serves, Meets, TurnGoesOn, Moves, MakesTurnOver, AreOf, Passes}
use Rattle.chip_actor.proofs.Names.{event_of_act, act_is_some, in_edges, out_edges, append-nil}
use Rattle.chip_part.specs.declared.cursor.Cursor.TheVariants as At
use Rattle.chip_part.specs.declared.act.Act.TheVariants as Do

-- the latest first, of two lists one after another
reversed_more : (xs ys ds : List Step) → reverse (xs ++ ys) ++ ds ≡ reverse ys ++ (reverse xs ++ ds)
reversed_more xs ys ds = rw (reverse-append xs ys, append_assoc)

both_of : (g : Setting) (v : ℕ) (xs ys : List Step) → AreOf g v xs → AreOf g v ys → AreOf g v (xs ++ ys)
both_of g v [] ys left right = right
both_of g v (x ∷ xs) ys left right = (left.0, both_of g v xs ys left.1 right)

-- some part for which an actor stands
abbrev pub Stands : Actor → Type 0
Stands a = (g : Setting) × (s : Part) × StandsFor g s a

-- one move and then another
pub moves_on : {H K L : Holding} {a b c : Actor} {x y z : Cursor} {n m : ℕ} → Moves H a x K b y n → Moves K b y L c z m
    → Moves H a x L c z (n + m)
moves_on {H} {K} {L} {a} {b} {c} {x} {y} {z} {n} {m} first second = record {
  goes = λ g ds s held stands at.
      let one = first.goes g ds s held stands at in
      let go = one.2 in
      let v : ℕ = a.vertex in
      let then = subst (λ (w : ℕ). (xs : List Step) (t : Part) → K g w xs t → StandsFor g t b → IsAt g w y t
      → (more : List Step) × (u : Part) × TurnGoesOn L g w xs t y c z m more u) go.vertex (second.goes g) in
      let two = then (reverse one.0 ++ ds) one.1 go.held go.stands go.fits in (
        one.0 ++ two.0,
        two.1,
        record {
          held = rw (reversed_more one.0 two.0 ds) two.2.held;
          mine = both_of g v one.0 two.0 go.mine two.2.mine;
          stands = two.2.stands;
          vertex = two.2.vertex;
          fits = two.2.fits;
          rest = λ xs after h.
              rw (append_assoc one.0 two.0 xs) (go.rest (two.0 ++ xs) after (two.2.rest xs after h));
          counted = λ xs. rw (append_assoc one.0 two.0 xs)
              (let a = go.counted (two.0 ++ xs) in let b = two.2.counted xs in omega arith);
        },
      );
}

-- a phase with nothing to do: a turn that is at one cursor is at the other too
pub moves_past : {H : Holding} {a : Actor} {x y : Cursor}
    → ((g : Setting) (s : Part) → StandsFor g s a → IsAt g a.vertex x s → IsAt g a.vertex y s × Passes g a.vertex s x y)
    → Moves H a x H a y 0
moves_past {H} {a} {x} {y} past = record {
  goes = λ g ds s held stands at. (
    [],
    s,
    record {
      held = held;
      mine = tt;
      stands = stands;
      vertex = refl;
      fits = (past g s stands at).0;
      rest = λ xs after h. (past g s stands at).1.rest xs after h;
      counted = λ xs. omega arith;
    },
  );
}

-- nothing was done yet
pub moves_none : {H : Holding} {a : Actor} {x : Cursor} → Moves H a x H a x 0
moves_none = moves_past (λ g s stands at. (at, record { rest = λ ds after h. h; fewer = omega arith }))

-- the end of a turn
pub turn_ends : {H : Holding} {a : Actor} {x : Cursor} → DueAt a x None → Moves H a x H a At.Over 0
turn_ends {H} {a} {x} due = moves_past (λ g s stands at. (
  tt,
  record { fewer = omega arith; rest = λ ds after h. rw (h.0, h.1) (due g s stands at) },
))

-- two moves, of which one does not count
pub then_over : {H K L : Holding} {a b c : Actor} {x y z : Cursor} {n : ℕ} → Moves H a x K b y n → Moves K b y L c z 0
    → Moves H a x L c z n
then_over {H} {K} {L} {a} {b} {c} {x} {y} {z} {n} moved over =
    let same : n ≡ n + 0 = omega arith in rw same (moves_on moved over)

pub over_then : {H K L : Holding} {a b c : Actor} {x y z : Cursor} {n : ℕ} → Moves H a x K b y 0 → Moves K b y L c z n
    → Moves H a x L c z n
over_then {H} {K} {L} {a} {b} {c} {x} {y} {z} {n} over moves =
    let same : n ≡ 0 + n = omega arith in rw same (moves_on over moves)

-- if a turn is at this cursor, the event of this operation is due, and it goes on to the other
pub record DueBy (a : Actor) (x : Cursor) (act : Act) (y : Cursor) : Type 0 where
  pub here : (g : Setting) (s : Part) → StandsFor g s a → IsAt g a.vertex x s
      → GoesBy g a.vertex s x (event_of a.vertex act) y × (act ≡ act_of g (event_of a.vertex act) s)

-- the count of a step
abbrev pub one_if : Bool → ℕ
one_if b = cond b 1 0

due_by : {a : Actor} {x y : Cursor} {act : Act} → DueBy a x act y → (g : Setting) (s : Part) → StandsFor g s a
    → IsAt g a.vertex x s → IsDueBy g a.vertex s act
due_by due g s stands at =
    let d = due.here g s stands at in record { mine = d.0.mine; met = d.0.met; needed = d.1 }

pub may_serve : {H : Holding} {a : Actor} {x y : Cursor} {act : Act} → Meets H a x → DueBy a x act y → MayServe H act
may_serve {H} {a} (g, ds, s, held, stands, at) due = (g, a.vertex, ds, s, held, due_by due g s stands at)

-- what it returns fits
pub can_apply : {H K : Holding} {a : Actor} {x y : Cursor} {act : Act} {seen : ℕ} → Meets H a x → DueBy a x act y
    → Serves H K act seen → SomePart a (λ g s. IsOperationDue g s a.vertex (record { act = act; seen = seen }))
can_apply {H} {K} {a} (g, ds, s, held, stands, at) due serves =
    let by = due_by due g s stands at in
    (g, s, stands, ((by.mine, by.met, (serves g a.vertex ds s held by).fits), by.needed))

pub can_do : {H K : Holding} {a : Actor} {x y : Cursor} {act : Act} {seen : ℕ} → Meets H a x → DueBy a x act y
    → Serves H K act seen → SomePart a (λ g s. CanDo g s a.vertex (event_of a.vertex act) seen)
can_do {H} {K} {a} {x} {y} {act} {seen} meets due serves =
    let can = can_apply {H = H} {K = K} {a = a} {x = x} {y = y} {act = act} {seen = seen} meets due serves in
    (can.0, can.1, can.2, can.3.0)

-- one step
pub moves_one : {H K : Holding} {a b : Actor} {x y : Cursor} {act : Act} {seen : ℕ} {r : Reply} {n : ℕ}
    → DueBy a x act y → Serves H K act seen → ActorMakes a b (event_of a.vertex act) seen r → n ≡ one_if (is_work act r)
    → Moves H a x K b y n
moves_one {H} {K} {a} {b} {x} {y} {act} {seen} {r} {n} due serves makes is = record {
  goes = λ g ds s held stands at.
      let d = due.here g s stands at in
      let longer = serves g a.vertex ds s held (due_by due g s stands at) in
      let made_step : Step = saw (event_of a.vertex act) seen in
      let made = makes g s stands (d.0.mine, d.0.met, longer.fits) in (
        made_step ∷ [],
        does g made_step s,
        record {
          held = longer.held;
          mine = (d.0.mine, tt);
          stands = made.0;
          vertex = made.2;
          fits = d.0.fits seen;
          rest = λ xs after h. d.0.rest seen xs after h;
          counted = λ xs. (let needed = d.1 in let told = made.1 in cc);
        },
      );
}

-- after a move some record is held too
pub meets_after : {H K : Holding} {a b : Actor} {x y : Cursor} {n : ℕ} → Meets H a x → Moves H a x K b y n → Meets K b y
meets_after {H} {K} {a} {b} {x} {y} (g, ds, s, held, stands, at) moves =
    let m = moves.goes g ds s held stands at in
    (g, reverse m.0 ++ ds, m.1, rw m.2.vertex m.2.held, m.2.stands, rw m.2.vertex m.2.fits)

-- a step counts at most 1
pub one_few : (n : ℕ) (b : Bool) → n ≡ one_if b → n ≤ 1
one_few n b is = grind (arith, nat_tests)

-- what is due at a cursor, by the operation that its event needs
pub due_at : {a : Actor} {x y : Cursor} {e : Event} {act : Act} → DueAt a x (Some (e, y))
    → WhateverPart a (λ g s. part_of g e ≡ a.vertex → unmet_rule g e s ≡ None → act ≡ act_of g e s) → DueBy a x act y
due_at {a} {x} {y} {e} {act} due needed = record {
  here = λ g s stands at.
      let goes = due g s stands at in
      let is = needed g s stands goes.mine goes.met in
      let same : event_of a.vertex act ≡ e =
      rw is (event_of_act g a.vertex stands.knows.vertex s e goes.mine goes.met) in (rw same goes, rw same is);
}

-- what is due is an operation
pub not_end : {a : Actor} {x y : Cursor} {act : Act} → MayBeAt a x → DueBy a x act y → act ≢ Do.End
not_end {a} (g, s, stands, at) due =
    let d = due.here g s stands at in
    λ z. act_is_some g a.vertex stands.knows.vertex s _ d.0.mine (sym d.1 ∙ z)

-- fewer operations are left, by the lists that the turn began with
pub fewer_since : {H K : Holding} {a b : Actor} {x y z : Cursor} {n : ℕ} {e : Event} → Meets H a x → Moves H a x K b y n
    → DueAt b y (Some (e, z))
    → most_left (length a.ins.edges) (length a.outs.edges) z < most_left (length a.ins.edges) (length a.outs.edges) y
fewer_since {H} {K} {a} {b} {x} {y} {z} (g, ds, s, held, stands, at) moved due =
    let m = moved.goes g ds s held stands at in
    let fits = rw (← m.2.vertex) at m.2.fits in
    rw (stands.knows.ins, stands.knows.outs, ← m.2.vertex) (due g m.1 m.2.stands fits).fewer

-- no more operations are left than this
most_bound : (i o : ℕ) (x : Cursor) → most_left i o x ≤ (2 * i + 5 * o) + 6
most_bound i o (At.Take place) = omega arith
most_bound i o _ = omega arith

pub few_left : {a : Actor} (x : Cursor) → Stands a → most_left (length a.ins.edges) (length a.outs.edges) x < 2 ^ 32
few_left {a} x (g, s, stands) =
    let i = stands.books.sound.ins.few in let o = stands.books.sound.outs.few in
    let most = most_bound (length (in_edges a.detect)) (length (out_edges a.detect)) x in
    rw (stands.knows.ins, stands.knows.outs, ← stands.knows.detect_ins, ← stands.knows.detect_outs) (omega arith)

-- a whole turn
pub whole_turn : {H K : Holding} {a b : Actor} {n : ℕ} → Moves H a (At.Take 0) K b At.Over n → MakesTurnOver H a K b n
whole_turn {H} {K} {a} {b} {n} moves = λ g ds s held stands.
    let m = moves.goes g ds s held stands tt in (
      m.0,
      m.1,
      record {
        held = m.2.held;
        mine = m.2.mine;
        stands = m.2.stands;
        vertex = m.2.vertex;
        is_turn = rw append-nil at (m.2.rest [] m.1 (refl, refl));
        counted = (let all = rw append-nil at (m.2.counted []) in omega arith);
      },
    )
