-- Serves Views.antt, Rule.antt. The rule if only one part moved or made a step: as it acts, as it is taken out, and as
-- it is taken in.
use Rattle.chip_net.proofs.Names.{◌≡◌, ◌≢◌, ℕ, zero, suc, ◌+◌, ◌<◌, cond, eqb, List, [], ◌∷◌, ◌++◌, length, set, Option}
use Rattle.chip_net.proofs.Names.{Some, None, refl, sym, ap, ◌∙◌, dite, some, ℕ_discrete, get_elem?, State, Splits}
use Rattle.chip_net.proofs.Names.{Joins, Enters, at_last, set_else, Setting, at_other, Log, Step, IsLegalLog, done_by}
use Rattle.chip_net.proofs.Names.{IsShown, value_in, View, Mine, find, find_in, did_in, view_without, view_of_one}
use Rattle.chip_net.proofs.Names.{IsAlone, join_views, no_parts, Kept}
use Rattle.chip_net.proofs.ViewingLemmas.{set_there, dropped_here, dropped_else, alone_has}
use Rattle.chip_net.proofs.ViewingLemmas.{alone_there, alone_else, joined_here, joined_else, one_else}

-- ---- a part in a list of views

none_but : (o : Option (List Step)) → ((d : List Step) → o ≡ Some d → ⊥) → o ≡ None
none_but None never = refl
none_but (Some d) never = absurd (never d refl)

-- another view in place of one, with the same steps of the part
pub set_finds : (q : ℕ) (l : List View) (i : ℕ) (v w : View) → get_elem? l i ≡ some v
    → find q w.parts ≡ find q v.parts → (j : ℕ) → find_in q (get_elem? (set l i w) j) ≡ find_in q (get_elem? l j)
set_finds q l i v w at same j = dite (ℕ_discrete j i)
    (λ e. rw (e, set_there l i v w at, at) same) (λ other. rw (set_else l i j w other))

-- one view more, without the part
longer_finds : (q : ℕ) (l : List View) (w : View) → find q w.parts ≡ None → (j : ℕ)
    → find_in q (get_elem? (l ++ w ∷ []) j) ≡ find_in q (get_elem? l j)
longer_finds q [] w none zero = none
longer_finds q [] w none (suc j) = refl
longer_finds q (x ∷ xs) w none zero = refl
longer_finds q (x ∷ xs) w none (suc j) = longer_finds q xs w none j

longer_else : (l : List View) (w : View) (j : ℕ) → j ≢ length l → get_elem? (l ++ w ∷ []) j ≡ get_elem? l j
longer_else [] w zero ne = absurd (ne refl)
longer_else [] w (suc j) ne = refl
longer_else (x ∷ xs) w zero ne = refl
longer_else (x ∷ xs) w (suc j) ne = longer_else xs w j (λ e. ne (ap suc e))

module _ (g : Setting) (s : State (Unit {0}) View) (kept : Kept g s) (p : ℕ) where
  -- only one view has the part
  pub nowhere_else : (i : ℕ) (did : List Step) → find_in p (get_elem? s.views i) ≡ Some did → (j : ℕ) → j ≢ i
      → find_in p (get_elem? s.views j) ≡ None
  nowhere_else i did at j ne = none_but (find_in p (get_elem? s.views j))
      (λ d found. ne (sym (kept.each_part p j d found).0 ∙ (kept.each_part p i did at).0))

  pub moved : (to : ℕ) (log : Log) (words : List ℕ) (views : List View)
      → ((q j : ℕ) → p ≢ q → find_in q (get_elem? views j) ≡ find_in q (get_elem? s.views j))
      → find_in p (get_elem? views to) ≡ Some (done_by g p log)
      → ((j : ℕ) → j ≢ to → find_in p (get_elem? views j) ≡ None)
      → ((q : ℕ) → p ≢ q → done_by g q log ≡ done_by g q kept.log) → length words ≡ length s.words
      → IsShown g log (value_in g words) → IsLegalLog g log
      → Kept g record { words = words; homes = s.homes; views = views }
  moved to log words views others here nowhere same wide shown legal = record {
    log = log;
    owner = λ q. cond (eqb p q) to (kept.owner q);
    setting = kept.setting;
    wide = wide ∙ kept.wide;
    each_part = at_other (λ q (i : ℕ). (j : ℕ) (did : List Step) → find_in q (get_elem? views j) ≡ Some did
        → (i ≡ j) × (did ≡ done_by g q log)) p (λ q. to) kept.owner
        (λ j did found. dite (ℕ_discrete j to)
        (λ at. (sym at, (cc))) (λ away. let none = nowhere j away in absurd (cc)))
        (λ q other j did found. rw (same q other) (kept.each_part q j did (rw (others q j other) at found)));
    there = at_other (λ q (i : ℕ). q < g.game.graph.vertices + 2 → find_in q (get_elem? views i)
        ≡ Some (done_by g q log))
        p (λ q. to) kept.owner (λ l. here)
        (λ q other l. rw (others q (kept.owner q) other, same q other) (kept.there q l));
    shown = shown;
    legal = legal;
  }

-- ---- the calls of the table

-- a new seat has no part
pub may_enter : (g : Setting) (slots : ℕ) → Enters (Kept g) slots 0 (λ n v. ◌≡◌ {A = Mine} (v, []) (no_parts, []))
may_enter g slots s kept homes few = (
  no_parts,
  record {
    log = kept.log;
    owner = kept.owner;
    setting = kept.setting;
    wide = kept.wide;
    each_part = λ p j did found. kept.each_part p j did (rw (longer_finds p s.views no_parts refl j) at found);
    there = λ p l. rw (longer_finds p s.views no_parts refl (kept.owner p)) (kept.there p l);
    shown = kept.shown;
    legal = kept.legal;
  },
  refl,
)

pub takes_out : (g : Setting) (id p : ℕ) (v : View) (did : List Step) → find p v.parts ≡ Some did
    → Splits (Kept g) id v (view_without p v) (view_of_one p v)
takes_out g id p v did has s kept at =
    let left : List View = set s.views id (view_without p v) in
    let was : find_in p (get_elem? s.views id) ≡ Some did = rw at has in
    moved g s kept p (length left) kept.log s.words (left ++ view_of_one p v ∷ [])
    (λ q j other. longer_finds q left (view_of_one p v) (one_else p q (find p v.parts) other) j
    ∙ set_finds q s.views id v (view_without p v) at (dropped_else p q v.parts other) j)
    (rw (at_last left (view_of_one p v) (length left) refl, ← (kept.each_part p id did was).1) (alone_has p v did has))
    (λ j ne. rw (longer_else left (view_of_one p v) j ne) (dite (ℕ_discrete j id)
    (λ e. rw (e, set_there s.views id v (view_without p v) at) (dropped_here p v.parts))
    (λ other. rw (set_else s.views id j (view_without p v) other) (nowhere_else g s kept p id did was j other))))
    (λ q other. refl) refl kept.shown kept.legal

pub takes_in : (g : Setting) (id other p : ℕ) (v w : View) → IsAlone p w
    → Joins (Kept g) id v other w (join_views v w) no_parts
takes_in g id other p v w alone s kept at apart there =
    let both : View = join_views v w in
    let between : List View = set s.views id both in
    let was : find_in p (get_elem? s.views other) ≡ Some (did_in p w) =
    rw (← set_else s.views id other both apart, there) (alone_there p w alone) in
    moved g s kept p id kept.log s.words (set between other no_parts)
    (λ q j ne. set_finds q between other w no_parts there (sym (alone_else p q w alone ne)) j
    ∙ set_finds q s.views id v both at (joined_else p q v w alone ne) j)
    (rw (
      set_else between other id no_parts (λ e. apart (sym e)),
      set_there s.views id v both at,
      ← (kept.each_part p other (did_in p w) was).1,
    ) (joined_here p v w alone))
    (λ j away. dite (ℕ_discrete j other) (λ e. rw (e, set_there between other w no_parts there))
    (λ ne. rw (set_else between other j no_parts ne, set_else s.views id j both away)
    (nowhere_else g s kept p other (did_in p w) was j ne)))
    (λ q ne. refl) refl kept.shown kept.legal
