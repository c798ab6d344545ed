-- Serves Computation.antt.
-- Books with given counts, for callers that keep the counts otherwise: what holds of them, and the effect of a step.
use Rattle.std.proofs.Common.{◌≡◌, ◌≢◌, ℕ, ◌+◌, ◌-◌, ◌≤◌, eqb, List, [], ◌∷◌, cond, map}
use Rattle.std.proofs.Common.{Option, None, Contains, refl, sym, ap, ◌∙◌, subst, arith, length}
use Rattle.std.specs.List.{sum_by}
use Rattle.std.specs.List.Sorted.{IsStrictlyIncreasing}
use Rattle.std.proofs.lemmas.List.Sums.{sum_by-cons}
use Rattle.std.proofs.lemmas.Bool.Decides.{nat_tests}
use Rattle.chip_detect.specs.Tally.{AreTallies, AreFresh, edges_of, messages_on, answered_on, open_on, all_open, edge_limit}
use Rattle.chip_detect.specs.Books.{Books}
use Rattle.chip_detect.specs.Change.{AddsMessage, AddsAnswers}
use Rattle.chip_detect.proofs.ListLemmas.{contained, contains_cases, contains_first, contains_later, contains_nothing}

-- the books with these numbers of messages and answers on each of these edges into the process and out of it
abbrev pub books_by : List ℕ → List ℕ → (ℕ → ℕ) → (ℕ → ℕ) → (ℕ → ℕ) → (ℕ → ℕ) → Option ℕ → Books
books_by ins outs got acked sent settled parent = record {
  ins = map (λ e. record { edge = e; messages = got e; answered = acked e }) ins;
  outs = map (λ e. record { edge = e; messages = sent e; answered = settled e }) outs;
  parent = parent;
}

-- one side alone
abbrev pub side : List ℕ → (ℕ → ℕ) → (ℕ → ℕ) → Books
side es f h = books_by es [] f h f h None

pub side_edges : (es : List ℕ) (f h : ℕ → ℕ) → edges_of (side es f h).ins ≡ es
side_edges [] f h = refl
side_edges (e ∷ es) f h = ap (λ (is : List ℕ). e ∷ is) (side_edges es f h)

-- the counts of an edge
pub counts_in : (es : List ℕ) (f h : ℕ → ℕ) (i : ℕ) → Contains es i
    → (messages_on (side es f h).ins i ≡ f i) × (answered_on (side es f h).ins i ≡ h i)
counts_in [] f h i m = absurd (contains_nothing i m)
counts_in (e ∷ es) f h i m = let rest = counts_in es f h i in let cases = contains_cases e es i m in grind (arith, nat_tests)

counts_out : (es : List ℕ) (f h : ℕ → ℕ) (i : ℕ) → (Contains es i → ⊥)
    → (messages_on (side es f h).ins i ≡ 0) × (answered_on (side es f h).ins i ≡ 0)
counts_out [] f h i out = (refl, refl)
counts_out (e ∷ es) f h i out =
    let other : i ≢ e = (λ z. out (subst (Contains (e ∷ es)) (sym z) (contains_first e es))) in
    let rest = counts_out es f h i (λ m. out (contains_later e es i m)) in grind (arith, nat_tests)

-- the same counts on these edges make the same books
pub side_same : (es : List ℕ) (f h f' h' : ℕ → ℕ) → ((e : ℕ) → Contains es e → f' e ≡ f e)
    → ((e : ℕ) → Contains es e → h' e ≡ h e) → (side es f' h').ins ≡ (side es f h).ins
side_same [] f h f' h' same also = refl
side_same (e ∷ es) f h f' h' same also =
    let here = same e (contains_first e es) in
    let too = also e (contains_first e es) in
    let rest = side_same es f h f' h' (λ i m. same i (contains_later e es i m)) (λ i m. also i (contains_later e es i m)) in cc

-- one more message on an edge
pub side_message : (es : List ℕ) (f h f' h' : ℕ → ℕ) (e : ℕ) → Contains es e
    → ((i : ℕ) → Contains es i → f' i ≡ cond (eqb e i) (f i + 1) (f i)) → ((i : ℕ) → Contains es i → h' i ≡ h i)
    → AddsMessage (side es f h).ins (side es f' h').ins e
side_message es f h f' h' e on more same = record {
  edges = side_edges es f' h' ∙ sym (side_edges es f h);
  messages = λ i. (let was = counts_in es f h i in let now = counts_in es f' h' i in let here = more i in
      let none = counts_out es f h i in let still = counts_out es f' h' i in let has = contained es i in
      let other : (Contains es i → ⊥) → e ≢ i = (λ out z. out (subst (Contains es) z on)) in grind (arith, nat_tests));
  answered = λ i. (let was = counts_in es f h i in let now = counts_in es f' h' i in let here = same i in
      let none = counts_out es f h i in let still = counts_out es f' h' i in let has = contained es i in grind (arith, nat_tests));
}

-- `count` more answers
pub side_answers : (es : List ℕ) (f h f' h' : ℕ → ℕ) (e count : ℕ) → Contains es e
    → ((i : ℕ) → Contains es i → f' i ≡ f i) → ((i : ℕ) → Contains es i → h' i ≡ cond (eqb e i) (h i + count) (h i))
    → AddsAnswers (side es f h).ins (side es f' h').ins e count
side_answers es f h f' h' e count on same more = record {
  edges = side_edges es f' h' ∙ sym (side_edges es f h);
  messages = λ i. (let was = counts_in es f h i in let now = counts_in es f' h' i in let here = same i in
      let none = counts_out es f h i in let still = counts_out es f' h' i in let has = contained es i in grind (arith, nat_tests));
  answered = λ i. (let was = counts_in es f h i in let now = counts_in es f' h' i in let here = more i in
      let none = counts_out es f h i in let still = counts_out es f' h' i in let has = contained es i in
      let other : (Contains es i → ⊥) → e ≢ i = (λ out z. out (subst (Contains es) z on)) in grind (arith, nat_tests));
}

sum_same : (f g : ℕ → ℕ) (es : List ℕ) → ((e : ℕ) → Contains es e → f e ≡ g e) → sum_by f es ≡ sum_by g es
sum_same f g [] same = refl
sum_same f g (e ∷ es) same =
    let here = same e (contains_first e es) in
    let rest = sum_same f g es (λ i m. same i (contains_later e es i m)) in
    omega (arith, sum_by-cons f e es, sum_by-cons g e es)

-- what is open on one edge, and on all
pub side_open : (es : List ℕ) (f h : ℕ → ℕ) (e : ℕ) → Contains es e → open_on (side es f h).ins e ≡ f e - h e
side_open es f h e m = let a = counts_in es f h e m in omega arith

pub side_all_open : (es : List ℕ) (f h : ℕ → ℕ) → all_open (side es f h).ins ≡ sum_by (λ e. f e - h e) es
side_all_open es f h = ap (sum_by (open_on (side es f h).ins)) (side_edges es f h)
    ∙ sum_same (open_on (side es f h).ins) (λ e. f e - h e) es (side_open es f h)

none_yet : (es : List ℕ) (f h : ℕ → ℕ) → ((e : ℕ) → Contains es e → f e ≡ 0) → ((e : ℕ) → Contains es e → h e ≡ 0)
    → (e : ℕ) → (messages_on (side es f h).ins e ≡ 0) × (answered_on (side es f h).ins e ≡ 0)
none_yet es f h none also e =
    let has = contained es e in let some = counts_in es f h e in let off = counts_out es f h e in
    let here = none e in let too = also e in grind arith

-- nothing was sent or got yet
pub side_fresh : (es : List ℕ) (f h : ℕ → ℕ) → IsStrictlyIncreasing es → length es ≤ edge_limit
    → ((e : ℕ) → Contains es e → f e ≡ 0) → ((e : ℕ) → Contains es e → h e ≡ 0)
    → AreTallies (side es f h).ins × AreFresh (side es f h).ins es
side_fresh es f h rising few none also = let zeros = none_yet es f h none also in (
  record {
    ascending = rw (side_edges es f h) rising;
    few = rw (side_edges es f h) few;
    within = λ e. let z = zeros e in omega arith;
    answered = λ e. let z = zeros e in omega arith;
  },
  record {
    these = record { all = λ e m. rw (side_edges es f h) m; none_else = λ e m. rw (side_edges es f h) at m };
    messages = λ e. (zeros e).0;
    answered = λ e. (zeros e).1;
  },
)
