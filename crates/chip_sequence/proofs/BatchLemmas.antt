-- Serves Sequence.antt.
-- Several firings of one vertex at once, on lists.
use Rattle.chip_sequence.proofs.Names.{◌≡◌, ◌≢◌, ℕ, ◌+◌, ◌-◌, ◌*◌, ◌/◌, ◌<◌, ◌≤◌, cond, eqb, List, [], ◌∷◌, length}
use Rattle.chip_sequence.proofs.Names.{take, sum, sum_by, get_or, replicate, All, refl, sym, ap, ◌∙◌, arith}
use Rattle.chip_sequence.proofs.Names.{mul-le-mul_left, Multigraph, IsGraph, edge_at, degree, picked_sum, sum_below_ext}
use Rattle.chip_sequence.proofs.Names.{All-picked, position_after, nat_tests}
use Rattle.std.proofs.Common.{map, set, get_or-set_other}
use Rattle.std.proofs.lemmas.List.Sums.{sum_by-cons, sum_by_more, sum_by-set}
use Rattle.std.proofs.lemmas.List.Elements.{All-map}
use Rattle.chip_graph.specs.declared.edge.Link.{Link}
use Rattle.chip_graph.specs.Multigraph.{link_of, edges_out}
use Rattle.chip_sequence.proofs.FiringLemmas.{brings, batch_position}
use Rattle.std.proofs.lemmas.Grind.{get_or-set_at}

-- ---- along a list of links

-- the link at a place
abbrev pub link_at : List Link → ℕ → Link
link_at links i = get_or links i (record { head = 0; mult = 0 })

-- what a link brings to u
abbrev pub brought : ℕ → Link → ℕ
brought u e = cond (eqb e.head u) e.mult 0

module _ (links : List Link) (k : ℕ) (old now : List ℕ) (i : ℕ) (inside : i < length links)
    (head_in : (link_at links i).head < length now) where
  -- the chips of the head after link i
  abbrev pub chips_then : ℕ
  chips_then = get_or now (link_at links i).head 0 + k * (link_at links i).mult

  -- one link further, at each vertex
  pub sent_each : ((u : ℕ) → get_or now u 0 ≡ get_or old u 0 + k * sum_by (brought u) (take i links)) → (u : ℕ)
      → get_or (set now (link_at links i).head chips_then) u 0 ≡ get_or old u 0 + k * sum_by (brought u)
      (take (i + 1) links)
  sent_each so_far u =
      let was = so_far u in
      rw (sum_by_more (brought u) links i (record { head = 0; mult = 0 }) inside)
      (grind (arith, nat_tests, get_or-set_at, get_or-set_other))

  -- and in all
  pub sent_all : sum now ≡ sum old + k * sum_by (λ (e : Link). e.mult) (take i links)
      → sum (set now (link_at links i).head chips_then) ≡ sum old + k * sum_by
      (λ (e : Link). e.mult) (take (i + 1) links)
  sent_all so_far =
      rw (sum_by_more (λ (e : Link). e.mult) links i (record { head = 0; mult = 0 }) inside)
      (omega (arith, sum_by-set (λ (n : ℕ). n) now (link_at links i).head chips_then 0 head_in))

-- ---- along the edges out of a vertex

sum_by-map : {A B : Type 0} (f : B → ℕ) (h : A → B) (xs : List A) → sum_by f (map h xs) ≡ sum_by (λ x. f (h x)) xs
sum_by-map f h [] = refl
sum_by-map f h (x ∷ xs) = sum_by-cons f (h x) (map h xs) ∙ ap (λ (n : ℕ). f (h x) + n) (sum_by-map f h xs)
    ∙ sym (sum_by-cons (λ y. f (h y)) x xs)

module _ (G : Multigraph) (good : IsGraph G) (v : ℕ) where
  -- the links out of v
  abbrev pub links_of : List Link
  links_of = map (λ e. link_of (edge_at G e)) (edges_out G v)

  pub links_inside : All (λ (e : Link). e.head < G.vertices) links_of
  links_inside = All-map (λ (e : Link). e.head < G.vertices) (λ e. link_of (edge_at G e)) (edges_out G v)
      (λ k d l. (good.edges_fit (get_or (edges_out G v) k d) (All-picked
      (λ e. eqb (edge_at G e).tail v) (length G.edges) (length G.edges) (omega arith) k d l)).head_is_vertex)

  pub links_degree : sum_by (λ (e : Link). e.mult) links_of ≡ degree G v
  links_degree = sum_by-map (λ (e : Link). e.mult) (λ e. link_of (edge_at G e)) (edges_out G v)
      ∙ picked_sum (λ e. (edge_at G e).mult) (λ e. eqb (edge_at G e).tail v) (length G.edges)

  pub links_bring : (u : ℕ) → sum_by (brought u) links_of ≡ brings G v u
  unfolding brings
  links_bring u =
      sum_by-map (brought u) (λ e. link_of (edge_at G e)) (edges_out G v)
      ∙ picked_sum (λ e. brought u (link_of (edge_at G e))) (λ e. eqb (edge_at G e).tail v) (length G.edges)
      ∙ sum_below_ext (length G.edges) _ _ (λ e l. grind (arith, nat_tests))

  -- ---- a batch

  module _ (k : ℕ) (old : List ℕ) (is_vertex : v < G.vertices) (each : length old ≡ G.vertices)
      (can : k * degree G v ≤ get_or old v 0) where
    -- the configuration after the chips are taken
    abbrev pub taken : List ℕ
    taken = set old v (get_or old v 0 - k * degree G v)

    inside : v < length old
    inside = omega arith

    -- what is taken can be given
    pub taken_sum : sum taken + k * degree G v ≡ sum old
    taken_sum = let a = sum_by-set (λ (n : ℕ). n) old v (get_or old v 0 - k * degree G v) 0 inside in omega arith

    pub taken_room : sum taken + k * sum_by (λ (e : Link). e.mult) links_of ≡ sum old
    taken_room = ap (λ (n : ℕ). sum taken + k * n) links_degree ∙ taken_sum

    -- taken and given, the configuration is that after k firings
    pub batch_fired : v ≢ G.sink → (now : List ℕ)
        → ((u : ℕ) → get_or now u 0 ≡ get_or taken u 0 + k * sum_by (brought u) links_of) → (u : ℕ)
        → get_or now u 0 ≡ position_after G (λ w. get_or old w 0) (replicate k v) u
    batch_fired other now sent u =
        let a = rw (links_bring u) at (sent u) in
        let b = batch_position G v k (λ w. get_or old w 0) is_vertex other can u in
        let within = inside in grind (arith, nat_tests, get_or-set_at, get_or-set_other)

-- ---- quotients

-- a number above the quotient requires more than there is
pub above_quotient : (x d k : ℕ) → 0 < d → x / d < k → x < k * d
above_quotient x d k some above = omega (arith, mul-le-mul_left d above)
