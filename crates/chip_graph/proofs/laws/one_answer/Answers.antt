use Rattle.chip_graph.proofs.Names.{◌≡◌, ℕ, suc, ◌<◌, List, [], ◌∷◌, length, None, refl, arith, ⊎_elim, dite, dec_lt}
use Rattle.chip_graph.proofs.Names.{nat_tests, Edge, edge_of, SizeLimits, Multigraph, IsEdge, IsGraphWithin}
use Rattle.chip_graph.proofs.Names.{fault_of_edge, fault_of_edges, fault_of_rows, fault_of_sizes}
use Rattle.chip_graph.specs.Faults.{IsUnreached}
use Rattle.chip_graph.proofs.laws.one_answer.Goals as goal

edge_none : (vertices sink i : ℕ) (edge : Edge) → IsEdge vertices sink edge → fault_of_edge vertices sink i edge ≡ None
edge_none vertices sink i edge ok = grind (arith, nat_tests)

edges_none : (vertices sink i : ℕ) (edges : List Edge)
    → ((e : ℕ) → e < length edges → IsEdge vertices sink (edge_of edges e))
    → fault_of_edges vertices sink i edges ≡ None
edges_none vertices sink i [] ok = refl
edges_none vertices sink i (edge ∷ edges) ok = rw (edge_none vertices sink i edge (ok 0 (omega arith)))
    (edges_none vertices sink (suc i) edges (λ e l. ok (suc e) (omega arith)))

rows_none : (limits : SizeLimits) (G : Multigraph) → IsGraphWithin limits G → fault_of_rows limits G ≡ None
rows_none limits G ok =
    let sizes : fault_of_sizes limits G.vertices G.sink (length G.edges) ≡ None = grind (arith, nat_tests) in
    rw sizes (edges_none G.vertices G.sink 0 G.edges ok.graph.edges_fit)

-- the least vertex without a walk is one
same_unreached : (G : Multigraph) (v w : ℕ) → IsUnreached G v → IsUnreached G w → v ≡ w
same_unreached G v w at_v at_w = dite (dec_lt v w)
    (λ below. absurd (at_v.unreached (at_w.least v below)))
    (λ not_below. dite (dec_lt w v) (λ above. absurd (at_w.unreached (at_v.least w above))) (λ not_above. omega arith))

pub returns : goal.returns
returns c limits G fault of = (
  λ ok. ⊎_elim (λ is. cc (rows_none limits G ok))
      (λ missing. missing.1.2.unreached (ok.graph.all_reach missing.1.0 missing.1.2.is_vertex)) of,
  λ other also. ⊎_elim (λ is. ⊎_elim (λ is'. cc) (λ missing. absurd (cc missing.0)) also)
      (λ missing. ⊎_elim (λ is'. absurd (cc missing.0))
      (λ missing'. cc (
        missing.1.1,
        missing'.1.1,
        same_unreached G missing'.1.0 missing.1.0 missing'.1.2 missing.1.2,
      )) also) of,
)
