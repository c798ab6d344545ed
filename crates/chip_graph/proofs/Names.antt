-- The words that the proofs of this crate take from elsewhere, in one place. Declares nothing.
pub use Rattle.std.proofs.Common.{◌≡◌, ℕ, arith, ◌<◌, ◌∙◌, length, List, ◌+◌, refl, suc, ◌≤◌, ◌∷◌, get_or, [], map, ap}
pub use Rattle.std.proofs.Common.{subst, None, zero, ◌≢◌, ◌++◌, cond, eqb, drop, Some, ⊎_elim, replicate, eq-eqb}
pub use Rattle.std.proofs.Common.{add-one, sym, ◌-◌, Option, sum, ◌^◌, take, Contains, Ok, All, get_or-set_other, set}
pub use Rattle.std.proofs.Common.{◌⊎◌, false, length-set, Bool, true, ◌*◌, rules, inr, append-nil, ne_eqb, inl, Err}
pub use Rattle.std.proofs.Common.{vec_len, slice_index, get_or-set_same, below_more}
pub use Rattle.std.proofs.lemmas.Bool.Decides.{nat_tests}
pub use Rattle.std.proofs.lemmas.List.{get_or_default, get_or-map, get_or_append_left, length-append, length-map}
pub use Rattle.std.proofs.lemmas.List.{get_or_push, map-set}
pub use Rattle.std.proofs.lemmas.List.Elements.{All-nil}
pub use Rattle.std.proofs.lemmas.List.Sums.{sum_by_more}
pub use mathlib.Core.Logic.{dite}
pub use native.Mathlib.Decide.{ℕ_discrete, dec_lt}
pub use Rattle.chip_graph.specs.Counts.{AreCounted}
pub use Rattle.chip_graph.specs.Distances.{AreDistances, IsDistanceOf}
pub use Rattle.chip_graph.specs.Ends.{edge_of, end_of, edges_with, AreStartsBy}
pub use Rattle.chip_graph.specs.Faults.{fault_of_rows, fault_of_edges, fault_of_edge, fault_of_sizes, IsGraphFault}
pub use Rattle.chip_graph.specs.Found.{noted, findings}
pub use Rattle.chip_graph.specs.Limits.{SizeLimits, max_vertices}
pub use Rattle.chip_graph.specs.More.{all_brought}
pub use Rattle.chip_graph.specs.Multigraph.{Multigraph, IsEdge, edge_at, ReachesSink, edges_in, IsGraphWithin, IsWalk}
pub use Rattle.chip_graph.specs.PackedLists.{AreStarts, lists_of}
pub use Rattle.chip_graph.specs.Sums.{sum_below, filter_below}
pub use Rattle.chip_graph.specs.declared.distance.TheConstants.{UNREACHED}
pub use Rattle.chip_graph.specs.declared.edge.Edge.{Edge}
pub use Rattle.chip_graph.specs.declared.edge.End.{End}
pub use Rattle.chip_graph.specs.declared.edge.End.TheVariants.{Tail}
pub use Rattle.chip_graph.specs.declared.fault.GraphFault.{GraphFault}
