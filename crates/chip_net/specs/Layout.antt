-- The place of each word of a net: the edge words of all edges, their words of acknowledgements, their rings of cells,
-- and the fired words of the vertices, in this order.
use Rattle.std.specs.Prelude.{ℕ, ◌+◌, ◌*◌, List, slice_index}
use Rattle.chip_part.specs.Setting.{Setting}
use Rattle.chip_part.specs.Edges.{all_edges}
use Rattle.chip_core.specs.Words.{Word, of_edge, of_acks, of_cell, of_vertex}

-- the index of the first cell
abbrev pub first_cell : Setting → ℕ
first_cell g = all_edges g + all_edges g

-- the index of the first fired word
abbrev pub first_fired : Setting → ℕ
first_fired g = first_cell g + all_edges g * g.ring

-- the index of a word
abbrev pub index_of : Setting → Word → ℕ
index_of g (of_edge e) = e
index_of g (of_acks e) = all_edges g + e
index_of g (of_cell e i) = first_cell g + (e * g.ring + i)
index_of g (of_vertex v) = first_fired g + v

-- the number of words
abbrev pub word_count : Setting → ℕ
word_count g = first_fired g + g.game.graph.vertices

-- the contents of these words, by the use of each
abbrev pub value_in : Setting → List ℕ → Word → ℕ
value_in g words w = slice_index words (index_of g w)
